-- A pool that grows by the trees of a board, one trigger and value after the other.
use Rattle.std.proofs.Common.{◌+◌, List, [], ◌∷◌, ◌++◌, sum_by, sym, arith}
use Rattle.std.specs.List.{flat_map}
use Rattle.std.proofs.lemmas.List.{append-nil}
use Rattle.std.proofs.lemmas.List.Sums.{sum_by-cons}
use Rattle.ra_condition.specs.Contents.{trigger_hits}
use Rattle.ra_indirect.specs.declared.node.Node.{Node}
use Rattle.ra_chain.specs.Occurrence.{trees_in_trigger, trees_in_value}
use Rattle.ra_leaderboard.specs.Contents.{BoardContents}
use Rattle.ra_set.specs.Limits.{value_conditions, optional_value}
use Rattle.ra_member.specs.Members.{member_conditions, trees_in_member}
use Rattle.ra_member.specs.Plans.{GrowsWithin}
use Rattle.ra_member.proofs.PlanLemmas.{within_through, within_as}
use Rattle.ra_member.proofs.GrowthLemmas.{grows_more}
use Rattle.ra_meaning.specs.Order.{board_member, progress_in}
use Rattle.ra_meaning.proofs.Counts.Items.{progress_conditions}

module _ (b : BoardContents) (p q r s t u : List Node) where
  -- its triggers, and then its value and its progress
  tests : GrowsWithin p q (trees_in_trigger b.start) (trigger_hits b.start)
      → GrowsWithin q r (trees_in_trigger b.cancel) (trigger_hits b.cancel)
      → GrowsWithin r s (trees_in_trigger b.submit) (trigger_hits b.submit)
      → GrowsWithin p s (flat_map trees_in_trigger (board_member b).tests)
      (sum_by trigger_hits (board_member b).tests)
  tests start cancel submit =
      let trees = trees_in_trigger b.start in
      let one = within_as p q trees (trees ++ []) (trigger_hits b.start) (0 + trigger_hits b.start)
      (sym (append-nil trees)) (omega arith) start in
      let two = grows_more trees_in_trigger trigger_hits p q r (b.start ∷ []) b.cancel one cancel in
      grows_more trees_in_trigger trigger_hits p r s (b.start ∷ b.cancel ∷ []) b.submit two submit

  values : GrowsWithin s t (trees_in_value b.value) (value_conditions b.value)
      → GrowsWithin t u (flat_map trees_in_value (progress_in b.progress)) (optional_value b.progress)
      → GrowsWithin s u (flat_map trees_in_value (board_member b).values)
      (sum_by value_conditions (board_member b).values)
  values value progress =
      let all = sum_by-cons value_conditions b.value (progress_in b.progress) in
      within_through s t u (trees_in_value b.value) (flat_map trees_in_value (progress_in b.progress))
      (value_conditions b.value) (optional_value b.progress) (sum_by value_conditions (board_member b).values)
      (omega (arith, all, progress_conditions b.progress)) value progress

  pub board_grows : GrowsWithin p q (trees_in_trigger b.start) (trigger_hits b.start)
      → GrowsWithin q r (trees_in_trigger b.cancel) (trigger_hits b.cancel)
      → GrowsWithin r s (trees_in_trigger b.submit) (trigger_hits b.submit)
      → GrowsWithin s t (trees_in_value b.value) (value_conditions b.value)
      → GrowsWithin t u (flat_map trees_in_value (progress_in b.progress)) (optional_value b.progress)
      → GrowsWithin p u (trees_in_member (board_member b)) (member_conditions (board_member b))
  board_grows start cancel submit value progress =
      within_through p s u (flat_map trees_in_trigger (board_member b).tests)
      (flat_map trees_in_value (board_member b).values) (sum_by trigger_hits (board_member b).tests)
      (sum_by value_conditions (board_member b).values) (member_conditions (board_member b))
      (omega arith) (tests start cancel submit) (values value progress)
