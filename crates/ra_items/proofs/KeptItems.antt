-- The blocks of items as they are seen, written one after another.
use Rattle.std.specs.Prelude.{Box}
use Rattle.std.specs.declared.alloc.Global.{Global}
use Rattle.std.proofs.Common.{◌≡◌, ℕ, ◌+◌, ◌<◌, ◌≤◌, ◌^◌, Bool, Option, None, Some, List, [], ◌∷◌, ◌++◌, length, map}
use Rattle.std.proofs.Common.{take, get_or, sum_by, refl, sym, ◌∙◌, ap, subst, arith, append_assoc, append-nil}
use Rattle.std.proofs.Common.{length-append}
use Rattle.std.specs.List.{concat}
use Rattle.std.proofs.lemmas.List.{length-map, get_or-map, take-map, take_all, take_more}
use Rattle.std.proofs.lemmas.List.Sums.{sum_by-cons}
use Rattle.ra_trigger.specs.Steps.{TriggerKept}
use Rattle.ra_leaderboard.specs.States.{board_byte}
use Rattle.ra_progress.specs.declared.shape.ItemShape.{ItemShape}
use Rattle.ra_progress.specs.declared.shape.ItemShape.TheVariants as shapes
use Rattle.ra_progress.specs.Contents.{KeptItem, OfBoard, ItemFits, ItemsFit}
use Rattle.ra_progress.specs.Layout.{item_length}
use Rattle.ra_progress.specs.Spelling.{item_bytes}
use Rattle.ra_progress.proofs.Blocks.{length_item}
use Rattle.ra_member.specs.Members.{saved_hits, saved_numbers}
use Rattle.ra_member.specs.MemberRuns.{kept_by}
use Rattle.ra_member.proofs.GrowthLemmas.{weight_at}
use Rattle.ra_schedule.specs.Counted.{CountsFit, CountsSeen}
use Rattle.ra_schedule.specs.Counts.{counts_of}
use Rattle.ra_schedule.proofs.MembersRest.Counted.{length-owed_by, saved_stay_by}
use Rattle.ra_display.specs.Keeping.{PutsOver, PutsWords, seen_hits}
use Rattle.ra_display.specs.LineRests.{seen_line}
use Rattle.ra_display.proofs.Putting.{puts_both}
use Rattle.ra_display.proofs.SavedLines.{hits_long}
use Rattle.ra_meaning.specs.Openings.{kept_achievement}
use Rattle.ra_items.specs.declared.achievement_run.AchievementRun.{AchievementRun}
use Rattle.ra_items.specs.declared.board_run.BoardRun.{BoardRun}
use Rattle.ra_items.specs.declared.item_run.ItemRun.{ItemRun}
use Rattle.ra_items.specs.declared.item_run.ItemRun.TheVariants.{Achievement, Leaderboard}
use Rattle.ra_schedule.specs.declared.member_counts.MemberCounts.{MemberCounts}
use Rattle.ra_items.specs.declared.rest.ItemCounts.TheVariants as counts
use Rattle.ra_items.specs.Resting.{seen_run}
use Rattle.ra_items.specs.Shapes.{board_run_shape, run_shape}
use Rattle.ra_items.proofs.SaveLemmas.{achievement_kept_fits, board_kept_fits}

-- what an achievement keeps, with its hits as they are seen
abbrev pub seen_trigger : AchievementRun → CountsSeen → Option ℕ → TriggerKept
seen_trigger run b owed = record run.run.trigger { hits = seen_hits owed b.counted run.run.trigger.hits }

pub seen_board : (run : BoardRun) (b : Box MemberCounts Global) (owed : Option ℕ)
    → CountsFit (counts_of b.value) (kept_by run.member)
    → OfBoard (board_byte run.board) (saved_hits (seen_line run.member b.value owed))
    (saved_numbers (kept_by run.member)) ≡ seen_run (Leaderboard run) (counts.Leaderboard b) owed
seen_board run b None shape = refl
seen_board run b (Some n) shape = ap (OfBoard (board_byte run.board) (saved_hits (seen_line
    run.member b.value (Some n)))) (sym (saved_stay_by n (counts_of b.value) (kept_by run.member) shape))

-- there are as many hits with what is owed
seen_long : (owed : Option ℕ) (counted : List Bool) (hits : List ℕ) → length (seen_hits owed counted hits) ≡ length hits
seen_long None counted hits = refl
seen_long (Some n) counted hits = length-owed_by n counted hits

-- what is kept of an achievement with its hits as they are seen fits its shape
pub achievement_fits : (run : AchievementRun) (b : CountsSeen) (owed : Option ℕ) (three four : List ℕ)
    (second next : ℕ) → run.run.trigger.measured < 2 ^ 32
    → PutsWords three four second next (seen_hits owed b.counted run.run.trigger.hits)
    → ItemFits (run_shape (Achievement run)) (kept_achievement run.earned (seen_trigger run b owed))
achievement_fits run b owed three four second next small hits =
    subst (λ n. ItemFits (shapes.Achievement n) (kept_achievement run.earned
    (seen_trigger run b owed))) (seen_long owed b.counted run.run.trigger.hits)
    (achievement_kept_fits run.earned (seen_trigger run b owed) small (record { as_many = refl; fit = hits.fit }))

-- and so does what is kept of a board
pub board_fits : (run : BoardRun) (b : MemberCounts) (owed : Option ℕ) (two three four : List ℕ)
    (first second next : ℕ) → CountsFit (counts_of b) (kept_by run.member)
    → PutsWords two three first second (saved_hits (seen_line run.member b owed))
    → PutsWords three four second next (saved_numbers (kept_by run.member))
    → ItemFits (board_run_shape run) (OfBoard (board_byte run.board)
    (saved_hits (seen_line run.member b owed)) (saved_numbers (kept_by run.member)))
board_fits run b owed two three four first second next shape put behind =
    board_kept_fits run (saved_hits (seen_line run.member b owed))
    (saved_numbers (kept_by run.member)) (hits_long run.member b owed shape) refl put.fit behind.fit

-- the blocks of items are as long as their shapes say
pub blocks_long : (shapes : List ItemShape) (items : List KeptItem) → ItemsFit shapes items
    → length (concat (map item_bytes items)) ≡ sum_by item_length shapes
blocks_long [] [] fit = refl
blocks_long [] (item ∷ items) fit = absurd fit
blocks_long (shape ∷ shapes) [] fit = absurd fit
blocks_long (shape ∷ shapes) (item ∷ items) fit =
    omega (
      arith,
      length_item shape item fit.0,
      blocks_long shapes items fit.1,
      length-append (item_bytes item) (concat (map item_bytes items)),
      sum_by-cons item_length shape shapes,
    )

concat_more : (xs : List (List ℕ)) (x : List ℕ) → concat (xs ++ x ∷ []) ≡ concat xs ++ x
concat_more [] x = append-nil x
concat_more (y ∷ xs) x = ap (λ zs. y ++ zs) (concat_more xs x) ∙ sym (append_assoc y (concat xs) x)

-- the blocks so far, and one more
module _ (runs : List ItemRun) (seen : List KeptItem) (k : ℕ) (old mid : List ℕ) (at behind : ℕ)
    (within : k < length seen)
    (first : PutsOver old mid at behind (concat (take k (map item_bytes seen)))) where
  pub block_more : (one : KeptItem) (new : List ℕ) (next : ℕ) → get_or seen k one ≡ one
      → PutsOver mid new behind next (item_bytes one)
      → PutsOver old new at next (concat (take (k + 1) (map item_bytes seen)))
  block_more one new next is put =
      let here : get_or (map item_bytes seen) k (item_bytes one) ≡ item_bytes one =
      get_or-map item_bytes seen k one (item_bytes one) within ∙ ap item_bytes is in
      let more : take (k + 1) (map item_bytes seen) ≡ take k (map item_bytes seen) ++ item_bytes one
      ∷ [] = take_more (map item_bytes seen) k (item_bytes one) (omega
      (arith, within, length-map seen item_bytes)) ∙ ap (λ x. take k (map item_bytes seen) ++ x
      ∷ []) here in
      let all : concat (take (k + 1) (map item_bytes seen))
      ≡ concat (take k (map item_bytes seen)) ++ item_bytes one =
      ap concat more ∙ concat_more (take k (map item_bytes seen)) (item_bytes one) in
      subst (PutsOver old new at next) (sym all) (puts_both old mid new at behind next
      (concat (take k (map item_bytes seen))) (item_bytes one) first put)

  -- there is room for the next one
  pub block_room : (run : ItemRun) → k < length runs → run ≡ get_or runs k run
      → ItemsFit (map run_shape (take k runs)) (take k seen) → at + sum_by item_length
      (map run_shape runs) ≤ length old → behind + item_length (run_shape run) ≤ length mid
  block_room run below is fit room =
      let long : length (concat (take k (map item_bytes seen)))
      ≡ sum_by item_length (map run_shape (take k runs)) = ap (λ xs. length (concat xs))
      (take-map item_bytes k seen) ∙ blocks_long (map run_shape (take k runs)) (take k seen) fit in
      omega (arith, room, first.next_is, first.long, long, weight_at run_shape runs k run below is item_length)

pub blocks_all : (seen : List KeptItem) (k : ℕ) (old mid : List ℕ) (at behind : ℕ) → length seen ≤ k
    → PutsOver old mid at behind (concat (take k (map item_bytes seen)))
    → PutsOver old mid at behind (concat (map item_bytes seen))
blocks_all seen k old mid at behind over puts = subst (λ xs. PutsOver old mid at behind (concat xs))
    (take_all k (map item_bytes seen) (omega (arith, over, length-map seen item_bytes))) puts
