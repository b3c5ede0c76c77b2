-- What items keep has the counts of their texts, at every history.
use Rattle.std.proofs.Common.{true, false, if◌then◌else◌, List, ◌∷◌}
use Rattle.ra_condition.specs.Contents.{PartContents}
use Rattle.ra_memory.specs.Image.{History}
use Rattle.ra_memref.specs.Values.{Start}
use Rattle.ra_value.specs.Steps.{ValueKept}
use Rattle.ra_leaderboard.specs.declared.state.BoardState.{BoardState}
use Rattle.ra_leaderboard.specs.Contents.{BoardContents}
use Rattle.ra_leaderboard.specs.States.{is_running, begins}
use Rattle.ra_meaning.specs.Order.{board_member}
use Rattle.ra_member.specs.Members.{MemberContents, HasShape, no_values, values_next}
use Rattle.ra_member.proofs.Folds.{after_keeps}
use Rattle.ra_member.proofs.Shaped.{AreValuesLong, tests_long, values_long, no_values_long, shape_of, values_in_shape}
use Rattle.ra_meaning.specs.Boards.{BoardKept, running_values, board_next, board_after}

-- what is kept of a board has the counts of its fields
abbrev pub BoardFits : BoardContents → BoardKept → Type 0
BoardFits b kept = HasShape (board_member b) kept.member

running_long : (start : Start) (h : History) (values : List (List PartContents))
    (old new : BoardState) (kept : List ValueKept) → AreValuesLong values kept
    → AreValuesLong values (running_values start values h old new kept)
running_long start h values old new kept long =
    elim (is_running new) as (λ b. AreValuesLong values (if b then values_next start values h
    (if begins old new then no_values values else kept) else kept)) [
      | true ↦ values_long start h values (if begins old new then no_values values else kept)
          (elim (begins old new) as (λ b. AreValuesLong values (if b then no_values values
          else kept)) [ true ↦ no_values_long values | false ↦ long ])
      | false ↦ long
    ]

board_next_fits : (start : Start) (b : BoardContents) (h : History) (kept : BoardKept)
    → BoardFits b kept → BoardFits b (board_next start b h kept)
board_next_fits start b h kept fits =
    let m : MemberContents = board_member b in
    let next : BoardKept = board_next start b h kept in
    shape_of m next.member.tests next.member.values
    (tests_long start h m.tests kept.member.tests fits.tests) (running_long start h m.values
    kept.state next.state kept.member.values (values_in_shape m kept.member fits))

pub board_fits : (start : Start) (b : BoardContents) (opened : BoardKept) (h : History)
    → BoardFits b opened → BoardFits b (board_after start b opened h)
board_fits start b opened h fits =
    after_keeps (λ h k. BoardFits b k) (board_next start b)
    (λ image earlier k is. board_next_fits start b (image ∷ earlier) k is) opened fits h
