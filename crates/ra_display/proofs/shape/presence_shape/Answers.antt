use Rattle.std.proofs.Common.{Some, length, sym, ◌∙◌, ap, arith}
use Rattle.ra_display.specs.PresenceBack.{hits_of_lines, numbers_of_lines}
use Rattle.ra_display.specs.PresenceShapes.{IsSmallPresence, optional_run_shape}
use Rattle.ra_display.proofs.DisplayRows.{lines_hits, lines_numbers}
use Rattle.ra_display.proofs.shape.presence_shape.Goals as goal

pub kept_by_lines-kept-requires-clause-hits : goal.kept_by_lines-kept-requires-clause-hits
kept_by_lines-kept-requires-clause-hits c =
    let run = c.in-Some.run' in
    let small : IsSmallPresence (optional_run_shape (Some run)) = rw c.in-Some.is at c.requires in
    omega (
      arith,
      small.1,
      ap length (lines_hits run.lines.items),
      ap (λ runs. length (hits_of_lines runs)) c.deref.ensures.value,
    )

pub kept_by_lines-kept-requires-clause-numbers : goal.kept_by_lines-kept-requires-clause-numbers
kept_by_lines-kept-requires-clause-numbers c =
    let run = c.in-Some.run' in
    let small : IsSmallPresence (optional_run_shape (Some run)) = rw c.in-Some.is at c.requires in
    omega (
      arith,
      small.2,
      ap length (lines_numbers run.lines.items),
      ap (λ runs. length (numbers_of_lines runs)) c.deref.ensures.value,
    )

pub overflow_cast-result-in-Some : goal.overflow_cast-result-in-Some
overflow_cast-result-in-Some c =
    let run = c.in-Some.run' in
    let small : IsSmallPresence (optional_run_shape (Some run)) = rw c.in-Some.is at c.requires in
    omega (
      arith,
      small.1,
      c.kept_by_lines-kept.ensures.hits,
      ap length (lines_hits run.lines.items),
      ap (λ runs. length (hits_of_lines runs)) c.deref.ensures.value,
    )

pub overflow_cast-result-in-Some-2 : goal.overflow_cast-result-in-Some-2
overflow_cast-result-in-Some-2 c =
    let run = c.in-Some.run' in
    let small : IsSmallPresence (optional_run_shape (Some run)) = rw c.in-Some.is at c.requires in
    omega (
      arith,
      small.2,
      c.kept_by_lines-kept.ensures.numbers,
      ap length (lines_numbers run.lines.items),
      ap (λ runs. length (numbers_of_lines runs)) c.deref.ensures.value,
    )

pub returns-in-Some : goal.returns-in-Some
returns-in-Some c =
    let run = c.in-Some.run' in
    let kept = c.kept_by_lines-kept.ensures in
    let hits = kept.hits ∙ ap (λ runs. length (hits_of_lines runs)) c.deref.ensures.value
    ∙ ap length (sym (lines_hits run.lines.items)) in
    let numbers = kept.numbers ∙ ap (λ runs. length (numbers_of_lines runs)) c.deref.ensures.value
    ∙ ap length (sym (lines_numbers run.lines.items)) in
    let lines = c.len.ensures ∙ run.lines.ok.0 in
    rw c.in-Some.is (λ i. Some (record { lines = lines i; hits = hits i; parts = numbers i }))
