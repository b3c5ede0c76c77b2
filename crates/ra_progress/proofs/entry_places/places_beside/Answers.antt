use Rattle.std.proofs.Common.{◌≡◌, ◌+◌, ◌-◌, ◌<◌, ◌++◌, ◌∷◌, [], ◌∙◌, Some, length, take, set, sym, ap, map}
use Rattle.std.proofs.Common.{append_assoc, append-nil, arith}
use Rattle.std.proofs.lemmas.List.{take_all, take_more_set, length-set}
use Rattle.ra_progress.specs.Layout.{Entry, entry_after, entries_from}
use Rattle.ra_progress.proofs.Sizes.{entries_step}
use Rattle.ra_progress.proofs.Walks.{walk_next}
use Rattle.ra_progress.proofs.entry_places.places_beside.Goals as goal

pub loop-number-preserved : goal.loop-number-preserved
loop-number-preserved c =
    let bytes = c.args.bytes.now in
    let places = c.loop-number.places in
    let number = c.loop-number.number in
    let at = c.loop-number.at in
    let left = length places - number in
    let below : number < length places = omega (arith, c.loop-number-test.true, c.loop-number.auto.places) in
    let some : 0 < left = omega (arith, below) in
    let more : length (set places number (Some (at + 20))) - (number + 1) ≡ left - 1 = omega
    (arith, length-set places number (Some (at + 20))) in
    let place = λ (entry : Entry). Some (entry.at + 20) in
    let later = map place (entries_from bytes (left - 1) (entry_after bytes at)) in
    record {
      walk = rw (c.entry_after-at.ensures, more) (walk_next bytes left at some c.loop-number.invariant.walk).1;
      rest = rw (c.entry_after-at.ensures, more) (ap (λ front. front ++ later)
          (take_more_set places number (Some (at + 20)) below)
          ∙ append_assoc (take number places) (Some (at + 20) ∷ []) later
          ∙ sym (ap (λ entries. take number places ++ map place entries) (entries_step bytes left at some))
          ∙ c.loop-number.invariant.rest);
    }

pub returns : goal.returns
returns c =
    let bytes = c.args.bytes.now in
    let places = c.loop-number.places in
    let number = c.loop-number.number in
    let place = λ (entry : Entry). Some (entry.at + 20) in
    let all : length places ≡ number = omega
    (arith, c.loop-number-test.false, c.loop-number.auto.places, c.loop-number.auto.number-end) in
    let none : length places - number ≡ 0 = omega (arith, all) in
    let over : take number places ≡ places = take_all number places (omega (arith, all)) in
    sym over ∙ sym (append-nil (take number places))
    ∙ ap (λ count. take number places ++ map place (entries_from bytes count c.loop-number.at)) (sym none)
    ∙ c.loop-number.invariant.rest
