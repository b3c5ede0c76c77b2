use Rattle.std.proofs.Common.{sym, ◌∙◌, arith}
use Rattle.ra_value.proofs.GreatestLemmas.{greatest_first, greatest_taken, greatest_kept}
use Rattle.ra_value.proofs.greatest.greatest_of.Goals as goal
use Rattle.ra_value.proofs.greatest.greatest_of.Goals.{then-place-eq0, then-place-eq0-via-then-place-eq0}
use Rattle.ra_value.proofs.greatest.greatest_of.Goals.{then-place-eq0-via-else-place-eq0+then-is_less}
use Rattle.ra_value.proofs.greatest.greatest_of.Goals.{else-place-eq0+else-is_less}

pub loop-place-preserved : goal.loop-place-preserved
loop-place-preserved c =
    let ns = c.args.numbers.now in
    let place = c.loop-place.place in
    elim c.if-place-eq0.branch [
      | then-place-eq0 w ↦ elim w.then-place-eq0.branch [
        | then-place-eq0-via-then-place-eq0 w' ↦ w.greatest-is
            ∙ greatest_first ns place (omega arith) w'.if-place-eq0.true
        | then-place-eq0-via-else-place-eq0+then-is_less w' ↦ w.greatest-is
            ∙ greatest_taken ns place (omega arith) w'.if-place-eq0.false c.loop-place.greatest
            c.loop-place.invariant (sym w'.is_less.ensures ∙ w'.if-is_less.true)
      ]
      | else-place-eq0+else-is_less w ↦ w.greatest-is
          ∙ greatest_kept ns place (omega arith) w.if-place-eq0.false c.loop-place.greatest
          c.loop-place.invariant (sym w.is_less.ensures ∙ w.if-is_less.false)
    ]
