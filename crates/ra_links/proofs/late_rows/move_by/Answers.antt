use Rattle.std.proofs.Common.{map, sym, arith, ◌∙◌}
use Rattle.std.proofs.lemmas.List.{ext_get_or, get_or-map, length-map}
use Rattle.ra_links.specs.LateRows.{moved_by}
use Rattle.ra_links.proofs.late_rows.move_by.Goals as goal

pub returns : goal.returns
returns c =
    let old = c.args.entries.now in
    let long = c.loop-place.invariant.long in
    ext_get_or (record { row = 0; number = 0 }) c.loop-place.entries (map (moved_by c.args.count) old)
    (long ∙ sym (length-map old (moved_by c.args.count)))
    (λ k below. c.loop-place.invariant.moved k (omega (arith, below, c.loop-place-test.false))
    ∙ sym (get_or-map (moved_by c.args.count) old k (record { row = 0; number = 0 }) (record { row = 0; number = 0 })
    (omega (arith, below, long))))
