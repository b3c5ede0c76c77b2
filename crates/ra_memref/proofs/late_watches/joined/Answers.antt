use Rattle.std.proofs.Common.{◌≡◌, ◌+◌, ◌-◌, max, sym, subst, arith}
use Rattle.ra_memref.specs.LateWatches.{Joins}
use Rattle.ra_memref.proofs.LateLemmas.{joins_both}
use Rattle.ra_memref.proofs.late_watches.joined.Goals as goal

pub returns : goal.returns
returns c =
    let bytes = c.in-Some.bytes in
    let ends : c.min-first.result + (c.max.result - c.min-first.result)
    ≡ max (c.args.at + c.args.count) (bytes.at + bytes.count) = omega (arith, c.max.ensures, c.min-first.ensures) in
    subst (λ told. Joins told c.args.at c.args.count (record
    { at = c.min-first.result; count = c.max.result - c.min-first.result })) (sym c.in-Some.is)
    (joins_both bytes c.args.at c.args.count c.min-first.result (c.max.result - c.min-first.result) c.requires.some
    c.if-bytes-eq0.false c.if-end-bytes.false c.if-told_end-at.false c.min-first.ensures ends)
