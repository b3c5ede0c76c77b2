use Rattle.std.proofs.Common.{◌≡◌, ◌+◌, ◌-◌, ◌≤◌, ◌%◌, drop, ap, sym, ◌∙◌, arith}
use Rattle.ra_memory.specs.Image.{raw}
use Rattle.ra_banks.specs.Banks.{bytes_of}
use Rattle.ra_banks.proofs.Shifted.{raw-part, at_most_four}
use Rattle.ra_banks.proofs.row.Row.number_at.Goals as goal

pub returns-then-left-self-clause-number : goal.returns-then-left-self-clause-number
returns-then-left-self-clause-number c =
    let row = c.self.inside in
    let here = c.self.invariant.0 in
    let at = c.args.at in
    let left = (at + (18446744073709551616 - row.start)) % 18446744073709551616 in
    let from : row.start ≤ at = omega (arith, c.if-left-self.true, here.low, here.small, c.ranges.at.fits) in
    let same : left ≡ at - row.start = omega (arith, from, c.ranges.at.fits, here.low) in
    let few = at_most_four c.args.width c.requires in
    c.number_within.ensures
    ∙ ap (raw c.args.width row.here.now) same
    ∙ sym (raw-part c.args.width (bytes_of row.banks.now) row.here.now
    (bytes_of (drop row.next row.banks.now)) row.start at here.part from
    (omega (arith, same, c.if-left-self.true, here.four, few)))
    ∙ ap (λ bytes. raw c.args.width bytes at) c.self.view_is
