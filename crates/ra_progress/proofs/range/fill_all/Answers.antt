use Rattle.std.proofs.Common.{◌∙◌, arith, sym, length, replicate}
use Rattle.std.proofs.lemmas.List.{ext_get_or, get_or-replicate, length-replicate}
use Rattle.ra_progress.proofs.range.fill_all.Goals as goal

pub returns : goal.returns
returns g c =
    let values = c.loop-place.values.items in
    let many = length c.args.values.now.items in
    ext_get_or c.args.value values (replicate many c.args.value)
    (c.loop-place.invariant.long ∙ sym (length-replicate many c.args.value))
    (λ n less. c.loop-place.invariant.each n (omega arith)
    ∙ sym (get_or-replicate many n c.args.value c.args.value (omega (arith, less, c.loop-place.invariant.long))))
