use Rattle.std.proofs.Common.{◌+◌, ◌∙◌, ap, length, arith}
use Rattle.ra_progress.specs.Contents.{shape_contents}
use Rattle.ra_progress.proofs.Owns.{own_count, script_count}
use Rattle.ra_progress.proofs.own.own_count.Goals as goal

pub returns-in-Some : goal.returns-in-Some
returns-in-Some c =
    let count = own_count (shape_contents c.args.shape.now) c.requires
    ∙ ap (λ p. length c.args.shape.now.items.items + script_count p) c.in-Some.is in
    omega (arith, count, c.len-items.ensures)

pub returns-in-None : goal.returns-in-None
returns-in-None c =
    let count = own_count (shape_contents c.args.shape.now) c.requires
    ∙ ap (λ p. length c.args.shape.now.items.items + script_count p) c.in-None.is in
    omega (arith, count, c.len-items.ensures)
