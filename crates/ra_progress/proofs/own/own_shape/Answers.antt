use Rattle.std.proofs.Common.{◌≡◌, ◌+◌, ◌<◌, ◌∙◌, sym, ap, length, arith}
use Rattle.ra_progress.specs.Contents.{shape_contents, OfItem, own_entries, own_at}
use Rattle.ra_progress.proofs.Owns.{own_count, own_item, own_script, script_count}
use Rattle.ra_progress.proofs.own.own_shape.Goals as goal

pub returns-then-number-len : goal.returns-then-number-len
returns-then-number-len c =
    let below : c.args.number < length c.args.shape.now.items.items =
    omega (arith, c.if-number-len.true, c.len.ensures) in
    ap OfItem c.index.ensures ∙ sym (own_item
    (shape_contents c.args.shape.now) c.requires.paired c.args.number c.index.result.now below)

pub returns-in-Some : goal.returns-in-Some
returns-in-Some c =
    let count = own_count (shape_contents c.args.shape.now) c.requires.paired
    ∙ ap (λ p. length c.args.shape.now.items.items + script_count p) c.in-Some.is in
    let last : c.args.number ≡ length c.args.shape.now.items.items =
    omega (arith, c.if-number-len.false, c.len.ensures, count, c.requires.number) in
    sym (ap (λ n. (own_at (own_entries (shape_contents c.args.shape.now)) n).shape) last
    ∙ own_script (shape_contents c.args.shape.now) c.requires.paired c.in-Some.p c.in-Some.is)

pub returns-in-None : goal.returns-in-None
returns-in-None c =
    let count = own_count (shape_contents c.args.shape.now) c.requires.paired
    ∙ ap (λ p. length c.args.shape.now.items.items + script_count p) c.in-None.is in
    absurd (omega (arith, c.if-number-len.false, c.len.ensures, count, c.requires.number))
