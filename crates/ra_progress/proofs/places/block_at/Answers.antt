use Rattle.std.proofs.Common.{◌≡◌, ◌∙◌, sym, refl, take, sum_by}
use Rattle.std.proofs.lemmas.Bool.{ne_eqb}
use Rattle.ra_progress.specs.Contents.{shape_contents, own_entries}
use Rattle.ra_progress.specs.Layout.{own_length}
use Rattle.ra_progress.proofs.Owns.{own_front}
use Rattle.ra_progress.proofs.places.block_at.Goals as goal

pub returns-then-version-eq1 : goal.returns-then-version-eq1
returns-then-version-eq1 c =
    let front = own_front (shape_contents c.args.shape.now) c.requires.usable.searchable.paired
    c.args.number c.requires.number in
    let before : c.items_length-before.result
    ≡ sum_by own_length (take c.args.number (own_entries (shape_contents c.args.shape.now))) =
    rw c.deref.ensures.value at c.items_length-before.ensures.sum ∙ sym front in
    rw (c.if-version-eq1.true, before, c.blocks_at_1.ensures.place) refl

pub returns-else-version-eq1 : goal.returns-else-version-eq1
returns-else-version-eq1 c =
    let front = own_front (shape_contents c.args.shape.now) c.requires.usable.searchable.paired
    c.args.number c.requires.number in
    let before : c.items_length-before.result
    ≡ sum_by own_length (take c.args.number (own_entries (shape_contents c.args.shape.now))) =
    rw c.deref.ensures.value at c.items_length-before.ensures.sum ∙ sym front in
    rw (ne_eqb c.args.version 1 c.if-version-eq1.false, before, c.named.ensures.count) refl
