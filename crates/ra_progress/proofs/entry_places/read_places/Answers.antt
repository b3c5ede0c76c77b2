use Rattle.std.proofs.Common.{◌∙◌, ap, sym, refl, length, arith}
use Rattle.std.proofs.lemmas.Bool.{ne_eqb}
use Rattle.ra_progress.specs.Contents.{shape_contents, own_entries}
use Rattle.ra_progress.specs.Layout.{version_in}
use Rattle.ra_progress.proofs.ByName.{put_over}
use Rattle.ra_progress.proofs.Passes.{this_set_count}
use Rattle.ra_progress.proofs.Placed.{sizes_of_this_set, whole_layout}
use Rattle.ra_progress.proofs.entry_places.read_places.Goals as goal

pub places_beside-requires-clause-layout : goal.places_beside-requires-clause-layout
places_beside-requires-clause-layout c =
    whole_layout (shape_contents c.args.shape.now) c.args.bytes.now c.requires.accepted.whole
    (ne_eqb (version_in c.args.bytes.now) 1 c.if-bytes-eq1.false)

pub places_named-requires-clause-layout : goal.places_named-requires-clause-layout
places_named-requires-clause-layout c =
    whole_layout (shape_contents c.args.shape.now) c.args.bytes.now c.requires.accepted.whole
    (ne_eqb (version_in c.args.bytes.now) 1 c.if-bytes-eq1.false)

pub places_beside-requires-clause-room : goal.places_beside-requires-clause-room
places_beside-requires-clause-room c =
    let shape = shape_contents c.args.shape.now in
    ap length c.deref_mut-then-own.ensures.value ∙ c.requires.room
    ∙ this_set_count (own_entries shape) c.args.bytes.now
    (sizes_of_this_set shape c.args.bytes.now (sym
    (c.requires.own (ne_eqb (version_in c.args.bytes.now) 1 c.if-bytes-eq1.false)) ∙ c.if-own.true))

pub returns-then-bytes-eq1 : goal.returns-then-bytes-eq1
returns-then-bytes-eq1 c =
    put_over c.args.places.now.len c.places_1.new.places c.args.places.now.items
    (omega (arith, c.places_1.auto.places, ap length c.deref_mut.ensures.value, c.args.places.now.ok.0))
    (omega (arith, c.args.places.now.ok.0))
    ∙ c.places_1.ensures ∙ sym (rw c.if-bytes-eq1.true refl)

pub returns-then-own : goal.returns-then-own
returns-then-own c =
    let other = ne_eqb (version_in c.args.bytes.now) 1 c.if-bytes-eq1.false in
    let own = sym (c.requires.own (ne_eqb (version_in c.args.bytes.now) 1 c.if-bytes-eq1.false)) ∙ c.if-own.true in
    put_over c.args.places.now.len c.places_beside.new.places c.args.places.now.items
    (omega (arith, c.places_beside.auto.places, ap length c.deref_mut-then-own.ensures.value, c.args.places.now.ok.0))
    (omega (arith, c.args.places.now.ok.0))
    ∙ c.places_beside.ensures ∙ sym (rw (other, own) refl)

pub returns-else-own : goal.returns-else-own
returns-else-own c =
    let other = ne_eqb (version_in c.args.bytes.now) 1 c.if-bytes-eq1.false in
    let foreign = sym (c.requires.own (ne_eqb (version_in c.args.bytes.now) 1 c.if-bytes-eq1.false)) ∙ c.if-own.false in
    c.places_named.ensures ∙ sym (rw (other, foreign) refl)
