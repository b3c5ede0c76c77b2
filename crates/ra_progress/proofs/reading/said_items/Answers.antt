use Rattle.std.proofs.Common.{◌≡◌, ◌+◌, ◌<◌, ◌++◌, ◌∷◌, [], ◌∙◌, sym, ap, None, drop, length, map, get_or}
use Rattle.std.proofs.Common.{slice_index_or, append_assoc, arith}
use Rattle.std.proofs.lemmas.List.{get_or_read, map-append}
use Rattle.ra_progress.specs.declared.shape.ItemShape.TheVariants.{Achievement}
use Rattle.ra_progress.specs.Contents.{shape_contents, own_entries, own_at, kept_item, plain_item}
use Rattle.ra_progress.specs.declared.shape.ItemShape.{ItemShape}
use Rattle.ra_progress.specs.Layout.{item_length, block_length, own_length}
use Rattle.ra_progress.specs.Saying.{said_or, said_item, said_items}
use Rattle.ra_progress.proofs.Owns.{own_count, own_item}
use Rattle.ra_progress.proofs.Placed.{own_within, places_count, if_some, said_next}
use Rattle.ra_progress.proofs.reading.said_items.Goals as goal

pub bounds-places-k : goal.bounds-places-k
bounds-places-k c =
    let shape = shape_contents c.args.shape.now in
    let many : length c.args.places.now ≡ length (own_entries shape) = ap length c.requires.places
    ∙ places_count shape c.args.bytes.now in
    omega
    (arith, many, own_count shape c.requires.usable.searchable.paired, c.loop-k-test.true, c.len-k-end.ensures)

pub item_or_plain-requires-clause-within : goal.item_or_plain-requires-clause-within
item_or_plain-requires-clause-within c =
    let shape = shape_contents c.args.shape.now in
    let below : c.loop-k.k < length c.args.shape.now.items.items = omega
    (arith, c.loop-k-test.true, c.len-k-end.ensures) in
    let less : c.loop-k.k < length (own_entries shape) = omega
    (arith, below, own_count shape c.requires.usable.searchable.paired) in
    let read = get_or_read c.args.shape.now.items.items c.loop-k.k c.index.result.now below c.index.ensures
    (Achievement 0) in
    let long : item_length c.index.result.now ≡ own_length
    (own_at (own_entries shape) c.loop-k.k) = ap item_length read ∙ sym
    (ap block_length (own_item shape c.requires.usable.searchable.paired c.loop-k.k (Achievement 0) below)) in
    if_some _ _ (λ at is.
    let within = own_within shape c.args.bytes.now c.loop-k.k at c.requires.accepted less
    (sym (ap (λ places. get_or places c.loop-k.k None) c.requires.places) ∙ is) in
    omega (arith, within, long))

pub loop-k-preserved : goal.loop-k-preserved
loop-k-preserved c =
    let bytes = c.args.bytes.now in
    let shapes = c.args.shape.now.items.items in
    let places = c.args.places.now in
    let k = c.loop-k.k in
    let x = c.in_ok-item_or_plain.field-0 in
    let before = map kept_item c.loop-k.items.items in
    let later = said_items bytes (drop (k + 1) shapes) (drop (k + 1) places) in
    let below : k < length shapes = omega (arith, c.loop-k-test.true, c.len-k-end.ensures) in
    let many : length places ≡ length (own_entries (shape_contents c.args.shape.now)) = ap length c.requires.places
    ∙ places_count (shape_contents c.args.shape.now) bytes in
    let less : k < length places = omega
    (arith, many, below, own_count (shape_contents c.args.shape.now) c.requires.usable.searchable.paired) in
    let read = get_or_read shapes k c.index.result.now below c.index.ensures (Achievement 0) in
    let here : kept_item x ≡ said_or (said_item bytes (get_or shapes k (Achievement 0)))
    (plain_item (get_or shapes k (Achievement 0))) (slice_index_or places k None) =
    c.in_ok-item_or_plain.ensures ∙ ap
    (λ (shape : ItemShape). said_or (said_item bytes shape) (plain_item shape)
    (slice_index_or places k None)) read in
    ap (λ items. map kept_item items ++ later) c.in_ok-push.ensures.items
    ∙ ap (λ items. items ++ later) (map-append kept_item c.loop-k.items.items (x ∷ []))
    ∙ append_assoc before (kept_item x ∷ []) later
    ∙ ap (λ item. before ++ (item ∷ later)) here
    ∙ sym (ap (λ items. before ++ items) (said_next bytes shapes places k (Achievement 0) below less))
    ∙ c.loop-k.invariant
