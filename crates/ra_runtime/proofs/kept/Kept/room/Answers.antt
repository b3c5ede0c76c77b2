use Rattle.std.proofs.Common.{◌≡◌, ◌+◌, ◌-◌, ◌++◌, map, option_map, sum_by, sym, ◌∙◌, ap, arith}
use Rattle.ra_progress.specs.Contents.{plain_item}
use Rattle.ra_progress.specs.Layout.{item_length, script_length}
use Rattle.ra_runtime.specs.Keeping.{AreBlocks, item_places}
use Rattle.ra_runtime.proofs.KeptBlocks.{blocks_said}
use Rattle.ra_runtime.proofs.Zeros.{zero_blocks, zero_presence}
use Rattle.ra_runtime.proofs.kept.Kept.room.Goals as goal

pub invariant_of-result : goal.invariant_of-result
invariant_of-result c =
    let shape = c.args.shape.now in
    let shapes = c.extend_from_slice.new.self.items in
    let taken : shapes ≡ shape.items.items = c.in_ok-extend_from_slice.ensures.items
    ∙ ap (λ xs. xs ++ c.deref.result.now) c.new-items.ensures.items ∙ c.deref.ensures.value in
    let same : c.deref-2.result.now ≡ shapes = c.deref-2.ensures.value ∙ sym taken in
    let display = c.in_ok-places.display in
    let bytes = c.in_ok-bytes.bytes.items in
    let behind : display ≡ 20 + sum_by item_length shapes =
    c.in_ok-places.ensures.behind ∙ ap (λ ss. 20 + sum_by item_length ss) same in
    let size : c.in_ok-places.display + c.display_size.result - 20 ≡ sum_by item_length shapes
    + script_length shape.presence = omega (arith, behind, c.display_size.ensures.size) in
    let blocks : AreBlocks bytes shapes shape.presence (map plain_item shapes)
    (option_map zero_presence shape.presence) =
    zero_blocks bytes shapes shape.presence (c.in_ok-places.display + c.display_size.result - 20)
    c.requires.lines (omega (arith, c.in_ok-bytes.ensures.long, behind))
    c.in_ok-bytes.ensures.version c.in_ok-bytes.ensures.rest size in
    let places = c.in_ok-places.ensures.places ∙ ap (item_places 20) same in
    record {
      blocks = blocks_said bytes shapes shape.presence (map plain_item shapes) (option_map
          zero_presence shape.presence) c.in_ok-places.places.items display blocks places behind;
      places = places;
      display = behind;
    }
