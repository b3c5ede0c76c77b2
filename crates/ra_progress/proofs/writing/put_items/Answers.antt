use Rattle.std.proofs.Common.{◌++◌, ◌<◌, ◌∙◌, sym, ap, ap₂, [], length, take, map, get_or, arith, append_assoc}
use Rattle.std.proofs.lemmas.List.{take_all, length-map, get_or-map}
use Rattle.std.specs.Int.{w32, to_le_bytes}
use Rattle.ra_progress.specs.Contents.{kept_item}
use Rattle.ra_progress.specs.Spelling.{named_blocks, item_bytes}
use Rattle.ra_progress.proofs.Blocks.{blocks_more, block_of}
use Rattle.ra_progress.proofs.writing.put_items.Goals as goal

pub put_item-requires : goal.put_item-requires
put_item-requires c =
    let item = c.index-items-k.result in
    let below : c.loop-k.k < length c.args.items.now = omega (arith, c.requires.many, c.loop-k-test.true) in
    let fits = c.requires.fit c.loop-k.k (kept_item item)
    (omega (arith, below, length-map c.args.items.now kept_item)) in
    rw (get_or-map kept_item c.args.items.now c.loop-k.k item (kept_item item) below, ← c.index-items-k.is) at fits

pub loop-k-preserved : goal.loop-k-preserved
loop-k-preserved c =
    let below : c.loop-k.k < length c.args.items.now = omega (arith, c.requires.many, c.loop-k-test.true) in
    let blocks = map item_bytes (map kept_item c.args.items.now) in
    let more = blocks_more c.args.names.now blocks c.loop-k.k [] (omega (arith, c.loop-k-test.true))
    (omega (
      arith,
      below,
      length-map c.args.items.now kept_item,
      length-map (map kept_item c.args.items.now) item_bytes,
    )) in
    let here = rw (← c.index-items-k.is) at (block_of c.args.items.now c.loop-k.k c.index-items-k.result below) in
    let before = named_blocks (take c.loop-k.k c.args.names.now) (take c.loop-k.k blocks) in
    let name = get_or c.args.names.now c.loop-k.k [] in
    c.in_ok-put_item.ensures
    ∙ ap (λ xs. xs ++ (name ++ (to_le_bytes w32 (length (item_bytes (kept_item
    c.index-items-k.result))) ++ item_bytes (kept_item c.index-items-k.result)))) c.loop-k.invariant
    ∙ append_assoc c.args.bytes.now.items before (name ++ (to_le_bytes w32 (length (item_bytes
    (kept_item c.index-items-k.result))) ++ item_bytes (kept_item c.index-items-k.result)))
    ∙ ap (λ block. c.args.bytes.now.items ++ (before ++ (name ++ (to_le_bytes w32 (length block) ++ block)))) (sym here)
    ∙ ap (λ xs. c.args.bytes.now.items ++ xs) (sym more)

pub returns : goal.returns
returns c =
    let names = take_all c.loop-k.k c.args.names.now (omega (arith, c.loop-k-test.false)) in
    let blocks = take_all c.loop-k.k (map item_bytes (map kept_item c.args.items.now))
    (omega (
      arith,
      c.loop-k-test.false,
      length-map (map kept_item c.args.items.now) item_bytes,
      length-map c.args.items.now kept_item,
      c.requires.many,
    )) in
    c.loop-k.invariant ∙ ap (λ xs. c.args.bytes.now.items ++ xs) (ap₂ named_blocks names blocks)
