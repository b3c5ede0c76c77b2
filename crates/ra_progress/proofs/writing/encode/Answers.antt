use Rattle.std.proofs.Common.{◌≡◌, ◌++◌, ◌∙◌, sym, ap, map, option_map, option_to_list, arith}
use Rattle.std.proofs.lemmas.List.{length-map}
use Rattle.md5.specs.Md5.{md5}
use Rattle.ra_progress.specs.Contents.{shape_contents, snapshot_contents, kept_item, kept_presence}
use Rattle.ra_progress.specs.Spelling.{named_blocks, item_bytes, presence_block, body_bytes}
use Rattle.ra_progress.specs.Writing.{front_bytes}
use Rattle.ra_progress.proofs.Owns.{own_total}
use Rattle.ra_progress.proofs.Blocks.{items_as_many}
use Rattle.ra_progress.proofs.Written.{all_short, presence_short, body_in_parts}
use Rattle.ra_progress.proofs.writing.encode.Goals as goal

pub put_items-requires-clause-many : goal.put_items-requires-clause-many
put_items-requires-clause-many c =
    let items = map kept_item c.args.snapshot.now.items.items in
    let many = items_as_many c.args.shape.now.items.items items c.requires.fits.items in
    rw (c.deref-3.ensures.value, c.deref-4.ensures.value) (sym (length-map c.args.snapshot.now.items.items kept_item)
    ∙ many ∙ sym c.requires.usable.searchable.paired.items)

pub put_items-requires-clause-fit : goal.put_items-requires-clause-fit
put_items-requires-clause-fit c =
    let total = own_total (shape_contents c.args.shape.now) c.requires.usable.searchable.paired in
    rw c.deref-4.ensures.value (all_short c.args.shape.now.items.items
    (map kept_item c.args.snapshot.now.items.items) c.requires.fits.items
    (omega (arith, total, c.requires.usable.short)))

pub put_script-requires : goal.put_script-requires
put_script-requires c =
    let total = own_total (shape_contents c.args.shape.now) c.requires.usable.searchable.paired in
    presence_short c.args.shape.now.presence
    (option_map kept_presence c.args.snapshot.now.presence) c.requires.fits.presence
    (omega (arith, total, c.requires.usable.short))

pub returns : goal.returns
returns c =
    let shape = shape_contents c.args.shape.now in
    let o = snapshot_contents c.args.snapshot.now in
    let many = items_as_many shape.items o.items c.requires.fits.items in
    let front : c.in_ok-bytes.bytes.items ≡ front_bytes shape o.frames o.cells o.priors =
    rw (c.deref.ensures.value, c.deref-2.ensures.value) at c.in_ok-bytes.ensures.bytes in
    let items = named_blocks shape.item_names (map item_bytes o.items) in
    let script = named_blocks (option_to_list shape.presence_name) (presence_block o.presence) in
    let written : c.put_items.new.bytes.items ≡ c.in_ok-bytes.bytes.items ++ items =
    rw (c.deref-3.ensures.value, c.deref-4.ensures.value) at c.in_ok-put_items.ensures in
    let body : c.put_script.new.bytes.items ≡ body_bytes shape o =
    c.in_ok-put_script.ensures ∙ ap (λ xs. xs ++ script) (written ∙ ap (λ xs. xs ++ items) front)
    ∙ body_in_parts shape o (c.requires.usable.searchable.paired.items ∙ sym many) in
    c.in_ok-close.ensures ∙ ap (λ xs. xs ++ md5 xs) body
