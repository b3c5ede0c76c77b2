-- The own bytes of every set within the limits are at most 8,388,608.
use Rattle.std.proofs.Common.{suc, ◌+◌, ◌*◌, ◌≤◌, Option, None, Some, option_map, List, [], ◌∷◌, ◌++◌, length, map}
use Rattle.std.proofs.Common.{sum_by, All, arith, length-append}
use Rattle.std.proofs.lemmas.List.{length-map}
use Rattle.std.proofs.lemmas.List.Sums.{sum_by-cons, sum_by-append}
use Rattle.ra_progress.specs.declared.shape.ItemShape.{ItemShape}
use Rattle.ra_progress.specs.declared.shape.PresenceShape.{PresenceShape}
use Rattle.ra_progress.specs.Contents.{Name, Own, OfItem, OfPresence, own_items, own_presence}
use Rattle.ra_progress.specs.Layout.{item_length, own_length, length_of}
use Rattle.ra_richpresence.specs.Contents.{ScriptContents}
use Rattle.ra_set.specs.Contents.{ItemContents, Unlocks, Ranks, SetContents}
use Rattle.ra_set.specs.Limits.{item_conditions, script_conditions, IsWithinLimits}
use Rattle.ra_set.specs.Spelled.{IsItem, OptionalScript, IsSpelled}
use Rattle.ra_memref.specs.Names.{cell_name, tracked_name}
use Rattle.ra_meaning.specs.Order.{set_cells, set_tracked, item_shape, presence_shape, shape_of}
use Rattle.ra_meaning.proofs.Spelled.Lines.{shown_lines}
use Rattle.ra_meaning.proofs.Counts.Items.{board_within, lines_within}

-- an own entry for each item at most, and one for the script
items_few : (names : List Name) (shapes : List ItemShape) → length (own_items names shapes) ≤ length shapes
items_few [] shapes = omega arith
items_few (name ∷ names) [] = omega arith
items_few (name ∷ names) (shape ∷ shapes) = omega (arith, items_few names shapes)

script_few : (name : Option Name) (shape : Option PresenceShape) → length (own_presence name shape) ≤ 1
script_few None shape = omega arith
script_few (Some name) None = omega arith
script_few (Some name) (Some shape) = omega arith

-- the block of an item takes at most five bytes, and eight more for each condition: a hit and a number
item_short : (item : ItemContents) → IsItem item → item_length (item_shape item) ≤ 5 + 8 * item_conditions item
item_short (Unlocks id t) is = omega arith
item_short (Ranks id format b) is =
    let within = board_within id format b is.0 in
    omega (arith, within.0, within.1)

items_short : (names : List Name) (items : List ItemContents) → All IsItem items → sum_by own_length
    (own_items names (map item_shape items)) ≤ 5 * length items + 8 * sum_by item_conditions items
items_short [] items each = omega arith
items_short (name ∷ names) [] each = omega arith
items_short (name ∷ names) (item ∷ items) each =
    let own : Own = record { name = name; shape = OfItem (item_shape item) } in
    let one : own_length own ≤ 5 + 8 * item_conditions item = item_short item (each 0 item (omega arith)) in
    omega (
      arith,
      one,
      items_short names items (λ k d within. each (suc k) d (omega arith)),
      sum_by-cons own_length own (own_items names (map item_shape items)),
      sum_by-cons item_conditions item items,
    )

-- the block of a script takes four bytes, and at most eight more for each condition
script_short : (name : Option Name) (script : Option ScriptContents) → OptionalScript script
    → sum_by own_length (own_presence name (option_map presence_shape script)) ≤ 4
    + 8 * script_conditions script
script_short None script is = omega arith
script_short (Some name) None is = omega arith
script_short (Some name) (Some script) is =
    let within = lines_within script.lines (shown_lines script.lines is.0.lines) in
    let own : Own = record { name = name; shape = OfPresence (presence_shape script) } in
    let one : own_length own ≤ 4 + 8 * script_conditions (Some script) = omega (arith, within.0, within.1) in
    omega (arith, one, sum_by-cons own_length own [])

pub small_shape : (set : SetContents) → IsWithinLimits set → IsSpelled set → length (set_cells set)
    ≤ 131072 → length (set_tracked set) ≤ 131072 → length_of (shape_of set) ≤ 8388608
small_shape set limits spelled cells tracked =
    let items : List Own = own_items set.item_names (map item_shape set.items) in
    let script : List Own = own_presence set.script_name (option_map presence_shape set.script) in
    let few : length (items ++ script) ≤ 16385 =
    omega (
      arith,
      length-append items script,
      items_few set.item_names (map item_shape set.items),
      length-map set.items item_shape,
      script_few set.script_name (option_map presence_shape set.script),
      limits.items,
    ) in
    let short : sum_by own_length (items ++ script) ≤ 606212 =
    omega (
      arith,
      sum_by-append own_length items script,
      items_short set.item_names set.items spelled.items,
      script_short set.script_name set.script spelled.script,
      limits.items,
      limits.conditions,
    ) in
    omega (
      arith,
      few,
      short,
      cells,
      tracked,
      length-map (set_cells set) cell_name,
      length-map (set_tracked set) tracked_name,
    )
