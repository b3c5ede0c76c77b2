use Rattle.std.proofs.Common.{◌≡◌, ◌++◌, map, take}
use Rattle.std.specs.List.{flat_map}
use Rattle.ra_set.specs.Contents.{item_contents}
use Rattle.ra_normal.specs.Text.{item_text}
use Rattle.ra_normal.proofs.lines.put_items.Given as goal

-- the lines of the items so far stand behind the text
abbrev pub invariant-loop-item : goal.invariant-loop-item
invariant-loop-item l = l.text.items
    ≡ l.fn.text.items ++ flat_map item_text (map item_contents (take l.item-index l.items))
