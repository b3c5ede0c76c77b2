use Rattle.std.proofs.Common.{◌≡◌, ◌++◌, map, take, string_bytes}
use Rattle.std.specs.List.{flat_map}
use Rattle.serde_json.specs.View.{view}
use Rattle.ra_patch.specs.Lines.{achievement_line}
use Rattle.ra_patch.proofs.text.write_achievements.Given as goal

abbrev pub invariant-loop-item : goal.invariant-loop-item
invariant-loop-item l =
    string_bytes l.text ≡ string_bytes l.fn.text ++ flat_map achievement_line (map view (take l.item-index l.items))
