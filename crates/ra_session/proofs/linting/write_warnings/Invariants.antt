use Rattle.std.proofs.Common.{◌≡◌, ◌++◌, map, take, string_bytes}
use Rattle.std.specs.List.{flat_map}
use Rattle.ra_set.specs.Contents.{item_contents}
use Rattle.ra_session.specs.Linting.{warning_line}
use Rattle.ra_session.proofs.linting.write_warnings.Given as goal

abbrev pub invariant-loop-warning : goal.invariant-loop-warning
invariant-loop-warning l =
    string_bytes l.text ≡ string_bytes l.fn.text
    ++ flat_map (warning_line (map item_contents l.items)) (take l.warning-index l.warnings)
