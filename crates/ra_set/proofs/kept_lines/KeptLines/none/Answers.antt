use Rattle.std.proofs.Common.{map, refl, ap}
use Rattle.std.specs.List.{IsDistinct}
use Rattle.ra_set.specs.Contents.{item_contents}
use Rattle.ra_set.proofs.kept_lines.KeptLines.none.Goals as goal

pub returns-clause-kept : goal.returns-clause-kept
unfolding IsDistinct
returns-clause-kept c =
    record { items = ap (map item_contents) c.new.ensures.items; ids = c.none.ensures; count = refl; repeat = tt }
