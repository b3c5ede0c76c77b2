use Rattle.std.proofs.Common.{sym, subst}
use Rattle.ra_condition.specs.Contents.{value_contents}
use Rattle.ra_condition.specs.Spelled.{IsValue}
use Rattle.ra_normal.proofs.NormalStructure.{value_is}
use Rattle.ra_normal.proofs.lines.put_value.Goals as goal

pub print_value-requires : goal.print_value-requires
print_value-requires c = subst IsValue (sym c.in_ok-normal.ensures)
    (value_is (value_contents c.args.value.now) c.requires)
