use Rattle.std.proofs.Common.{sym, subst, arith}
use Rattle.ra_operand.specs.declared.op.Op.TheVariants.{Div}
use Rattle.ra_lint.specs.Ordered.{IsOrdered}
use Rattle.ra_lint.proofs.OrderedLemmas.{joined_ordered}
use Rattle.ra_lint.proofs.range.Range.joined.Goals as goal

pub returns-in-Div-clause-ordered : goal.returns-in-Div-clause-ordered
returns-in-Div-clause-ordered c =
    subst IsOrdered (sym c.quotient.ensures)
    (joined_ordered Div c.args.left c.args.right c.requires.left c.requires.right (omega arith) (omega arith))
