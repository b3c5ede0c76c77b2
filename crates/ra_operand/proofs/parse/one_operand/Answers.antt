use Rattle.ra_operand.specs.Grammar.{operand}
use Rattle.ra_operand.specs.Reading.{operand_at}
use Rattle.ra_operand.proofs.Operands.{reads-operand}
use Rattle.ra_text.proofs.Places.{spelled-once}
use Rattle.ra_operand.proofs.parse.one_operand.Goals as goal

pub returns : goal.returns
returns c = spelled-once operand operand_at reads-operand
