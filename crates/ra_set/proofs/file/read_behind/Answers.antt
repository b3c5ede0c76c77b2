use Rattle.std.proofs.Common.{arith}
use Rattle.ra_set.proofs.ScriptLines.{read-lines}
use Rattle.ra_set.proofs.file.read_behind.Goals as goal

pub returns-in_ok-read-clause-structure : goal.returns-in_ok-read-clause-structure
returns-in_ok-read-clause-structure c = (
  c.in_ok-read.ensures.structure,
  read-lines c.args.cursor.now.rest.now c.in_ok-read.read
      (omega (arith, c.requires.size, c.requires.within)) c.in_ok-read.ensures.ok,
)
