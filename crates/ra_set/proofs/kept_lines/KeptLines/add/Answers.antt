use Rattle.ra_set.proofs.KeptLemmas.{keeps-none}
use Rattle.ra_set.proofs.kept_lines.KeptLines.add.Goals as goal

pub returns-in-None-clause-kept : goal.returns-in-None-clause-kept
returns-in-None-clause-kept c = λ lines k. keeps-none c.args.self.now lines c.args.line c.in-None.is k
