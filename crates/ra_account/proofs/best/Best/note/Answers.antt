use Rattle.std.proofs.Common.{arith}
use Rattle.std.proofs.lemmas.Grind.{common_steps}
use Rattle.ra_account.proofs.GreatestLemmas.{best_above, best_below}
use Rattle.ra_account.proofs.best.Best.note.Goals as goal

pub returns-then-self-now : goal.returns-then-self-now
returns-then-self-now c = λ earlier long was. grind (arith, common_steps, best_above c.args.now earlier)

pub returns-else-self-now : goal.returns-else-self-now
returns-else-self-now c = λ earlier long was. grind (arith, common_steps, best_below c.args.now earlier)
