use Rattle.ra_meaning.proofs.Earned.Items.{stay_earned}
use Rattle.ra_meaning.proofs.laws.earned_achievements_stay_earned.Goals as goal

pub returns : goal.returns
returns c = stay_earned
