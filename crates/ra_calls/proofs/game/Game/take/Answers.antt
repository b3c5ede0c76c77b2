use Rattle.std.proofs.Common.{refl}
use Rattle.ra_calls.proofs.GameLemmas.{still_game}
use Rattle.ra_calls.proofs.game.Game.take.Goals as goal

pub invariant_of-self : goal.invariant_of-self
invariant_of-self c =
    still_game c.self.inside _ c.self.invariant c.take.ensures.set c.take.ensures.size refl
    c.take-in-Some.ensures.after refl
