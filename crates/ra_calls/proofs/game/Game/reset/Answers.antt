use Rattle.std.proofs.Common.{[], refl}
use Rattle.ra_calls.proofs.GameLemmas.{still_game}
use Rattle.ra_calls.proofs.game.Game.reset.Goals as goal

pub invariant_of-self : goal.invariant_of-self
invariant_of-self c =
    let taken = c.reset.ensures.taken in
    still_game c.self.inside _ c.self.invariant (taken.taken []).set taken.size refl c.take.ensures.after refl
