use Rattle.std.proofs.Common.{inr, refl, subst, arith, ◌≤◌, ◌^◌}
use Rattle.ra_calls.specs.Games.{GameSeen}
use Rattle.ra_calls.proofs.game.Game.frame.Goals as goal

pub returns-in_default-2-clause-played : goal.returns-in_default-2-clause-played
returns-in_default-2-clause-played c =
    let over = c.in_default.ensures.none refl in
    let small : c.args.self.now.course.size ≤ 2 ^ 27 =
    subst (λ (g : GameSeen). g.course.size ≤ 2 ^ 27) c.self.view_is c.self.invariant.small in
    inr (refl, (λ same. omega (arith, over, small, same)), refl)
