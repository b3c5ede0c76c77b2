use Rattle.std.proofs.Common.{refl}
use Rattle.ra_calls.proofs.StandLemmas.{framed_stands}
use Rattle.ra_calls.proofs.Taken.{still_held}
use Rattle.ra_calls.proofs.held.Held.follow.Goals as goal

pub invariant_of-self : goal.invariant_of-self
invariant_of-self g c =
    let taken = c.follow.ensures.taken in
    still_held c.self.inside _ c.self.invariant taken.frame.set refl refl
    (framed_stands _ c.self.inside.course c.follow.new.self c.requires.are_bytes c.self.invariant.standing taken)
