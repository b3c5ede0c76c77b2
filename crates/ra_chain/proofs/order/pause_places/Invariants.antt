use Rattle.ra_chain.proofs.Pauses.{EndsPauses}
use Rattle.ra_chain.proofs.order.pause_places.Given as goal

-- the last PauseIf so far
abbrev pub invariant-loop-turn : goal.invariant-loop-turn
invariant-loop-turn l = EndsPauses l.conditions l.order l.turn l.pauses
