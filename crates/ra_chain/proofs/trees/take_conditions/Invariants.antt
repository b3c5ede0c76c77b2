use Rattle.ra_chain.proofs.WalkLemmas.{IsRunning}
use Rattle.ra_chain.proofs.trees.take_conditions.Given as goal

abbrev pub invariant-loop-place : goal.invariant-loop-place
invariant-loop-place l = IsRunning l.conditions l.initial.pool l.place-index l.passed l.pool
