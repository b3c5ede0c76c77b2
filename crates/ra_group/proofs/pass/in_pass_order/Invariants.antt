use Rattle.std.proofs.Common.{ℕ, ◌≡◌, ◌^◌, ◌<◌, take, get_or}
use Rattle.ra_group.specs.Equations.{frame_of}
use Rattle.ra_group.proofs.PassLemmas.{HasPassed}
use Rattle.ra_group.proofs.pass.in_pass_order.Given as goal

-- the pass has gone as far as the turn
abbrev pub invariant-loop-turn : goal.invariant-loop-turn
invariant-loop-turn l = record {
  passed : HasPassed l.pass.form (frame_of l.conditions l.truths l.lefts l.initial.hits)
      (take l.turn l.orders) l.pass.before l.pass.tally l.hits;
  form : l.pass.form ≡ l.initial.pass.form;
  small : (k : ℕ) → get_or l.initial.hits k 0 < 2 ^ 32;
}
