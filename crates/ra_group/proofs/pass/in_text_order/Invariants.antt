use Rattle.std.proofs.Common.{ℕ, ◌≡◌, ◌^◌, ◌-◌, ◌<◌, ◌≤◌, None, length, take, get_or}
use Rattle.ra_condition.specs.Chains.{pass_order}
use Rattle.ra_group.specs.Equations.{frame_of}
use Rattle.ra_group.specs.Tallies.{no_tally}
use Rattle.ra_group.proofs.PassLemmas.{HasPassed}
use Rattle.ra_group.proofs.PlainLemmas.{wanting}
use Rattle.ra_group.proofs.pass.in_text_order.Given as goal

-- the pass over plain conditions has gone as far as the place
abbrev pub invariant-loop-place : goal.invariant-loop-place
invariant-loop-place l = record {
  within : l.place ≤ length l.conditions;
  passed : HasPassed l.form (frame_of l.conditions l.truths l.lefts l.fn.hits)
      (take l.place (pass_order l.conditions)) None (wanting no_tally l.held) l.hits;
  small : (k : ℕ) → get_or l.fn.hits k 0 < 2 ^ 32;
}

abbrev pub decreases-loop-place : goal.decreases-loop-place
decreases-loop-place l = length l.conditions - l.place

-- the pass has gone as far as the turn
abbrev pub invariant-loop-turn : goal.invariant-loop-turn
invariant-loop-turn l = record {
  passed : HasPassed l.pass.form (frame_of l.conditions l.truths l.lefts l.fn.hits)
      (take l.turn (pass_order l.conditions)) l.pass.before l.pass.tally l.hits;
  form : l.pass.form ≡ l.fn.form;
  small : (k : ℕ) → get_or l.fn.hits k 0 < 2 ^ 32;
}
