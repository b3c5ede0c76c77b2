use Rattle.ra_trigger.proofs.LawLemmas as lemmas
use Rattle.ra_trigger.proofs.laws.achievement_holds.Goals as goal

pub returns : goal.returns
returns c = record {
  triggered = lemmas.step-triggered;
  from_hits = lemmas.from_hits-frames;
  reset_state = lemmas.reset_state;
  reset_clears = lemmas.reset_clears;
  waiting_state = lemmas.waiting_state;
  waiting_clears = lemmas.waiting_clears;
}
