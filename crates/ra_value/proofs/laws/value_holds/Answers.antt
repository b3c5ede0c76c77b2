use Rattle.ra_value.proofs.LawLemmas as lemmas
use Rattle.ra_value.proofs.laws.value_holds.Goals as goal

pub returns : goal.returns
returns c = record {
  greatest = lemmas.signed_greatest-is;
  paused = lemmas.paused_keeps;
  reset = lemmas.reset_clears;
}
