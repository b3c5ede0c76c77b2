use Rattle.ra_group.proofs.HandedLemmas.{outcome_handed, next_hits_handed}
use Rattle.ra_group.proofs.laws.handed_on_holds.Goals as goal

pub returns : goal.returns
returns c = record {
  outcome = λ form cs truths truths' lefts hits agree. outcome_handed cs truths truths' lefts hits agree form;
  next = next_hits_handed;
}
