use Rattle.ra_explain.proofs.SlotLemmas.{all_fit}
use Rattle.ra_why.proofs.kept.put_words.Goals as goal

pub returns-clause-fit : goal.returns-clause-fit
returns-clause-fit c = all_fit c.args.numbers.now c.type_inv.numbers
