use Rattle.ra_chain.proofs.ValueLemmas.{values_by_rules, only_values}
use Rattle.ra_chain.proofs.values_law.group_values_hold.Goals as goal

pub returns : goal.returns
returns c = record { solution = values_by_rules; only = only_values }
