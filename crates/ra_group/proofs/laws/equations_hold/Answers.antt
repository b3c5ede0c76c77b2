use Rattle.ra_group.proofs.LawLemmas.{prev_of-is, prev_of-none, equations_after, equations_first, own_equations}
use Rattle.ra_group.proofs.laws.equations_hold.Goals as goal

pub returns : goal.returns
returns c = record {
  prev = prev_of-is;
  no_prev = prev_of-none;
  after = equations_after;
  first = equations_first;
  own = own_equations;
}
