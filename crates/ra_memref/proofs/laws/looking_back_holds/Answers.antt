use Rattle.ra_memref.proofs.Cuts.{value_cut, cell_cut, tracked_cut}
use Rattle.ra_memref.proofs.Latest.{prior_is}
use Rattle.ra_memref.proofs.laws.looking_back_holds.Goals as goal

pub returns : goal.returns
returns c = record {
  prior = prior_is;
  values = value_cut;
  numbers = cell_cut;
  priors = tracked_cut;
}
