use Rattle.ra_progress.proofs.Again.{again}
use Rattle.ra_meaning.specs.Order.{shape_of}
use Rattle.ra_meaning.proofs.Openings.Fits.{boards_fit, display_fits}
use Rattle.ra_meaning.proofs.Openings.Snapshots.{plain_is_opening, snapshot_fits, said_is_opening}
use Rattle.ra_meaning.proofs.Openings.Unplayed.{snapshot_none}
use Rattle.ra_meaning.proofs.SetFiles.{complete_shape, set_complete}
use Rattle.ra_meaning.proofs.laws.openings_stand.Goals as goal

pub returns : goal.returns
returns c = λ set. record {
  plain = plain_is_opening set;
  after = snapshot_fits set;
  none = snapshot_none set;
  complete = λ file is. set_complete file set is;
  shape = complete_shape set;
  said = said_is_opening set;
  again = λ bytes shape fit accepted own. again bytes fit (shape_of set) shape accepted own;
  boards = λ o is. boards_fit set.items o.items is.items;
  display = λ o is. display_fits set.script o.presence is.presence;
}
