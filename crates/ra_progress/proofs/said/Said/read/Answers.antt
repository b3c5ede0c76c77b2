use Rattle.std.proofs.Common.{◌∙◌, ap, length, arith}
use Rattle.ra_progress.specs.Room.{IsFilled, IsRoom}
use Rattle.ra_progress.specs.declared.said.Said.{Said}
use Rattle.ra_progress.specs.Contents.{ShapeContents, shape_contents}
use Rattle.ra_progress.proofs.Placed.{places_count}
use Rattle.ra_progress.proofs.said.Said.read.Goals as goal

pub returns-clause-filled : goal.returns-clause-filled
returns-clause-filled c = record {
  cells = c.read_cells.ensures.long ∙ c.fill.ensures.cells;
  priors = c.read_priors.ensures.long ∙ c.fill.ensures.priors;
  places = ap length c.read_places.ensures ∙ places_count (shape_contents c.args.shape.now) c.args.bytes.now;
}

-- what is filled has room for as much
room_of : (shape : ShapeContents) (said : Said) → IsFilled shape said → IsRoom shape said
room_of shape said filled = record {
  cells = omega (arith, filled.cells, said.cells.ok.0, said.cells.ok.1);
  priors = omega (arith, filled.priors, said.priors.ok.0, said.priors.ok.1);
  places = omega (arith, filled.places, said.places.ok.0, said.places.ok.1);
}

pub returns-clause-room : goal.returns-clause-room
returns-clause-room c = room_of (shape_contents c.args.shape.now) _ (returns-clause-filled c)
