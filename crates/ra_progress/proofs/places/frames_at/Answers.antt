use Rattle.ra_progress.proofs.Bytes.{eight_bytes}
use Rattle.ra_progress.proofs.places.frames_at.Goals as goal

pub returns : goal.returns
returns c = rw (eight_bytes c.args.bytes.now 21 c.requires) c.from_le_bytes.ensures
