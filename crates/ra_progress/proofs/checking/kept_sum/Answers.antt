use Rattle.std.proofs.Common.{◌∙◌}
use Rattle.ra_progress.proofs.Bytes.{last_sixteen}
use Rattle.ra_progress.proofs.checking.kept_sum.Goals as goal

pub returns : goal.returns
returns c = c.name_at.ensures ∙ last_sixteen c.args.bytes.now c.requires
