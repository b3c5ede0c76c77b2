use Rattle.ra_progress.specs.Contents.{shape_contents}
use Rattle.ra_progress.proofs.Checks.{is_ok-by}
use Rattle.ra_progress.proofs.checking.check.Goals as goal

pub returns-clause-ok : goal.returns-clause-ok
returns-clause-ok c =
    is_ok-by (shape_contents c.args.shape.now) c.args.bytes.now c.refusal.result c.refusal.ensures
