use Rattle.std.proofs.lemmas.Bool.{ne_eqb}
use Rattle.ra_progress.specs.Contents.{shape_contents}
use Rattle.ra_progress.specs.Layout.{version_in}
use Rattle.ra_progress.proofs.Placed.{whole_layout}
use Rattle.ra_progress.proofs.relation.is_own.Goals as goal

pub of_this_set-requires-clause-layout : goal.of_this_set-requires-clause-layout
of_this_set-requires-clause-layout c =
    whole_layout (shape_contents c.args.shape.now) c.args.bytes.now c.requires.accepted.whole
    (ne_eqb (version_in c.args.bytes.now) 1 c.if-bytes-eq1.false)
