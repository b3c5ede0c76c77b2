use Rattle.std.proofs.Common.{rules}
use Rattle.ra_set.specs.Contents.{set_contents}
use Rattle.ra_normal.specs.Text.{IsNormal}
use Rattle.ra_normal.proofs.CountingLemmas.{conditions_few}
use Rattle.ra_normal.proofs.MeaningLemmas.{keeps_meaning}
use Rattle.ra_normal.proofs.text.normal.Goals as goal

pub normal_conditions-requires : goal.normal_conditions-requires
normal_conditions-requires c = conditions_few c.args.bytes.now (set_contents c.args.set.now) c.requires

pub returns-clause-keeps : goal.returns-clause-keeps
returns-clause-keeps c =
    let is : IsNormal c.args.bytes.now (set_contents c.args.set.now) c.in_ok-text.text.items = search rules in
    keeps_meaning c.args.bytes.now (set_contents c.args.set.now) c.requires c.in_ok-text.text.items is
