use Rattle.ra_condition.specs.Contents.{trigger_contents, value_contents}
use Rattle.ra_leaderboard.proofs.HeldLemmas.{none-seen}
use Rattle.ra_leaderboard.proofs.fields.Fields.free.Goals as goal

pub returns : goal.returns
returns c = rw (
  c.of.ensures,
  none-seen trigger_contents c.self.inside.start c.is_none.result c.is_none.ensures,
  none-seen trigger_contents c.self.inside.cancel c.is_none-2.result c.is_none-2.ensures,
  none-seen trigger_contents c.self.inside.submit c.is_none-3.result c.is_none-3.ensures,
  none-seen value_contents c.self.inside.value c.is_none-4.result c.is_none-4.ensures,
  none-seen value_contents c.self.inside.progress c.is_none-5.result c.is_none-5.ensures,
  ← c.self.view_is,
)
