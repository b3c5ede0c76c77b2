use Rattle.std.proofs.Common.{ap, sym, option_map, ◌∙◌}
use Rattle.ra_condition.specs.Contents.{trigger_contents}
use Rattle.ra_set.specs.Contents.{set_contents}
use Rattle.ra_why_job.proofs.ChooseLemmas.{is_found}
use Rattle.ra_why_job.proofs.choosing.choose.Goals as goal

pub returns-in-Some : goal.returns-in-Some
returns-in-Some c =
    is_found c.args.bytes.now c.args.id (set_contents c.in-Ok.set)
    (trigger_contents c.in-Some.text) c.in-Ok.ensures.ok c.in-Ok.ensures.structure
    (sym c.trigger_of.ensures ∙ ap (option_map trigger_contents) c.in-Some.is)

pub returns-in-None : goal.returns-in-None
returns-in-None c = (
  set_contents c.in-Ok.set,
  c.in-Ok.ensures.ok,
  sym c.trigger_of.ensures ∙ ap (option_map trigger_contents) c.in-None.is,
)
