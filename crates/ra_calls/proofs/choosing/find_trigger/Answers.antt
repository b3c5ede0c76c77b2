use Rattle.std.proofs.Common.{ap, subst, ◌∙◌}
use Rattle.ra_set.specs.Contents.{SetContents}
use Rattle.ra_set.specs.Spelled.{IsSpelled}
use Rattle.ra_goals.specs.Choosing.{trigger_of}
use Rattle.ra_calls.proofs.ChooseLemmas.{found_usable}
use Rattle.ra_calls.proofs.choosing.find_trigger.Goals as goal

pub returns-in-Ok : goal.returns-in-Ok
returns-in-Ok c set is =
    let read = c.in-Ok.ensures.accepted set is in
    let same = c.trigger_of.ensures ∙ ap (λ (s : SetContents). trigger_of c.args.id s.items) read in
    record {
      same = same;
      usable = found_usable c.args.id set c.trigger_of.result same
          (subst IsSpelled read c.in-Ok.ensures.structure) is.limits;
    }
