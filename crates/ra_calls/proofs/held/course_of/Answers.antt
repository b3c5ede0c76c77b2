use Rattle.std.proofs.Common.{List, ap, map, sym, subst, ◌∙◌}
use Rattle.ra_set.specs.Accepted.{IsSet}
use Rattle.ra_set.specs.Contents.{SetContents, item_contents}
use Rattle.ra_set.specs.declared.item.Item.{Item}
use Rattle.ra_set.specs.Names.{IsNamed}
use Rattle.ra_set.specs.Spelled.{IsSpelled}
use Rattle.ra_runtime.specs.Courses.{IsBegun}
use Rattle.ra_goals.specs.Goals.{goal_of}
use Rattle.ra_calls.proofs.held.course_of.Goals as goal

pub returns-in-Ok-clause-loaded : goal.returns-in-Ok-clause-loaded
returns-in-Ok-clause-loaded c =
    let begun = c.in-Ok.ensures in
    record {
      spelled = subst (IsSet c.args.text.now) (sym begun.set_too) c.in_ok-set.ensures.ok;
      begun = subst (λ (set : SetContents). IsBegun set c.args.size c.in-Ok.course) (sym begun.set_too) begun;
    }

pub returns-in-Ok-clause-spelled : goal.returns-in-Ok-clause-spelled
returns-in-Ok-clause-spelled c = subst IsSpelled (sym c.in-Ok.ensures.set_too) c.in_ok-set.ensures.structure

pub returns-in-Ok-clause-named : goal.returns-in-Ok-clause-named
returns-in-Ok-clause-named c = subst IsNamed (sym c.in-Ok.ensures.set_too) c.in_ok-set.ensures.named

pub returns-in-Ok-clause-goals : goal.returns-in-Ok-clause-goals
returns-in-Ok-clause-goals c = c.in_ok-goals.ensures
    ∙ ap (λ (items : List Item). map goal_of (map item_contents items)) c.deref.ensures.value
    ∙ ap (λ (set : SetContents). map goal_of set.items) (sym c.in-Ok.ensures.set_too)
