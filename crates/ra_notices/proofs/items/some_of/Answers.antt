use Rattle.std.proofs.Common.{◌∙◌, ◌||◌, ap, map}
use Rattle.std.specs.List.{list_any}
use Rattle.ra_condition.specs.declared.group.Group.{Group}
use Rattle.ra_condition.specs.Contents.{group_contents}
use Rattle.ra_notices.specs.Notices.{some_in}
use Rattle.ra_notices.specs.Noticing.{has_class}
use Rattle.ra_notices.proofs.AnyLemmas.{any_map}
use Rattle.ra_notices.proofs.items.some_of.Goals as goal

pub returns-else-has_class : goal.returns-else-has_class
returns-else-has_class c =
    let test = some_in (has_class c.args.class) in
    let alts = c.args.text.now.alts.items in
    c.some_alt_has.ensures ∙ ap (list_any (λ (alt : Group). test (group_contents alt)))
    c.deref.ensures.value ∙ any_map test group_contents alts
    ∙ ap (λ b. b || list_any test (map group_contents alts)) c.if-has_class.ensures
