use Rattle.std.proofs.Common.{◌∙◌, false, get_or, ap, sym, length, map}
use Rattle.std.specs.List.{list_any}
use Rattle.ra_condition.specs.Chains.{places}
use Rattle.ra_condition.specs.Contents.{group_contents}
use Rattle.ra_notices.specs.Noticing.{locks_at, may_lock}
use Rattle.ra_notices.proofs.PassLemmas.{marks_of, tests_many}
use Rattle.ra_notices.proofs.StandingLemmas.{both_lock, none_lock}
use Rattle.ra_notices.proofs.standing.standing.Goals as goal

pub returns-then-not-some_may : goal.returns-then-not-some_may
returns-then-not-some_may c =
    let cs = group_contents c.args.group.now in
    λ j within. ap (λ items. get_or items j false) c.new.ensures.items
    ∙ none_lock cs (length cs) (ap (λ cs. list_any (may_lock cs) (places cs))
    (sym c.deref.ensures.value) ∙ sym c.if-not-some_may.ensures) j within

pub returns : goal.returns
returns c =
    let cs = group_contents c.args.group.now in
    let may = c.in_ok-may.ensures ∙ ap (λ cs. map (may_lock cs) (places cs)) c.deref-2.ensures.value in
    marks_of (locks_at cs) cs c.in_ok-locks.locks.items (c.in_ok-locks.ensures
    ∙ both_lock cs c.deref-3.result.now c.deref-4.result.now (length c.deref-3.result.now)
    (tests_many (may_lock cs) cs c.deref-3.result.now (c.deref-3.ensures.value ∙ may))
    (c.deref-3.ensures.value ∙ may) (c.deref-4.ensures.value ∙ c.in_ok-always.ensures))
