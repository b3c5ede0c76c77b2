use Rattle.std.proofs.Common.{Some, ap, sym, ◌∙◌}
use Rattle.ra_calls.specs.Recordings.{AnswersExplain}
use Rattle.ra_calls.proofs.GameLemmas.{answers_full, explains_so}
use Rattle.ra_calls.proofs.explaining.explain.Goals as goal

pub returns-in-Some-clause-told : goal.returns-in-Some-clause-told
returns-in-Some-clause-told c =
    answers_full (λ recording. AnswersExplain recording c.args.out.now c.give_told-code.new.out
    c.give_told-code.new.count c.give_told-code.new.unlock c.give_told-code.result)
    c.give_told-code.result c.deref.result.now _ _ (ap Some c.deref.ensures
    ∙ c.in-Some.ensures.taken) (c.put.ensures ∙ ap Some (sym c.deref.ensures))
    (explains_so c.deref.result.now.recording c.explain.result _ _ _ _ _ c.explain.ensures.told
    c.explain.ensures.due c.give_told-code.ensures.given)
