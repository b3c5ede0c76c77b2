use Rattle.std.proofs.Common.{◌≡◌, ℕ, List, sym, subst}
use Rattle.std.proofs.lemmas.Result.{IfOk-weaker}
use Rattle.ra_explain.specs.declared.explanation.Explanation.{Explanation}
use Rattle.ra_explain.specs.Compacts.{compact_contents}
use Rattle.ra_explain.specs.Explains.{explanation_contents}
use Rattle.ra_explain.specs.Recordings.{over}
use Rattle.ra_explain.specs.Unlocks.{ExplainsBehind, FitsRows}
use Rattle.ra_explain.proofs.recording.Recording.explain.Goals as goal

pub returns-clause-explains : goal.returns-clause-explains
returns-clause-explains c =
    let compact = c.in_ok-explain_compactly in
    IfOk-weaker c.expand.result (λ (e : Explanation). explanation_contents e
    ≡ compact_contents compact.field-0) (λ (e : Explanation). (image : List ℕ)
    → ExplainsBehind (over c.args.self.now image) (explanation_contents e))
    (λ e same image. subst (ExplainsBehind (over c.args.self.now image)) (sym same)
    (compact.ensures.explains image)) c.expand.ensures

pub returns-clause-fits : goal.returns-clause-fits
returns-clause-fits c =
    let compact = c.in_ok-explain_compactly in
    IfOk-weaker c.expand.result (λ (e : Explanation). explanation_contents e
    ≡ compact_contents compact.field-0) (λ (e : Explanation). (image : List ℕ)
    → FitsRows (over c.args.self.now image) (explanation_contents e))
    (λ e same image. subst (FitsRows (over c.args.self.now image)) (sym same)
    (compact.ensures.fits image)) c.expand.ensures
