use Rattle.std.proofs.Common.{ℕ, List}
use Rattle.std.proofs.lemmas.Result.{IfOk-weaker}
use Rattle.ra_explain.specs.declared.explanation.Explanation.{Explanation}
use Rattle.ra_explain.specs.Explains.{explanation_contents}
use Rattle.ra_explain.specs.Recordings.{over}
use Rattle.ra_explain.specs.Seen.{recorder_seen}
use Rattle.ra_explain.specs.Unlocks.{ExplainsBehind, FitsRows}
use Rattle.ra_explain.proofs.recorder.Recorder.explain.Goals as goal

pub returns-clause-explains : goal.returns-clause-explains
returns-clause-explains c =
    let t = c.self.inside in
    rw (← c.self.view_is) (IfOk-weaker c.explain.result (λ (e : Explanation). (image : List ℕ)
    → ExplainsBehind (over t.recording image) (explanation_contents e))
    (λ (e : Explanation). ExplainsBehind (recorder_seen t) (explanation_contents e))
    (λ e explains. explains t.memory) c.explain.ensures.explains)

pub returns-clause-fits : goal.returns-clause-fits
returns-clause-fits c =
    let t = c.self.inside in
    rw (← c.self.view_is) (IfOk-weaker c.explain.result (λ (e : Explanation). (image : List ℕ)
    → FitsRows (over t.recording image) (explanation_contents e)) (λ (e : Explanation). FitsRows
    (recorder_seen t) (explanation_contents e)) (λ e fits. fits t.memory) c.explain.ensures.fits)
