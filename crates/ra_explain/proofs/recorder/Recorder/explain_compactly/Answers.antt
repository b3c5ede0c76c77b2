use Rattle.std.proofs.Common.{ℕ, List}
use Rattle.std.proofs.lemmas.Result.{IfOk-weaker}
use Rattle.ra_explain.specs.declared.compact.CompactExplanation.{CompactExplanation}
use Rattle.ra_explain.specs.Compacts.{compact_contents}
use Rattle.ra_explain.specs.Recordings.{over}
use Rattle.ra_explain.specs.Seen.{recorder_seen}
use Rattle.ra_explain.specs.Unlocks.{ExplainsBehind, FitsRows}
use Rattle.ra_explain.proofs.recorder.Recorder.explain_compactly.Goals as goal

pub returns-clause-explains : goal.returns-clause-explains
returns-clause-explains c =
    let t = c.self.inside in
    rw (← c.self.view_is) (IfOk-weaker c.explain_compactly.result (λ (e : CompactExplanation).
    (image : List ℕ) → ExplainsBehind (over t.recording image) (compact_contents e)) (λ
    (e : CompactExplanation). ExplainsBehind (recorder_seen t) (compact_contents e)) (λ e explains.
    explains t.memory) c.explain_compactly.ensures.explains)

pub returns-clause-fits : goal.returns-clause-fits
returns-clause-fits c =
    let t = c.self.inside in
    rw (← c.self.view_is) (IfOk-weaker c.explain_compactly.result (λ (e : CompactExplanation).
    (image : List ℕ) → FitsRows (over t.recording image) (compact_contents e)) (λ (e :
    CompactExplanation). FitsRows (recorder_seen t) (compact_contents e)) (λ e fits. fits t.memory)
    c.explain_compactly.ensures.fits)
