use Rattle.std.proofs.Common.{arith, ◌≡◌, ◌+◌, ◌-◌, ◌*◌, ℕ, List, length, ap, sym, subst, ◌∙◌}
use Rattle.std.specs.List.{AllByRecursion}
use Rattle.std.proofs.lemmas.List.{length-reverse}
use Rattle.std.proofs.lemmas.Result.{IfOk-weaker}
use Rattle.ra_condition.specs.Contents.{trigger_contents, trigger_hits}
use Rattle.ra_explain.specs.declared.compact.CompactExplanation.{CompactExplanation}
use Rattle.ra_explain.specs.Beginnings.{StandsAtUnlock, UnlocksLast, ExplainsRows}
use Rattle.ra_explain.specs.Compacts.{compact_contents}
use Rattle.ra_explain.specs.OrderedRows.{joined}
use Rattle.ra_explain.specs.Recorders.{KeptRows}
use Rattle.ra_explain.specs.Recordings.{RecordingSeen, over}
use Rattle.ra_explain.specs.RowLists.{rows_from}
use Rattle.ra_explain.specs.Slots.{kept_by}
use Rattle.ra_explain.specs.Unlocks.{ExplainsBehind, FitsRows}
use Rattle.ra_explain.proofs.BeginningLemmas.{begins_within}
use Rattle.ra_explain.proofs.ExplainedLemmas.{some_rows, long_rows, unlocks_last, explains_each}
use Rattle.ra_explain.proofs.recording.Recording.explain_compactly.Goals as goal

pub explained-requires-clause-rows : goal.explained-requires-clause-rows
explained-requires-clause-rows c =
    let r = c.self.inside in
    let t = trigger_contents r.text in
    let kept : KeptRows = kept_by r.table r.run.trigger (rows_from r.rows.behind r.latest) in
    let at : StandsAtUnlock t kept =
    c.self.invariant.unlock (ap (λ (o : RecordingSeen). o.unlocked) c.self.view_is ∙ c.requires) in
    let last = c.count-count.result - 1 in
    let is : last + 1 ≡ length kept.rows = omega (arith, c.count-count.ensures, some_rows t kept at) in
    record {
      count = ap length c.in_ok-rows.ensures.rows ∙ length-reverse kept.rows ∙ sym is;
      width = subst (λ n. AllByRecursion (λ row. length row ≡ n) c.in_ok-rows.rows)
          c.self.invariant.width c.in_ok-rows.ensures.width;
    }

pub explained-requires-clause-unlock : goal.explained-requires-clause-unlock
explained-requires-clause-unlock c =
    let r = c.self.inside in
    let t = trigger_contents r.text in
    let kept : KeptRows = kept_by r.table r.run.trigger (rows_from r.rows.behind r.latest) in
    let at : StandsAtUnlock t kept =
    c.self.invariant.unlock (ap (λ (o : RecordingSeen). o.unlocked) c.self.view_is ∙ c.requires) in
    let last = c.count-count.result - 1 in
    let is : last + 1 ≡ length kept.rows = omega (arith, c.count-count.ensures, some_rows t kept at) in
    subst (λ rows. UnlocksLast t rows last) (sym (ap joined c.in_ok-rows.ensures.rows)) (unlocks_last t kept at last is)

pub returns-clause-explains : goal.returns-clause-explains
returns-clause-explains c =
    let r = c.self.inside in
    let t = trigger_contents r.text in
    let kept : KeptRows = kept_by r.table r.run.trigger (rows_from r.rows.behind r.latest) in
    let at : StandsAtUnlock t kept =
    c.self.invariant.unlock (ap (λ (o : RecordingSeen). o.unlocked) c.self.view_is ∙ c.requires) in
    let last = c.count-count.result - 1 in
    let is : last + 1 ≡ length kept.rows = omega (arith, c.count-count.ensures, some_rows t kept at) in
    IfOk-weaker c.explained.result (λ (e : CompactExplanation). ExplainsRows t
    (joined c.in_ok-rows.rows) last (compact_contents e)) (λ (e : CompactExplanation).
    (image : List ℕ) → ExplainsBehind (over c.args.self.now image) (compact_contents e))
    (λ e x image. subst (λ (o : RecordingSeen). ExplainsBehind (over o image) (compact_contents e)) c.self.view_is
    (λ history stands. explains_each t kept at (joined c.in_ok-rows.rows) last (compact_contents e)
    (ap joined c.in_ok-rows.ensures.rows) is x history stands)) c.explained.ensures

pub returns-clause-fits : goal.returns-clause-fits
returns-clause-fits c =
    let r = c.self.inside in
    let t = trigger_contents r.text in
    let kept : KeptRows = kept_by r.table r.run.trigger (rows_from r.rows.behind r.latest) in
    let at : StandsAtUnlock t kept =
    c.self.invariant.unlock (ap (λ (o : RecordingSeen). o.unlocked) c.self.view_is ∙ c.requires) in
    let last = c.count-count.result - 1 in
    let is : last + 1 ≡ length kept.rows = omega (arith, c.count-count.ensures, some_rows t kept at) in
    IfOk-weaker c.explained.result (λ (e : CompactExplanation). ExplainsRows t
    (joined c.in_ok-rows.rows) last (compact_contents e)) (λ (e : CompactExplanation).
    (image : List ℕ) → FitsRows (over c.args.self.now image) (compact_contents e))
    (λ e x image. subst (λ (o : RecordingSeen). FitsRows (over o image) (compact_contents e)) c.self.view_is (record {
      rows = long_rows t kept at last is ∙ ap (λ n. (n + 1) * trigger_hits t) (sym x.last_too);
      since = let within = begins_within t (joined c.in_ok-rows.rows) last in
          omega (arith, within, x.since, x.last_too);
      events = x.many;
    })) c.explained.ensures
