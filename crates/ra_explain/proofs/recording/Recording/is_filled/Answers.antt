use Rattle.std.proofs.Common.{◌≡◌, None, [], slice_index_or, ap, subst, ◌∙◌}
use Rattle.std.specs.Prelude.{◌↔◌, IsTrue}
use Rattle.std.specs.Option.{is_some}
use Rattle.ra_condition.specs.Contents.{trigger_contents}
use Rattle.ra_explain.specs.Recorders.{IsFilled}
use Rattle.ra_explain.specs.Recordings.{RecordingSeen, over}
use Rattle.ra_explain.specs.Slots.{counts_of, slot_kept}
use Rattle.ra_explain.proofs.SlotLemmas.{slot_keeps, some_seen, filled_by}
use Rattle.ra_explain.proofs.recording.Recording.is_filled.Goals as goal

pub returns : goal.returns
returns c =
    let r = c.self.inside in
    let t = trigger_contents r.text in
    let found : c.is_some.result ≡ is_some (slice_index_or r.slots.items c.args.slot None) =
    c.is_some.ensures ∙ some_seen (λ kept. kept.now) c.slot_in.result ∙ ap is_some
    (c.slot_in.ensures ∙ ap (λ ss. slice_index_or ss c.args.slot None) c.as_slice.ensures.value) in
    subst (λ (o : RecordingSeen). IsTrue c.is_some.result ↔ IsFilled (over o []) c.args.slot) c.self.view_is
    (filled_by (slot_kept (counts_of t) r.rows.behind) (slice_index_or r.slots.items c.args.slot
    None) _ c.is_some.result (slot_keeps t r.rows.behind r.slots.items c.args.slot) found)
