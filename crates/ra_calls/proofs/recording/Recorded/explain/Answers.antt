use Rattle.std.proofs.Common.{◌≡◌, ◌∙◌, ℕ, List, [], true, ap, subst, sym, length, map, arith}
use Rattle.std.proofs.lemmas.List.{length-map}
use Rattle.ra_condition.specs.Contents.{trigger_hits}
use Rattle.ra_explain.specs.declared.explanation.Events.{Events}
use Rattle.ra_explain.specs.Explains.{explanation_contents}
use Rattle.ra_explain.specs.Recordings.{RecordingSeen, over}
use Rattle.ra_explain.specs.Replays.{contents_of}
use Rattle.ra_explain.specs.Unlocks.{ExplainsBehind}
use Rattle.ra_calls.specs.ToldUnlocks.{all_hits}
use Rattle.ra_calls.proofs.recording.Recorded.explain.Goals as goal

-- the events are as many as the conditions of the trigger
pub hits_of-requires : goal.hits_of-requires
hits_of-requires c =
    let e = c.in_ok-explanation.explanation in
    let fits : length (map (λ (own : Events). own.list.items) e.events.items)
    ≡ trigger_hits c.self.inside.recording.trigger = (c.in_ok-explanation.ensures.fits []).events in
    let long : length c.deref.result.now ≡ length e.events.items = ap length c.deref.ensures.value in
    omega (arith, long, fits, c.self.invariant.few, length-map e.events.items (λ (own : Events). own.list.items))

pub returns-clause-told : goal.returns-clause-told
returns-clause-told c =
    let of = explanation_contents c.in_ok-explanation.explanation in
    let unlocked : c.self.inside.unlocked ≡ true = cc in (
      ap (λ (r : RecordingSeen). r.unlocked) (sym c.self.view_is) ∙ sym c.self.invariant.unlocked ∙ unlocked,
      record {
        of = of;
        explains = subst (λ (r : RecordingSeen). (image : List ℕ)
            → ExplainsBehind (over r image) of) c.self.view_is c.in_ok-explanation.ensures.explains;
        head = c.head_of.ensures;
        hits = c.in_ok-hits.ensures ∙ ap (λ events. all_hits 0 (contents_of events)) c.deref.ensures.value;
      },
    )
