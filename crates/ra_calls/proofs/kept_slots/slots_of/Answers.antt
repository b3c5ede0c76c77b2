use Rattle.std.proofs.Common.{◌≡◌, ◌∙◌, [], ◌∷◌, ◌++◌, replicate, sym, ap, subst}
use Rattle.std.specs.Prelude.{All, List}
use Rattle.std.proofs.lemmas.List.{map-append, replicate-append-replicate}
use Rattle.std.proofs.lemmas.List.Elements.{All-push}
use Rattle.ra_progress.specs.Contents.{Opening}
use Rattle.ra_runtime.specs.Keeping.{KeptSeen}
use Rattle.ra_calls.specs.GameViews.{openings_of}
use Rattle.ra_calls.specs.Standing.{HasStood, IsSlotOf}
use Rattle.ra_calls.proofs.kept_slots.slots_of.Goals as goal

pub loop-preserved : goal.loop-preserved
loop-preserved c =
    let kept = c.in_ok-kept.kept in
    let course = c.args.course.now in
    let same : kept.opening ≡ course.kept = c.in_ok-kept.ensures.holds in
    let own : IsSlotOf course.set kept =
    record { of_set = c.in_ok-kept.ensures.set; stood = subst (HasStood course.set) (sym same) c.requires } in
    let items : c.push.new.self.items ≡ c.loop.slots.items ++ kept ∷ [] = c.in_ok-push.ensures.items in
    record {
      present =
          ap openings_of items ∙ map-append (λ (k : KeptSeen). k.opening) c.loop.slots.items (kept ∷ [])
          ∙ ap (λ (os : List Opening). os ++ kept.opening ∷ []) c.loop.invariant.present
          ∙ ap (λ (o : Opening). replicate c.loop.counter course.kept ++ o ∷ []) same
          ∙ replicate-append-replicate c.loop.counter 1 course.kept;
      of_set =
          subst (λ (ks : List KeptSeen). All (IsSlotOf course.set) ks) (sym items)
          (All-push (IsSlotOf course.set) c.loop.slots.items kept c.loop.invariant.of_set own);
    }
