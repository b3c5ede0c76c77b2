use Rattle.std.proofs.Common.{◌≡◌, suc, ◌^◌, [], Option, false, slice_index, slice_index_or, get_or-set_same}
use Rattle.std.proofs.Common.{get_or-set_other, sym, ap, ◌∙◌, subst, add-one, arith, below_more}
use Rattle.ra_condition.specs.Contents.{condition_at}
use Rattle.ra_group.specs.Bounds.{AddWithin}
use Rattle.ra_group.specs.declared.settled.Settled.{Settled}
use Rattle.ra_group.specs.declared.standing.Standing.{Standing}
use Rattle.ra_group.specs.Equations.{Frame, frame_of, prev_of, settled, settled_at, seen_after, met}
use Rattle.ra_group.specs.Standings.{no_standing}
use Rattle.ra_group.proofs.BoundsLemmas.{AddWithin-prev_of}
use Rattle.ra_group.proofs.standing.stand.Goals as goal

pub of-here-requires : goal.of-here-requires
of-here-requires c =
    let f : Frame = frame_of c.args.conditions.now c.args.truths.now [] c.args.hits.now in
    subst (λ (p : Option Settled). AddWithin (2 ^ 65) p) (sym c.loop-place.invariant.carries)
    (AddWithin-prev_of f (λ k. omega (arith, c.type_inv.hits k)) c.loop-place.place (omega arith))

pub loop-place-preserved : goal.loop-place-preserved
loop-place-preserved c =
    let f : Frame = frame_of c.args.conditions.now c.args.truths.now [] c.args.hits.now in
    let place = c.loop-place.place in
    let carries = c.loop-place.invariant.carries in
    let own = condition_at f.conditions place in
    let here : c.of-here.result ≡ settled_at f place = c.of-here.ensures ∙ ap
    (λ p. settled own (slice_index_or f.truths place false) (slice_index f.hits place) p) carries in
    let is_met : c.is_met.result ≡ met (prev_of f place) (slice_index_or f.truths place false) =
    c.is_met.ensures ∙ ap (λ p. met p (slice_index_or f.truths place false)) carries in
    let next : c.carried-before.result ≡ prev_of f (suc place) =
    c.carried-before.ensures ∙ (λ i. seen_after own (here i) (carries i)) in
    let told : Standing =
    record {
      met = c.is_met.result;
      reset = c.of-here.result.reset;
      total = c.of-here.result.total;
      valid = c.of-here.result.valid;
    } in
    record {
      carries = next ∙ ap (prev_of f) (sym (add-one place));
      done = below_more _ _
          (λ j below. get_or-set_other c.loop-place.standings place j told no_standing (omega arith)
          ∙ c.loop-place.invariant.done j below)
          (get_or-set_same c.loop-place.standings place told no_standing (omega arith)
          ∙ (λ i. record { met = is_met i; reset = (here i).reset; total = (here i).total; valid = (here i).valid }));
    }
