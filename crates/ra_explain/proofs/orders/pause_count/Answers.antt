use Rattle.std.proofs.Common.{◌≡◌, ◌<◌, ◌+◌, ◌-◌, cond, drop, ap, sym, ◌∙◌, arith}
use Rattle.ra_condition.specs.Chains.{ends_in_pause}
use Rattle.ra_explain.proofs.PauseLemmas.{count_turn, pause_combined, pause_last}
use Rattle.ra_explain.proofs.orders.pause_count.Goals as goal
use Rattle.ra_explain.proofs.orders.pause_count.Goals.{then-not-combines, else-not-combines}

pub loop-place-preserved-then-pauses : goal.loop-place-preserved-then-pauses
loop-place-preserved-then-pauses c =
    let cs = c.args.conditions.now in
    let place = c.loop-place.place in
    let inv = c.loop-place.invariant in
    let some : 0 < place = omega (arith, c.loop-place-test.true) in
    let pauses : c.if-not-combines.pauses ≡ ends_in_pause (drop (place - 1) cs) =
    elim c.if-not-combines.branch [
      | then-not-combines w ↦ w.pauses-is ∙ w.is_pause-pauses.ensures
          ∙ pause_last cs (place - 1) (sym c.combines.ensures ∙ w.if-not-combines.true)
      | else-not-combines w ↦ w.pauses-is ∙ pause_combined cs place c.loop-place.pauses some
          (sym c.combines.ensures ∙ w.if-not-combines.false) inv.pauses
    ] in
    let turn = count_turn cs place c.loop-place.count c.if-not-combines.pauses some
    (omega (arith, inv.few)) inv.counted pauses in
    record {
      counted = let one : 1 + c.loop-place.count ≡ c.loop-place.count + 1 = omega arith in
          sym one ∙ ap (λ b. cond b 1 0 + c.loop-place.count) (sym c.if-pauses.true) ∙ turn;
      pauses = pauses;
      few = omega (arith, inv.few, some);
    }

pub loop-place-preserved : goal.loop-place-preserved
loop-place-preserved c =
    let cs = c.args.conditions.now in
    let place = c.loop-place.place in
    let inv = c.loop-place.invariant in
    let some : 0 < place = omega (arith, c.loop-place-test.true) in
    let pauses : c.if-not-combines.pauses ≡ ends_in_pause (drop (place - 1) cs) =
    elim c.if-not-combines.branch [
      | then-not-combines w ↦ w.pauses-is ∙ w.is_pause-pauses.ensures
          ∙ pause_last cs (place - 1) (sym c.combines.ensures ∙ w.if-not-combines.true)
      | else-not-combines w ↦ w.pauses-is ∙ pause_combined cs place c.loop-place.pauses some
          (sym c.combines.ensures ∙ w.if-not-combines.false) inv.pauses
    ] in
    let turn = count_turn cs place c.loop-place.count c.if-not-combines.pauses some
    (omega (arith, inv.few)) inv.counted pauses in
    record {
      counted = let none : 0 + c.loop-place.count ≡ c.loop-place.count = omega arith in
          sym none ∙ ap (λ b. cond b 1 0 + c.loop-place.count) (sym c.if-pauses.false) ∙ turn;
      pauses = pauses;
      few = omega (arith, inv.few, some);
    }
