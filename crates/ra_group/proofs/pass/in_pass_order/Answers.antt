use Rattle.std.proofs.Common.{◌≡◌, Bool, true, false, ◌&&◌, cond, leb, List, get_or, set, length, sym, ap, ◌∙◌, subst}
use Rattle.std.proofs.Common.{arith, ℕ}
use Rattle.std.proofs.lemmas.List.{take_all}
use Rattle.std.proofs.lemmas.Bool.{cond-true, cond-false}
use Rattle.ra_condition.proofs.OrderLemmas.{pausing, place_below}
use Rattle.ra_group.specs.Equations.{frame_of}
use Rattle.ra_group.specs.Outcome.{outcome_of}
use Rattle.ra_group.proofs.PassLemmas.{HasPassed, passed_outcome, passed_hits}
use Rattle.ra_group.proofs.TurnLemmas.{IsVisited, turn_bound, turn_visited}
use Rattle.ra_group.proofs.pass.in_pass_order.Goals as goal
use Rattle.ra_group.proofs.pass.in_pass_order.Goals.{then-pass, else-pass, then-not-frozen, else-not-frozen}

pub bounds-conditions-place : goal.bounds-conditions-place
bounds-conditions-place c = place_below c.args.conditions.now _ c.loop-turn.turn c.requires.order c.loop-turn-test.true

pub bounds-truths-place : goal.bounds-truths-place
bounds-truths-place c =
    omega (arith, place_below c.args.conditions.now _ c.loop-turn.turn c.requires.order c.loop-turn-test.true)

pub bounds-lefts-place : goal.bounds-lefts-place
bounds-lefts-place c =
    omega (arith, place_below c.args.conditions.now _ c.loop-turn.turn c.requires.order c.loop-turn-test.true)

pub bounds-hits-place : goal.bounds-hits-place
bounds-hits-place c =
    omega (arith, place_below c.args.conditions.now _ c.loop-turn.turn c.requires.order c.loop-turn-test.true)

pub bounds-hits-place-then-not-frozen : goal.bounds-hits-place-then-not-frozen
bounds-hits-place-then-not-frozen c =
    omega (arith, place_below c.args.conditions.now _ c.loop-turn.turn c.requires.order c.loop-turn-test.true)

pub visit_any-next-requires : goal.visit_any-next-requires
visit_any-next-requires c =
    let f = frame_of c.args.conditions.now c.args.reads.now.truths.now c.args.reads.now.lefts.now c.args.hits.now in
    let fits = c.type_inv.orders c.loop-turn.turn in
    turn_bound c.loop-turn.pass.form f c.args.reads.now.orders.now c.loop-turn.turn c.requires.order
    c.loop-turn-test.true c.loop-turn.pass.before c.loop-turn.pass.tally c.loop-turn.hits c.loop-turn.invariant.small
    (omega arith) c.loop-turn.invariant.passed

-- whether the turn leaves the hits, and which hits it leaves
frozen_paused : (frozen paused late : Bool) → paused ≡ true → frozen ≡ late → frozen ≡ (paused && late)
frozen_paused frozen paused late e is = is ∙ sym (ap (λ b. b && late) e)

frozen_open : (frozen paused late : Bool) → paused ≡ false → frozen ≡ paused → frozen ≡ (paused && late)
frozen_open frozen paused late e is = is ∙ e ∙ sym (ap (λ b. b && late) e)

pub loop-turn-preserved : goal.loop-turn-preserved
loop-turn-preserved c =
    let f = frame_of c.args.conditions.now c.args.reads.now.truths.now c.args.reads.now.lefts.now c.args.hits.now in
    let turn = c.loop-turn.turn in
    let place = get_or c.args.reads.now.orders.now turn 0 in
    let late = leb (length (pausing f.conditions)) turn in
    let same_late = ap (λ ns. leb (get_or ns 0 0) turn) c.requires.pauses in
    let is_frozen : c.if-pass.frozen ≡ (c.loop-turn.pass.tally.paused && late) =
    elim c.if-pass.branch [
      | then-pass w ↦ frozen_paused _ _ late w.if-pass.true (w.frozen-is ∙ same_late)
      | else-pass w ↦ frozen_open _ _ late w.if-pass.false w.frozen-is
    ] in
    let is_hits : c.if-not-frozen.hits
    ≡ cond c.if-pass.frozen c.loop-turn.hits (set c.loop-turn.hits place c.visit_any-next.result) =
    elim c.if-not-frozen.branch [
      | then-not-frozen w ↦ w.hits-is ∙ sym (cond-false _ _ _ w.if-not-frozen.true)
      | else-not-frozen w ↦ w.hits-is ∙ sym (cond-true _ _ _ w.if-not-frozen.false)
    ] in
    let visited : IsVisited c.loop-turn.pass.form f place c.if-pass.frozen c.loop-turn.pass.before
    c.visit_any-next.new.self.before c.loop-turn.pass.tally c.visit_any-next.new.self.tally c.loop-turn.hits
    c.if-not-frozen.hits = record {
      carries = c.visit_any-next.ensures.carries;
      tallies = c.visit_any-next.ensures.tallies;
      writes = is_hits ∙ ap
          (λ n. cond c.if-pass.frozen c.loop-turn.hits (set c.loop-turn.hits place n)) c.visit_any-next.ensures.hits;
    } in
    record {
      passed = rw c.visit_any-next.ensures.form (turn_visited c.loop-turn.pass.form f c.args.reads.now.orders.now turn
          c.requires.order c.loop-turn-test.true c.if-pass.frozen c.loop-turn.pass.before
          c.visit_any-next.new.self.before c.loop-turn.pass.tally c.visit_any-next.new.self.tally c.loop-turn.hits
          c.if-not-frozen.hits (omega arith) is_frozen visited c.loop-turn.invariant.passed);
      form = c.visit_any-next.ensures.form ∙ c.loop-turn.invariant.form;
      small = c.loop-turn.invariant.small;
    }

pub returns-clause-outcome : goal.returns-clause-outcome
returns-clause-outcome c =
    let f = frame_of c.args.conditions.now c.args.reads.now.truths.now c.args.reads.now.lefts.now c.args.hits.now in
    let all = take_all c.loop-turn.turn c.args.reads.now.orders.now (omega arith) ∙ c.requires.order in
    let passed = subst (λ (js : List ℕ). HasPassed c.loop-turn.pass.form f js c.loop-turn.pass.before
    c.loop-turn.pass.tally c.loop-turn.hits) all c.loop-turn.invariant.passed in
    c.outcome.ensures ∙ passed_outcome c.loop-turn.pass.form f c.loop-turn.pass.before c.loop-turn.pass.tally
    c.loop-turn.hits passed ∙ ap (λ m. outcome_of m f) (c.loop-turn.invariant.form ∙ c.new-pass.ensures.form)

pub returns-clause-next : goal.returns-clause-next
returns-clause-next c =
    let f = frame_of c.args.conditions.now c.args.reads.now.truths.now c.args.reads.now.lefts.now c.args.hits.now in
    let all = take_all c.loop-turn.turn c.args.reads.now.orders.now (omega arith) ∙ c.requires.order in
    let passed = subst (λ (js : List ℕ). HasPassed c.loop-turn.pass.form f js c.loop-turn.pass.before
    c.loop-turn.pass.tally c.loop-turn.hits) all c.loop-turn.invariant.passed in
    passed_hits c.loop-turn.pass.form f c.loop-turn.pass.before c.loop-turn.pass.tally c.loop-turn.hits
    (omega arith) passed
