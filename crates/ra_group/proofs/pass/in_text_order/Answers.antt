use Rattle.std.proofs.Common.{◌+◌, None, set, take, refl, sym, ap, ◌∙◌, arith}
use Rattle.ra_condition.specs.Chains.{pass_order}
use Rattle.ra_group.specs.Equations.{Frame, frame_of}
use Rattle.ra_group.specs.Outcome.{outcome_of}
use Rattle.ra_group.specs.Tallies.{no_tally, outcome_by}
use Rattle.ra_group.proofs.AlongLemmas.{length-pass_order}
use Rattle.ra_group.proofs.PassLemmas.{HasPassed, passed_outcome, passed_hits}
use Rattle.ra_group.proofs.PlainLemmas.{wanting}
use Rattle.ra_group.proofs.TextOrder.{all_in_text, handed_in_text, plain_in_text, turn_in_text, visited_in_text}
use Rattle.ra_group.proofs.TurnLemmas.{turn_bound}
use Rattle.ra_group.proofs.pass.in_text_order.Goals as goal
use Rattle.ra_group.proofs.pass.in_text_order.Goals.{then-is_plain, else-is_plain+else-not-hands_on}

pub loop-place-preserved : goal.loop-place-preserved
loop-place-preserved c =
    let f : Frame = frame_of c.args.conditions.now c.args.truths.now c.args.lefts.now c.args.hits.now in
    let place = c.loop-place.place in
    let now = c.if-is_plain in
    let passed : HasPassed c.args.form f (take (place + 1) (pass_order f.conditions)) None
    (wanting no_tally now.held) now.hits = elim now.branch [
      | then-is_plain w ↦
          rw (w.held-is, w.hits-is, w.more_hits.ensures) (plain_in_text c.args.form f place c.loop-place.held
          c.loop-place.hits c.requires.pauses c.loop-place-test.true (omega arith)
          (c.is_plain.ensures w.if-is_plain.true) c.loop-place.invariant.passed)
      | else-is_plain+else-not-hands_on w ↦
          rw (w.held-is, w.hits-is) (handed_in_text c.args.form f place c.loop-place.held c.loop-place.hits
          c.requires.pauses c.loop-place-test.true (sym w.hands_on.ensures ∙ w.if-not-hands_on.false)
          c.loop-place.invariant.passed)
    ] in
    record { within = omega arith; passed = passed; small = c.loop-place.invariant.small }

pub returns-then-place-count-clause-outcome : goal.returns-then-place-count-clause-outcome
returns-then-place-count-clause-outcome c =
    let f : Frame = frame_of c.args.conditions.now c.args.truths.now c.args.lefts.now c.args.hits.now in
    let all = all_in_text c.args.form f c.loop-place.place None (wanting no_tally c.loop-place.held)
    c.loop-place.hits (omega arith) c.loop-place.invariant.passed in
    c.outcome.ensures
    ∙ ap outcome_by (c.want.ensures ∙ ap (λ t. wanting t c.loop-place.held) c.new-tally.ensures)
    ∙ passed_outcome c.args.form f None (wanting no_tally c.loop-place.held) c.loop-place.hits all

pub returns-then-place-count-clause-next : goal.returns-then-place-count-clause-next
returns-then-place-count-clause-next c =
    let f : Frame = frame_of c.args.conditions.now c.args.truths.now c.args.lefts.now c.args.hits.now in
    passed_hits c.args.form f None (wanting no_tally c.loop-place.held) c.loop-place.hits (omega arith)
    (all_in_text c.args.form f c.loop-place.place None (wanting no_tally c.loop-place.held)
    c.loop-place.hits (omega arith) c.loop-place.invariant.passed)

pub loop-turn-init : goal.loop-turn-init
loop-turn-init c =
    let is = c.want.ensures ∙ ap (λ t. wanting t c.loop-place.held) c.new-tally.ensures in
    record {
      passed = rw is c.loop-place.invariant.passed;
      form = refl;
      small = c.loop-place.invariant.small;
    }

pub visit-next-requires : goal.visit-next-requires
visit-next-requires c =
    let f : Frame = frame_of c.args.conditions.now c.args.truths.now c.args.lefts.now c.args.hits.now in
    let turn = c.loop-turn.turn in
    let at = turn_in_text f.conditions turn c.requires.pauses c.loop-turn-test.true in
    turn_bound c.loop-turn.pass.form f (pass_order f.conditions) turn refl
    (omega (arith, length-pass_order f.conditions)) c.loop-turn.pass.before c.loop-turn.pass.tally
    c.loop-turn.hits c.loop-turn.invariant.small (omega arith) c.loop-turn.invariant.passed

pub loop-turn-preserved : goal.loop-turn-preserved
loop-turn-preserved c =
    let f : Frame = frame_of c.args.conditions.now c.args.truths.now c.args.lefts.now c.args.hits.now in
    let hits' = set c.loop-turn.hits c.loop-turn.turn c.visit-next.result in
    let visit = c.visit-next in
    record {
      passed = rw visit.ensures.form (visited_in_text c.loop-turn.pass.form f c.loop-turn.turn
          c.loop-turn.pass.before visit.new.self.before c.loop-turn.pass.tally visit.new.self.tally
          c.loop-turn.hits hits' c.requires.pauses c.loop-turn-test.true (omega arith)
          (record {
            carries = visit.ensures.carries;
            tallies = visit.ensures.tallies;
            writes = ap (set c.loop-turn.hits c.loop-turn.turn) visit.ensures.hits;
          }) c.loop-turn.invariant.passed);
      form = visit.ensures.form ∙ c.loop-turn.invariant.form;
      small = c.loop-turn.invariant.small;
    }

pub returns-clause-outcome : goal.returns-clause-outcome
returns-clause-outcome c =
    let f : Frame = frame_of c.args.conditions.now c.args.truths.now c.args.lefts.now c.args.hits.now in
    let pass = c.loop-turn.pass in
    c.outcome-2.ensures
    ∙ passed_outcome pass.form f pass.before pass.tally c.loop-turn.hits (all_in_text pass.form f
    c.loop-turn.turn pass.before pass.tally c.loop-turn.hits (omega arith) c.loop-turn.invariant.passed)
    ∙ ap (λ m. outcome_of m f) c.loop-turn.invariant.form

pub returns-clause-next : goal.returns-clause-next
returns-clause-next c =
    let f : Frame = frame_of c.args.conditions.now c.args.truths.now c.args.lefts.now c.args.hits.now in
    let pass = c.loop-turn.pass in
    passed_hits pass.form f pass.before pass.tally c.loop-turn.hits (omega arith) (all_in_text pass.form f
    c.loop-turn.turn pass.before pass.tally c.loop-turn.hits (omega arith) c.loop-turn.invariant.passed)
