use Rattle.std.proofs.Common.{◌≡◌, ◌+◌, ◌-◌, ◌^◌, length, map, replicate, suc, ap, sym, ◌∙◌, arith}
use Rattle.std.proofs.lemmas.Bool.{false≢true}
use Rattle.std.proofs.lemmas.List.{with_items_is}
use Rattle.ra_condition.specs.Contents.{trigger_contents}
use Rattle.ra_explain.specs.HitChanges.{ChangesSeen, events_of, unchanged, with_rows}
use Rattle.ra_explain.specs.OrderedRows.{joined}
use Rattle.ra_explain.specs.Replays.{hits_through}
use Rattle.ra_explain.proofs.ConditionLemmas.{many_conditions, hits_at, events_at, room_before, first_conditions}
use Rattle.ra_explain.proofs.ConditionLemmas.{next_conditions}
use Rattle.ra_explain.proofs.NextLemmas.{next_together}
use Rattle.ra_explain.proofs.OrderLemmas.{row_is}
use Rattle.ra_explain.proofs.TraceLemmas.{goes_further, hits_further, told_on, same_bools, other_bools}
use Rattle.ra_explain.proofs.tracing.trace.Goals as goal

pub loop-row-init : goal.loop-row-init
loop-row-init c =
    let t = trigger_contents c.args.text.now in
    let since = c.args.since in
    let replay = c.in_ok-replay.ensures.replay in
    let none : 0 ≡ since - since = omega arith in
    let many = c.len-count.ensures ∙ c.in_ok-replay.replay.zeros.ok.0 ∙ replay.zeros in
    record {
      from = omega arith;
      upto = omega (arith, c.requires.since);
      replay = replay;
      good = λ k below. absurd (omega (arith, below));
      hits = c.in_ok-replay.ensures.hits ∙ ap (hits_through t (joined c.args.rows.now) since) none;
      changes = c.in_ok-changes.ensures ∙ ap (λ n. replicate n (unchanged since)) many ∙ first_conditions t _ since;
    }

pub returns-then-said : goal.returns-then-said
returns-then-said c =
    let row = c.loop-row.row in
    let inv = c.loop-row.invariant in
    let is = c.row.ensures ∙ row_is _ _ _ row c.requires.rows (omega (arith, c.loop-row-test.true)) in (
      row - c.args.since,
      omega (arith, inv.from, c.loop-row-test.true),
      λ goes.
          let told = told_on _ _ _ c.args.last row _ _ _ _ c.step-said.ensures.steps inv.from is inv.hits goes in
          elim c.then-said.branch [
            | goal.then-said-via-then-said w ↦ false≢true (sym told.0 ∙ w.if-said.true)
            | goal.then-said-via-else-said+then-said-row w ↦ other_bools _ _ w.if-said-row.true told.1
          ],
    )

pub add_row-requires-clause-after : goal.add_row-requires-clause-after
add_row-requires-clause-after c =
    ap length c.hits.ensures ∙ c.step-said.ensures.replay.hits
    ∙ sym (ap length (c.deref_mut.ensures.value ∙ c.loop-row.invariant.changes)
    ∙ many_conditions (trigger_contents c.args.text.now) (joined c.args.rows.now) c.args.since c.loop-row.row)

pub add_row-requires-clause-next : goal.add_row-requires-clause-next
add_row-requires-clause-next c =
    let t = trigger_contents c.args.text.now in
    let inv = c.loop-row.invariant in
    let same = ap (map (λ (o : ChangesSeen). o.hits)) (c.deref_mut.ensures.value ∙ inv.changes)
    ∙ hits_at t (joined c.args.rows.now) _ c.loop-row.row ∙ sym inv.hits in
    let next = c.hits.ensures ∙ c.step-said.ensures.steps.hits c.if-said.false in
    rw same (rw next (next_together t c.row.result.now _ inv.replay.hits))

pub add_row-requires-clause-room : goal.add_row-requires-clause-room
add_row-requires-clause-room c =
    rw (c.deref_mut.ensures.value ∙ c.loop-row.invariant.changes)
    (room_before (trigger_contents c.args.text.now) (joined c.args.rows.now) c.args.since c.loop-row.row (2 ^ 32)
    (omega (arith, c.loop-row-test.true, c.ranges.last)))

pub loop-row-preserved : goal.loop-row-preserved
loop-row-preserved c =
    let t = trigger_contents c.args.text.now in
    let rows = joined c.args.rows.now in
    let since = c.args.since in
    let row = c.loop-row.row in
    let inv = c.loop-row.invariant in
    let steps = c.step-said.ensures.steps in
    let is = c.row.ensures ∙ row_is _ _ _ row c.requires.rows (omega (arith, c.loop-row-test.true)) in
    let hits = hits_further _ _ since c.args.last row _ _ _ _ steps inv.from is inv.hits c.if-said.false in
    let next : suc (row - since) ≡ row + 1 - since = omega (arith, inv.from) in
    record {
      from = omega (arith, inv.from);
      upto = omega (arith, c.loop-row-test.true);
      replay = c.step-said.ensures.replay;
      good = goes_further _ _ since c.args.last row _ _ _ _ steps inv.from is inv.hits c.if-said.false
          (same_bools _ _ c.if-said-row.false) inv.good;
      hits = hits ∙ ap (hits_through t rows since) next;
      changes = with_items_is c.loop-row.changes _ (c.add_row.auto.changes ∙ c.deref_mut.ensures.len)
          ∙ c.in_ok-add_row.ensures
          ∙ (λ i. with_rows ((c.deref_mut.ensures.value ∙ inv.changes) i) ((c.hits.ensures ∙ hits) i))
          ∙ next_conditions t rows since row inv.from;
    }

pub returns : goal.returns
returns c =
    let inv = c.loop-row.invariant in
    let end : c.loop-row.row ≡ c.args.last + 1 = omega (arith, inv.upto, c.loop-row-test.false) in
    let events = events_at (trigger_contents c.args.text.now) (joined c.args.rows.now) c.args.since c.loop-row.row in
    rw (← end) (inv.good, ap events_of inv.changes ∙ events)
