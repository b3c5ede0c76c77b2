use Rattle.std.proofs.Common.{◌≡◌, ℕ, ◌<◌, inl, inr, false, List, length, get_or, refl, arith, subst, sym, ap, ◌∙◌}
use Rattle.std.proofs.lemmas.List.{length-map}
use Rattle.ra_indirect.proofs.PoolLemmas.{below_or_last}
use Rattle.ra_memref.specs.Table.{IsListed}
use Rattle.ra_truths.specs.Comparisons.{holds_by, truths_by}
use Rattle.ra_links.specs.Rows.{row_at}
use Rattle.ra_truths.proofs.SettlingLemmas.{settles_none, settled_all}
use Rattle.ra_truths.proofs.TakingLemmas.{settles_one, stays_one, room_one, row_more, number_within, settled_changed}
use Rattle.ra_truths.proofs.truths.settle_changed.Goals as goal

pub loop-node-init : goal.loop-node-init
loop-node-init c = record {
  settles = settles_none (truths_by c.args.table.now.values c.args.comparisons.now) c.args.kept.now c.requires.none
      (c.requires.long ∙ sym (length-map c.args.comparisons.now (holds_by c.args.table.now.values)));
  done = λ p k below. absurd (omega (arith, below));
}

pub loop-number-init : goal.loop-number-init
loop-number-init c = record {
  settles = c.loop-node.invariant.settles;
  kept = λ k is. is;
  done = λ q below. absurd (omega (arith, below));
}

pub settle-requires-clause-number : goal.settle-requires-clause-number
settle-requires-clause-number c =
    number_within c.args.comparisons.now c.args.rows.now c.args.table.now c.requires.told.values
    c.changed-node-items.result.now c.row-number-items.result.now c.loop-node.node-index c.loop-number.number-index
    c.requires.uses c.requires.told.changed c.changed-node-items.ensures c.loop-node-test.true
    c.row-number-items.ensures c.loop-number-test.true

pub settle-requires-clause-over : goal.settle-requires-clause-over
settle-requires-clause-over c =
    c.requires.over (get_or c.row-number-items.result.now c.loop-number.number-index 0)
    (number_within c.args.comparisons.now c.args.rows.now c.args.table.now c.requires.told.values
    c.changed-node-items.result.now c.row-number-items.result.now c.loop-node.node-index c.loop-number.number-index
    c.requires.uses c.requires.told.changed c.changed-node-items.ensures c.loop-node-test.true
    c.row-number-items.ensures c.loop-number-test.true)

pub settle-requires-clause-room : goal.settle-requires-clause-room
settle-requires-clause-room c =
    let below = number_within c.args.comparisons.now c.args.rows.now c.args.table.now c.requires.told.values
    c.changed-node-items.result.now c.row-number-items.result.now c.loop-node.node-index c.loop-number.number-index
    c.requires.uses c.requires.told.changed c.changed-node-items.ensures c.loop-node-test.true
    c.row-number-items.ensures c.loop-number-test.true in
    room_one c.args.table.now.values c.args.comparisons.now c.args.kept.now c.loop-number.kept
    c.loop-number.invariant.settles (get_or c.row-number-items.result.now c.loop-number.number-index 0) below

pub loop-number-preserved : goal.loop-number-preserved
loop-number-preserved c =
    let values = c.args.table.now.values in
    let comparisons = c.args.comparisons.now in
    let row = c.row-number-items.result.now in
    let number : ℕ = get_or c.row-number-items.result.now c.loop-number.number-index 0 in
    let done = c.loop-number.invariant in
    let below = number_within c.args.comparisons.now c.args.rows.now c.args.table.now c.requires.told.values
    c.changed-node-items.result.now c.row-number-items.result.now c.loop-node.node-index c.loop-number.number-index
    c.requires.uses c.requires.told.changed c.changed-node-items.ensures c.loop-node-test.true
    c.row-number-items.ensures c.loop-number-test.true in
    rw c.settle.ensures (record {
      settles = settles_one values comparisons c.args.kept.now c.loop-number.kept done.settles number below;
      kept = λ k is.
          stays_one values comparisons c.args.kept.now c.loop-number.kept done.settles number below k (done.kept k is);
      done = row_more values comparisons c.args.kept.now c.loop-number.kept done.settles number below row
          c.loop-number.number-index refl done.done;
    })

pub loop-node-preserved : goal.loop-node-preserved
loop-node-preserved c =
    let wanted = truths_by c.args.table.now.values c.args.comparisons.now in
    let changed = c.changed-node-items.result.now in
    let rows = c.args.rows.now in
    record {
      settles = c.loop-number.invariant.settles;
      done = λ p k least on. elim (below_or_last p c.loop-node.node-index least) [
        | inl before ↦ c.loop-number.invariant.kept k (c.loop-node.invariant.done p k before on)
        | inr here ↦
            let there = subst (IsListed k)
            (ap (λ i. row_at rows (get_or changed i 0)) here ∙ sym c.row-number-items.ensures) on in
            subst (λ i. get_or c.loop-number.kept.truths i false ≡ get_or wanted i false) there.here
            (c.loop-number.invariant.done there.place (omega (arith, there.within, c.loop-number-test.false)))
      ];
    }

pub returns-clause-settled : goal.returns-clause-settled
returns-clause-settled c =
    let comparisons = c.args.comparisons.now in
    let table = c.args.table.now in
    let rows = c.args.rows.now in
    let wanted = truths_by c.args.table.now.values c.args.comparisons.now in
    let kept = c.loop-node.kept in
    let settles = c.loop-node.invariant.settles in
    let done = subst (λ (ns : List ℕ). (p k : ℕ) → p < length ns → IsListed k (row_at rows (get_or ns p 0))
    → get_or kept.truths k false ≡ get_or wanted k false) c.changed-node-items.ensures
    (λ p k below. c.loop-node.invariant.done p k (omega (arith, below, c.loop-node-test.false))) in
    settled_all wanted c.args.kept.now kept settles
    (λ k below. settled_changed comparisons rows table c.requires.over c.requires.uses c.args.kept.now kept
    c.requires.told settles done k (omega (arith, below, length-map comparisons (holds_by table.values))))
