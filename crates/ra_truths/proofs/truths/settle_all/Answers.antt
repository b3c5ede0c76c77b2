use Rattle.std.proofs.Common.{◌≡◌, ℕ, ◌+◌, ◌<◌, inl, inr, false, get_or, length, ap, arith, subst, sym, ◌∙◌}
use Rattle.std.proofs.lemmas.Bool.{cases_lt}
use Rattle.std.proofs.lemmas.List.{length-map}
use Rattle.ra_truths.specs.Comparisons.{holds_by, truths_by}
use Rattle.ra_truths.specs.Kept.{KeptSeen}
use Rattle.ra_truths.proofs.SettlingLemmas.{settles_none, settled_all}
use Rattle.ra_truths.proofs.TakingLemmas.{settles_one, front_more, room_one}
use Rattle.ra_truths.proofs.truths.settle_all.Goals as goal

pub loop-at-init : goal.loop-at-init
loop-at-init c = record {
  settles = settles_none (truths_by c.args.table.now.values c.args.comparisons.now) c.args.kept.now c.requires.none
      (c.requires.long ∙ sym (length-map c.args.comparisons.now (holds_by c.args.table.now.values)));
  most = c.next_flip-at.ensures.most;
  done = λ k below.
      sym (ap (λ ts. get_or ts k false) c.truths.ensures) ∙ c.next_flip-at.ensures.same k (omega arith) below;
}

pub settle-requires-clause-room : goal.settle-requires-clause-room
settle-requires-clause-room c =
    room_one c.args.table.now.values c.args.comparisons.now c.args.kept.now c.loop-at.kept
    c.loop-at.invariant.settles c.loop-at.at c.loop-at-test.true

pub loop-at-smaller : goal.loop-at-smaller
loop-at-smaller c = omega (arith, c.next_flip-at-in-loop-at.ensures.after, c.loop-at-test.true)

pub loop-at-preserved : goal.loop-at-preserved
loop-at-preserved c =
    let values = c.args.table.now.values in
    let comparisons = c.args.comparisons.now in
    let settles = c.loop-at.invariant.settles in
    let at : ℕ = c.loop-at.at in
    let below : at < length comparisons = c.loop-at-test.true in
    record {
      settles = rw c.settle.ensures
          (settles_one values comparisons c.args.kept.now c.loop-at.kept settles at below);
      most = c.next_flip-at-in-loop-at.ensures.most;
      done = λ k less. elim (cases_lt k (at + 1)) [
        | inl before ↦
            subst (λ (kept : KeptSeen). get_or kept.truths k false ≡ get_or (truths_by values comparisons) k false)
            (sym c.settle.ensures)
            (front_more values comparisons c.args.kept.now c.loop-at.kept settles at below c.loop-at.invariant.done k
            before)
        | inr later ↦
            sym (ap (λ ts. get_or ts k false) c.truths-in-loop-at.ensures)
            ∙ c.next_flip-at-in-loop-at.ensures.same k later less
      ];
    }

pub returns-clause-settled : goal.returns-clause-settled
returns-clause-settled c =
    let wanted = truths_by c.args.table.now.values c.args.comparisons.now in
    settled_all wanted c.args.kept.now c.loop-at.kept c.loop-at.invariant.settles
    (λ k below. c.loop-at.invariant.done k (omega
    (arith, below, length-map c.args.comparisons.now (holds_by c.args.table.now.values), c.loop-at-test.false)))
