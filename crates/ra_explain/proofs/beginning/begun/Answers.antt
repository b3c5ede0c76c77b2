use Rattle.std.proofs.Common.{arith, ◌≡◌, ◌+◌, suc, refl, sym, ap, subst, ◌∙◌}
use Rattle.ra_condition.specs.Contents.{trigger_contents}
use Rattle.ra_trigger.specs.States.{is_waiting}
use Rattle.ra_explain.specs.declared.beginning.Beginning.{Beginning}
use Rattle.ra_explain.specs.Beginnings.{CountAlike, IsBeginning, replayed}
use Rattle.ra_explain.specs.Explains.{row_at}
use Rattle.ra_explain.specs.OrderedRows.{joined}
use Rattle.ra_explain.proofs.AlikeLemmas.{alike_same}
use Rattle.ra_explain.proofs.OrderLemmas.{row_is}
use Rattle.ra_explain.proofs.ReplayedLemmas.{row_alike, begins_on, begins_there}
use Rattle.ra_explain.proofs.beginning.begun.Goals as goal
use Rattle.ra_explain.proofs.beginning.begun.Goals.{then-advance, else-advance}

pub loop-row-init : goal.loop-row-init
loop-row-init c =
    let t = trigger_contents c.args.text.now in
    record {
      upto = omega arith;
      replay = c.in_ok-replay.ensures.replay;
      kept = alike_same c.in_ok-replay.replay.trigger
          (replayed t (joined c.args.rows.now) 0) c.in_ok-replay.ensures.plain;
      begins = record { since = refl; waited = refl };
    }

pub loop-row-preserved : goal.loop-row-preserved
loop-row-preserved c =
    let t = trigger_contents c.args.text.now in
    let rows = joined c.args.rows.now in
    let row = c.loop-row.row in
    let inv = c.loop-row.invariant in
    let old = c.loop-row.replay.trigger in
    let new = c.advance.new.self.trigger in
    let next : suc row ≡ row + 1 = omega arith in
    let cut = c.row.result.now in
    let slice : cut ≡ row_at t rows row = c.row.ensures ∙ row_is t c.args.last c.args.rows.now row
    c.requires.rows (omega (arith, c.loop-row-test.true)) in
    record {
      upto = omega (arith, c.loop-row-test.true);
      replay = c.advance.ensures.replay;
      kept = subst (λ n. CountAlike new (replayed t rows n)) next (row_alike t rows row cut slice
          old new c.advance.result inv.kept c.advance.ensures.steps);
      begins = elim c.if-advance.branch [
        | then-advance w ↦
            subst (λ n. IsBeginning t rows n c.if-advance.beginning) next
            (begins_there t rows row cut slice old new c.advance.result inv.kept
            c.advance.ensures.steps c.if-advance.beginning w.if-advance.true
            (ap (λ (b : Beginning). b.since) w.beginning-is ∙ sym next) (ap (λ (b : Beginning).
            b.waited) w.beginning-is ∙ w.waits-waited.ensures ∙ ap is_waiting w.state.ensures))
        | else-advance w ↦
            subst (λ n. IsBeginning t rows n c.if-advance.beginning) next
            (subst (IsBeginning t rows (suc row)) (sym w.beginning-is)
            (begins_on t rows row cut slice old new c.advance.result inv.kept
            c.advance.ensures.steps c.loop-row.beginning w.if-advance.false inv.begins))
      ];
    }
