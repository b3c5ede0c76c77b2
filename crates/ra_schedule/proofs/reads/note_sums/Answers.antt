use Rattle.std.proofs.Common.{None, slice_index_or, sym, subst}
use Rattle.ra_schedule.specs.Signals.{IsSumRead, KeepsAll}
use Rattle.ra_schedule.proofs.MembersRest.Signals.{keeps_both, keeps_itself, sum_still, sums_more}
use Rattle.ra_schedule.proofs.reads.note_sums.Goals.{in-Some+in_ok-note_node, in_default}
use Rattle.ra_schedule.proofs.reads.note_sums.Goals as goal

pub loop-node-preserved : goal.loop-node-preserved
loop-node-preserved c =
    let nodes = c.args.table.now.nodes in
    let sums = c.args.nodes.now in
    let reader = c.args.reader in
    let place = c.loop-node.node-index in
    let first = c.loop-node.signals in
    let last = c.match-node.signals in
    let one : KeepsAll nodes first last × IsSumRead (slice_index_or sums place None) last.readers reader =
    elim c.match-node.branch [
      | in-Some+in_ok-note_node w ↦ rw w.signals-is (
        w.in_ok-note_node.ensures.keeps nodes,
        subst (λ sum. IsSumRead sum w.note_node.new.self.readers reader)
            (sym w.in-Some.is) w.in_ok-note_node.ensures.reads,
      )
      | in_default w ↦ rw w.signals-is (
        keeps_itself nodes first,
        subst (λ sum. IsSumRead sum first.readers reader) (sym w.in_default.is) tt,
      )
    ] in
    record {
      keeps = keeps_both nodes c.args.signals.now first last c.loop-node.invariant.keeps one.0;
      read = sums_more last.readers reader sums place
          (λ j below. sum_still first.readers last.readers reader one.0.kept
          (slice_index_or sums j None) (c.loop-node.invariant.read j below)) one.1;
    }
