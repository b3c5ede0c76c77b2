use Rattle.std.proofs.Common.{◌<◌, subst, sym, ◌∙◌, refl, arith, length, get_or}
use Rattle.ra_memref.specs.Numbers.{NumbersSeen}
use Rattle.ra_memref.specs.Flags.{NoneSet}
use Rattle.ra_memref.proofs.AgendaLemmas.{IsGathering, gathering_none, gathering_past, gathering_more, gathered}
use Rattle.ra_memref.proofs.agenda.gather_marked.Goals as goal

pub loop-cell-init : goal.loop-cell-init
loop-cell-init c = record {
  gathering = gathering_none c.args.cell_nodes.now c.args.numbers.now.watches.marked c.args.due.now;
  same = refl;
  cells = sym c.requires.cells;
  most = omega arith;
}

pub put-requires : goal.put-requires
put-requires c =
    let within : c.in-Some.cell < length c.args.cell_nodes.now = omega (arith, c.in-Some.ensures.first.within) in
    omega (arith, c.requires.within c.in-Some.cell within, c.loop-cell.invariant.gathering.long)

pub loop-cell-preserved : goal.loop-cell-preserved
loop-cell-preserved c =
    let done = c.loop-cell.invariant in
    let first = c.in-Some.ensures.first in
    let within : c.in-Some.cell < length c.args.cell_nodes.now = omega (arith, first.within, done.cells) in
    let marked = c.args.numbers.now.watches.marked in
    let none = subst (λ (n : NumbersSeen). NoneSet n.watches.marked c.loop-cell.at c.in-Some.cell) done.same
    first.none_before in
    let past = gathering_past c.args.cell_nodes.now marked c.args.due.now c.loop-cell.due c.loop-cell.at
    done.gathering c.in-Some.cell none in
    record {
      gathering = rw c.put.ensures
          (gathering_more c.args.cell_nodes.now marked c.args.due.now c.loop-cell.due c.in-Some.cell past
          (get_or c.args.cell_nodes.now c.in-Some.cell 0) refl (omega
          (arith, c.requires.within c.in-Some.cell within, done.gathering.long)));
      same = c.next_marked.ensures.same ∙ done.same;
      cells = rw c.next_marked.ensures.same done.cells;
      most = omega (arith, within);
    }

pub returns-clause-gathered : goal.returns-clause-gathered
returns-clause-gathered c =
    let done = c.loop-cell.invariant in
    let marked = c.args.numbers.now.watches.marked in
    let none = subst (λ (n : NumbersSeen). NoneSet n.watches.marked c.loop-cell.at
    (length n.watches.marked)) done.same (c.next_marked.ensures.none c.in_default.is) in
    gathered c.args.cell_nodes.now marked c.args.due.now c.loop-cell.due
    (subst (IsGathering c.args.cell_nodes.now c.args.numbers.now.watches.marked c.args.due.now c.loop-cell.due)
    (sym c.requires.cells)
    (gathering_past c.args.cell_nodes.now marked c.args.due.now c.loop-cell.due c.loop-cell.at done.gathering
    (length c.args.numbers.now.watches.marked) none))

pub returns-clause-same : goal.returns-clause-same
returns-clause-same c = c.next_marked.ensures.same ∙ c.loop-cell.invariant.same
