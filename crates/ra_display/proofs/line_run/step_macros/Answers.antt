use Rattle.std.proofs.Common.{arith}
use Rattle.ra_display.proofs.SteppedLines.{macros_begin, text_on, macro_here, macro_on, macros_end}
use Rattle.ra_display.proofs.line_run.step_macros.Goals as goal
use Rattle.ra_display.proofs.line_run.step_macros.Goals.{in-Macro, in_default}

pub loop-piece-init : goal.loop-piece-init
loop-piece-init c = macros_begin c.args.table.now c.args.pieces.now c.args.member.now c.requires.values

pub step_value-requires-clause-value : goal.step_value-requires-clause-value
step_value-requires-clause-value c =
    macro_here c.args.table.now c.args.pieces.now c.args.member.now c.loop-piece.piece-index
    c.piece-item.result c.loop-piece-test.true c.piece-item.is c.loop-piece.member
    c.loop-piece.place c.loop-piece.invariant c.in-Macro.name c.in-Macro.value c.in-Macro.is

pub overflow_add-place : goal.overflow_add-place
overflow_add-place c =
    omega (
      arith,
      (macro_here c.args.table.now c.args.pieces.now c.args.member.now c.loop-piece.piece-index
          c.piece-item.result c.loop-piece-test.true c.piece-item.is c.loop-piece.member
          c.loop-piece.place c.loop-piece.invariant c.in-Macro.name c.in-Macro.value
          c.in-Macro.is).within,
    )

pub loop-piece-preserved : goal.loop-piece-preserved
loop-piece-preserved c =
    elim c.match-piece.branch [
      | in-Macro w ↦
          let m = w.in-Macro in
          rw (w.member-is, w.place-is) (macro_on c.args.table.now c.args.pieces.now
          c.args.member.now c.loop-piece.piece-index c.piece-item.result c.loop-piece-test.true
          c.piece-item.is c.loop-piece.member c.loop-piece.place c.loop-piece.invariant m.name
          m.value m.is w.step_value.new.self w.step_value.ensures)
      | in_default w ↦
          rw (w.member-is, w.place-is) (text_on c.args.table.now c.args.pieces.now c.args.member.now
          c.loop-piece.piece-index c.piece-item.result c.loop-piece-test.true c.piece-item.is
          c.loop-piece.member c.loop-piece.place c.loop-piece.invariant _ w.in_default.is)
    ]

pub returns : goal.returns
returns c =
    macros_end c.args.table.now c.args.pieces.now c.args.member.now c.loop-piece.piece-index
    c.loop-piece.member c.loop-piece.place (omega arith) c.loop-piece.invariant
