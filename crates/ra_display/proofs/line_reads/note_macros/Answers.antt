use Rattle.std.proofs.Common.{◌≡◌, ◌++◌, ◌∷◌, [], ◌+◌, length, take, sym, ◌∙◌, ap, subst, arith, length-append}
use Rattle.std.proofs.Common.{append-nil}
use Rattle.std.specs.List.{filter_map}
use Rattle.std.proofs.lemmas.List.{take_all}
use Rattle.ra_condition.specs.Contents.{value_contents}
use Rattle.ra_richpresence.specs.Contents.{piece_contents, value_in}
use Rattle.ra_member.specs.declared.value_run.ValueRun.{ValueRun}
use Rattle.ra_member.specs.Runs.{IsValueRun}
use Rattle.ra_schedule.specs.Inputs.{Instant, ValuesSeeSame}
use Rattle.ra_schedule.proofs.MembersRest.Signals.{keeps_both}
use Rattle.ra_schedule.proofs.MembersRest.Woken.{told_still}
use Rattle.ra_display.proofs.Macros.{macros_before}
use Rattle.ra_display.proofs.LineReads.{macro_run, values_see_more}
use Rattle.ra_display.proofs.SteppedLines.{macros_in}
use Rattle.ra_display.proofs.line_reads.note_macros.Goals as goal
use Rattle.ra_display.proofs.line_reads.note_macros.Goals.{in-Macro+in_ok-note_value, in_default}

pub index-requires : goal.index-requires
index-requires c =
    omega (
      arith,
      (macro_run c.args.table.now.nodes c.args.pieces.now c.loop-piece.piece-index
          c.loop-piece.place c.piece-item.result c.in-Macro.name c.in-Macro.value
          c.args.run.now.values.items c.loop-piece-test.true c.piece-item.is c.in-Macro.is
          c.loop-piece.invariant.place c.requires.values).0,
      c.args.run.now.values.ok,
    )

pub note_value-requires-clause-run : goal.note_value-requires-clause-run
note_value-requires-clause-run c =
    let run = c.index.result.now in
    subst (λ (r : ValueRun). IsValueRun c.args.table.now.nodes (value_contents c.in-Macro.value) r)
    (sym c.index.ensures)
    ((macro_run c.args.table.now.nodes c.args.pieces.now c.loop-piece.piece-index c.loop-piece.place
    c.piece-item.result c.in-Macro.name c.in-Macro.value c.args.run.now.values.items
    c.loop-piece-test.true c.piece-item.is c.in-Macro.is c.loop-piece.invariant.place
    c.requires.values).1 run)

pub overflow_add-place : goal.overflow_add-place
overflow_add-place c =
    omega (
      arith,
      (macro_run c.args.table.now.nodes c.args.pieces.now c.loop-piece.piece-index
          c.loop-piece.place c.piece-item.result c.in-Macro.name c.in-Macro.value
          c.args.run.now.values.items c.loop-piece-test.true c.piece-item.is c.in-Macro.is
          c.loop-piece.invariant.place c.requires.values).0,
    )

pub loop-piece-preserved : goal.loop-piece-preserved
loop-piece-preserved c =
    let nodes = c.args.table.now.nodes in
    let pieces = c.args.pieces.now in
    let reader = c.args.reader in
    let k = c.loop-piece.piece-index in
    let first = c.loop-piece.signals in
    let done = macros_in (take k pieces) in
    let more = macros_before pieces k c.piece-item.result c.loop-piece-test.true c.piece-item.is in
    elim c.match-piece.branch [
      | in-Macro+in_ok-note_value w ↦
          let m = w.in-Macro in
          let last = w.note_value.new.signals in
          let parts = value_contents m.value in
          let next : macros_in (take (k + 1) pieces) ≡ done ++ parts ∷ [] =
          more ∙ ap (λ p. done ++ filter_map value_in (piece_contents p ∷ [])) m.is in
          let one = w.in_ok-note_value.ensures in
          let still = told_still (λ (now later : Instant). ValuesSeeSame now later done) nodes
          first.comparisons last.comparisons first.readers last.readers reader one.keeps.front
          one.keeps.kept c.loop-piece.invariant.told in
          rw (w.signals-is, w.place-is) (record {
            keeps = keeps_both nodes c.args.signals.now first last c.loop-piece.invariant.keeps one.keeps;
            place = omega (arith, c.loop-piece.invariant.place, ap length next, length-append done (parts ∷ []));
            told = λ values values' now later at at' agree.
                subst (ValuesSeeSame now later) (sym next)
                (values_see_more now later done parts (still values values' now later at at' agree)
                (one.told values values' now later at at' agree));
          })
      | in_default w ↦
          let next : macros_in (take (k + 1) pieces) ≡ done = more ∙ ap (λ p. done
          ++ filter_map value_in (piece_contents p ∷ [])) w.in_default.is ∙ append-nil done in
          rw (w.signals-is, w.place-is, next) c.loop-piece.invariant
    ]

pub returns-clause-told : goal.returns-clause-told
returns-clause-told c = λ values values' now later at at' agree.
    let pieces = c.args.pieces.now in
    let whole : take c.loop-piece.piece-index pieces ≡ pieces =
    take_all c.loop-piece.piece-index pieces (omega arith) in
    subst (λ ps. ValuesSeeSame now later (macros_in ps)) whole
    (c.loop-piece.invariant.told values values' now later at at' agree)
