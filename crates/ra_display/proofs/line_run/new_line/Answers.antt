use Rattle.std.proofs.Common.{◌≡◌, ◌+◌, ◌<◌, ◌∷◌, ◌++◌, [], length, map, take, get_or, option_map, sym, ◌∙◌, ap, subst}
use Rattle.std.proofs.Common.{arith}
use Rattle.std.specs.List.{filter_map}
use Rattle.std.proofs.lemmas.List.{take_all}
use Rattle.std.proofs.lemmas.List.Elements.{filter_map-append}
use Rattle.ra_condition.specs.Contents.{trigger_contents}
use Rattle.ra_richpresence.specs.Contents.{line_contents, piece_contents, value_in}
use Rattle.ra_richpresence.specs.Spelled.{IsPiece}
use Rattle.ra_set.specs.Limits.{optional_value}
use Rattle.ra_member.specs.MemberRuns.{IsNewMember}
use Rattle.ra_member.proofs.GrowthLemmas.{taken_next, holds_at, weight_at}
use Rattle.ra_meaning.specs.LineMembers.{tests_in}
use Rattle.ra_display.proofs.NewLines.{line_made, macro_conditions}
use Rattle.ra_meaning.proofs.Spelled.Lines.{test_conditions}
use Rattle.ra_display.proofs.line_run.new_line.Goals as goal

pub put_piece-requires-clause-spelled : goal.put_piece-requires-clause-spelled
put_piece-requires-clause-spelled c =
    let pieces = c.args.line.now.pieces.items in
    let k = c.loop-piece.piece-index in
    let piece = c.piece-item.result in
    let within : k < length pieces = omega (arith, c.deref-piece-items.ensures.len) in
    let is : piece ≡ get_or pieces k piece =
    c.piece-item.is ∙ ap (λ xs. get_or xs k piece) c.deref-piece-items.ensures.value in
    holds_at piece_contents pieces k piece within is IsPiece c.requires.spelled.pieces

pub put_piece-requires-clause-room : goal.put_piece-requires-clause-room
put_piece-requires-clause-room c =
    let pieces = c.args.line.now.pieces.items in
    let k = c.loop-piece.piece-index in
    let piece = c.piece-item.result in
    let within : k < length pieces = omega (arith, c.deref-piece-items.ensures.len) in
    let is : piece ≡ get_or pieces k piece =
    c.piece-item.is ∙ ap (λ xs. get_or xs k piece) c.deref-piece-items.ensures.value in
    omega (
      arith,
      weight_at piece_contents pieces k piece within is (λ p. optional_value (value_in p)),
      c.loop-piece.invariant.grows.few,
      c.requires.room,
      macro_conditions (map piece_contents (take k pieces)),
      macro_conditions (map piece_contents pieces),
      test_conditions (line_contents c.args.line.now).test,
    )

pub loop-piece-preserved : goal.loop-piece-preserved
loop-piece-preserved c =
    let pieces = c.args.line.now.pieces.items in
    let tests = tests_in (option_map trigger_contents c.args.line.now.test) in
    let k = c.loop-piece.piece-index in
    let piece = c.piece-item.result in
    let within : k < length pieces = omega (arith, c.deref-piece-items.ensures.len) in
    let is : piece ≡ get_or pieces k piece =
    c.piece-item.is ∙ ap (λ xs. get_or xs k piece) c.deref-piece-items.ensures.value in
    let before = map piece_contents (take k pieces) in
    let next : filter_map value_in (map piece_contents (take (k + 1) pieces))
    ≡ filter_map value_in before ++ filter_map value_in (piece_contents piece ∷ []) =
    ap (filter_map value_in) (taken_next piece_contents pieces k piece within is)
    ∙ filter_map-append value_in before (piece_contents piece ∷ []) in
    subst (λ vs. IsNewMember c.args.pool.now c.put_piece.new.pool
    (record { tests = tests; values = vs }) c.put_piece.new.member) (sym next)
    (c.in_ok-put_piece.ensures c.args.pool.now
    (record { tests = tests; values = filter_map value_in before }) c.loop-piece.invariant)

pub returns : goal.returns
returns c =
    let pieces = c.args.line.now.pieces.items in
    let k = c.loop-piece.piece-index in
    let all : take k pieces ≡ pieces = take_all k pieces (omega (arith, c.deref-piece-items.ensures.len)) in
    let made = rw all at c.loop-piece.invariant in
    line_made c.args.pool.now c.loop-piece.pool (line_contents c.args.line.now) c.loop-piece.member made
