use Rattle.std.proofs.Common.{◌≡◌, ◌+◌, ◌<◌, ◌≤◌, ◌∙◌, sym, ap, length, drop, arith}
use Rattle.ra_progress.specs.Contents.{shape_contents, own_entries, own_at, entry_shape, EntryShape}
use Rattle.ra_progress.specs.Layout.{block_length, own_length}
use Rattle.ra_progress.specs.Reading.{bad_state, bad_states, blocks_from}
use Rattle.ra_progress.proofs.OwnOrder.{read_as}
use Rattle.ra_progress.proofs.Passes.{from_next, from_end, sum_next, first_is, later_is}
use Rattle.ra_progress.proofs.states.bad_state_1.Goals as goal

pub bad_state-requires-clause-within : goal.bad_state-requires-clause-within
bad_state-requires-clause-within c =
    let owns = own_entries (shape_contents c.args.shape.now) in
    let below : c.loop-number.number < length owns = omega
    (arith, c.loop-number-test.true, c.own_count-number-end.ensures) in
    let sum = sum_next owns c.loop-number.number below in
    let long : block_length (entry_shape c.own_shape-own.result) ≡ own_length
    (own_at owns c.loop-number.number) = ap block_length c.own_shape-own.ensures in
    omega (arith, long, sum, c.loop-number.invariant.place)

pub returns-in-Some : goal.returns-in-Some
returns-in-Some c =
    let owns = own_entries (shape_contents c.args.shape.now) in
    let bytes = c.args.bytes.now in
    let below : c.loop-number.number < length owns = omega
    (arith, c.loop-number-test.true, c.own_count-number-end.ensures) in
    let next = from_next bytes owns c.loop-number.number c.loop-number.at below in
    let here = ap (λ (shape : EntryShape). bad_state bytes (record { at = c.loop-number.at; shape = shape }))
    (sym c.own_shape-own.ensures) ∙ sym c.bad_state.ensures ∙ c.in-Some.is in
    sym (sym c.loop-number.invariant.rest ∙ next ∙ first_is
    (bad_state bytes (read_as c.loop-number.at (own_at owns c.loop-number.number))) _ c.in-Some.refused here)

pub loop-number-preserved : goal.loop-number-preserved
loop-number-preserved c =
    let owns = own_entries (shape_contents c.args.shape.now) in
    let bytes = c.args.bytes.now in
    let below : c.loop-number.number < length owns = omega
    (arith, c.loop-number-test.true, c.own_count-number-end.ensures) in
    let sum = sum_next owns c.loop-number.number below in
    let long : c.block_length-at.result ≡ own_length
    (own_at owns c.loop-number.number) = c.block_length-at.ensures.length
    ∙ ap block_length c.own_shape-own.ensures in
    let here = ap (λ (shape : EntryShape). bad_state bytes (record { at = c.loop-number.at; shape = shape }))
    (sym c.own_shape-own.ensures) ∙ sym c.bad_state.ensures ∙ c.in_default.is in
    let next = from_next bytes owns c.loop-number.number c.loop-number.at below ∙ later_is
    (bad_state bytes (read_as c.loop-number.at (own_at owns c.loop-number.number))) _ here in
    record {
      place = omega (arith, long, sum, c.loop-number.invariant.place);
      rest = ap (λ n. bad_states bytes
          (blocks_from (c.loop-number.at + n) (drop (c.loop-number.number + 1) owns))) long ∙
          (sym next ∙ c.loop-number.invariant.rest);
    }

pub returns : goal.returns
returns c =
    let owns = own_entries (shape_contents c.args.shape.now) in
    let over : length owns ≤ c.loop-number.number = omega
    (arith, c.loop-number-test.false, c.own_count-number-end.ensures) in
    sym (from_end c.args.bytes.now owns c.loop-number.number c.loop-number.at over) ∙ c.loop-number.invariant.rest
