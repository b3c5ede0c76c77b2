use Rattle.std.proofs.Common.{◌≡◌, ◌+◌, ◌-◌, ◌<◌, ◌≤◌, ◌∙◌, sym, ap, length, arith}
use Rattle.ra_progress.specs.Contents.{shape_contents, own_entries, own_at, entry_shape, EntryShape}
use Rattle.ra_progress.specs.Layout.{block_length, own_length}
use Rattle.ra_progress.specs.Reading.{bad_state, bad_states, blocks_beside, have_sizes}
use Rattle.ra_progress.proofs.Walks.{walk_next}
use Rattle.ra_progress.proofs.OwnOrder.{read_as}
use Rattle.ra_progress.proofs.Passes.{this_set_entries, this_set_walk, sized_next, beside_next, beside_end, first_is}
use Rattle.ra_progress.proofs.Passes.{later_is}
use Rattle.ra_progress.proofs.states.bad_state_beside.Goals as goal

pub loop-number-init : goal.loop-number-init
loop-number-init c =
    let owns = own_entries (shape_contents c.args.shape.now) in
    let bytes = c.args.bytes.now in
    let entries = this_set_entries owns bytes c.first_entry-at.result c.first_entry-at.ensures c.requires.sized in
    record {
      walk = this_set_walk owns bytes c.first_entry-at.result c.first_entry-at.ensures
          c.requires.layout c.requires.sized;
      sized = ap (have_sizes owns) entries ∙ c.requires.sized;
      rest = ap (λ entries. bad_states bytes (blocks_beside owns entries)) entries;
    }

pub bad_state-requires-clause-within : goal.bad_state-requires-clause-within
bad_state-requires-clause-within c =
    let owns = own_entries (shape_contents c.args.shape.now) in
    let below : c.loop-number.number < length owns = omega
    (arith, c.loop-number-test.true, c.own_count-number-end.ensures) in
    let fits = sized_next c.args.bytes.now owns c.loop-number.number c.loop-number.at below
    c.loop-number.invariant.sized in
    let next = walk_next c.args.bytes.now (length owns - c.loop-number.number) c.loop-number.at
    (omega (arith, below)) c.loop-number.invariant.walk in
    let long : block_length (entry_shape c.own_shape.result) ≡ own_length
    (own_at owns c.loop-number.number) = ap block_length c.own_shape.ensures in
    omega (arith, long, fits.0, next.0)

pub returns-in-Some : goal.returns-in-Some
returns-in-Some c =
    let owns = own_entries (shape_contents c.args.shape.now) in
    let bytes = c.args.bytes.now in
    let below : c.loop-number.number < length owns = omega
    (arith, c.loop-number-test.true, c.own_count-number-end.ensures) in
    let next = beside_next bytes owns c.loop-number.number c.loop-number.at below in
    let here = ap (λ (shape : EntryShape). bad_state bytes (record { at = c.loop-number.at + 20; shape = shape }))
    (sym c.own_shape.ensures) ∙ sym c.bad_state.ensures ∙ c.in-Some.is in
    sym (sym c.loop-number.invariant.rest ∙ next ∙ first_is
    (bad_state bytes (read_as (c.loop-number.at + 20) (own_at owns c.loop-number.number))) _ c.in-Some.refused here)

pub loop-number-preserved : goal.loop-number-preserved
loop-number-preserved c =
    let owns = own_entries (shape_contents c.args.shape.now) in
    let bytes = c.args.bytes.now in
    let below : c.loop-number.number < length owns = omega
    (arith, c.loop-number-test.true, c.own_count-number-end.ensures) in
    let fits = sized_next bytes owns c.loop-number.number c.loop-number.at below c.loop-number.invariant.sized in
    let on = walk_next bytes (length owns - c.loop-number.number) c.loop-number.at
    (omega (arith, below)) c.loop-number.invariant.walk in
    let one : length owns - c.loop-number.number - 1 ≡ length owns - (c.loop-number.number + 1) = omega arith in
    let here = ap (λ (shape : EntryShape). bad_state bytes (record { at = c.loop-number.at + 20; shape = shape }))
    (sym c.own_shape.ensures) ∙ sym c.bad_state.ensures ∙ c.in_default.is in
    let next = beside_next bytes owns c.loop-number.number c.loop-number.at below ∙ later_is
    (bad_state bytes (read_as (c.loop-number.at + 20) (own_at owns c.loop-number.number))) _ here in
    record {
      walk = rw (c.entry_after-at.ensures, ← one) on.1;
      sized = rw c.entry_after-at.ensures fits.1;
      rest = rw c.entry_after-at.ensures (sym next ∙ c.loop-number.invariant.rest);
    }

pub returns : goal.returns
returns c =
    let owns = own_entries (shape_contents c.args.shape.now) in
    let over : length owns ≤ c.loop-number.number = omega
    (arith, c.loop-number-test.false, c.own_count-number-end.ensures) in
    sym (beside_end c.args.bytes.now owns c.loop-number.number c.loop-number.at over) ∙ c.loop-number.invariant.rest
