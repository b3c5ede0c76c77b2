use Rattle.std.proofs.Common.{◌≡◌, ◌+◌, ◌==◌, ◌∙◌, sym, ap, not, map, find, slice_index, arith}
use Rattle.ra_progress.specs.Contents.{shape_contents, own_entries, own_at, entry_shape, EntryShape}
use Rattle.ra_text.specs.Words.{word_at}
use Rattle.ra_progress.specs.Layout.{block_length, own_length, entry_at}
use Rattle.ra_progress.specs.Reading.{bad_state, bad_states, owns_named}
use Rattle.ra_progress.proofs.OwnOrder.{read_as, none_before}
use Rattle.ra_progress.proofs.Passes.{between_next, sized_between, first_is, later_is}
use Rattle.ra_progress.proofs.states.bad_state_of_entry.Goals as goal

pub loop-place-init : goal.loop-place-init
loop-place-init c =
    let owns = own_entries (shape_contents c.args.shape.now) in
    let name : c.name_at.result ≡ (entry_at c.args.bytes.now c.args.at).name = c.name_at.ensures in
    let same = ap (λ name. owns_named name owns) (sym name) ∙ c.own_range-from.ensures.named in
    record {
      sized = ap (find (λ own. not (own_length own == word_at c.args.bytes.now (c.args.at + 16)))) (sym same)
          ∙ none_before _ _ c.requires.sized;
      rest = ap (λ owns. bad_states c.args.bytes.now (map (read_as (c.args.at + 20)) owns)) (sym same);
    }

pub bad_state-requires-clause-within : goal.bad_state-requires-clause-within
bad_state-requires-clause-within c =
    let owns = own_entries (shape_contents c.args.shape.now) in
    let order = c.args.shape.now.entry_order.items in
    let fits = sized_between owns order
    (word_at c.args.bytes.now
    (c.args.at + 16)) c.loop-place.place c.own_range-from.result.1 c.loop-place-test.true
    c.own_range-from.ensures.most c.loop-place.invariant.sized in
    let long : block_length (entry_shape c.own_in_order.result) ≡ own_length
    (own_at owns (slice_index order c.loop-place.place)) = ap block_length c.own_in_order.ensures in
    omega (arith, long, fits.0, c.requires.within)

pub returns-in-Some : goal.returns-in-Some
returns-in-Some c =
    let owns = own_entries (shape_contents c.args.shape.now) in
    let order = c.args.shape.now.entry_order.items in
    let bytes = c.args.bytes.now in
    let next = between_next bytes owns order
    (c.args.at + 20) c.loop-place.place c.own_range-from.result.1 c.loop-place-test.true
    c.own_range-from.ensures.most in
    let here = ap (λ (shape : EntryShape). bad_state bytes (record { at = c.args.at + 20; shape = shape }))
    (sym c.own_in_order.ensures) ∙ sym c.bad_state.ensures ∙ c.in-Some.is in
    sym (sym c.loop-place.invariant.rest ∙ next ∙ first_is
    (bad_state bytes (read_as (c.args.at + 20)
    (own_at owns (slice_index order c.loop-place.place)))) _ c.in-Some.refused here)

pub loop-place-preserved : goal.loop-place-preserved
loop-place-preserved c =
    let owns = own_entries (shape_contents c.args.shape.now) in
    let order = c.args.shape.now.entry_order.items in
    let bytes = c.args.bytes.now in
    let fits = sized_between owns order
    (word_at bytes
    (c.args.at + 16)) c.loop-place.place c.own_range-from.result.1 c.loop-place-test.true
    c.own_range-from.ensures.most c.loop-place.invariant.sized in
    let next = between_next bytes owns order
    (c.args.at + 20) c.loop-place.place c.own_range-from.result.1 c.loop-place-test.true
    c.own_range-from.ensures.most in
    let here = ap (λ (shape : EntryShape). bad_state bytes (record { at = c.args.at + 20; shape = shape }))
    (sym c.own_in_order.ensures) ∙ sym c.bad_state.ensures ∙ c.in_default.is in
    record {
      sized = fits.1;
      rest = sym (next ∙ later_is
          (bad_state bytes (read_as (c.args.at + 20) (own_at owns (slice_index order c.loop-place.place)))) _ here)
          ∙ c.loop-place.invariant.rest;
    }
