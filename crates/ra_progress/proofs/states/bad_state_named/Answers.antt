use Rattle.std.proofs.Common.{◌∙◌, sym, arith}
use Rattle.ra_progress.specs.Contents.{shape_contents, own_entries}
use Rattle.ra_progress.specs.Layout.{entry_at}
use Rattle.ra_progress.specs.Reading.{bad_entry, bad_states, blocks_of_entry}
use Rattle.ra_progress.proofs.Checks.{neither_is}
use Rattle.ra_progress.proofs.Walks.{walk_next}
use Rattle.ra_progress.proofs.Passes.{entries_next, named_next, first_is, later_is}
use Rattle.ra_progress.proofs.states.bad_state_named.Goals as goal

pub bad_state_of_entry-requires-clause-sized : goal.bad_state_of_entry-requires-clause-sized
bad_state_of_entry-requires-clause-sized c =
    let owns = own_entries (shape_contents c.args.shape.now) in
    let next = entries_next owns c.args.bytes.now c.loop-left.left c.loop-left.at c.loop-left-test.true in
    (neither_is (bad_entry owns (entry_at c.args.bytes.now c.loop-left.at)) _
    (sym next ∙ c.loop-left.invariant.sized)).0

pub returns-in-Some : goal.returns-in-Some
returns-in-Some c =
    let owns = own_entries (shape_contents c.args.shape.now) in
    let bytes = c.args.bytes.now in
    let next = named_next owns bytes c.loop-left.left c.loop-left.at c.loop-left-test.true in
    sym (sym c.loop-left.invariant.rest ∙ next ∙ first_is
    (bad_states bytes (blocks_of_entry owns (entry_at bytes c.loop-left.at))) _ c.in-Some.refused
    (sym c.bad_state_of_entry.ensures ∙ c.in-Some.is))

pub loop-left-preserved : goal.loop-left-preserved
loop-left-preserved c =
    let owns = own_entries (shape_contents c.args.shape.now) in
    let bytes = c.args.bytes.now in
    let on = walk_next bytes c.loop-left.left c.loop-left.at c.loop-left-test.true c.loop-left.invariant.walk in
    let sized = neither_is (bad_entry owns (entry_at bytes c.loop-left.at)) _
    (sym (entries_next owns bytes c.loop-left.left c.loop-left.at c.loop-left-test.true)
    ∙ c.loop-left.invariant.sized) in
    let next = named_next owns bytes c.loop-left.left c.loop-left.at c.loop-left-test.true ∙ later_is
    (bad_states bytes (blocks_of_entry owns (entry_at bytes c.loop-left.at))) _
    (sym c.bad_state_of_entry.ensures ∙ c.in_default.is) in
    record {
      walk = rw c.entry_after-at.ensures on.1;
      sized = rw c.entry_after-at.ensures sized.1;
      rest = rw c.entry_after-at.ensures (sym next ∙ c.loop-left.invariant.rest);
    }

pub bad_state_of_entry-requires-clause-within : goal.bad_state_of_entry-requires-clause-within
bad_state_of_entry-requires-clause-within c =
    omega (
      arith,
      (walk_next c.args.bytes.now c.loop-left.left c.loop-left.at c.loop-left-test.true c.loop-left.invariant.walk).0,
    )
