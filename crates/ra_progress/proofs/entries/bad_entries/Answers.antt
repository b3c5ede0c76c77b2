use Rattle.std.proofs.Common.{◌∙◌, ◌-◌, sym}
use Rattle.ra_progress.specs.Contents.{shape_contents, own_entries}
use Rattle.ra_progress.specs.Layout.{entry_at, entry_after, entries_from}
use Rattle.ra_progress.specs.Reading.{bad_entry, bad_entries}
use Rattle.ra_progress.proofs.Walks.{walk_next}
use Rattle.ra_progress.proofs.Passes.{entries_next, first_is, later_is}
use Rattle.ra_progress.proofs.entries.bad_entries.Goals as goal

pub returns-in-Some : goal.returns-in-Some
returns-in-Some c =
    let owns = own_entries (shape_contents c.args.shape.now) in
    let bytes = c.args.bytes.now in
    let later = bad_entries owns (entries_from bytes (c.loop-left.left - 1) (entry_after bytes c.loop-left.at)) in
    sym (sym c.loop-left.invariant.rest
    ∙ entries_next owns bytes c.loop-left.left c.loop-left.at c.loop-left-test.true
    ∙ first_is (bad_entry owns (entry_at bytes c.loop-left.at)) later c.in-Some.refused
    (sym c.bad_entry.ensures ∙ c.in-Some.is))

pub loop-left-preserved : goal.loop-left-preserved
loop-left-preserved c =
    let owns = own_entries (shape_contents c.args.shape.now) in
    let bytes = c.args.bytes.now in
    let later = bad_entries owns (entries_from bytes (c.loop-left.left - 1) (entry_after bytes c.loop-left.at)) in
    let next = walk_next bytes c.loop-left.left c.loop-left.at c.loop-left-test.true c.loop-left.invariant.walk in
    let on = entries_next owns bytes c.loop-left.left c.loop-left.at c.loop-left-test.true ∙ later_is
    (bad_entry owns (entry_at bytes c.loop-left.at)) later (sym c.bad_entry.ensures ∙ c.in_default.is) in
    record {
      walk = rw c.entry_after-at.ensures next.1;
      rest = rw c.entry_after-at.ensures (sym on ∙ c.loop-left.invariant.rest);
    }
