use Rattle.std.proofs.Common.{◌∙◌, sym, ap}
use Rattle.ra_progress.specs.Contents.{shape_contents, own_entries}
use Rattle.ra_progress.specs.Reading.{has_named}
use Rattle.ra_progress.proofs.Walks.{walk_next, any_step}
use Rattle.ra_progress.proofs.entries.has_own.Goals as goal

pub loop-left-preserved : goal.loop-left-preserved
loop-left-preserved c =
    let owns = own_entries (shape_contents c.args.shape.now) in
    let next = walk_next c.args.bytes.now c.loop-left.left c.loop-left.at c.loop-left-test.true
    c.loop-left.invariant.walk in
    let other = any_step
    (λ entry. has_named owns entry.name) c.args.bytes.now c.loop-left.left c.loop-left.at c.loop-left-test.true
    (ap (has_named owns) (sym c.name_at.ensures) ∙ sym c.is_own.ensures ∙ c.if-is_own.false) in
    record {
      walk = rw c.entry_after-at.ensures next.1;
      rest = rw c.entry_after-at.ensures (sym other ∙ c.loop-left.invariant.rest);
    }
