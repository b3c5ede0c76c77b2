use Rattle.std.proofs.Common.{◌∙◌, subst}
use Rattle.ra_trace.specs.Entries.{entry_of}
use Rattle.ra_session.proofs.NextLemmas.{ok_at}
use Rattle.ra_explain_job.specs.Watching.{RefusesEntry}
use Rattle.ra_explain_job.proofs.NextLemmas.{next_refused, next_empty, next_rows, next_taken}
use Rattle.ra_explain_job.proofs.watching.watch_next.Goals as goal

pub returns-in_err-record-clause-next : goal.returns-in_err-record-clause-next
returns-in_err-record-clause-next g c = λ bytes m left is_told follows is.
    next_refused bytes m left c.args.reader.now is c.args.recorder.now
    (g.F.Files.content c.args.files.now c.args.reader.now.name) c.next_record.follows.lender-at-none
    c.args.recorder.now c.in_err-record.field-0.0 c.from_residual.result is_told
    c.in_err-record.ensures.err c.from_residual.ensures.1

pub returns-in-Ok-clause-next : goal.returns-in-Ok-clause-next
returns-in-Ok-clause-next g c = λ bytes m left is_told follows is.
    let ends = c.next_record.follows.holds-at-none in
    next_taken bytes m left c.args.reader.now is c.args.recorder.now
    (entry_of c.in_ok-record.record)
    (g.F.Files.content c.args.files.now c.args.reader.now.name) is_told c.in_ok-record.ensures.ok
    c.next_record.follows.lender-at-none (ok_at _ _ c.in_ok-record.record c.in_ok-record.was
    ends.moved) (ok_at _ _ c.in_ok-record.record c.in_ok-record.was ends.holds bytes is_told
    is.holds) c.in-Ok.taken c.take_record.new.recorder (c.in-Ok.ensures.taken m follows)

pub returns-in-Err-EmptySlot-clause-next : goal.returns-in-Err-EmptySlot-clause-next
returns-in-Err-EmptySlot-clause-next g c = λ bytes m left is_told follows is.
    let moved = ok_at _ _ c.in_ok-record.record c.in_ok-record.was c.next_record.follows.holds-at-none.moved in
    next_empty bytes m left c.args.reader.now is c.args.recorder.now
    (entry_of c.in_ok-record.record) (g.F.Files.content c.args.files.now c.args.reader.now.name)
    is_told c.in_ok-record.ensures.ok c.place.result (c.place.ensures ∙ moved.last)
    (subst (RefusesEntry c.args.recorder.now (entry_of c.in_ok-record.record) m)
    c.in-Err-EmptySlot.field-0-is (c.in-Err-EmptySlot.ensures.refused m follows))

pub returns-in-Err-Rows-clause-next : goal.returns-in-Err-Rows-clause-next
returns-in-Err-Rows-clause-next g c = λ bytes m left is_told follows is.
    let ends = c.next_record.follows.holds-at-none in
    next_rows bytes m left c.args.reader.now is c.args.recorder.now (entry_of c.in_ok-record.record)
    (g.F.Files.content c.args.files.now c.args.reader.now.name) is_told c.in_ok-record.ensures.ok
    c.next_record.follows.lender-at-none (ok_at _ _ c.in_ok-record.record c.in_ok-record.was
    ends.moved) (ok_at _ _ c.in_ok-record.record c.in_ok-record.was ends.holds bytes is_told
    is.holds) c.in-Err-Rows.found
    (subst (RefusesEntry c.args.recorder.now (entry_of c.in_ok-record.record) m)
    c.in-Err-Rows.field-0-is (c.in-Err-Rows.ensures.refused m follows))
