use Rattle.std.proofs.Common.{◌∙◌, subst}
use Rattle.ra_trace.specs.Entries.{entry_of}
use Rattle.ra_why.specs.Taking.{TakesRecord}
use Rattle.ra_why_job.proofs.NextLemmas.{next_empty, next_end, next_memory, next_on, next_refused, next_unlock, ok_at}
use Rattle.ra_why_job.proofs.NextLemmas.{watched_more}
use Rattle.ra_why_job.proofs.watching.watch_next.Goals as goal

pub returns-in_err-record-clause-next : goal.returns-in_err-record-clause-next
returns-in_err-record-clause-next g c = λ bytes m left is_told follows is.
    next_refused bytes m left c.args.reader.now is c.args.watcher.now
    (g.F.Files.content c.args.files.now c.args.reader.now.name) c.next_record.follows.lender-at-none
    c.args.watcher.now c.in_err-record.field-0.0 c.from_residual.result is_told
    c.in_err-record.ensures.err c.from_residual.ensures.1

pub returns-in_err-take_record-clause-next : goal.returns-in_err-take_record-clause-next
returns-in_err-take_record-clause-next g c = λ bytes m left is_told follows is.
    next_memory bytes m left c.args.reader.now is c.args.watcher.now
    c.next_record.follows.lender-at-none c.take_record.new.watcher
    c.from_residual-in_err-take_record.result c.from_residual-in_err-take_record.ensures.1

pub returns-in-On-clause-next : goal.returns-in-On-clause-next
returns-in-On-clause-next g c = λ bytes m left is_told follows is.
    let ends = c.next_record.follows.holds-at-none in
    next_on bytes m left c.args.reader.now is c.args.watcher.now (entry_of c.in_ok-record.record)
    (g.F.Files.content c.args.files.now c.args.reader.now.name) is_told c.in_ok-record.ensures.ok
    c.next_record.follows.lender-at-none (ok_at _ _ c.in_ok-record.record c.in_ok-record.was
    ends.moved) (ok_at _ _ c.in_ok-record.record c.in_ok-record.was ends.holds bytes is_told
    is.holds) c.take_record.new.watcher
    (subst (TakesRecord c.args.watcher.now c.take_record.new.watcher
    (entry_of c.in_ok-record.record) m) c.in-On.is (c.in_ok-take_record.ensures.taken m follows))

pub returns-in-Unlock-clause-next : goal.returns-in-Unlock-clause-next
returns-in-Unlock-clause-next g c = λ bytes m left is_told follows is.
    let ends = c.next_record.follows.holds-at-none in
    next_unlock bytes m left c.args.reader.now is c.args.watcher.now
    (entry_of c.in_ok-record.record)
    (g.F.Files.content c.args.files.now c.args.reader.now.name) is_told c.in_ok-record.ensures.ok
    c.next_record.follows.lender-at-none (ok_at _ _ c.in_ok-record.record c.in_ok-record.was
    ends.moved) (ok_at _ _ c.in_ok-record.record c.in_ok-record.was ends.holds bytes is_told
    is.holds) c.take_record.new.watcher
    (subst (TakesRecord c.args.watcher.now c.take_record.new.watcher (entry_of
    c.in_ok-record.record) m) c.in-Unlock.is (c.in_ok-take_record.ensures.taken m follows))

pub returns-in-End-clause-next : goal.returns-in-End-clause-next
returns-in-End-clause-next g c = λ bytes m left is_told follows is.
    next_end bytes m left c.args.reader.now is c.args.watcher.now (entry_of c.in_ok-record.record)
    (g.F.Files.content c.args.files.now c.args.reader.now.name) is_told c.in_ok-record.ensures.ok
    c.next_record.follows.lender-at-none c.take_record.new.watcher follows
    (subst (TakesRecord c.args.watcher.now c.take_record.new.watcher
    (entry_of c.in_ok-record.record) m) c.in-End.is (c.in_ok-take_record.ensures.taken m follows))

pub returns-in-Empty-clause-next : goal.returns-in-Empty-clause-next
returns-in-Empty-clause-next g c = λ bytes m left is_told follows is.
    let moved = ok_at _ _ c.in_ok-record.record c.in_ok-record.was c.next_record.follows.holds-at-none.moved in
    next_empty bytes m left c.args.reader.now is c.args.watcher.now (entry_of c.in_ok-record.record)
    (g.F.Files.content c.args.files.now c.args.reader.now.name) is_told c.in_ok-record.ensures.ok
    c.place.result (c.place.ensures ∙ moved.last)
    (subst (TakesRecord c.args.watcher.now c.take_record.new.watcher
    (entry_of c.in_ok-record.record) m) c.in-Empty.is (c.in_ok-take_record.ensures.taken m follows))

pub returns-in-On-clause-watches : goal.returns-in-On-clause-watches
returns-in-On-clause-watches g c = λ t size most w.
    watched_more c.args.watcher.now c.take_record.new.watcher t size most
    c.in_ok-take_record.ensures.text c.in_ok-take_record.ensures.size w
    (c.in_ok-take_record.ensures.watches most w.watches)

pub returns-in-Unlock-clause-watches : goal.returns-in-Unlock-clause-watches
returns-in-Unlock-clause-watches g c = λ t size most w.
    watched_more c.args.watcher.now c.take_record.new.watcher t size most
    c.in_ok-take_record.ensures.text c.in_ok-take_record.ensures.size w
    (c.in_ok-take_record.ensures.watches most w.watches)

pub returns-in-End-clause-watches : goal.returns-in-End-clause-watches
returns-in-End-clause-watches g c = λ t size most w.
    watched_more c.args.watcher.now c.take_record.new.watcher t size most
    c.in_ok-take_record.ensures.text c.in_ok-take_record.ensures.size w
    (c.in_ok-take_record.ensures.watches most w.watches)
