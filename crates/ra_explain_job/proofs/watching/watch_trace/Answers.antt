use Rattle.std.proofs.Common.{arith, ◌≡◌, ap, subst, ◌∙◌, ℕ, List, [], Some, Ok, Err, take}
use Rattle.ra_condition.specs.Contents.{trigger_contents}
use Rattle.ra_io.specs.Causes.{Rose}
use Rattle.ra_trace.specs.Cutting.{header_size}
use Rattle.ra_trace.specs.Reading.{IsStop, header_stop}
use Rattle.ra_trace.specs.declared.error.TraceError.TheVariants as error
use Rattle.ra_meaning.specs.Play.{first_moment}
use Rattle.ra_replay.specs.Left.{trace_limit}
use Rattle.ra_session.specs.Endings.{ending_of}
use Rattle.ra_session.specs.Expected.{trace_in}
use Rattle.ra_replay.proofs.LeftLemmas.{left_whole, pieces_of}
use Rattle.ra_session.proofs.NextLemmas.{told}
use Rattle.ra_session.proofs.RunLemmas.{err_from}
use Rattle.ra_explain_job.specs.declared.failed.WatchFailed.TheVariants as failed
use Rattle.ra_explain_job.proofs.WatchLemmas.{follows_first, bad_header, watched_behind, failed_watch, watched_to}
use Rattle.ra_explain_job.proofs.watching.watch_trace.Goals as goal

pub returns-in_err-size-clause-ends : goal.returns-in_err-size-clause-ends
returns-in_err-size-clause-ends g c = λ bytes is_told.
    let t = trigger_contents c.args.text in
    let name : c.in_ok-reader.reader.name ≡ c.args.trace.now = ap (λ r. r.name) c.in_ok-reader.ensures in
    let limit : c.in_ok-reader.reader.limit ≡ trace_limit = ap (λ r. r.limit) c.in_ok-reader.ensures in
    let said : IsStop c.in_err-size.field-0.0 (header_stop c.in_ok-reader.reader.limit bytes) = told
    _ _ bytes (ap (g.F.Files.content c.args.files.now) name ∙ is_told) c.in_err-size.ensures.err in
    failed_watch t bytes (failed.Trace c.in_err-size.field-0.0) c.from_residual-in_err-size.result
    c.from_residual-in_err-size.ensures.1
    (bad_header t bytes c.in_err-size.field-0.0
    (subst (λ l. IsStop c.in_err-size.field-0.0 (header_stop l bytes)) limit said))

pub returns-in_err-unlocked-clause-ends : goal.returns-in_err-unlocked-clause-ends
returns-in_err-unlocked-clause-ends g c = λ bytes is_told.
    let t = trigger_contents c.args.text in
    let size = c.in_ok-size.size in
    let name : c.in_ok-reader.reader.name ≡ c.args.trace.now = ap (λ r. r.name) c.in_ok-reader.ensures in
    let limit : c.in_ok-reader.reader.limit ≡ trace_limit = ap (λ r. r.limit) c.in_ok-reader.ensures in
    let there : g.F.Files.content c.args.files.now c.in_ok-reader.reader.name ≡ Some bytes =
    ap (g.F.Files.content c.args.files.now) name ∙ is_told in
    let header = told _ _ bytes there c.in_ok-size.ensures.ok in
    let left = left_whole bytes size [] c.in_ok-reader.reader c.header.new.self limit
    c.in_ok-size.ensures.seen (told _ _ bytes there c.in_ok-size.ensures.held) in
    failed_watch t bytes c.in_err-unlocked.field-0.0 c.from_residual-in_err-unlocked.result
    c.from_residual-in_err-unlocked.ensures.1
    (watched_behind t bytes size c.in_ok-recorder.recorder c.watch.new.recorder
    (Err c.in_err-unlocked.field-0.0)
    (subst (λ l. header_size (take l bytes) ≡ Some size) limit header) c.in_ok-recorder.ensures
    (c.in_err-unlocked.ensures.ends bytes (first_moment size []) (pieces_of size bytes)
    (ap (g.F.Files.content c.header.new.files) c.in_ok-size.ensures.seen.same.name
    ∙ c.in_ok-size.ensures.stays.same.each c.in_ok-reader.reader.name ∙ there)
    (follows_first t size c.in_ok-recorder.recorder c.in_ok-recorder.ensures) left))

pub returns-in_err-unlocked-clause-read : goal.returns-in_err-unlocked-clause-read
returns-in_err-unlocked-clause-read g c =
    let before : List ℕ → ℕ = g.F.Files.read_faults c.args.files.now in
    let mid : List ℕ → ℕ = g.F.Files.read_faults c.header.new.files in
    let after : List ℕ → ℕ = g.F.Files.read_faults c.watch.new.files in
    let name : c.header.new.self.name ≡ c.args.trace.now =
    c.in_ok-size.ensures.seen.same.name ∙ ap (λ r. r.name) c.in_ok-reader.ensures in
    err_from c.in_err-unlocked.field-0.0 (failed.Trace error.Read) _
    c.from_residual-in_err-unlocked.result c.from_residual-in_err-unlocked.ensures.1
    (λ is.
    let rose : Rose (mid c.args.trace.now) (after c.args.trace.now) =
    subst (λ n. Rose (mid n) (after n)) name (c.in_err-unlocked.ensures.read is) in
    omega (arith, rose, c.in_ok-size.ensures.stays.reads.each c.args.trace.now))

pub returns-clause-ends : goal.returns-clause-ends
returns-clause-ends g c = λ bytes is_told.
    let t = trigger_contents c.args.text in
    let size = c.in_ok-size.size in
    let name : c.in_ok-reader.reader.name ≡ c.args.trace.now = ap (λ r. r.name) c.in_ok-reader.ensures in
    let limit : c.in_ok-reader.reader.limit ≡ trace_limit = ap (λ r. r.limit) c.in_ok-reader.ensures in
    let there : g.F.Files.content c.args.files.now c.in_ok-reader.reader.name ≡ Some bytes =
    ap (g.F.Files.content c.args.files.now) name ∙ is_told in
    let header = told _ _ bytes there c.in_ok-size.ensures.ok in
    let left = left_whole bytes size [] c.in_ok-reader.reader c.header.new.self limit
    c.in_ok-size.ensures.seen (told _ _ bytes there c.in_ok-size.ensures.held) in
    watched_to _ (ending_of (trace_in bytes).stop) c.watch.new.recorder c.in_ok-unlocked.unlocked
    (watched_behind t bytes size c.in_ok-recorder.recorder c.watch.new.recorder
    (Ok c.in_ok-unlocked.unlocked)
    (subst (λ l. header_size (take l bytes) ≡ Some size) limit header) c.in_ok-recorder.ensures
    (c.in_ok-unlocked.ensures.ends bytes (first_moment size []) (pieces_of size bytes)
    (ap (g.F.Files.content c.header.new.files) c.in_ok-size.ensures.seen.same.name
    ∙ c.in_ok-size.ensures.stays.same.each c.in_ok-reader.reader.name ∙ there)
    (follows_first t size c.in_ok-recorder.recorder c.in_ok-recorder.ensures) left))
