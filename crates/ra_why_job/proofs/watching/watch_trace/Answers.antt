use Rattle.std.proofs.Common.{arith, ◌≡◌, ap, sym, subst, refl, ◌∙◌, ℕ, List, [], Some, take}
use Rattle.ra_condition.specs.Contents.{trigger_contents}
use Rattle.ra_io.specs.Causes.{Rose}
use Rattle.ra_trace.specs.Cutting.{header_size}
use Rattle.ra_trace.specs.Reading.{IsStop, header_stop}
use Rattle.ra_trace.specs.declared.error.TraceError.TheVariants as error
use Rattle.ra_meaning.specs.Play.{first_moment}
use Rattle.ra_why.specs.Watching.{trigger_in}
use Rattle.ra_replay.specs.Left.{trace_limit}
use Rattle.ra_why_job.specs.Watching.{IsReached, IsReason}
use Rattle.ra_why_job.specs.declared.failed.WatchFailed.TheVariants as failed
use Rattle.ra_replay.proofs.LeftLemmas.{left_whole, pieces_of}
use Rattle.ra_why_job.proofs.NextLemmas.{err_from, told}
use Rattle.ra_why_job.proofs.WatchLemmas.{bad_header, failed_watch, follows_first, length_made, ready_so, sized_so}
use Rattle.ra_why_job.proofs.WatchLemmas.{watched_behind}
use Rattle.ra_why_job.proofs.watching.watch_trace.Goals as goal

pub returns-in_err-size-clause-ends : goal.returns-in_err-size-clause-ends
returns-in_err-size-clause-ends g c = λ bytes is_told.
    let t = trigger_contents c.args.text in
    let name : c.in_ok-reader.reader.name ≡ c.args.trace.now = ap (λ r. r.name) c.in_ok-reader.ensures in
    let limit : c.in_ok-reader.reader.limit ≡ trace_limit = ap (λ r. r.limit) c.in_ok-reader.ensures in
    let said : IsStop c.in_err-size.field-0.0 (header_stop c.in_ok-reader.reader.limit bytes) = told
    _ _ bytes (ap (g.F.Files.content c.args.files.now) name ∙ is_told) c.in_err-size.ensures.err in
    failed_watch t bytes (failed.Trace c.in_err-size.field-0.0) c.from_residual-in_err-size.result
    c.from_residual-in_err-size.ensures.1
    (bad_header t bytes c.in_err-size.field-0.0
    (subst (λ l. IsStop c.in_err-size.field-0.0 (header_stop l bytes)) limit said))

pub watch-requires : goal.watch-requires
watch-requires g c =
    let limit : c.in_ok-reader.reader.limit ≡ trace_limit = ap (λ r. r.limit) c.in_ok-reader.ensures in
    record {
      ready = ready_so _ c.in_ok-size.size c.in_ok-reader.reader c.header.new.self
          c.in_ok-watcher.watcher limit c.in_ok-size.ensures.seen c.in_ok-watcher.ensures.made
          c.in_ok-watcher.ensures.watches;
    }

pub returns-in_err-watch-clause-ends : goal.returns-in_err-watch-clause-ends
returns-in_err-watch-clause-ends g c = λ bytes is_told.
    let t = trigger_contents c.args.text in
    let size = c.in_ok-size.size in
    let name : c.in_ok-reader.reader.name ≡ c.args.trace.now = ap (λ r. r.name) c.in_ok-reader.ensures in
    let limit : c.in_ok-reader.reader.limit ≡ trace_limit = ap (λ r. r.limit) c.in_ok-reader.ensures in
    let there : g.F.Files.content c.args.files.now c.in_ok-reader.reader.name ≡ Some bytes =
    ap (g.F.Files.content c.args.files.now) name ∙ is_told in
    let header = told _ _ bytes there c.in_ok-size.ensures.ok in
    let left = left_whole bytes size [] c.in_ok-reader.reader c.header.new.self limit
    c.in_ok-size.ensures.seen (told _ _ bytes there c.in_ok-size.ensures.held) in
    failed_watch t bytes c.in_err-watch.field-0.0 c.from_residual-in_err-watch.result
    c.from_residual-in_err-watch.ensures.1
    (watched_behind t bytes (λ found stop. IsReason found stop c.in_err-watch.field-0.0) size
    (trigger_in c.in_ok-watcher.watcher) (subst (λ l. header_size (take l bytes)
    ≡ Some size) limit header) c.in_ok-watcher.ensures.made.trigger
    (c.in_err-watch.ensures.ends bytes (first_moment size []) (pieces_of size bytes)
    (ap (g.F.Files.content c.header.new.files) c.in_ok-size.ensures.seen.same.name
    ∙ c.in_ok-size.ensures.stays.same.each c.in_ok-reader.reader.name ∙ there)
    (follows_first t size c.in_ok-watcher.watcher c.in_ok-watcher.ensures.made c.in_ok-watcher.ensures.stands) left))

pub returns-in_err-watch-clause-read : goal.returns-in_err-watch-clause-read
returns-in_err-watch-clause-read g c =
    let before : List ℕ → ℕ = g.F.Files.read_faults c.args.files.now in
    let mid : List ℕ → ℕ = g.F.Files.read_faults c.header.new.files in
    let after : List ℕ → ℕ = g.F.Files.read_faults c.watch.new.files in
    let name : c.header.new.self.name ≡ c.args.trace.now =
    c.in_ok-size.ensures.seen.same.name ∙ ap (λ r. r.name) c.in_ok-reader.ensures in
    err_from c.in_err-watch.field-0.0 (failed.Trace error.Read) _
    c.from_residual-in_err-watch.result c.from_residual-in_err-watch.ensures.1
    (λ is.
    let rose : Rose (mid c.args.trace.now) (after c.args.trace.now) =
    subst (λ n. Rose (mid n) (after n)) name (c.in_err-watch.ensures.read is) in
    omega (arith, rose, c.in_ok-size.ensures.stays.reads.each c.args.trace.now))

pub returns-clause-ends : goal.returns-clause-ends
returns-clause-ends g c = λ bytes is_told.
    let t = trigger_contents c.args.text in
    let size = c.in_ok-size.size in
    let name : c.in_ok-reader.reader.name ≡ c.args.trace.now = ap (λ r. r.name) c.in_ok-reader.ensures in
    let limit : c.in_ok-reader.reader.limit ≡ trace_limit = ap (λ r. r.limit) c.in_ok-reader.ensures in
    let there : g.F.Files.content c.args.files.now c.in_ok-reader.reader.name ≡ Some bytes =
    ap (g.F.Files.content c.args.files.now) name ∙ is_told in
    let header : header_size (take trace_limit bytes) ≡ Some size = subst (λ l. header_size
    (take l bytes) ≡ Some size) limit (told _ _ bytes there c.in_ok-size.ensures.ok) in
    let left = left_whole bytes size [] c.in_ok-reader.reader c.header.new.self limit
    c.in_ok-size.ensures.seen (told _ _ bytes there c.in_ok-size.ensures.held) in
    record {
      size = c.in_ok-watch.ensures.watches.long ∙ length_made size c.in_ok-watcher.watcher.memory
          c.in_ok-watcher.ensures.made.memory ∙ sym (sized_so t bytes size header);
      reached = watched_behind t bytes (λ found stop. IsReached found c.watch.new.watcher) size
          (trigger_in c.in_ok-watcher.watcher) header c.in_ok-watcher.ensures.made.trigger
          (c.in_ok-watch.ensures.ends bytes (first_moment size []) (pieces_of size bytes)
          (ap (g.F.Files.content c.header.new.files) c.in_ok-size.ensures.seen.same.name
          ∙ c.in_ok-size.ensures.stays.same.each c.in_ok-reader.reader.name ∙ there)
          (follows_first t size c.in_ok-watcher.watcher c.in_ok-watcher.ensures.made
          c.in_ok-watcher.ensures.stands) left);
    }

pub returns-clause-watches : goal.returns-clause-watches
returns-clause-watches g c =
    let on = c.in_ok-watch.ensures.watches in
    record { trigger = on.trigger ∙ c.in_ok-watcher.ensures.made.trigger; long = refl; watches = on.watches }
