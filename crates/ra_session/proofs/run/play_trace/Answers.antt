use Rattle.std.proofs.Common.{arith, ◌≡◌, ◌∙◌, Err, ap, subst, sym, ℕ, List, Some}
use Rattle.ra_io.specs.Causes.{Rose}
use Rattle.ra_set.specs.Contents.{set_contents}
use Rattle.ra_trace.specs.Reading.{IsStop, header_stop}
use Rattle.ra_session.specs.Failures.{ending_of_trace, trace_failed}
use Rattle.ra_session.specs.declared.ending.Ending.TheVariants.{Done}
use Rattle.ra_session.specs.Expected.{played}
use Rattle.ra_session.specs.Loading.{progress_in}
use Rattle.ra_session.proofs.LoadLemmas.{begins_somewhere}
use Rattle.ra_session.proofs.NextLemmas.{told}
use Rattle.ra_session.proofs.JobLemmas.{behind_header}
use Rattle.ra_session.specs.declared.failures.TraceFailed.TheVariants as failed
use Rattle.ra_session.proofs.RunLemmas.{played_behind, saved_behind, bad_header, ends_by, no_memory_left}
use Rattle.ra_session.proofs.run.play_trace.Goals as goal

pub returns-in_err-reader-clause-printed : goal.returns-in_err-reader-clause-printed
returns-in_err-reader-clause-printed g c = λ bytes o behind earned is_told at. no_memory_left
    (played (set_contents c.args.beginning.set) o behind earned bytes) c.from_residual.result
    (g.K.Sink.text c.args.out.now) c.from_residual.ensures.1

pub returns-in_err-size-clause-printed : goal.returns-in_err-size-clause-printed
returns-in_err-size-clause-printed g c = λ bytes o behind earned is_told at.
    let set = set_contents c.args.beginning.set in
    let why = c.in_err-size.field-0.0 in
    let text = g.K.Sink.text c.args.out.now in
    let said : IsStop why (header_stop c.in_ok-reader.reader.limit bytes) = told _ _ bytes
    (ap (λ r. g.F.Files.content c.args.files.now r.name) c.in_ok-reader.ensures ∙ is_told) c.in_err-size.ensures.err in
    ends_by (played set o behind earned bytes) (trace_failed why) c.from_residual-in_err-size.result text text
    c.from_residual-in_err-size.ensures.1 (bad_header set o behind earned bytes why text
    (subst (λ l. IsStop why (header_stop l bytes)) (ap (λ r. r.limit) c.in_ok-reader.ensures) said))

pub new-requires-clause-size : goal.new-requires-clause-size
new-requires-clause-size g c = omega (arith, c.in_ok-size.ensures.most)

pub returns-in_err-player-clause-printed : goal.returns-in_err-player-clause-printed
returns-in_err-player-clause-printed g c = λ bytes o behind earned is_told at. no_memory_left
    (played (set_contents c.args.beginning.set) o behind earned bytes) c.from_residual-in_err-player.result
    (g.K.Sink.text c.args.out.now) c.from_residual-in_err-player.ensures.1

pub play_records-requires : goal.play_records-requires
play_records-requires g c =
    let set = set_contents c.args.beginning.set in
    let (o, behind, earned, at) =
    begins_somewhere set (progress_in c.args.beginning) c.requires.playable c.requires.accepted in
    let stands = c.in_ok-player.ensures.stands o behind earned at in
    record {
      size = c.in_ok-size.ensures.seen.sized ∙ ap Some (sym c.in_ok-player.ensures.image);
      stands = record { set = set; opening = o; moment = _; earned = earned; stands = stands };
    }

pub returns-in-Ok-clause-printed : goal.returns-in-Ok-clause-printed
returns-in-Ok-clause-printed g c = λ bytes o behind earned is_told at.
    let set = set_contents c.args.beginning.set in
    let size = c.in_ok-size.ensures in
    let there = behind_header _ bytes c.in_ok-size.size behind _ _ _ _ c.in_ok-reader.ensures is_told size.stays.same
    size.ok size.held size.seen in
    played_behind set o behind earned bytes c.in_ok-size.size Done _ _ there.0
    (c.in-Ok.ensures.printed bytes set o _ earned _ there.1 (c.in_ok-player.ensures.stands o
    behind earned at) there.2)

pub returns-in-Ok-clause-kept : goal.returns-in-Ok-clause-kept
returns-in-Ok-clause-kept g c = λ bytes o behind earned is_told at.
    let set = set_contents c.args.beginning.set in
    let size = c.in_ok-size.ensures in
    let there = behind_header _ bytes c.in_ok-size.size behind _ _ _ _ c.in_ok-reader.ensures is_told size.stays.same
    size.ok size.held size.seen in
    saved_behind set o behind earned bytes c.in_ok-size.size c.play_records.new.player.slots.items _ there.0
    (c.in-Ok.ensures.ends bytes set o _ earned _ there.1 (c.in_ok-player.ensures.stands o
    behind earned at) there.2)

pub returns-clause-printed : goal.returns-clause-printed
returns-clause-printed g c = λ bytes o behind earned is_told at.
    let set = set_contents c.args.beginning.set in
    let size = c.in_ok-size.ensures in
    let there = behind_header _ bytes c.in_ok-size.size behind _ _ _ _ c.in_ok-reader.ensures is_told size.stays.same
    size.ok size.held size.seen in
    played_behind set o behind earned bytes c.in_ok-size.size (ending_of_trace c.in-Err.failed) _ _ there.0
    (c.in-Err.ensures.printed bytes set o _ earned _ there.1 (c.in_ok-player.ensures.stands o
    behind earned at) there.2)

pub returns-clause-read : goal.returns-clause-read
returns-clause-read g c =
    let before : List ℕ → ℕ = g.F.Files.read_faults c.args.files.now in
    let mid : List ℕ → ℕ = g.F.Files.read_faults c.header.new.files in
    let after : List ℕ → ℕ = g.F.Files.read_faults c.play_records.new.files in
    let name : c.header.new.self.name ≡ c.args.trace.now =
    c.in_ok-size.ensures.seen.same.name ∙ ap (λ r. r.name) c.in_ok-reader.ensures in
    λ is.
    let same : c.in-Err.failed ≡ failed.Read = cc is in
    let rose : Rose (mid c.args.trace.now) (after c.args.trace.now) =
    subst (λ n. Rose (mid n) (after n)) name (c.in-Err.ensures.read (ap Err same)) in
    omega (arith, rose, c.in_ok-size.ensures.stays.reads.each c.args.trace.now)
