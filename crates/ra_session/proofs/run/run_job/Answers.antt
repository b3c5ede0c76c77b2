use Rattle.std.proofs.Common.{arith, ◌∙◌, Ok, Err, option_map, refl, sym}
use Rattle.ra_session.specs.declared.player.Player.{Player}
use Rattle.ra_set.specs.Contents.{set_contents}
use Rattle.ra_session.specs.Loading.{progress_in}
use Rattle.ra_session.specs.Playing.{kept_bytes}
use Rattle.ra_args.specs.Words.{file_in}
use Rattle.ra_session.specs.RunFiles.{run_of}
use Rattle.ra_session.proofs.JobLemmas.{leaves_same, load_not_done, trace_not_done, ran_on, ran_not_put, leaves_put}
use Rattle.ra_session.proofs.JobLemmas.{leaves_not_put, others_since, bytes_since, plays_loaded}
use Rattle.ra_session.proofs.LoadLemmas.{ran_not_begun}
use Rattle.ra_session.proofs.RunLemmas.{rose_before}
use Rattle.ra_jobs.proofs.Stays.{same_after, none_after}
use Rattle.ra_session.proofs.run.run_job.Goals as goal

pub returns-in-Err-clause-ran : goal.returns-in-Err-clause-ran
returns-in-Err-clause-ran g c =
    let run = c.args.run.now in
    ran_not_begun run.set.now run.trace.now (option_map (λ name. name.now) run.save) _ _ (option_map
    (λ name. name.now) run.restore) c.in-Err.unloaded c.from.result c.from.ensures c.in-Err.ensures.failed refl

pub returns-in-Err-clause-leaves : goal.returns-in-Err-clause-leaves
returns-in-Err-clause-leaves g c = leaves_same (run_of c.args.run.now) _ _ c.from.result
    (λ done. load_not_done c.in-Err.unloaded (sym c.from.ensures ∙ done)) c.in-Err.ensures.stays.same

pub returns-in-Err-play_trace-clause-ran : goal.returns-in-Err-play_trace-clause-ran
returns-in-Err-play_trace-clause-ran g c =
    let load = c.in-Ok.ensures in
    let play = c.in-Err-play_trace.ensures in
    ran_on _ _ _ _ _ _ {T = Player} (set_contents c.in-Ok.beginning.set) (progress_in c.in-Ok.beginning)
    (Err c.in-Err-play_trace.failed) _ c.from-in-Err-play_trace.ensures
    (plays_loaded _ _ _ _ _ _ _ _ _ _ load.loaded load.stays.same play.printed
    (λ is. let rose = play.read is in omega (arith, rose, load.stays.reads.each c.args.run.now.trace.now)) play.write)

pub returns-in-Err-play_trace-clause-leaves : goal.returns-in-Err-play_trace-clause-leaves
returns-in-Err-play_trace-clause-leaves g c =
    leaves_same (run_of c.args.run.now) _ _ c.from-in-Err-play_trace.result (λ done. trace_not_done
    c.in-Err-play_trace.failed (sym c.from-in-Err-play_trace.ensures ∙ done)) (same_after _ _ _
    c.in-Ok.ensures.stays.same c.in-Err-play_trace.ensures.stays.same)

pub returns-in-Ok-put_progress-clause-ran : goal.returns-in-Ok-put_progress-clause-ran
returns-in-Ok-put_progress-clause-ran g c =
    let load = c.in-Ok.ensures in
    let play = c.in-Ok-play_trace.ensures in
    ran_on _ _ _ _ _ _ {T = Player} (set_contents c.in-Ok.beginning.set) (progress_in c.in-Ok.beginning)
    (Ok c.in-Ok-play_trace.player) _ refl
    (plays_loaded _ _ _ _ _ _ _ _ _ _ load.loaded load.stays.same play.printed (λ is. absurd (cc is))
    (λ is. absurd (cc is)))

pub returns-in-Ok-put_progress-clause-leaves : goal.returns-in-Ok-put_progress-clause-leaves
returns-in-Ok-put_progress-clause-leaves g c =
    let run = c.args.run.now in
    let load = c.in-Ok.ensures in
    let play = c.in-Ok-play_trace.ensures in
    let save = option_map (λ name. name.now) run.save in
    let since = same_after _ _ _ load.stays.same play.stays.same in
    leaves_put _ _ _ _ _ _ {T = Player} (set_contents c.in-Ok.beginning.set) (progress_in c.in-Ok.beginning)
    c.in-Ok-play_trace.player
    (plays_loaded _ _ _ _ _ _ _ _ _ _ load.loaded load.stays.same play.printed (λ is. absurd (cc is))
    (λ is. absurd (cc is)))
    (kept_bytes c.in-Ok-play_trace.player.runtime)
    (bytes_since _ _ _ _ (file_in save) since c.in-Ok-put_progress.ensures.saved)
    (others_since _ _ _ (file_in save) since c.in-Ok-put_progress.ensures.others)
    (λ bytes o behind earned told at. play.kept bytes o behind earned (load.stays.same.each run.trace.now ∙ told) at)

pub returns-in-Err-put_progress-clause-ran : goal.returns-in-Err-put_progress-clause-ran
returns-in-Err-put_progress-clause-ran g c =
    let load = c.in-Ok.ensures in
    let play = c.in-Ok-play_trace.ensures in
    let save = option_map (λ name. name.now) c.args.run.now.save in
    ran_not_put _ _ _ _ _ _ {T = Player} (set_contents c.in-Ok.beginning.set) (progress_in c.in-Ok.beginning)
    c.in-Ok-play_trace.player
    (plays_loaded _ _ _ _ _ _ _ _ _ _ load.loaded load.stays.same play.printed (λ is. absurd (cc is))
    (λ is. absurd (cc is)))
    c.in-Err-put_progress.failed _ c.from-in-Err-put_progress.ensures
    (λ is. rose_before _ _ _ (file_in save) (none_after _ _ _ load.stays.puts play.stays.puts)
    (c.in-Err-put_progress.ensures.failed is))

pub returns-in-Err-put_progress-clause-leaves : goal.returns-in-Err-put_progress-clause-leaves
returns-in-Err-put_progress-clause-leaves g c =
    let run = c.args.run.now in
    let load = c.in-Ok.ensures in
    let play = c.in-Ok-play_trace.ensures in
    let save = option_map (λ name. name.now) run.save in
    let since = same_after _ _ _ load.stays.same play.stays.same in
    leaves_not_put run.set.now run.trace.now (option_map (λ name. name.now) run.restore) save _ _
    c.in-Err-put_progress.failed c.from-in-Err-put_progress.result c.from-in-Err-put_progress.ensures
    (others_since _ _ _ (file_in save) since c.in-Err-put_progress.ensures.others)
    (λ is. rose_before _ _ _ (file_in save) (none_after _ _ _ load.stays.puts play.stays.puts)
    (c.in-Err-put_progress.ensures.failed is))
    (λ is. same_after _ _ _ since (c.in-Err-put_progress.ensures.memory is))
