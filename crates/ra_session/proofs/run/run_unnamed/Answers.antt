use Rattle.std.proofs.Common.{arith, ◌∙◌, Ok, Err, None, Option, Bor, List, ℕ, option_map, refl, sym, ap}
use Rattle.ra_set.specs.Accepted.{named_by}
use Rattle.ra_set.specs.Contents.{set_contents}
use Rattle.ra_args.specs.Words.{file_in}
use Rattle.ra_session.specs.RunFiles.{run_of}
use Rattle.ra_session.specs.declared.player.Player.{Player}
use Rattle.ra_session.specs.declared.failures.LoadFailed.TheVariants as load
use Rattle.ra_session.proofs.JobLemmas.{leaves_none, leaves_same, load_not_done, trace_not_done, ran_on}
use Rattle.ra_session.proofs.LoadLemmas.{ran_not_begun}
use Rattle.ra_session.proofs.Unnamed.{plays_unnamed}
use Rattle.ra_jobs.proofs.Stays.{same_after}
use Rattle.ra_session.proofs.run.run_unnamed.Goals as goal

pub returns-in-Err-clause-ran : goal.returns-in-Err-clause-ran
returns-in-Err-clause-ran g c = rw (c.requires.restore, c.requires.save)
    (ran_not_begun c.args.run.now.set.now c.args.run.now.trace.now None _ _ None
    (load.Set c.in-Err.no_set) c.from.result
    c.from.ensures c.in-Err.ensures.failed refl)

pub returns-in-Err-clause-leaves : goal.returns-in-Err-clause-leaves
returns-in-Err-clause-leaves g c =
    leaves_same (run_of c.args.run.now) _ _ c.from.result
    (λ done. load_not_done (load.Set c.in-Err.no_set) (sym c.from.ensures ∙ done)) c.in-Err.ensures.stays.same

pub returns-in-Err-play_trace-clause-ran : goal.returns-in-Err-play_trace-clause-ran
returns-in-Err-play_trace-clause-ran g c =
    let run = c.args.run.now in
    let load = c.in-Ok.ensures in
    let play = c.in-Err-play_trace.ensures in
    let set = set_contents c.in-Ok.set in
    rw (c.requires.restore, c.requires.save)
    (ran_on run.set.now run.trace.now None None _ _ {T = Player} (named_by load.set.text set) None
    (Err c.in-Err-play_trace.failed) c.from-in-Err-play_trace.result c.from-in-Err-play_trace.ensures
    (plays_unnamed run.set.now run.trace.now _ _ set (Err c.in-Err-play_trace.failed) load.set
    (λ bytes o behind earned told at. play.printed bytes o behind earned (load.stays.same.each run.trace.now ∙ told) at)
    (λ is. let rose = play.read is in omega (arith, rose, load.stays.reads.each run.trace.now)) play.write))

pub returns-in-Err-play_trace-clause-leaves : goal.returns-in-Err-play_trace-clause-leaves
returns-in-Err-play_trace-clause-leaves g c =
    leaves_same (run_of c.args.run.now) _ _ c.from-in-Err-play_trace.result
    (λ done. trace_not_done c.in-Err-play_trace.failed (sym c.from-in-Err-play_trace.ensures ∙ done))
    (same_after _ _ _ c.in-Ok.ensures.stays.same c.in-Err-play_trace.ensures.stays.same)

pub returns-in-Ok-play_trace-clause-ran : goal.returns-in-Ok-play_trace-clause-ran
returns-in-Ok-play_trace-clause-ran g c =
    let run = c.args.run.now in
    let load = c.in-Ok.ensures in
    let play = c.in-Ok-play_trace.ensures in
    let set = set_contents c.in-Ok.set in
    rw (c.requires.restore, c.requires.save)
    (ran_on run.set.now run.trace.now None None _ _ {T = Player} (named_by load.set.text set) None
    (Ok c.in-Ok-play_trace.player) _ refl
    (plays_unnamed run.set.now run.trace.now _ _ set (Ok c.in-Ok-play_trace.player) load.set
    (λ bytes o behind earned told at. play.printed bytes o behind earned (load.stays.same.each run.trace.now ∙ told) at)
    (λ is. absurd (cc is)) (λ is. absurd (cc is))))

pub returns-in-Ok-play_trace-clause-leaves : goal.returns-in-Ok-play_trace-clause-leaves
returns-in-Ok-play_trace-clause-leaves g c =
    leaves_none (run_of c.args.run.now) _ _ _
    (ap (λ (s : Option (Bor (List ℕ))). file_in (option_map (λ name. name.now) s)) c.requires.save)
    (same_after _ _ _ c.in-Ok.ensures.stays.same c.in-Ok-play_trace.ensures.stays.same)
