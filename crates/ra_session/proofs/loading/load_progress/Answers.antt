use Rattle.std.proofs.Common.{sym, subst, [], Bor, List, ℕ, Option, option_map, refl}
use Rattle.ra_set.specs.Contents.{set_contents}
use Rattle.ra_args.specs.Words.{file_in}
use Rattle.ra_session.specs.Loading.{HasNoProgress}
use Rattle.ra_jobs.specs.Outside.{AnyRose}
use Rattle.ra_session.proofs.LoadLemmas.{not_progress_since}
use Rattle.ra_session.proofs.RunLemmas.{any_first, err_by}
use Rattle.ra_session.proofs.loading.load_progress.Goals as goal

pub returns-in_err-read_progress-in-Some-clause-failed : goal.returns-in_err-read_progress-in-Some-clause-failed
returns-in_err-read_progress-in-Some-clause-failed g c =
    err_by c.from_residual.result c.in_err-read_progress-in-Some.field-0.0 _ c.from_residual.ensures.1
    (subst (λ (r : Option (Bor (List ℕ))). HasNoProgress (set_contents c.args.set.now)
    (g.F.Files.content c.args.files.now) (option_map (λ name. name.now) r)
    (AnyRose (g.F.Files.read_faults c.args.files.now)
    (g.F.Files.read_faults c.read_progress.new.files) (file_in (option_map (λ name. name.now) r)))
    c.in_err-read_progress-in-Some.field-0.0) (sym c.in-Some.is)
    (not_progress_since _ _ _ _ _ _ c.in_err-read_progress-in-Some.field-0.0
    (record { each = λ name. refl })
    (λ rose. any_first _ c.in-Some.name.now [] rose) c.in_err-read_progress-in-Some.ensures.failed))
