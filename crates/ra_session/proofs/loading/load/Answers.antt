use Rattle.std.proofs.Common.{option_map}
use Rattle.ra_set.specs.Contents.{set_contents}
use Rattle.ra_args.specs.Words.{file_in}
use Rattle.ra_session.specs.declared.failures.LoadFailed.TheVariants as load
use Rattle.ra_session.proofs.LoadLemmas.{not_progress_since, of_file_since}
use Rattle.ra_session.proofs.RunLemmas.{err_by, rose_before}
use Rattle.ra_session.proofs.loading.load.Goals as goal

pub returns-in_err-set-clause-failed : goal.returns-in_err-set-clause-failed
returns-in_err-set-clause-failed g c = err_by c.from_residual.result
    (load.Set c.in_err-set.field-0.0) _ c.from_residual.ensures.1 c.in_err-set.ensures.failed

pub returns-in_err-progress-clause-failed : goal.returns-in_err-progress-clause-failed
returns-in_err-progress-clause-failed g c =
    let restore = option_map (λ name. name.now) c.args.run.now.restore in
    let taken = c.in_ok-set.ensures in
    err_by c.from_residual-in_err-progress.result
    (load.Progress c.in_err-progress.field-0.0) _ c.from_residual-in_err-progress.ensures.1 (
      set_contents c.in_ok-set.set,
      taken.set,
      not_progress_since _ _ _ restore _ _ c.in_err-progress.field-0.0 taken.stays.same
          (rose_before _ _ _ (file_in restore) taken.stays.reads) c.in_err-progress.ensures.failed,
    )

pub returns-clause-loaded : goal.returns-clause-loaded
returns-clause-loaded g c =
    let restore = option_map (λ name. name.now) c.args.run.now.restore in
    let taken = c.in_ok-set.ensures in
    record {
      taken = taken.set;
      accepted = c.in_ok-progress.ensures.accepted;
      of_file = of_file_since _ _ restore (option_map (λ bytes. bytes.items)
          c.in_ok-progress.progress) taken.stays.same c.in_ok-progress.ensures.of_file;
    }
