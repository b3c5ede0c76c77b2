use Rattle.std.proofs.Common.{◌∙◌}
use Rattle.ra_io.specs.Causes.{Rose}
use Rattle.ra_set.specs.Contents.{set_contents}
use Rattle.ra_session.specs.declared.failures.NormalFailed.TheVariants as no_normal
use Rattle.ra_session.proofs.NextLemmas.{told}
use Rattle.ra_session.proofs.NormalLemmas.{limit_so, normal_so, unset_so}
use Rattle.ra_session.proofs.RunLemmas.{err_by}
use Rattle.ra_session.proofs.normalizing.load_normal.Goals as goal

pub returns-in_err-set-clause-failed : goal.returns-in_err-set-clause-failed
returns-in_err-set-clause-failed g c =
    err_by c.from_residual-in_err-set.result
    (no_normal.Set c.in_err-set.field-0.0) _ c.from_residual-in_err-set.ensures.1
    (unset_so _ _ c.as_slice-read.result.now c.in_err-set.field-0.0 (λ file is_told.
    c.as_slice-read.ensures.value
    ∙ told _ _ file is_told c.in_ok-bytes.ensures.ok) c.in_err-set.ensures.failed)

pub returns-in_err-document-clause-failed : goal.returns-in_err-document-clause-failed
returns-in_err-document-clause-failed g c =
    err_by c.from_residual-in_err-document.result
    (no_normal.Refused c.in_err-document.field-0.0) _ c.from_residual-in_err-document.ensures.1
    (limit_so _ (Rose (g.F.Files.read_faults c.args.files.now c.args.name.now)
    (g.F.Files.read_faults c.read_whole.new.files c.args.name.now)) c.as_slice-read.result.now
    (set_contents c.in_ok-set.set) c.in_err-document.field-0.0
    (λ file is_told. c.as_slice-read.ensures.value ∙ told _ _ file is_told c.in_ok-bytes.ensures.ok)
    c.in_ok-set.ensures.set c.in_err-document.ensures.refused)

pub returns-clause-given : goal.returns-clause-given
returns-clause-given g c =
    normal_so _ c.as_slice-read.result.now (set_contents c.in_ok-set.set) c.in_ok-document.document
    (λ file is_told. c.as_slice-read.ensures.value ∙ told _ _ file is_told c.in_ok-bytes.ensures.ok)
    c.in_ok-set.ensures.set c.in_ok-document.ensures.text c.in_ok-document.ensures.line
