use Rattle.std.proofs.Common.{◌∙◌, ℕ, sym, subst}
use Rattle.std.specs.Global.{Vec}
use Rattle.ra_set.specs.Accepted.{IsSet}
use Rattle.ra_set.specs.Contents.{set_contents}
use Rattle.ra_patch.specs.Answers.{Imports}
use Rattle.ra_session.specs.Failures.{document_refused}
use Rattle.ra_session.proofs.ImportLemmas.{imports_whole, refused_so}
use Rattle.ra_session.proofs.NextLemmas.{told}
use Rattle.ra_session.proofs.RunLemmas.{err_by}
use Rattle.ra_session.proofs.importing.load_document.Goals as goal

pub returns-in_err-given-clause-failed : goal.returns-in_err-given-clause-failed
returns-in_err-given-clause-failed g c =
    err_by c.from_residual-in_err-given.result
    (document_refused c.in_err-given.field-0.0) _ c.from_residual-in_err-given.ensures.1
    (refused_so _ _ c.as_slice.result.now c.in_err-given.field-0.0 (λ file is_told.
    c.as_slice.ensures.value
    ∙ told _ _ file is_told c.in_ok-bytes.ensures.ok) c.in_err-given.ensures.err)

pub returns-clause-given : goal.returns-clause-given
returns-clause-given g c =
    let text = c.in_ok-document.ensures.text in
    record {
      set = set_contents c.in_ok-given.given.set;
      accepted = subst (λ (t : Vec ℕ). IsSet t.items (set_contents c.in_ok-given.given.set))
          (sym text) c.in_ok-given.ensures.set;
      line = c.in_ok-document.ensures.line;
      imports = λ file is_told.
          imports_whole c.as_slice.result.now file _ (c.as_slice.ensures.value
          ∙ told _ _ file is_told c.in_ok-bytes.ensures.ok)
          (subst (λ (t : Vec ℕ). Imports c.as_slice.result.now t.items) (sym text) c.in_ok-given.ensures.ok);
    }
