use Rattle.std.proofs.Common.{inr}
use Rattle.std.proofs.lemmas.Result.{err_from_is_err_and}
use Rattle.serde_json.specs.View.{view}
use Rattle.ra_patch.proofs.FaultLemmas.{refuses-first}
use Rattle.ra_patch.proofs.document.import_value.Goals as goal

pub returns-in_err-check_document-clause-err : goal.returns-in_err-check_document-clause-err
returns-in_err-check_document-clause-err c =
    let p = err_from_is_err_and c.from_residual.result c.from_residual.ensures.1 in
    rw (p.1, p.2) (inr (refuses-first (view c.args.value.now) _ c.in_err-check_document.ensures.err))
