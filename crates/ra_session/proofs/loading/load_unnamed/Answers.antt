use Rattle.std.proofs.Common.{◌∙◌}
use Rattle.ra_session.proofs.NextLemmas.{told}
use Rattle.ra_session.proofs.Unnamed.{unnamed_taken}
use Rattle.ra_session.proofs.loading.load_unnamed.Goals as goal

pub returns-in-Ok-clause-set : goal.returns-in-Ok-clause-set
returns-in-Ok-clause-set g c =
    unnamed_taken c.as_slice.result.now _ _
    (λ file is_told. c.as_slice.ensures.value ∙ told _ _ file is_told c.in_ok-bytes.ensures.ok)
    c.in-Ok.ensures.ok c.in-Ok.ensures.structure c.in-Ok.ensures.zeros
