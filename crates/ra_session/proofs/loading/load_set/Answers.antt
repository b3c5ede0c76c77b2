use Rattle.std.proofs.Common.{◌∙◌}
use Rattle.ra_session.proofs.NextLemmas.{told}
use Rattle.ra_session.proofs.RunLemmas.{set_read}
use Rattle.ra_session.proofs.Unnamed.{set_playable}
use Rattle.ra_session.proofs.loading.load_set.Goals as goal

pub returns-in-Ok-clause-set : goal.returns-in-Ok-clause-set
returns-in-Ok-clause-set g c = record {
  playable = set_playable c.as_slice.result.now _ c.in-Ok.ensures.ok c.in-Ok.ensures.structure;
  is_set = λ file is_told. set_read c.as_slice.result.now file _ (c.as_slice.ensures.value
      ∙ told _ _ file is_told c.in_ok-bytes.ensures.ok) c.in-Ok.ensures.ok;
}
