use Rattle.std.proofs.Common.{◌∙◌, ◌<◌, ℕ, ap, sym, refl, slice_index, rules}
use Rattle.ra_progress.specs.Reading.{refusal}
use Rattle.ra_progress.proofs.Checks.{accepted_none}
use Rattle.ra_session.proofs.SaysLemmas.{bytes_of}
use Rattle.ra_session.proofs.loading.judge.Goals as goal

pub returns-in-Ok-clause-accepted : goal.returns-in-Ok-clause-accepted
returns-in-Ok-clause-accepted c = ap (λ s. refusal s c.args.bytes.now) (sym c.requires.shape)
    ∙ accepted_none _ c.args.bytes.now (c.in-Ok.ensures.ok.0 refl)

pub returns-in-Err-clause-bytes : goal.returns-in-Err-clause-bytes
returns-in-Err-clause-bytes c =
    let small : (i : ℕ) → slice_index c.args.bytes.now i < 256 = search rules in
    bytes_of c.args.bytes.now small
