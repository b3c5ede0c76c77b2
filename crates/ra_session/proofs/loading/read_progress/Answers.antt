use Rattle.std.proofs.Common.{◌∙◌, ◌≡◌, ap, sym, subst, refl, List, ℕ, take, Some, None}
use Rattle.ra_set.specs.Contents.{set_contents}
use Rattle.ra_progress.specs.Reading.{refusal}
use Rattle.ra_meaning.specs.Order.{shape_of}
use Rattle.ra_session.specs.Loading.{AreAccepted}
use Rattle.ra_session.proofs.LoadLemmas.{refused_at}
use Rattle.ra_session.proofs.NextLemmas.{told}
use Rattle.ra_session.proofs.SaysLemmas.{read_accepted, shape_fits}
use Rattle.ra_session.proofs.loading.read_progress.Goals as goal

pub returns-in-Ok-clause-accepted : goal.returns-in-Ok-clause-accepted
returns-in-Ok-clause-accepted g c =
    let set = set_contents c.args.set.now in
    let shape = shape_fits set _ c.requires c.in_ok-shape.ensures.shape c.in_ok-shape.ensures.usable.short in
    subst (λ (b : List ℕ). AreAccepted set (Some b)) c.as_slice.ensures.value
    (shape, c.judge.ensures.bytes, c.in-Ok.ensures.accepted)

pub returns-in-Ok-clause-of_file : goal.returns-in-Ok-clause-of_file
returns-in-Ok-clause-of_file g c =
    let set = set_contents c.args.set.now in
    let none : refusal (shape_of set) c.in_ok-bytes.bytes.items ≡ None =
    ap (refusal (shape_of set)) (sym c.as_slice.ensures.value) ∙ c.in-Ok.ensures.accepted in (
      c.in_ok-bytes.bytes.items,
      refl,
      λ file is_told. read_accepted set c.in_ok-bytes.bytes.items file (told _ _ file is_told
          c.in_ok-bytes.ensures.ok ∙ ap (λ n. take n file) c.progress_read.ensures) none,
    )

pub returns-clause-failed : goal.returns-clause-failed
returns-clause-failed g c =
    let set = set_contents c.args.set.now in
    let shape = shape_fits set _ c.requires c.in_ok-shape.ensures.shape c.in_ok-shape.ensures.usable.short in
    refused_at (g.F.Files.content c.args.files.now) set c.args.name.now c.as_slice.result.now
    c.in-Err.why shape c.in-Err.ensures.refused
    (λ file is_told. c.as_slice.ensures.value ∙ told _ _ file is_told c.in_ok-bytes.ensures.ok
    ∙ ap (λ n. take n file) c.progress_read.ensures)
