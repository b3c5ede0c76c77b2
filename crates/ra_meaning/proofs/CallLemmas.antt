-- Writes that fit, frames and restores of saved bytes keep the set and the size of the image, and so all of them
-- succeed.
use Rattle.std.proofs.Common.{◌≡◌, ℕ, ◌+◌, ◌≤◌, None, List, [], ◌∷◌, length, sym, ◌∙◌, ap, subst, arith}
use Rattle.std.specs.List.{AllByRecursion}
use Rattle.std.proofs.lemmas.List.{length-replicate}
use Rattle.ra_memory.proofs.Written.{length-written}
use Rattle.ra_set.specs.Contents.{SetContents}
use Rattle.ra_progress.specs.Laws.{IsShape}
use Rattle.ra_progress.specs.Reading.{IsAccepted, refusal}
use Rattle.ra_progress.proofs.ComesBack.{comes_back}
use Rattle.ra_progress.proofs.Checks.{accepted_none}
use Rattle.ra_meaning.specs.Order.{shape_of}
use Rattle.ra_meaning.specs.Runtime.{RuntimeSeen}
use Rattle.ra_meaning.specs.Saving.{IsSaved}
use Rattle.ra_meaning.specs.Calls.{Call, Write, Frame, Restore, MayCome, AllSucceed, CallsSucceed}

module _ (set : SetContents) (size : ℕ) (is_shape : IsShape (shape_of set)) where
  saved_accepted : (bytes : List ℕ) → IsSaved set bytes → refusal (shape_of set) bytes ≡ None
  saved_accepted bytes saved =
      let back = comes_back (shape_of set) saved.kept is_shape saved.opening in
      accepted_none (shape_of set) bytes (subst (IsAccepted (shape_of set)) (sym saved.is) back.accepted)

  all_succeed : (runtime : RuntimeSeen) (calls : List Call) → runtime.set ≡ set → length
      runtime.image ≡ size → AllByRecursion (MayCome set size) calls → AllSucceed runtime calls
  all_succeed runtime [] is long may = tt
  all_succeed runtime (Write at bytes ∷ calls) is long may =
      let fits : at + length bytes ≤ length runtime.image = omega (arith, may.0) in (
        fits,
        λ new left. all_succeed new calls (ap (λ (r : RuntimeSeen). r.set) left.rest ∙ is)
            (ap (λ (r : RuntimeSeen). length r.image) left.rest
            ∙ length-written runtime.image bytes at fits ∙ long) may.1,
      )
  all_succeed runtime (Frame ∷ calls) is long may =
      (tt, λ new left. all_succeed new calls (left.set ∙ is) (ap length left.image ∙ long) may.1)
  all_succeed runtime (Restore bytes ∷ calls) is long may = (
    subst (λ (s : SetContents). refusal (shape_of s) bytes ≡ None) (sym is) (saved_accepted bytes may.0),
    λ new left. all_succeed new calls (left.set ∙ is) (ap length left.image ∙ long) may.1,
  )

pub calls_succeed : (set : SetContents) → IsShape (shape_of set) → CallsSucceed set
calls_succeed set is_shape size runtime calls made may =
    all_succeed set size is_shape runtime calls made.set_too (ap length made.image ∙ length-replicate size 0) may
