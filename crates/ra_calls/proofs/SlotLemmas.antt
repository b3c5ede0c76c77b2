-- Kept states in slots.
use Rattle.std.proofs.Common.{◌≡◌, ℕ, zero, suc, List, [], ◌∷◌, Some, Result, Ok, Err, OnOk, OnErr, subst, sym, arith}
use Rattle.std.specs.Prelude.{All, slice_get}
use Rattle.ra_progress.specs.Contents.{IsOpening, ShapeContents}
use Rattle.ra_runtime.specs.Keeping.{IsKeptFor, KeptSeen}

-- a call that is refused for what is not so has done what it does
pub done-so : {V E : Type 0} (r : Result V E) (P Q : Type 0) → OnOk r P → OnErr r (Q → ⊥) → Q → P
done-so (Ok v) P Q ok err q = ok
done-so (Err e) P Q ok err q = absurd (err q)

-- a kept state with another opening of its set is for the set too
pub kept-with : (shape : ShapeContents) (old new : KeptSeen) → IsKeptFor shape old → IsOpening shape new.opening
    → new ≡ record old { opening = new.opening }
    → IsKeptFor shape new
kept-with shape old new is opening same =
    subst (IsKeptFor shape) (sym same) (record {
      digest = is.digest;
      cells = opening.cells.as_many;
      priors = opening.priors.as_many;
      items = is.items;
      presence = is.presence;
    })
