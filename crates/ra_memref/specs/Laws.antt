-- What the definitions by looking back come to: a greatest frame, or none: docs/DEFINITIONS.md, "Values at a frame".
use Rattle.std.specs.Prelude.{◌≡◌, ◌⊎◌, ℕ, Bool, true, false, [], ◌∷◌, ◌++◌}
use Rattle.ra_memory.specs.Image.{History}
use Rattle.ra_memref.specs.Values.{before, changes}

-- no frame after the history k, up to the last of `later`, passes
abbrev pub NonePasses : (History → Bool) → History → History → Type 0
NonePasses passes k [] = Unit {0}
NonePasses passes k (image ∷ later) = (passes (image ∷ (later ++ k)) ≡ false) × NonePasses passes k later

-- the history up to k's last frame passes, and no longer one does
pub record IsGreatest (passes : History → Bool) (history k : History) : Type 0 where
  pub later : History
  pub whole : history ≡ later ++ k
  pub here : passes k ≡ true
  pub none_later : NonePasses passes k later

-- no frame of the history passes
abbrev pub NeverPasses : (History → Bool) → History → Type 0
NeverPasses passes [] = Unit {0}
NeverPasses passes (image ∷ earlier) = (passes (image ∷ earlier) ≡ false) × NeverPasses passes earlier

-- the number at the frame before the greatest one at which it changes, or without such a frame the opening's
abbrev pub IsPrior : (History → ℕ) → ℕ → History → ℕ → Type 0
IsPrior number opened history prior =
    ((k : History) × IsGreatest (changes number) history k × (prior ≡ number (before k)))
    ⊎ (NeverPasses (changes number) history × (prior ≡ opened))
