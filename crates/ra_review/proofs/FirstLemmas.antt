-- Rows of the first lines of ids.
use Rattle.std.proofs.Common.{◌≡◌, ℕ, zero, suc, List, [], ◌∷◌, ◌++◌, Option, None, get_or, refl}

-- a place that is added without a line says what was said of it
pub none_more : (lines : List (Option ℕ)) (other : ℕ) → get_or (lines ++ None ∷ []) other None ≡ get_or lines other None
none_more [] zero = refl
none_more [] (suc other) = refl
none_more (line ∷ lines) zero = refl
none_more (line ∷ lines) (suc other) = none_more lines other
