-- The fields of a document.
use Rattle.std.proofs.Common.{◌≡◌, List, [], ◌∷◌, refl, ap}
use Rattle.serde_json.specs.Data.{Data}
use Rattle.serde_json.specs.View.{items_of}
use Rattle.ra_patch.specs.Fields.{listed}

-- the items of an array are those that it was made of
pub listed-items_of : (ds : List Data) → listed (items_of ds) ≡ ds
listed-items_of [] = refl
listed-items_of (d ∷ ds) = ap (λ es. d ∷ es) (listed-items_of ds)
