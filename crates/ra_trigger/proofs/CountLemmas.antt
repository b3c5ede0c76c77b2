-- A frame keeps a hit for each condition of a trigger.
use Rattle.std.proofs.Common.{◌≡◌, ℕ, Bool, true, false, cond, List, length, refl}
use Rattle.std.proofs.lemmas.List.{length-replicate}
use Rattle.ra_trigger.specs.Steps.{cleared}

length-either : (b : Bool) (hits : List ℕ) → length (cond b (cleared hits) hits) ≡ length hits
length-either true hits = length-replicate (length hits) 0
length-either false hits = refl
