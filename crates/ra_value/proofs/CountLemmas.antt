-- A frame keeps a hit for each condition of a value, and a number for each part.
use Rattle.std.proofs.Common.{◌≡◌, ℕ, Bool, true, false, cond, List, length, replicate, refl, ◌∙◌}
use Rattle.std.specs.List.{flat_map, list_any}
use Rattle.std.proofs.lemmas.List.{length-replicate, length-map}
use Rattle.ra_condition.specs.Contents.{PartContents, value_hits}
use Rattle.ra_value.specs.Steps.{ValueKept, part_steps, number_after, step}
use Rattle.ra_value.proofs.PartsLemmas.{length-hits_of, length-part_steps}

length-either : (b : Bool) (hits : List ℕ) → length (cond b (replicate (length hits) 0) hits) ≡ length hits
length-either true hits = length-replicate (length hits) 0
length-either false hits = refl
