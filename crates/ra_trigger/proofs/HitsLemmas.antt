-- Hits of a trigger that were changed in place.
use Rattle.std.proofs.Common.{◌≡◌, ℕ, List, length, take, drop, ◌++◌, sym, ap, ◌∙◌}
use Rattle.std.proofs.Math.Seq.{take-append_seam}
use Rattle.ra_trigger.specs.Lends.{with_hits}
use Rattle.ra_trigger.specs.Steps.{TriggerKept}

-- as many hits as there were take their places
pub with_hits_is : (kept : TriggerKept) (hits : List ℕ) → length hits ≡ length kept.hits
    → with_hits kept hits ≡ record kept { hits = hits }
with_hits_is kept hits as_many =
    ap (λ hs. record kept { hits = hs })
    (ap (λ n. take n (hits ++ drop (length hits) kept.hits)) (sym as_many)
    ∙ take-append_seam hits (drop (length hits) kept.hits))
