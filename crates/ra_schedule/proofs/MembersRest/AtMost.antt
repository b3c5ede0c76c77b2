-- More frames than a hit can count owe what so many do.
use Rattle.std.proofs.Common.{◌≡◌, ℕ, ◌==◌, min, if◌then◌else◌, List, [], ◌∷◌, length, map, slice_index, refl, arith}
use Rattle.std.specs.List.{range_with_len}
use Rattle.ra_schedule.specs.Groups.{paid, plus}
use Rattle.ra_value.specs.Steps.{ValueKept}
use Rattle.ra_schedule.specs.Owing.{owed_values}

-- more frames than a hit can count owe what so many do
plus_most : (n h : ℕ) → plus (min n 4294967295) h ≡ plus n h
plus_most n h = omega arith

pub paid_at_most : (n : ℕ) (before hits : List ℕ) → paid (min n 4294967295) before hits ≡ paid n before hits
paid_at_most n before hits =
    (λ i. map (λ j. if slice_index hits j == slice_index before j then slice_index hits j
    else plus_most n (slice_index hits j) i) (range_with_len 0 (length hits)))

values_at_most : (n : ℕ) (before : List (List ℕ)) (kept : List ValueKept)
    → owed_values (min n 4294967295) before kept ≡ owed_values n before kept
values_at_most n [] kept = refl
values_at_most n (b ∷ before) [] = refl
values_at_most n (b ∷ before) (v ∷ kept) = (λ i. record
    { hits = paid_at_most n b v.hits i; numbers = v.numbers } ∷ values_at_most n before kept i)
