-- Members that are cleared keep as many numbers as before, each of them 0.
use Rattle.std.proofs.Common.{◌≡◌, ℕ, List, [], ◌∷◌, ◌++◌, length, map, replicate, refl, sym, ◌∙◌, ap, ap₂}
use Rattle.std.proofs.Common.{length-append}
use Rattle.std.specs.List.{concat}
use Rattle.std.proofs.lemmas.List.{map-append, replicate-append-replicate}
use Rattle.std.proofs.lemmas.Simd.{map-map}
use Rattle.ra_trigger.specs.Steps.{cleared as cleared_hits}
use Rattle.ra_value.specs.Kept.{cleared as cleared_value}
use Rattle.ra_value.specs.Steps.{ValueKept}
use Rattle.ra_member.specs.Members.{MemberKept, cleared_member, hit_rows, number_rows, saved_hits, saved_numbers}

rows_cleared : (rows : List (List ℕ)) → concat (map cleared_hits rows) ≡ replicate (length (concat rows)) 0
rows_cleared [] = refl
rows_cleared (row ∷ rows) =
    ap (λ xs. replicate (length row) 0 ++ xs) (rows_cleared rows)
    ∙ replicate-append-replicate (length row) (length (concat rows)) 0
    ∙ ap (λ n. replicate n 0) (sym (length-append row (concat rows)))

-- a member that is cleared keeps zeros
pub cleared_saved : (kept : MemberKept) → (saved_hits (cleared_member kept)
    ≡ replicate (length (saved_hits kept)) 0)
    × (saved_numbers (cleared_member kept) ≡ replicate (length (saved_numbers kept)) 0)
cleared_saved kept =
    let hits : map (λ (v : ValueKept). v.hits) (map cleared_value kept.values)
    ≡ map cleared_hits (map (λ (v : ValueKept). v.hits) kept.values) =
    map-map (λ (v : ValueKept). v.hits) cleared_value kept.values
    ∙ sym (map-map cleared_hits (λ (v : ValueKept). v.hits) kept.values) in
    let numbers : map (λ (v : ValueKept). v.numbers) (map cleared_value kept.values)
    ≡ map cleared_hits (map (λ (v : ValueKept). v.numbers) kept.values) =
    map-map (λ (v : ValueKept). v.numbers) cleared_value kept.values
    ∙ sym (map-map cleared_hits (λ (v : ValueKept). v.numbers) kept.values) in (
      ap concat (ap (λ xs. map cleared_hits kept.tests ++ xs) hits ∙ sym (map-append cleared_hits
          kept.tests (map (λ (v : ValueKept). v.hits) kept.values))) ∙ rows_cleared (hit_rows kept),
      ap concat numbers ∙ rows_cleared (number_rows kept),
    )

-- and so do members one behind the other
pub all_cleared : (members : List MemberKept) → (concat (map saved_hits (map cleared_member
    members)) ≡ replicate (length (concat (map saved_hits members))) 0) × (concat (map saved_numbers
    (map cleared_member members)) ≡ replicate (length (concat (map saved_numbers members))) 0)
all_cleared [] = (refl, refl)
all_cleared (m ∷ members) =
    let one = cleared_saved m in
    let rest = all_cleared members in (
      ap₂ (λ xs ys. xs ++ ys) one.0 rest.0 ∙ replicate-append-replicate (length (saved_hits m))
          (length (concat (map saved_hits members))) 0 ∙ ap (λ n. replicate n 0)
          (sym (length-append (saved_hits m) (concat (map saved_hits members)))),
      ap₂ (λ xs ys. xs ++ ys) one.1 rest.1 ∙ replicate-append-replicate (length (saved_numbers m))
          (length (concat (map saved_numbers members))) 0 ∙ ap (λ n. replicate n 0)
          (sym (length-append (saved_numbers m) (concat (map saved_numbers members)))),
    )
