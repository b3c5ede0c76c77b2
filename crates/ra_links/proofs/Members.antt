-- Members of a list of numbers, and lists in which no number stands twice.
use Rattle.std.proofs.Common.{◌≡◌, ◌≢◌, ℕ, ◌<◌, ◌≤◌, ◌⊎◌, inl, inr, true, false, eqb, List, [], ◌∷◌, length, refl, sym}
use Rattle.std.proofs.Common.{◌∙◌, ap}
use Rattle.std.specs.List.{list_any, IsDistinct, AllByRecursion}
use Rattle.std.proofs.lemmas.Bool.{eq-eqb}
use Rattle.std.proofs.lemmas.Bool.Decides.{eqb_tells}
use Rattle.std.proofs.lemmas.Map.Steps.{length-le_from_distinct_below}
use Rattle.ra_links.specs.Rows.{holds, without}

-- the number stands in the list
abbrev pub In : ℕ → List ℕ → Type 0
In x [] = ⊥
In x (y ∷ ys) = (x ≡ y) ⊎ In x ys

-- no number stands twice
abbrev pub Once : List ℕ → Type 0
Once [] = Unit {0}
Once (x ∷ xs) = (In x xs → ⊥) × Once xs

pub In_holds : (x : ℕ) (row : List ℕ) → holds x row ≡ true → In x row
In_holds x [] h = cc
In_holds x (y ∷ ys) h = elim (eqb_tells y x) [
  | inl e ↦ inl (sym e.1)
  | inr n ↦ inr (In_holds x ys (rw n.0 at h))
]

pub holds_In : (x : ℕ) (row : List ℕ) → In x row → holds x row ≡ true
holds_In x [] h = absurd h
holds_In x (y ∷ ys) h = elim h [
  | inl e ↦ rw (eq-eqb y x (sym e)) refl
  | inr r ↦ elim (eqb_tells y x) [ inl e ↦ rw e.0 refl | inr n ↦ rw n.0 (holds_In x ys r) ]
]

pub lacks_Out : (x : ℕ) (row : List ℕ) → (In x row → ⊥) → holds x row ≡ false
lacks_Out x row out = elim (holds x row) as (λ b. holds x row ≡ b → holds x row ≡ false) [
  | true ↦ λ h. absurd (out (In_holds x row h))
  | false ↦ λ h. h
] refl

-- a list of numbers below n with none twice is at most n long
list_any_In : (x : ℕ) (row : List ℕ) → list_any (eqb x) row ≡ true → In x row
list_any_In x [] h = cc
list_any_In x (y ∷ ys) h = elim (eqb_tells x y) [
  | inl e ↦ inl e.1
  | inr n ↦ inr (list_any_In x ys (rw n.0 at h))
]

all_differ : (x : ℕ) (row : List ℕ) → (In x row → ⊥) → AllByRecursion (λ y. eqb x y ≡ false) row
all_differ x [] out = tt
all_differ x (y ∷ ys) out = elim (eqb_tells x y) [
  | inl e ↦ absurd (out (inl e.1))
  | inr n ↦ (n.0, all_differ x ys (λ h. out (inr h)))
]

pub distinct_Once : (row : List ℕ) → Once row → IsDistinct eqb row
unfolding IsDistinct
distinct_Once [] once = tt
distinct_Once (x ∷ xs) once = (all_differ x xs once.0, distinct_Once xs once.1)

pub few_below : (row : List ℕ) (n : ℕ) → Once row → ((x : ℕ) → In x row → x < n) → length row ≤ n
few_below row n once below =
    length-le_from_distinct_below row n (distinct_Once row once) (λ q h. below q (list_any_In q row h))

-- what is taken out of a list that lacks it, and of one that begins with it
pub without_Out : (x : ℕ) (row : List ℕ) → (In x row → ⊥) → without x row ≡ row
without_Out x [] out = refl
without_Out x (y ∷ ys) out = elim (eqb_tells y x) [
  | inl e ↦ absurd (out (inl (sym e.1)))
  | inr n ↦ rw n.0 (ap (λ t. y ∷ t) (without_Out x ys (λ h. out (inr h))))
]

-- the others stay in the list
pub In_without : (node x : ℕ) (row : List ℕ) → In x row → x ≢ node → In x (without node row)
In_without node x [] h apart = absurd h
In_without node x (y ∷ ys) h apart = elim (eqb_tells y node) [
  | inl e ↦ rw e.0 (elim h [ inl is ↦ absurd (apart (is ∙ e.1)) | inr r ↦ In_without node x ys r apart ])
  | inr n ↦ rw n.0 (elim h [ inl is ↦ inl is | inr r ↦ inr (In_without node x ys r apart) ])
]
