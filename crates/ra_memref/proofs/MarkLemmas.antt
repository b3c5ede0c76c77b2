-- Where each cell from one on is marked, and each before it by its own mark.
use Rattle.std.proofs.Common.{◌≡◌, ℕ, zero, suc, ◌+◌, ◌<◌, ◌≤◌, inl, inr, Bool, true, false, ◌||◌, List, [], ◌∷◌}
use Rattle.std.proofs.Common.{length, replicate, get_or, set, refl, sym, ◌∙◌, ap, arith}
use Rattle.std.proofs.lemmas.Bool.{cases_eq, cases_lt, false≢true}
use Rattle.std.proofs.lemmas.List.{ext_get_or, get_or-set_same, get_or-set_other, length-replicate, length-set}
use Rattle.ra_memref.specs.Flags.{SetsBetween}
use Rattle.ra_memref.specs.Watches.{marked_by}

-- no cell of a list of marks that are all set is unmarked
pub never_unmarked : (n k : ℕ) → get_or (replicate n true) k true ≡ false → ⊥
never_unmarked zero k is = false≢true (sym is)
never_unmarked (suc n) zero is = false≢true (sym is)
never_unmarked (suc n) (suc k) is = never_unmarked n k is

pub length-marked_by : (from : ℕ) (marks : List Bool) → length (marked_by from marks) ≡ length marks
length-marked_by zero marks = length-replicate (length marks) true
length-marked_by (suc from) [] = refl
length-marked_by (suc from) (m ∷ marks) = ap suc (length-marked_by from marks)

all_set : (marks : List Bool) (k : ℕ) → get_or (marked_by 0 marks) k true ≡ true
all_set [] k = refl
all_set (m ∷ marks) zero = refl
all_set (m ∷ marks) (suc k) = all_set marks k

-- each cell from this one on is marked
pub marked_after : (from : ℕ) (marks : List Bool) (k : ℕ) → from ≤ k → get_or (marked_by from marks) k true ≡ true
marked_after zero marks k most = all_set marks k
marked_after (suc from) [] k most = refl
marked_after (suc from) (m ∷ marks) zero most = absurd (omega (arith, most))
marked_after (suc from) (m ∷ marks) (suc k) most = marked_after from marks k (omega (arith, most))

-- and each before it by its own mark
pub marked_before : (from : ℕ) (marks : List Bool) (k : ℕ) → k < from
    → get_or (marked_by from marks) k true ≡ get_or marks k true
marked_before zero marks k less = absurd (omega (arith, less))
marked_before (suc from) [] k less = refl
marked_before (suc from) (m ∷ marks) zero less = refl
marked_before (suc from) (m ∷ marks) (suc k) less = marked_before from marks k (omega (arith, less))

-- where this one is no cell each has its own mark
pub marked_past : (from : ℕ) (marks : List Bool) → length marks ≤ from → marked_by from marks ≡ marks
marked_past from marks past = ext_get_or true (marked_by from marks) marks (length-marked_by from marks)
    (λ k below. marked_before from marks k (omega (arith, below, length-marked_by from marks, past)))

-- a mark more is a mark more of all
pub marked_too : (from : ℕ) (old now : List Bool) (k : ℕ) (watched : Bool)
    → get_or now k true ≡ (get_or old k true || watched)
    → get_or (marked_by from now) k true ≡ (get_or (marked_by from old) k true || watched)
marked_too from old now k watched is = elim (cases_lt k from) [
  | inl less ↦ marked_before from now k less ∙ is ∙ ap (λ b. b || watched) (sym (marked_before from old k less))
  | inr more ↦ marked_after from now k more ∙ ap (λ b. b || watched) (sym (marked_after from old k more))
]

-- each cell gets its own mark
pub own_all : (from : ℕ) (old new : List Bool) → SetsBetween from (length old) old new → new ≡ marked_by from old
own_all from old new sets = ext_get_or true new (marked_by from old) (sets.long ∙ sym (length-marked_by from old))
    (λ k below. elim (cases_lt k from) [
      | inl less ↦ sets.before k less ∙ sym (marked_before from old k less)
      | inr more ↦ sets.set_there k more (omega (arith, below, sets.long)) ∙ sym (marked_after from old k more)
    ])

-- then no cell is marked but by its own mark
pub owned : (from past : ℕ) (old own : List Bool) → length old ≤ past → own ≡ marked_by from old
    → marked_by past own ≡ marked_by from old
owned from past old own most is = marked_past past own
    (omega (arith, ap length is, length-marked_by from old, most)) ∙ is

-- a cell that has its own mark is unmarked
pub unmarked_own : (from : ℕ) (marks : List Bool) (cell : ℕ) → cell < from
    → marked_by from (set marks cell false) ≡ set (marked_by from marks) cell false
unmarked_own zero marks cell less = absurd (omega (arith, less))
unmarked_own (suc from) [] cell less = refl
unmarked_own (suc from) (m ∷ marks) zero less = refl
unmarked_own (suc from) (m ∷ marks) (suc cell) less = ap (λ ms. m ∷ ms)
    (unmarked_own from marks cell (omega (arith, less)))

-- a cell of the others is unmarked
pub unmarked_other : (from cell : ℕ) (old now : List Bool) → from ≤ cell → cell < length old
    → SetsBetween from cell old now
    → marked_by (cell + 1) (set now cell false) ≡ set (marked_by from old) cell false
unmarked_other from cell old now least below sets =
    let long = length-marked_by from old in
    ext_get_or true (marked_by (cell + 1) (set now cell false)) (set (marked_by from old) cell false)
    (length-marked_by (cell + 1) (set now cell false) ∙ length-set now cell false ∙ sets.long ∙ sym long
    ∙ sym (length-set (marked_by from old) cell false))
    (λ k in_row. at k)
  where
    other : (k : ℕ) → (k ≡ cell → ⊥) → get_or (marked_by (cell + 1) (set now cell false)) k true
        ≡ get_or (marked_by from old) k true
    other k apart = elim (cases_lt k cell) [
      | inl less ↦ marked_before (cell + 1) (set now cell false) k (omega (arith, less))
          ∙ get_or-set_other now cell k false true apart
          ∙ elim (cases_lt k from) [
            | inl first ↦ sets.before k first ∙ sym (marked_before from old k first)
            | inr later ↦ sets.set_there k later less ∙ sym (marked_after from old k later)
          ]
      | inr more ↦ marked_after (cell + 1) (set now cell false) k (omega (arith, more, apart))
          ∙ sym (marked_after from old k (omega (arith, more, least)))
    ]

    at : (k : ℕ) → get_or (marked_by (cell + 1) (set now cell false)) k true
        ≡ get_or (set (marked_by from old) cell false) k true
    at k = elim (cases_eq k cell) [
      | inl here ↦ marked_before (cell + 1) (set now cell false) k (omega (arith, here))
          ∙ ap (λ i. get_or (set now cell false) i true) here
          ∙ get_or-set_same now cell false true (omega (arith, below, sets.long))
          ∙ sym (get_or-set_same (marked_by from old) cell false true
          (omega (arith, below, length-marked_by from old)))
          ∙ ap (λ i. get_or (set (marked_by from old) cell false) i true) (sym here)
      | inr apart ↦ other k apart ∙ sym (get_or-set_other (marked_by from old) cell k false true apart)
    ]
