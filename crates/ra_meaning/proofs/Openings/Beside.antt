-- Beside the cells of a set stand an opening's numbers, each once.
use Rattle.std.proofs.Common.{◌≡◌, ℕ, Bool, true, false, not, if◌then◌else◌, List, [], ◌∷◌, length, map, filter, inl}
use Rattle.std.proofs.Common.{inr, refl, ◌∙◌, ap, ap₂, arith}
use Rattle.ra_indirect.specs.Trees.{Cell, Tracked, same_cell, same_tracked, firsts}
use Rattle.ra_indirect.proofs.SameLemmas.{cell_itself, tracked_itself}
use Rattle.ra_meaning.specs.Openings.{number_beside, prior_beside}
use Rattle.ra_member.proofs.Listed.{In, map_agree}

-- no element is the same as a later one
abbrev pub AreApart : {A : Type 0} → (A → A → Bool) → List A → Type 0
AreApart same [] = Unit {0}
AreApart {A = A} same (x ∷ xs) = ((y : A) → In y xs → same x y ≡ false) × AreApart same xs

filtered : {A : Type 0} (p : A → Bool) (x : A) (xs : List A) → In x (filter p xs) → In x xs
filtered p x [] h = absurd h
filtered p x (y ∷ ys) h = elim (p y) as (λ b. In x (if b then y ∷ filter p ys else filter p ys) → In x (y ∷ ys)) [
  | true ↦ λ there. elim there [ inl e ↦ inl e | inr r ↦ inr (filtered p x ys r) ]
  | false ↦ λ there. inr (filtered p x ys there)
] h

passes : {A : Type 0} (p : A → Bool) (x : A) (xs : List A) → In x (filter p xs) → p x ≡ true
passes p x [] h = absurd h
passes p x (y ∷ ys) h = elim (p y) as (λ b. p y ≡ b → In x (if b then y ∷ filter p ys else filter p ys) → p x ≡ true) [
  | true ↦ λ e there. elim there [ inl is ↦ ap p is ∙ e | inr r ↦ passes p x ys r ]
  | false ↦ λ e there. passes p x ys there
] refl h

apart_filter : {A : Type 0} (same : A → A → Bool) (p : A → Bool) (xs : List A) → AreApart same xs
    → AreApart same (filter p xs)
apart_filter same p [] are = tt
apart_filter same p (x ∷ xs) are = elim (p x) as (λ b. AreApart same (if b then x ∷ filter p xs else filter p xs)) [
  | true ↦ (λ y h. are.0 y (filtered p y xs h), apart_filter same p xs are.1)
  | false ↦ apart_filter same p xs are.1
]

not_false : (b : Bool) → not b ≡ true → b ≡ false
not_false true e = absurd (cc)
not_false false e = refl

pub apart_firsts : {A : Type 0} (same : A → A → Bool) (xs : List A) → AreApart same (firsts same xs)
apart_firsts same [] = tt
apart_firsts same (x ∷ xs) = (
  λ y h. not_false (same x y) (passes (λ z. not (same x z)) y (firsts same xs) h),
  apart_filter same (λ z. not (same x z)) (firsts same xs) (apart_firsts same xs),
)

pub numbers_beside : (cells : List Cell) (numbers : List ℕ) → AreApart same_cell cells
    → length numbers ≡ length cells → map (number_beside cells numbers) cells ≡ numbers
numbers_beside [] [] are long = refl
numbers_beside [] (n ∷ ns) are long = absurd (omega arith)
numbers_beside (c ∷ cells) [] are long = absurd (omega arith)
numbers_beside (c ∷ cells) (n ∷ ns) are long =
    let here : number_beside (c ∷ cells) (n ∷ ns) c ≡ n = rw (cell_itself c) refl in
    let later : map (number_beside (c ∷ cells) (n ∷ ns)) cells ≡ map (number_beside cells ns)
    cells = map_agree (number_beside (c ∷ cells) (n ∷ ns)) (number_beside cells ns) cells
    (λ d h. let apart : same_cell c d ≡ false = are.0 d h in rw apart refl) in
    ap₂ (λ x xs. x ∷ xs) here (later ∙ numbers_beside cells ns are.1 (omega arith))

pub priors_beside : (tracked : List Tracked) (numbers : List ℕ) → AreApart same_tracked tracked
    → length numbers ≡ length tracked → map (prior_beside tracked numbers) tracked ≡ numbers
priors_beside [] [] are long = refl
priors_beside [] (n ∷ ns) are long = absurd (omega arith)
priors_beside (c ∷ tracked) [] are long = absurd (omega arith)
priors_beside (c ∷ tracked) (n ∷ ns) are long =
    let here : prior_beside (c ∷ tracked) (n ∷ ns) c ≡ n = rw (tracked_itself c) refl in
    let later : map (prior_beside (c ∷ tracked) (n ∷ ns)) tracked ≡ map (prior_beside tracked ns)
    tracked = map_agree (prior_beside (c ∷ tracked) (n ∷ ns)) (prior_beside tracked ns) tracked
    (λ d h. let apart : same_tracked c d ≡ false = are.0 d h in rw apart refl) in
    ap₂ (λ x xs. x ∷ xs) here (later ∙ priors_beside tracked ns are.1 (omega arith))
