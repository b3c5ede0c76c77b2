-- Elements of lists, and functions that agree on them.
use Rattle.std.proofs.Common.{◌≡◌, Bool, true, false, not, if◌then◌else◌, ◌⊎◌, inl, inr, List, [], ◌∷◌, ◌++◌, map}
use Rattle.std.proofs.Common.{filter, refl, sym, ◌∙◌, ap, subst}
use Rattle.std.specs.List.{flat_map}
use Rattle.ra_indirect.specs.Trees.{firsts}

-- an element of a list
abbrev pub In : {A : Type 0} → A → List A → Type 0
In x [] = ⊥
In x (y ∷ ys) = (x ≡ y) ⊎ In x ys

pub In_front : {A : Type 0} (x : A) (xs ys : List A) → In x xs → In x (xs ++ ys)
In_front x [] ys h = absurd h
In_front x (z ∷ xs) ys h = elim h [ inl e ↦ inl e | inr r ↦ inr (In_front x xs ys r) ]

pub In_behind : {A : Type 0} (x : A) (xs ys : List A) → In x ys → In x (xs ++ ys)
In_behind x [] ys h = h
In_behind x (z ∷ xs) ys h = inr (In_behind x xs ys h)

pub In_split : {A : Type 0} (x : A) (xs ys : List A) → In x (xs ++ ys) → In x xs ⊎ In x ys
In_split x [] ys h = inr h
In_split x (z ∷ xs) ys h = elim h [
  | inl e ↦ inl (inl e)
  | inr r ↦ elim (In_split x xs ys r) [ inl front ↦ inl (inr front) | inr behind ↦ inr behind ]
]

pub In_flat : {A B : Type 0} (f : A → List B) (a : A) (b : B) (xs : List A) → In a xs → In b (f a)
    → In b (flat_map f xs)
In_flat f a b [] h there = absurd h
In_flat f a b (x ∷ xs) h there = elim h [
  | inl e ↦ In_front b (f x) (flat_map f xs) (subst (λ y. In b (f y)) e there)
  | inr r ↦ In_behind b (f x) (flat_map f xs) (In_flat f a b xs r there)
]

-- an element that does not pass stays where what does is left out
pub In_filter : {A : Type 0} (p : A → Bool) (x : A) (xs : List A) → In x xs → p x ≡ true → In x (filter p xs)
In_filter p x [] h passes = absurd h
In_filter p x (y ∷ ys) h passes = elim (p y) as (λ b. p y ≡ b → In x (filter p (y ∷ ys))) [
  | true ↦ λ e. rw e (elim h [ inl is ↦ inl is | inr r ↦ inr (In_filter p x ys r passes) ])
  | false ↦ λ e. rw e (elim h [
    | inl is ↦ absurd (let bad : true ≡ false =
        sym passes ∙ ap p is ∙ e in cc)
    | inr r ↦ In_filter p x ys r passes
  ])
] refl

-- what stands in a list stands among its firsts, where only equal ones are the same
pub In_firsts : {A : Type 0} (same : A → A → Bool) → ((x y : A) → same x y ≡ true → x ≡ y)
    → (x : A) (xs : List A) → In x xs → In x (firsts same xs)
In_firsts same equal x [] h = absurd h
In_firsts same equal x (y ∷ ys) h = elim h [
  | inl e ↦ inl e
  | inr r ↦ elim (same y x) as (λ b. same y x ≡ b → In x (firsts same (y ∷ ys))) [
    | true ↦ λ e. inl (sym (equal y x e))
    | false ↦ λ e. inr (In_filter (λ z. not (same y z)) x (firsts same ys) (In_firsts same equal x ys r) (ap not e))
  ] refl
]

pub map_agree : {A B : Type 0} (f g : A → B) (xs : List A) → ((x : A) → In x xs → f x ≡ g x) → map f xs ≡ map g xs
map_agree f g [] agree = refl
map_agree f g (x ∷ xs) agree =
    ap (λ y. y ∷ map f xs) (agree x (inl refl)) ∙ ap (λ ys. g x ∷ ys) (map_agree f g xs (λ y h. agree y (inr h)))

pub flat_map_agree : {A B : Type 0} (f g : A → List B) (xs : List A)
    → ((x : A) → In x xs → f x ≡ g x) → flat_map f xs ≡ flat_map g xs
flat_map_agree f g [] agree = refl
flat_map_agree f g (x ∷ xs) agree =
    ap (λ y. y ++ flat_map f xs) (agree x (inl refl))
    ∙ ap (λ ys. g x ++ ys) (flat_map_agree f g xs (λ y h. agree y (inr h)))

-- and the other way round
In_filtered : {A : Type 0} (p : A → Bool) (x : A) (xs : List A) → In x (filter p xs) → In x xs
In_filtered p x [] h = absurd h
In_filtered p x (y ∷ ys) h = elim (p y) as (λ b. In x (if b then y ∷ filter p ys else filter p ys) → In x (y ∷ ys)) [
  | true ↦ λ there. elim there [ inl e ↦ inl e | inr r ↦ inr (In_filtered p x ys r) ]
  | false ↦ λ there. inr (In_filtered p x ys there)
] h

pub In_of_firsts : {A : Type 0} (same : A → A → Bool) (x : A) (xs : List A) → In x (firsts same xs) → In x xs
In_of_firsts same x [] h = absurd h
In_of_firsts same x (y ∷ ys) h = elim h [
  | inl e ↦ inl e
  | inr r ↦ inr (In_of_firsts same x ys (In_filtered (λ z. not (same y z)) x (firsts same ys) r))
]

-- an element of lists laid in a row stands in one of them
pub record InOne {A B : Type 0} (f : A → List B) (b : B) (xs : List A) : Type 0 where
  pub which : A
  pub listed : In which xs
  pub there : In b (f which)

pub In_one : {A B : Type 0} (f : A → List B) (b : B) (xs : List A) → In b (flat_map f xs) → InOne f b xs
In_one f b [] h = absurd h
In_one f b (x ∷ xs) h = elim (In_split b (f x) (flat_map f xs) h) [
  | inl here ↦ record { which = x; listed = inl refl; there = here }
  | inr later ↦ let one : InOne f b xs = In_one f b xs later in
      record { which = one.which; listed = inr one.listed; there = one.there }
]
