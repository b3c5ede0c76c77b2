-- The own entries by the places of their order.
use Rattle.std.proofs.Common.{◌≡◌, ℕ, suc, ◌+◌, ◌-◌, ◌<◌, ◌≤◌, ◌||◌, if◌then◌else◌, Bool, true, false, Option, None}
use Rattle.std.proofs.Common.{Some, option_map, List, [], ◌∷◌, length, map, take, drop, find, filter, nat_lt}
use Rattle.std.proofs.Common.{slice_index, refl, sym, ◌∙◌, arith, inl, inr, add-one, drop-cons, length-drop}
use Rattle.std.specs.List.{list_any}
use Rattle.std.proofs.lemmas.Bool.{lt-ltb, le-ltb, cases_lt}
use Rattle.std.proofs.lemmas.List.{length-map, length-take-le}
use Rattle.ra_progress.specs.declared.shape.Shape.{Shape}
use Rattle.ra_progress.specs.Contents.{Name, shape_contents, Own, own_entries, own_at}
use Rattle.ra_progress.specs.Names.{IsUsable, IsRange, entry_names}
use Rattle.ra_progress.specs.Reading.{Block, owns_named}
use Rattle.ra_progress.proofs.Orders.{numbers_within}
use Rattle.ra_progress.proofs.Owns.{names_count}
use Rattle.ra_progress.proofs.OwnNames.{own_names}
use Rattle.ra_progress.proofs.Segments.{owns_in_range}

-- a block that is read as this own entry
abbrev pub read_as : ℕ → Own → Block
read_as at own = record { at = at; shape = own.shape }

-- the next place between two
pub between_step : (order : List ℕ) (place to : ℕ) → place < to → to ≤ length order
    → take (to - place) (drop place order) ≡ slice_index order place ∷ take (to - (place + 1)) (drop (place + 1) order)
between_step order place to less most =
    let one : to - place ≡ suc (to - (place + 1)) = omega (arith, less) in
    rw (drop-cons order place 0 (omega (arith, less, most)), one, add-one) refl

-- as many stand between two places as lie between
pub many_between : {A : Type 0} (f : ℕ → A) (order : List ℕ) (from to : ℕ) → from ≤ to → to ≤ length order
    → nat_lt 0 (length (map f (take (to - from) (drop from order)))) ≡ nat_lt from to
many_between f order from to rising most =
    let many : length (map f (take (to - from) (drop from order))) ≡ to - from = length-map
    (take (to - from) (drop from order)) f ∙ length-take-le (to - from) (drop from order)
    (omega (arith, length-drop from order, most)) in
    rw many (elim (cases_lt from to) [
      | inl less ↦ lt-ltb 0 (to - from) (omega (arith, less)) ∙ sym (lt-ltb from to less)
      | inr over ↦ le-ltb 0 (to - from) (omega (arith, over)) ∙ sym (le-ltb from to over)
    ])

-- something passes where some number of things is left
pub any_filter : {A : Type 0} (p : A → Bool) (xs : List A) → list_any p xs ≡ nat_lt 0 (length (filter p xs))
any_filter p [] = refl
any_filter p (x ∷ xs) =
    elim (p x) as (λ b. (b || list_any p xs) ≡ nat_lt 0 (length (if b then x ∷ filter p xs else filter p xs))) [
      | true ↦ sym (lt-ltb 0 (suc (length (filter p xs))) (omega arith))
      | false ↦ any_filter p xs
    ]

module _ (shape : Shape) (is : IsUsable shape) where
  -- the order has numbers of own entries
  pub number_within : (place : ℕ) → place < length shape.entry_order.items
      → slice_index shape.entry_order.items place < length (own_entries (shape_contents shape))
  number_within place less =
      let below = numbers_within
      (entry_names (shape_contents shape)) shape.entry_order.items is.searchable.entries place less in
      omega (arith, below, names_count (shape_contents shape) is.searchable.paired)

  -- the own entries of a name are those of its range
  pub own_range_is : (name : Name) (from to : ℕ)
      → IsRange (entry_names (shape_contents shape)) shape.entry_order.items name from to
      → owns_named name (own_entries (shape_contents shape))
      ≡ map (own_at (own_entries (shape_contents shape))) (take (to - from) (drop from shape.entry_order.items))
  own_range_is name from to range =
      owns_in_range (own_entries (shape_contents shape))
      (entry_names (shape_contents shape)) shape.entry_order.items is.searchable.entries
      (own_names (shape_contents shape) is.searchable.paired) name from to range

-- the first of those left passes, or it does not
pub find_here : {A B : Type 0} (f : A → B) (p : A → Bool) (x : A) (xs : List A) → p x ≡ true
    → option_map f (find p (x ∷ xs)) ≡ Some (f x)
find_here f p x xs passes = rw passes refl

pub find_on : {A : Type 0} (p : A → Bool) (x : A) (xs : List A) → p x ≡ false → find p (x ∷ xs) ≡ find p xs
find_on p x xs fails = rw fails refl

-- where none passes, the first does not and none of the rest does
pub none_passes : {A : Type 0} (p : A → Bool) (x : A) (xs : List A) → find p (x ∷ xs) ≡ None
    → (p x ≡ false) × (find p xs ≡ None)
none_passes p x xs none = elim (p x) as (λ b. p x ≡ b → (p x ≡ false) × (find p xs ≡ None)) [
  | true ↦ λ e. let some : Some x ≡ None = sym (rw e refl) ∙ none in absurd (cc some)
  | false ↦ λ e. (e, sym (find_on p x xs e) ∙ none)
] refl

-- what is not there before it is changed
pub none_before : {A B : Type 0} (f : A → B) (o : Option A) → option_map f o ≡ None → o ≡ None
none_before f None none = refl
none_before f (Some x) none = absurd (cc none)
