-- What is spelled by items with separators: each item, and the end; and a text that spells given items.
use Rattle.std.proofs.Common.{◌≡◌, ℕ, ◌<◌, Bool, true, List, [], ◌∷◌, ◌++◌, length, Option, Some, refl, sym, subst}
use Rattle.std.proofs.Common.{arith, append-nil}
use Rattle.std.specs.List.{flat_map, AllByRecursion}
use Rattle.ra_text.specs.Form.{Form, Spell, One, Then}
use Rattle.ra_text.specs.Chain.{Chain, joined}
use Rattle.ra_text.specs.Table.{only}
use Rattle.ra_text.proofs.Spelled.{then-spelled, none-spelled, one-spelled, link-spelled}

-- a byte alone is that byte
pub one-byte : (byte : ℕ) → only (byte ∷ []) byte ≡ Some tt → One (only (byte ∷ [])) (byte ∷ []) tt
one-byte byte listed = one-spelled byte listed

-- what a form spells, changed
pub changed : {V W : Type 0} (form : Form ℕ V) (of_it : V → W) (text : List ℕ) (v : V) → form text v
    → Then form (λ v. Spell (of_it v)) text (of_it v)
changed form of_it text v h = then-spelled text [] v (sym (append-nil text)) h none-spelled

-- the state behind items
abbrev pub ends_in : {S V : Type 0} → (S → V → S) → S → List V → S
ends_in step s [] = s
ends_in step s (v ∷ vs) = ends_in step (step s v) vs

module _ {T S V : Type 0} (separator : S → ℕ → Option T) (item : S → T → Form ℕ V) (step : S → V
    → S) (done : S → Bool) where
  -- what holds of each value that an item spells holds of each in the chain
  pub chain-each : (P : V → Type 0) → ((s : S) (tag : T) (t : List ℕ) (v : V) → item s tag t v
      → P v) → (s : S) (t : List ℕ) (vs : List V) → Chain separator item step done s t vs
      → AllByRecursion P vs
  chain-each P holds s t [] h = tt
  chain-each P holds s t (v ∷ vs) h =
      (holds s h.tag h.front v h.of_item, chain-each P holds (step s v) h.behind vs h.of_others)

  pub chain-done : (s : S) (t : List ℕ) (vs : List V) → Chain separator item step done s t vs
      → done (ends_in step s vs) ≡ true
  chain-done s t [] h = h.1
  chain-done s t (v ∷ vs) h = chain-done (step s v) h.behind vs h.of_others

  -- items behind one byte each, each of which spells its value
  pub chain-spelled : (byte : ℕ) (tag : T) (text : V → List ℕ)
      → ((s : S) → separator s byte ≡ Some tag) → (s : S) (vs : List V)
      → AllByRecursion (λ v. (s : S) → item s tag (text v) v) vs → done (ends_in step s vs) ≡ true
      → Chain separator item step done s (flat_map (λ v. byte ∷ text v) vs) vs
  chain-spelled byte tag text listed s [] each end = (refl, end)
  chain-spelled byte tag text listed s (v ∷ vs) each end =
      link-spelled byte tag (text v) (flat_map (λ v. byte ∷ text v) vs) refl (listed s) (each.0 s)
      (chain-spelled byte tag text listed (step s v) vs each.1 end)

module _ {T V : Type 0} (separator : ℕ → Option T) (item : Form ℕ V) where
  pub joined-each : (P : V → Type 0) → ((t : List ℕ) (v : V) → item t v → P v)
      → (t : List ℕ) (vs : List V) → joined separator item t vs → AllByRecursion P vs
  joined-each P holds t vs h = subst (AllByRecursion P) (sym h.of_next.of_next.is) (
    holds h.front h.v h.of_first,
    chain-each {S = Unit {0}} (λ s. separator) (λ s tag. item) (λ s v. s) (λ s. true) P
        (λ s tag t v. holds t v) tt h.of_next.front h.of_next.v h.of_next.of_first,
  )

  pub joined-some : (t : List ℕ) (vs : List V) → joined separator item t vs → 0 < length vs
  joined-some t vs h = subst (λ xs. 0 < length xs) (sym h.of_next.of_next.is) (omega arith)

  pub joined-spelled : (byte : ℕ) (tag : T) (text : V → List ℕ) → separator byte ≡ Some tag
      → (v : V) (vs : List V) → item (text v) v → AllByRecursion (λ v. item (text v) v) vs
      → joined separator item (text v ++ flat_map (λ v. byte ∷ text v) vs) (v ∷ vs)
  joined-spelled byte tag text listed v vs first each =
      then-spelled (text v) (flat_map (λ v. byte ∷ text v) vs) v refl first
      (then-spelled (flat_map (λ v. byte ∷ text v) vs) [] vs
      (sym (append-nil (flat_map (λ v. byte ∷ text v) vs)))
      (chain-spelled {S = Unit {0}} (λ s. separator) (λ s tag. item) (λ s v. s)
      (λ s. true) byte tag text (λ s. listed) tt vs (each-state vs each) refl) none-spelled) where
        each-state : (vs : List V) → AllByRecursion (λ v. item (text v) v) vs
            → AllByRecursion (λ v. (s : Unit {0}) → item (text v) v) vs
        each-state [] all = tt
        each-state (v ∷ vs) all = (λ s. all.0, each-state vs all.1)
