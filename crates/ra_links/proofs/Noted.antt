-- Numbers noted at a node, and the first node of a row.
use Rattle.std.proofs.Common.{◌≡◌, ◌≢◌, ℕ, ◌^◌, ◌<◌, ◌≤◌, ◌⊎◌, inl, inr, List, [], ◌∷◌, length, slice_index, refl, sym}
use Rattle.std.proofs.Common.{◌∙◌, arith, subst, length-set}
use Rattle.std.proofs.lemmas.Bool.Decides.{eqb_tells}
use Rattle.std.proofs.lemmas.List.{get_or-set_same, get_or-set_other}
use Rattle.ra_links.specs.Fields.{none, Nodes, IsRow, noted_at}
use Rattle.ra_links.proofs.Members.{In}
use Rattle.ra_links.proofs.Linked.{row_before}

pub length_noted : (numbers : List ℕ) (node number : ℕ) → length (noted_at numbers node number) ≡ length numbers
length_noted numbers node number = elim (eqb_tells node none) [
  | inl e ↦ rw e.0 refl
  | inr n ↦ rw n.0 (length-set numbers node number)
]

pub noted_other : (numbers : List ℕ) (node number x : ℕ) → x ≢ node
    → slice_index (noted_at numbers node number) x ≡ slice_index numbers x
noted_other numbers node number x apart = elim (eqb_tells node none) [
  | inl e ↦ rw e.0 refl
  | inr n ↦ rw n.0 (get_or-set_other numbers node x number 0 apart)
]

pub noted_here : (numbers : List ℕ) (node number : ℕ) → node < length numbers
    → length numbers ≤ 2 ^ 31 → slice_index (noted_at numbers node number) node ≡ number
noted_here numbers node number below few = elim (eqb_tells node none) [
  | inl e ↦ absurd (omega (arith, e.1))
  | inr n ↦ rw n.0 (get_or-set_same numbers node number 0 below)
]

-- a first node that is one stands in its row
pub first_in : (f : Nodes) (list before first : ℕ) (row : List ℕ) → IsRow f list before first row
    → first ≢ none → In first row
first_in f list before first [] linked some = absurd (some linked)
first_in f list before first (y ∷ ys) linked some = inl linked.0

-- a node of a row is its first and has none before it, or is another and has one of the row before it
pub first_or_later : (f : Nodes) (list first node : ℕ) (row : List ℕ) → IsRow f list none first row
    → In node row → ((first ≡ node) × (slice_index f.befores node ≡ none))
    ⊎ ((first ≢ node) × In (slice_index f.befores node) row)
first_or_later f list first node [] linked h = absurd h
first_or_later f list first node (y ∷ ys) linked h = elim (eqb_tells y node) [
  | inl e ↦ inl (linked.0 ∙ e.1, subst (λ n. slice_index f.befores n ≡ none) e.1 linked.3)
  | inr n ↦
      let there : In node ys = elim h [ inl e ↦ absurd (n.1 (sym e)) | inr r ↦ r ] in
      inr (λ e. n.1 (sym linked.0 ∙ e), row_before f list y (slice_index f.afters y) ys linked.4 node there)
]
