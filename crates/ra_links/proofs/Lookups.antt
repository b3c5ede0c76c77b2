-- What a row of lists answers about a node that stands on one list, or on none.
use Rattle.std.proofs.Common.{◌≡◌, ℕ, zero, suc, ◌+◌, ◌<◌, inl, inr, if◌then◌else◌, Option, None, Some, List, [], ◌∷◌}
use Rattle.std.proofs.Common.{length, slice_get, slice_index, refl, sym, ◌∙◌, ap, arith, ◌==◌}
use Rattle.std.proofs.lemmas.Bool.{eq-eqb}
use Rattle.std.proofs.lemmas.Bool.Decides.{eqb_tells}
use Rattle.ra_links.specs.Rows.{row_at, holder_from, after_in, next_of}
use Rattle.ra_links.specs.Fields.{none, Nodes, IsRow}
use Rattle.ra_links.proofs.Members.{In, Once, holds_In, lacks_Out}

-- no list holds the node
pub holder_none : (number : ℕ) (lists : List (List ℕ)) (node : ℕ) → ((l : ℕ) → l < length lists
    → In node (row_at lists l) → ⊥) → holder_from number lists node ≡ None
holder_none number [] node out = refl
holder_none number (row ∷ lists) node out =
    rw (lacks_Out node row (out 0 (omega arith)))
    (holder_none (number + 1) lists node (λ l below. out (suc l) (omega arith)))

-- the list at l holds it, and no other
pub holder_some : (number : ℕ) (lists : List (List ℕ)) (node l : ℕ) → l < length lists
    → In node (row_at lists l) → ((k : ℕ) → k < length lists → In node (row_at lists k) → k ≡ l)
    → holder_from number lists node ≡ Some (number + l)
holder_some number [] node l below there only = absurd (omega arith)
holder_some number (row ∷ lists) node zero below there only = rw (holds_In node row there) (ap Some (omega arith))
holder_some number (row ∷ lists) node (suc l) below there only =
    let out : In node row → ⊥ = λ h. let e : 0 ≡ suc l = only 0 (omega arith) h in absurd (omega arith) in
    let only_rest : (k : ℕ) → k < length lists → In node (row_at lists k) → k ≡ l =
    λ k small h. let e : suc k ≡ suc l = only (suc k) (omega arith) h in omega arith in
    let e : number + 1 + l ≡ number + suc l = omega arith in
    rw (lacks_Out node row out) (holder_some (number + 1) lists node l (omega arith) there only_rest ∙ ap Some e)

pub next_none : (lists : List (List ℕ)) (node : ℕ)
    → ((l : ℕ) → l < length lists → In node (row_at lists l) → ⊥) → next_of lists node ≡ None
next_none [] node out = refl
next_none (row ∷ lists) node out =
    rw (lacks_Out node row (out 0 (omega arith))) (next_none lists node (λ l below. out (suc l) (omega arith)))

pub next_some : (lists : List (List ℕ)) (node l : ℕ) → l < length lists → In node (row_at lists l)
    → ((k : ℕ) → k < length lists → In node (row_at lists k) → k ≡ l) → next_of lists node
    ≡ after_in node (row_at lists l)
next_some [] node l below there only = absurd (omega arith)
next_some (row ∷ lists) node zero below there only = rw (holds_In node row there) refl
next_some (row ∷ lists) node (suc l) below there only =
    let out : In node row → ⊥ = λ h. let e : 0 ≡ suc l = only 0 (omega arith) h in absurd (omega arith) in
    let only_rest : (k : ℕ) → k < length lists → In node (row_at lists k) → k ≡ l =
    λ k small h. let e : suc k ≡ suc l = only (suc k) (omega arith) h in omega arith in
    rw (lacks_Out node row out) (next_some lists node l (omega arith) there only_rest)

-- a number, unless it stands for none
abbrev pub unless_none : ℕ → Option ℕ
unless_none number = if number == none then None else Some number

-- the first node of a linked row
pub row_first : (f : Nodes) (list before node : ℕ) (row : List ℕ) → length f.afters < none
    → IsRow f list before node row → slice_get row 0 ≡ unless_none node
row_first f list before node [] few linked = rw (eq-eqb node none linked) refl
row_first f list before node (y ∷ ys) few linked =
    let below : y < length f.afters = linked.1 in
    let is : node ≡ y = linked.0 in
    elim (eqb_tells node none) [
      | inl e ↦ absurd (omega (arith, e.1))
      | inr n ↦ rw n.0 (ap Some (sym is))
    ]

-- the node after one of a linked row
pub row_next : (f : Nodes) (list before first : ℕ) (row : List ℕ) → length f.afters < none
    → IsRow f list before first row → Once row → (node : ℕ) → In node row → after_in node row
    ≡ unless_none (slice_index f.afters node)
row_next f list before first [] few linked once node h = absurd h
row_next f list before first (y ∷ ys) few linked once node h = elim (eqb_tells y node) [
  | inl e ↦ rw e.0 (row_first f list y (slice_index f.afters y) ys few linked.4
      ∙ ap (λ n. unless_none (slice_index f.afters n)) e.1)
  | inr n ↦
      let there : In node ys = elim h [ inl e ↦ absurd (n.1 (sym e)) | inr r ↦ r ] in
      rw n.0 (row_next f list y (slice_index f.afters y) ys few linked.4 once.1 node there)
]
