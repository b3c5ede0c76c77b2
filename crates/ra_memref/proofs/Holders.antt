-- Which list holds a node, after a node is put on a list or taken off it.
use Rattle.std.proofs.Common.{◌≡◌, ◌≢◌, ℕ, zero, suc, ◌+◌, ◌<◌, ◌==◌, ◌||◌, inl, inr, true, false, if◌then◌else◌, None}
use Rattle.std.proofs.Common.{Some, List, [], ◌∷◌, length, map, set, refl, sym, ◌∙◌, ap, arith}
use Rattle.std.proofs.lemmas.Bool.{eq-eqb, ne_eqb}
use Rattle.std.proofs.lemmas.Bool.Decides.{eqb_tells}
use Rattle.ra_links.specs.Rows.{holds, row_at, holder_from, without}

-- a node taken out of a row is not there, and the others are as before
pub holds-without_here : (node : ℕ) (row : List ℕ) → holds node (without node row) ≡ false
holds-without_here node [] = refl
holds-without_here node (x ∷ row) = elim (eqb_tells x node) [
  | inl e ↦ rw e.0 (holds-without_here node row)
  | inr n ↦ rw (n.0, n.0) (holds-without_here node row)
]

pub holds-without_other : (node other : ℕ) (row : List ℕ) → other ≢ node
    → holds other (without node row) ≡ holds other row
holds-without_other node other [] apart = refl
holds-without_other node other (x ∷ row) apart = elim (eqb_tells x node) [
  | inl e ↦ rw (e.0, ne_eqb x other (λ same. apart (sym same ∙ e.1))) (holds-without_other node other row apart)
  | inr n ↦ rw n.0 (ap (λ b. (x == other) || b) (holds-without_other node other row apart))
]

pub holder-without_here : (number node : ℕ) (lists : List (List ℕ))
    → holder_from number (map (without node) lists) node ≡ None
holder-without_here number node [] = refl
holder-without_here number node (row ∷ lists) =
    rw (holds-without_here node row) (holder-without_here (number + 1) node lists)

pub holder-without_other : (number node other : ℕ) (lists : List (List ℕ)) → other ≢ node
    → holder_from number (map (without node) lists) other ≡ holder_from number lists other
holder-without_other number node other [] apart = refl
holder-without_other number node other (row ∷ lists) apart =
    rw (holds-without_other node other row apart, holder-without_other (number + 1) node other lists apart) refl

pub holder-put_other : (number node other l : ℕ) (lists : List (List ℕ)) → other ≢ node →
    holder_from number (set lists l (node ∷ row_at lists l)) other ≡ holder_from number lists other
holder-put_other number node other l [] apart = refl
holder-put_other number node other zero (row ∷ lists) apart = rw (ne_eqb node other (λ same. apart (sym same))) refl
holder-put_other number node other (suc l) (row ∷ lists) apart =
    ap (λ h. if holds other row then Some number else h) (holder-put_other (number + 1) node other l lists apart)

by_holds : (number node l : ℕ) (row : List ℕ) (lists : List (List ℕ)) (b : ℕ) → b ≡ b
    → holder_from number (row ∷ lists) node ≡ None → (holds node row ≡ false)
    × (holder_from (number + 1) lists node ≡ None)
by_holds number node l row lists b same free =
    elim (holds node row) as (λ h. (if h then Some number else holder_from (number + 1) lists node)
    ≡ None → (h ≡ false) × (holder_from (number + 1) lists node ≡ None)) [
      | true ↦ λ some. cc
      | false ↦ λ rest. (refl, rest)
    ] free

pub holder-put_here : (number node l : ℕ) (lists : List (List ℕ)) → l < length lists
    → holder_from number lists node ≡ None
    → holder_from number (set lists l (node ∷ row_at lists l)) node ≡ Some (number + l)
holder-put_here number node l [] below free = absurd (omega arith)
holder-put_here number node zero (row ∷ lists) below free = rw (eq-eqb node node refl) (ap Some (omega arith))
holder-put_here number node (suc l) (row ∷ lists) below free =
    let parts = by_holds number node l row lists 0 refl free in
    let e : number + 1 + l ≡ number + suc l = omega arith in
    rw parts.0 (holder-put_here (number + 1) node l lists (omega arith) parts.1 ∙ ap Some e)
