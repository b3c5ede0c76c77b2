-- A list, and a pool, that grow at their end.
use Rattle.std.proofs.Common.{◌≡◌, ℕ, suc, ◌+◌, ◌<◌, Bool, true, cond, if◌then◌else◌, length, take, List, [], ◌∷◌, ◌++◌}
use Rattle.std.proofs.Common.{refl, ap, subst, sym, ◌∙◌, ◌⊎◌, inl, inr, arith, get_or, Some, append_assoc}
use Rattle.std.proofs.Common.{length-append}
use Rattle.std.specs.List.{list_any, flat_map}
use Rattle.std.proofs.lemmas.List.{append-nil}
use Rattle.std.proofs.lemmas.List.Folds.{length-flat_map-take}
use Rattle.std.proofs.lemmas.List.Concat.{flat_map-append, get_or-flat_map}
use Rattle.std.proofs.lemmas.Option.{slice_get-get_or, get_or_from_slice_get, slice_get_within}
use Rattle.std.proofs.lemmas.Bool.{false_from_ne_true, or_cases, false≢true}
use Rattle.std.proofs.Math.Seq.{get_or-append_seam}
use Rattle.ra_indirect.specs.declared.node.Node.{Node}
use Rattle.ra_indirect.specs.declared.node.Node.TheVariants.{Const}
use Rattle.ra_indirect.specs.Trees.{constant, Cell, same_cell, same_tracked, firsts}
use Rattle.ra_indirect.specs.Pools.{Spelled, IsTree, IsCell, spelled_at, spelled_with, spelled_by, cell_in, tracked_at}
use Rattle.ra_indirect.specs.Pools.{cells_of, tracked_of}
use Rattle.ra_indirect.specs.Interned.{IsPool, Interns}
use Rattle.ra_indirect.specs.Growing.{grown, GainsNode}
use Rattle.ra_indirect.proofs.SameLemmas.{cell_is, cell_itself, tracked_is, tracked_itself}
use Rattle.ra_indirect.proofs.FirstsLemmas.{has_same, firsts-push, has_same-firsts, any_get, along}
use Rattle.ra_indirect.proofs.Spelling.{spelled_by-push, spelled_by-append, spelled_of, length-spelled_by}
use Rattle.ra_indirect.proofs.SpelledLemmas.{all_alone}

module _ {A : Type 0} (same : A → A → Bool) where
  pub grown-append : (old xs ys : List A) → grown same old (xs ++ ys) ≡ grown same (grown same old xs) ys
  grown-append old [] ys = refl
  grown-append old (x ∷ xs) ys = grown-append (if list_any (λ y. same y x) old then old else old ++ x ∷ []) xs ys

  -- what the list has already adds nothing
  pub grown_had : (old xs : List A) → ((i : ℕ) (d : A) → i < length xs
      → has_same same old (get_or xs i d) ≡ true) → grown same old xs ≡ old
  grown_had old [] had = refl
  grown_had old (x ∷ xs) had =
      ap (λ b. grown same (cond b old (old ++ x ∷ [])) xs) (had 0 x (omega arith))
      ∙ grown_had old xs (λ i d below. had (suc i) d (omega arith))

  module _ (equal : (x y : A) → same x y ≡ true → x ≡ y) (itself : (x : A) → same x x ≡ true) where
    -- to grow what stands once is to take each of both once
    pub grown-firsts : (xs ys : List A) → grown same (firsts same xs) ys ≡ firsts same (xs ++ ys)
    grown-firsts xs [] = ap (firsts same) (sym (append-nil xs))
    grown-firsts xs (y ∷ ys) =
        ap (λ zs. grown same zs ys) (ap (λ b. cond b (firsts same xs) (firsts same xs ++ y ∷ []))
        (has_same-firsts same (along same equal itself) xs y) ∙ sym (firsts-push same xs y))
        ∙ grown-firsts (xs ++ y ∷ []) ys
        ∙ ap (firsts same) (append_assoc xs (y ∷ []) ys)

    -- an element of one of the lists that are joined is had
    pub had_flat : {B : Type 0} (f : B → List A) (parts : List B) (m : ℕ) (e : B) → m < length parts
        → (i : ℕ) (d : A) → i < length (f (get_or parts m e))
        → has_same same (flat_map f parts) (get_or (f (get_or parts m e)) i d) ≡ true
    had_flat f parts m e within i d below =
        let there = get_or-flat_map f parts m i e d within below in
        let inside = length-flat_map-take f parts m e within in
        any_get same (λ x. same x (get_or (f (get_or parts m e)) i d))
        (get_or (f (get_or parts m e)) i d) (itself (get_or (f (get_or parts m e)) i d))
        (flat_map f parts) (length (flat_map f (take m parts)) + i)
        (slice_get-get_or (flat_map f parts) (length (flat_map f (take m parts)) + i) d (omega arith) ∙ ap Some there)

-- a cell that is among those of a list is spelled there
pub record SpellsCell (spelled : List Spelled) (c : Cell) : Type 0 where
  pub number : ℕ
  pub within : number < length spelled
  pub is : spelled_at spelled number ≡ IsCell c

cell_later : (s : Spelled) (spelled : List Spelled) (c : Cell) → SpellsCell spelled c → SpellsCell (s ∷ spelled) c
cell_later s spelled c there = record { number = suc there.number; within = omega (arith, there.within); is = there.is }

pub cell_from : (spelled : List Spelled) (c : Cell)
    → has_same same_cell (flat_map cell_in spelled) c ≡ true → SpellsCell spelled c
cell_from [] c has = absurd (false≢true has)
cell_from (IsTree t ∷ spelled) c has = cell_later (IsTree t) spelled c (cell_from spelled c has)
cell_from (IsCell d ∷ spelled) c has =
    by (or_cases (same_cell d c) (has_same same_cell (flat_map cell_in spelled) c) has)
    (λ rest. cell_from spelled c rest)
  where
    by : (same_cell d c ≡ true) ⊎ (has_same same_cell (flat_map cell_in spelled) c ≡ true)
        → (has_same same_cell (flat_map cell_in spelled) c ≡ true → SpellsCell spelled c)
        → SpellsCell (IsCell d ∷ spelled) c
    by (inl here) rest = record { number = 0; within = omega arith; is = ap IsCell (cell_is d c here) }
    by (inr later) rest = cell_later (IsCell d) spelled c (rest later)

-- what the pool has of a node's cell and of its tracked mask
module _ (nodes : List Node) where
  abbrev spelled : List Spelled
  spelled = spelled_by nodes

  pub cells_had : (m : ℕ) (x : Spelled) → m < length nodes → spelled_at spelled m ≡ x
      → grown same_cell (cells_of nodes) (cell_in x) ≡ cells_of nodes
  cells_had m x within is =
      grown_had same_cell (cells_of nodes) (cell_in x)
      (λ i d below. subst (λ s. has_same same_cell (cells_of nodes) (get_or (cell_in s) i d)
      ≡ true) is (had_flat same_cell cell_is cell_itself cell_in spelled m (IsTree (constant 0))
      (omega (arith, length-spelled_by nodes)) i d
      (omega (arith, ap (λ s. length (cell_in s)) is))))

  pub tracked_had : (m : ℕ) (x : Spelled) → m < length nodes → spelled_at spelled m ≡ x
      → grown same_tracked (tracked_of nodes) (tracked_at x) ≡ tracked_of nodes
  tracked_had m x within is =
      grown_had same_tracked (tracked_of nodes) (tracked_at x)
      (λ i d below. has_same-firsts same_tracked (along same_tracked tracked_is tracked_itself)
      (flat_map tracked_at spelled) (get_or (tracked_at x) i d) ∙ subst (λ s. has_same same_tracked
      (flat_map tracked_at spelled) (get_or (tracked_at s) i d) ≡ true) is (had_flat same_tracked
      tracked_is tracked_itself tracked_at spelled m (IsTree (constant 0)) (omega
      (arith, length-spelled_by nodes)) i d (omega (arith, ap (λ s. length (tracked_at s)) is))))

  pub cells_of-push : (node : Node) → cells_of (nodes ++ node ∷ [])
      ≡ cells_of nodes ++ cell_in (spelled_with spelled node)
  cells_of-push node =
      ap (flat_map cell_in) (spelled_by-push nodes node)
      ∙ flat_map-append cell_in spelled (spelled_with spelled node ∷ [])
      ∙ ap (λ cs. cells_of nodes ++ cs) (append-nil (cell_in (spelled_with spelled node)))

  pub tracked_of-push : (node : Node) → tracked_of (nodes ++ node ∷ [])
      ≡ grown same_tracked (tracked_of nodes) (tracked_at (spelled_with spelled node))
  tracked_of-push node =
      ap (λ s. firsts same_tracked (flat_map tracked_at s)) (spelled_by-push nodes node)
      ∙ ap (firsts same_tracked) (flat_map-append tracked_at spelled
      (spelled_with spelled node ∷ []) ∙ ap (λ ts. flat_map tracked_at spelled ++ ts)
      (append-nil (tracked_at (spelled_with spelled node))))
      ∙ sym (grown-firsts same_tracked tracked_is tracked_itself (flat_map tracked_at spelled)
      (tracked_at (spelled_with spelled node)))

  pub spelled_last : (node : Node) → spelled_at (spelled_by (nodes ++ node ∷ [])) (length nodes)
      ≡ spelled_with spelled node
  spelled_last node =
      ap (λ s. spelled_at s (length nodes)) (spelled_by-push nodes node)
      ∙ ap (λ n. spelled_at (spelled ++ spelled_with spelled node ∷ []) n) (sym (length-spelled_by nodes))
      ∙ get_or-append_seam spelled (spelled_with spelled node) [] (IsTree (constant 0))

  module _ (node : Node) (after : IsPool (nodes ++ node ∷ [])) where
    -- a cell of a new node is new
    fresh_cell : (c : Cell) → spelled_with spelled node ≡ IsCell c → has_same same_cell (cells_of nodes) c ≡ true → ⊥
    fresh_cell c is has =
        let there = cell_from spelled c has in
        let within : there.number < length nodes = omega (arith, there.within, length-spelled_by nodes) in
        let both : spelled_at (spelled_by (nodes ++ node ∷ [])) there.number
        ≡ spelled_at (spelled_by (nodes ++ node ∷ [])) (length nodes) = spelled_by-append nodes
        (node ∷ []) there.number within ∙ there.is ∙ sym is ∙ sym (spelled_last node) in
        let one = all_alone (nodes ++ node ∷ []) after (length nodes)
        (omega (arith, length-append nodes (node ∷ []))) there.number
        (omega (arith, length-append nodes (node ∷ []))) both in
        omega arith

    grows_by : (x : Spelled) → spelled_with spelled node ≡ x → cells_of nodes ++ cell_in x
        ≡ grown same_cell (cells_of nodes) (cell_in x)
    grows_by (IsTree t) is = append-nil (cells_of nodes)
    grows_by (IsCell c) is =
        sym (ap (λ b. cond b (cells_of nodes) (cells_of nodes ++ c ∷ []))
        (false_from_ne_true (has_same same_cell (cells_of nodes) c) (fresh_cell c is)))

    pub cells_of-fresh : cells_of (nodes ++ node ∷ [])
        ≡ grown same_cell (cells_of nodes) (cell_in (spelled_with spelled node))
    cells_of-fresh = cells_of-push node ∙ grows_by (spelled_with spelled node) refl

pub gains : (old new : List Node) (node : Node) (place : ℕ) → IsPool old → IsPool new
    → Interns old new node place → GainsNode old new node place
gains old new node place pool after (inl found) =
    let within = slice_get_within old place node found.stands in
    let is : spelled_at (spelled_by old) place ≡ spelled_with (spelled_by old) node =
    spelled_of old pool place within ∙ ap (spelled_with (spelled_by old))
    (get_or_from_slice_get old place node (Const 0) found.stands) in
    record {
      front = record { more = []; whole = found.same ∙ sym (append-nil old) };
      within = omega (arith, within, ap length found.same);
      spells = ap (λ ns. spelled_at (spelled_by ns) place) found.same ∙ is;
      cells = ap cells_of found.same ∙ sym (cells_had old place _ within is);
      tracked = ap tracked_of found.same ∙ sym (tracked_had old place _ within is);
    }
gains old new node place pool after (inr fresh) = record {
  front = record { more = node ∷ []; whole = fresh.grown };
  within = omega (arith, fresh.last, ap length fresh.grown, length-append old (node ∷ []));
  spells = ap (λ ns. spelled_at (spelled_by ns) place) fresh.grown
      ∙ ap (λ n. spelled_at (spelled_by (old ++ node ∷ [])) n) fresh.last ∙ spelled_last old node;
  cells = ap cells_of fresh.grown ∙ cells_of-fresh old node (subst IsPool fresh.grown after);
  tracked = ap tracked_of fresh.grown ∙ tracked_of-push old node;
}
