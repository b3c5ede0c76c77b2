-- Once a node is taken and what it made due is marked, each node that is not due is idle again.
use Rattle.std.proofs.Common.{◌≡◌, ℕ, ◌+◌, ◌<◌, ◌≤◌, ◌==◌, ◌⊎◌, inl, inr, Bool, true, false, not, ◌||◌, List, length}
use Rattle.std.proofs.Common.{take, get_or, set, ap, sym, subst, ◌∙◌, arith}
use Rattle.std.proofs.lemmas.List.{get_or-set_same, get_or-set_other, length-take}
use Rattle.std.proofs.lemmas.Bool.{cases_eq, or_parts, false≢true}
use Rattle.std.proofs.lemmas.Bool.Decides.{eqb_tells}
use Rattle.ra_links.specs.FlatRows.{IsListed}
use Rattle.ra_links.specs.Rows.{row_at}
use Rattle.ra_indirect.specs.declared.node.Node.{Node}
use Rattle.ra_indirect.specs.declared.node.Node.TheVariants.{Const, Cell as CellNode, View, Arith}
use Rattle.ra_indirect.specs.Pools.{node_at}
use Rattle.ra_indirect.specs.Interned.{IsPool}
use Rattle.ra_indirect.proofs.SpelledLemmas.{NamesBelow, names_below}
use Rattle.ra_memref.specs.Numbers.{NumbersSeen}
use Rattle.ra_memref.specs.Layout.{IsLaid}
use Rattle.ra_memref.specs.Flags.{SetsAll}
use Rattle.ra_memref.specs.Pass.{value_at, IsSizedFor}
use Rattle.ra_memref.specs.Due.{earlier_by, kept_by, IsQuiet, IsUnmarked, AreIdle, Names, AreDependents}
use Rattle.ra_memref.proofs.Passed.{TakesNode}
use Rattle.ra_memref.proofs.QuietLemmas.{Unseen, quiet_other, quiet_here, kept_here, settled_other, unmarked_other}
use Rattle.ra_memref.proofs.QuietLemmas.{unmarked_here}

-- numbers that do not differ are one
pub same_number : (a b : ℕ) → not (a == b) ≡ false → a ≡ b
same_number a b alike = elim (eqb_tells a b) [
  | inl e ↦ e.1
  | inr n ↦ absurd (false≢true (sym (rw n.0 at alike)))
]

-- what is due once a node was taken: whether that one is due again, and where it is seen, those that name it
pub record IsMarked (nodes : List Node) (k : ℕ) (seen again : Bool) (old new : List Bool) : Type 0 where
  pub kept : (j : ℕ) → j < length nodes → get_or new j true ≡ false → get_or (set old k again) j true ≡ false
  pub named : (j : ℕ) → j < length nodes → get_or new j true ≡ false
      → (seen ≡ false) ⊎ ((i : ℕ) → Names (node_at nodes j) i → i ≡ k → ⊥)

-- it is so where those that name it are due, and where it is not seen
pub marked_seen : (nodes : List Node) (k : ℕ) (seen again : Bool) (old new : List Bool) (rows : List (List ℕ))
    → AreDependents nodes rows → SetsAll (row_at rows k) (set old k again) new → IsMarked nodes k seen again old new
marked_seen nodes k seen again old new rows are sets = record {
  kept = λ j below still. sets.kept j still;
  named = λ j below still. inr (λ i named same. false≢true (sym still
      ∙ sets.each j (subst (λ r. IsListed j (row_at rows r)) same (are.each j i below named))));
}

pub marked_unseen : (nodes : List Node) (k : ℕ) (seen again : Bool) (old : List Bool) → seen ≡ false
    → IsMarked nodes k seen again old (set old k again)
marked_unseen nodes k seen again old unseen = record {
  kept = λ j below still. still;
  named = λ j below still. inl unseen;
}

-- a node names those before it alone
named_before : (nodes : List Node) (pool : IsPool nodes) (j : ℕ) → j < length nodes → (i : ℕ)
    → Names (node_at nodes j) i → i < j
named_before nodes pool j within i named = by_node (node_at nodes j)
    (names_below j (take j nodes) (node_at nodes j) (omega (arith, length-take j nodes)) (pool.named j within)) named
  where
    by_node : (node : Node) → NamesBelow j node → Names node i → i < j
    by_node (Const n) below named = absurd named
    by_node (CellNode width pointer offset) below named = omega (arith, below, named)
    by_node (View kind size c) below named = omega (arith, below, named)
    by_node (Arith op left right) below (inl named) = omega (arith, below.0, named)
    by_node (Arith op left right) below (inr named) = omega (arith, below.1, named)

-- a node would take the number that it has, and is no marked cell
abbrev IsIdleAt : List Node → NumbersSeen → List ℕ → ℕ → Type 0
IsIdleAt nodes numbers slots n = IsQuiet (node_at nodes n) numbers slots n
    × IsUnmarked (node_at nodes n) numbers (get_or slots n 0)

-- so it is with each of the first so many nodes that is not due and whose kept number is the one of the frame before
abbrev pub AreSettledTo : List Node → List Bool → NumbersSeen → List ℕ → ℕ → Type 0
AreSettledTo nodes due numbers slots to =
    (n : ℕ) → n < to → get_or due n true ≡ false
    → earlier_by (node_at nodes n) numbers slots n ≡ kept_by (node_at nodes n) numbers slots n
    → IsIdleAt nodes numbers slots n

pub settled_to : (nodes : List Node) (due : List Bool) (numbers : NumbersSeen) (slots : List ℕ)
    → AreIdle nodes due numbers slots → (to : ℕ) → to ≤ length nodes → AreSettledTo nodes due numbers slots to
settled_to nodes due numbers slots idle to most = λ n below still same.
    let within : n < length nodes = omega (arith, below, most) in
    (idle.quiet n within still, idle.unmarked n within still)

module _ (nodes : List Node) (pool : IsPool nodes) (slots : List ℕ) (laid : IsLaid nodes slots) (image : List ℕ)
    (k : ℕ) (within : k < length nodes) (old new : NumbersSeen) (sized : IsSizedFor nodes old) (takes : TakesNode
    (node_at nodes k) slots image k old new) where
  abbrev IsUnseen : Type 0
  IsUnseen = Unseen nodes pool slots laid image k within old new sized takes

  -- once this one is taken, a node is idle that sees no other number and was idle, or is this one and settled
  idle_at : (j : ℕ) → j < length nodes → ((i : ℕ) → Names (node_at nodes j) i → i ≡ k → IsUnseen)
      → (j ≡ k → earlier_by (node_at nodes k) new slots k ≡ value_at new k)
      → ((j ≡ k → ⊥) → IsIdleAt nodes old slots j) → IsIdleAt nodes new slots j
  idle_at j in_j unseen settled was = elim (cases_eq j k) [
    | inl same ↦
        subst (IsIdleAt nodes new slots) (sym same) (
          quiet_here nodes pool slots laid image k within old new sized takes (settled same),
          unmarked_here nodes pool slots laid image k within old new sized takes,
        )
    | inr apart ↦ (
      quiet_other nodes pool slots laid image k within old new sized takes j in_j apart unseen (was apart).0,
      unmarked_other nodes pool slots laid image k within old new sized takes j in_j apart (was apart).1,
    )
  ]

  -- those up to this one name none behind them
  pub settled_next : (due : List Bool) → AreSettledTo nodes due old slots k → AreSettledTo nodes due new slots (k + 1)
  settled_next due before = λ j less still settled.
      let in_j : j < length nodes = omega (arith, less, within) in
      idle_at j in_j (λ i named same. absurd (omega (arith, named_before nodes pool j in_j i named, same, less)))
      (λ same. subst (λ n. earlier_by (node_at nodes n) new slots n ≡ kept_by (node_at nodes n) new slots n) same
      settled ∙ kept_here nodes pool slots laid image k within old new sized takes)
      (λ apart. before j (omega (arith, less, apart)) still
      (settled_other nodes pool slots laid image k within old new sized takes j in_j apart settled))

  module _ (again : Bool) (again_is : again ≡ not (earlier_by (node_at nodes k) new slots k == value_at new k))
      (due due' : List Bool) (long : length due ≡ length nodes) (marked : IsMarked nodes k (not
      (value_at old k == value_at new k) || not
      (earlier_by (node_at nodes k) old slots k == earlier_by (node_at nodes k) new slots k)) again due due')
      (idle : AreIdle nodes due old slots) where
    unseen_by : (not (value_at old k == value_at new k) || not
        (earlier_by (node_at nodes k) old slots k == earlier_by (node_at nodes k) new slots k)) ≡ false → IsUnseen
    unseen_by none =
        let parts = or_parts (not (value_at old k == value_at new k)) (not
        (earlier_by (node_at nodes k) old slots k == earlier_by (node_at nodes k) new slots k)) none in (
          sym (same_number (value_at old k) (value_at new k) parts.0),
          sym (same_number (earlier_by (node_at nodes k) old slots k)
              (earlier_by (node_at nodes k) new slots k) parts.1),
        )

    unseen_at : (j : ℕ) → j < length nodes → get_or due' j true ≡ false → (i : ℕ) → Names (node_at nodes j) i
        → i ≡ k → IsUnseen
    unseen_at j in_j still i named same = elim (marked.named j in_j still) [
      | inl none ↦ unseen_by none
      | inr other ↦ absurd (other i named same)
    ]

    one : (j : ℕ) → j < length nodes → get_or due' j true ≡ false → IsIdleAt nodes new slots j
    one j in_j still =
        let kept = marked.kept j in_j still in
        idle_at j in_j (unseen_at j in_j still)
        (λ same. same_number (earlier_by (node_at nodes k) new slots k) (value_at new k) (sym again_is
        ∙ sym (get_or-set_same due k again true (omega (arith, long, within)))
        ∙ ap (λ n. get_or (set due k again) n true) (sym same) ∙ kept))
        (λ apart.
        let before = sym (get_or-set_other due k j again true apart) ∙ kept in
        (idle.quiet j in_j before, idle.unmarked j in_j before))

    pub idle_more : AreIdle nodes due' new slots
    idle_more = record {
      quiet = λ j in_j still. (one j in_j still).0;
      unmarked = λ j in_j still. (one j in_j still).1;
    }
