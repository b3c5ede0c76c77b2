-- The trees of a group of which no condition hands a value on, and what their operands leave in a pool.
use Rattle.std.proofs.Common.{◌≡◌, ◌==◌, ℕ, zero, suc, ◌+◌, ◌<◌, false, cond, Option, None, List, [], ◌∷◌, ◌++◌, length}
use Rattle.std.proofs.Common.{take, get_or, refl, sym, ◌∙◌, ap, ap₂, subst, arith, inl, inr}
use Rattle.std.specs.List.{before_first}
use Rattle.std.proofs.lemmas.List.{append-nil, take_more}
use Rattle.ra_operand.specs.declared.size.Size.{Size}
use Rattle.ra_operand.specs.declared.size.Size.TheVariants as sizes
use Rattle.ra_operand.specs.declared.kind.Kind.{Kind}
use Rattle.ra_operand.specs.declared.kind.Kind.TheVariants as kinds
use Rattle.ra_operand.specs.Views.{width_of}
use Rattle.ra_condition.specs.declared.flag.Flag.{Flag}
use Rattle.ra_condition.specs.declared.flag.Flag.TheVariants.{Plain, PauseIf, ResetIf, AddSource, SubSource, AddHits}
use Rattle.ra_condition.specs.declared.flag.Flag.TheVariants.{SubHits, AndNext, OrNext, Measured, MeasuredPercent}
use Rattle.ra_condition.specs.declared.flag.Flag.TheVariants.{MeasuredIf, AddAddress, TriggerIf, ResetNextIf, Remember}
use Rattle.ra_condition.specs.declared.condition.Condition.{Condition}
use Rattle.ra_condition.specs.Contents.{condition_at, flag_at}
use Rattle.ra_condition.specs.Chains.{pass_order}
use Rattle.ra_condition.specs.Flags.{hands_on, is_address, is_remember}
use Rattle.ra_indirect.specs.declared.node.Node.{Node}
use Rattle.ra_indirect.specs.declared.node.Node.TheVariants.{Cell as CellNode}
use Rattle.ra_indirect.specs.Trees.{Tree, constant, view, Cell, cell_of, same_cell, same_tracked, tracked_by}
use Rattle.ra_indirect.specs.Pools.{IsCell, IsWidth, Spells, spelled_by, spelled_with, tree_in, tracked_at, cell_in}
use Rattle.ra_indirect.specs.Pools.{cells_of, tracked_of}
use Rattle.ra_indirect.specs.Interned.{IsPool}
use Rattle.ra_indirect.specs.Growing.{grown, GrowsBy, GainsNode}
use Rattle.ra_chain.specs.Elaboration.{tree_at, operand_tree, pointer_of, last_remembered, recall_of, added, sum_after}
use Rattle.ra_chain.specs.Elaboration.{sum_of, left_operand, right_operand, values_of, left_of, right_of}
use Rattle.ra_chain.specs.Elaborates.{trees_along}
use Rattle.ra_chain.proofs.PlantLemmas.{spells_at, grows_through}
use Rattle.ra_member.proofs.PlanLemmas.{one_more}
use Rattle.ra_counts.specs.Plain.{HandNothingOn}

-- what a condition that hands nothing on does for the next one: nothing
record IsHandless (flag : Flag) : Type 0 where
  address : is_address flag ≡ false
  remember : is_remember flag ≡ false
  sum : (value : Tree) (sum : Option Tree) → sum_after flag value sum ≡ None

handless : (flag : Flag) → hands_on flag ≡ false → IsHandless flag
handless Plain off = record { address = refl; remember = refl; sum = λ v s. refl }
handless PauseIf off = record { address = refl; remember = refl; sum = λ v s. refl }
handless ResetIf off = record { address = refl; remember = refl; sum = λ v s. refl }
handless AddSource off = absurd (cc)
handless SubSource off = absurd (cc)
handless AddHits off = record { address = refl; remember = refl; sum = λ v s. refl }
handless SubHits off = record { address = refl; remember = refl; sum = λ v s. refl }
handless AndNext off = record { address = refl; remember = refl; sum = λ v s. refl }
handless OrNext off = record { address = refl; remember = refl; sum = λ v s. refl }
handless Measured off = record { address = refl; remember = refl; sum = λ v s. refl }
handless MeasuredPercent off = record { address = refl; remember = refl; sum = λ v s. refl }
handless MeasuredIf off = record { address = refl; remember = refl; sum = λ v s. refl }
handless AddAddress off = absurd (cc)
handless TriggerIf off = record { address = refl; remember = refl; sum = λ v s. refl }
handless ResetNextIf off = record { address = refl; remember = refl; sum = λ v s. refl }
handless Remember off = absurd (cc)

-- past the end neither
anywhere : (cs : List Condition) → HandNothingOn cs → (i : ℕ) → hands_on (flag_at cs i) ≡ false
anywhere [] plain i = refl
anywhere (c ∷ cs) plain zero = plain 0 (omega arith)
anywhere (c ∷ cs) plain (suc i) = anywhere cs (λ j within. plain (suc j) (omega (arith, within))) i

last_none : (cs : List Condition) (values : List Tree) (before : Tree) (is : List ℕ)
    → ((i : ℕ) → is_remember (flag_at cs i) ≡ false) → last_remembered cs values before is ≡ before
last_none cs values before [] none = refl
last_none cs values before (i ∷ is) none =
    ap (λ b. last_remembered cs values (cond b (tree_at values i) before) is) (none i)
    ∙ last_none cs values before is none

module _ (cs : List Condition) (plain : HandNothingOn cs) where
  no_hand : (i : ℕ) → IsHandless (flag_at cs i)
  no_hand i = handless (flag_at cs i) (anywhere cs plain i)

  pointer_none : (values : List Tree) (j : ℕ) → pointer_of cs values j ≡ constant 0
  pointer_none values zero = refl
  pointer_none values (suc i) = ap (λ b. cond b (tree_at values i) (constant 0)) (no_hand i).address

  sum_none : (values : List Tree) (j : ℕ) → sum_of cs values j ≡ None
  sum_none values zero = refl
  sum_none values (suc i) = (no_hand i).sum (tree_at values i) (sum_of cs values i)

  recall_none : (values : List Tree) (j : ℕ) → recall_of cs values j ≡ constant 0
  recall_none values j =
      last_none cs values (constant 0) (before_first (λ i. i == j) (pass_order cs)) (λ i. (no_hand i).remember)

  -- each tree of such a group is its operand
  plain_left : (j : ℕ) → left_of cs j ≡ operand_tree (condition_at cs j).left (constant 0) (constant 0)
  plain_left j =
      let values = values_of cs in
      ap (λ b. cond b (tree_at values j) (added (sum_of cs values j) (left_operand cs values j)))
      (anywhere cs plain j)
      ∙ ap (λ s. added s (left_operand cs values j)) (sum_none values j)
      ∙ ap₂ (operand_tree (condition_at cs j).left) (pointer_none values j) (recall_none values j)

  plain_right : (j : ℕ) → right_of cs j ≡ operand_tree (condition_at cs j).right (constant 0) (constant 0)
  plain_right j =
      let values = values_of cs in
      ap (λ b. cond b (tree_at values j) (right_operand cs values j)) (anywhere cs plain j)
      ∙ ap₂ (operand_tree (condition_at cs j).right) (pointer_none values j) (recall_none values j)

  -- the operands so far, and those of one condition more
  pub plain_more : (old mid new : List Node) (k j : ℕ) → k < length (pass_order cs) → get_or (pass_order cs) k j ≡ j
      → GrowsBy old mid (trees_along cs (take k (pass_order cs)))
      → GrowsBy mid new (operand_tree (condition_at cs j).left (constant 0) (constant 0) ∷ operand_tree
      (condition_at cs j).right (constant 0) (constant 0) ∷ [])
      → GrowsBy old new (trees_along cs (take (k + 1) (pass_order cs)))
  plain_more old mid new k j within is first next =
      let order = pass_order cs in
      let here : left_of cs j ∷ right_of cs j ∷ [] ≡ operand_tree (condition_at cs j).left (constant 0) (constant 0)
      ∷ operand_tree (condition_at cs j).right (constant 0) (constant 0) ∷ [] =
      ap₂ (λ l r. l ∷ r ∷ []) (plain_left j) (plain_right j) in
      let more : take (k + 1) order ≡ take k order ++ j ∷ [] = take_more order k j within
      ∙ ap (λ x. take k order ++ x ∷ []) is in
      let all : trees_along cs (take (k + 1) order) ≡ trees_along cs (take k order) ++ left_of cs j ∷ right_of cs j
      ∷ [] = ap (trees_along cs) more ∙ one_more (λ i. left_of cs i ∷ right_of cs i ∷ []) (take k order) j in
      subst (GrowsBy old new) (sym all) (grows_through old mid new (trees_along cs (take k order))
      (left_of cs j ∷ right_of cs j ∷ []) first (subst (GrowsBy mid new) (sym here) next))

-- a cell whose pointer is the constant 0, without a view
module _ (old new : List Node) (pool : IsPool old) (after : IsPool new) (kind : Kind) (size : Size)
    (address nought place : ℕ) (spells : Spells old nought (constant 0))
    (gain : GainsNode old new (CellNode (width_of size) nought address) place) where
  cell_is : spelled_with (spelled_by old) (CellNode (width_of size) nought address) ≡ IsCell
      (cell_of size (constant 0) address)
  cell_is =
      ap (λ x. IsCell (record { pointer = tree_in x; address = address; width = width_of size }))
      (spells_at old nought (constant 0) spells)

  pub cell_alone : tracked_by kind size (cell_of size (constant 0) address) ≡ []
      → GrowsBy old new (view kind size (constant 0) address ∷ [])
  cell_alone untracked = record {
    front = gain.front;
    pool = after;
    cells = gain.cells ∙ ap (λ x. grown same_cell (cells_of old) (cell_in x)) cell_is;
    tracked = gain.tracked ∙ ap (λ x. grown same_tracked (tracked_of old) (tracked_at x)) cell_is
        ∙ ap (grown same_tracked (tracked_of old))
        (sym (append-nil (tracked_by kind size (cell_of size (constant 0) address)) ∙ untracked));
  }

-- only a prior is tracked
pub untracked : (kind : Kind) (size : Size) (c : Cell) → (kind ≡ kinds.Prior → ⊥) → tracked_by kind size c ≡ []
untracked kinds.Mem size c off = refl
untracked kinds.Delta size c off = refl
untracked kinds.Prior size c off = absurd (off refl)
untracked kinds.Bcd size c off = refl
untracked kinds.Inverted size c off = refl

-- the widths of sizes
pub width_fits : (size : Size) → IsWidth (width_of size)
width_fits sizes.Bit0 = inl refl
width_fits sizes.Bit1 = inl refl
width_fits sizes.Bit2 = inl refl
width_fits sizes.Bit3 = inl refl
width_fits sizes.Bit4 = inl refl
width_fits sizes.Bit5 = inl refl
width_fits sizes.Bit6 = inl refl
width_fits sizes.Bit7 = inl refl
width_fits sizes.Low = inl refl
width_fits sizes.High = inl refl
width_fits sizes.Byte = inl refl
width_fits sizes.Two = inr (inl refl)
width_fits sizes.Three = inr (inr refl)
width_fits sizes.Four = inr (inr refl)
width_fits sizes.Count = inl refl
width_fits sizes.TwoBig = inr (inl refl)
width_fits sizes.ThreeBig = inr (inr refl)
width_fits sizes.FourBig = inr (inr refl)
