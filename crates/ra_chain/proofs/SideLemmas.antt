-- How a pool grows by the two trees of a condition.
use Rattle.std.proofs.Common.{◌≡◌, ℕ, Option, None, Some, List, [], ◌∷◌, ◌++◌, refl, ap, ap₂, sym, ◌∙◌, ◌⊎◌, inl, inr}
use Rattle.std.proofs.Common.{append_assoc, IsTrue}
use Rattle.std.specs.List.{flat_map}
use Rattle.std.proofs.lemmas.List.{append-nil}
use Rattle.std.proofs.lemmas.List.Concat.{flat_map-append}
use Rattle.std.proofs.lemmas.Bool.{false≢true}
use Rattle.ra_operand.specs.declared.op.Op.{Op}
use Rattle.ra_operand.specs.declared.op.Op.TheVariants.{Bare, Add}
use Rattle.ra_operand.specs.Operators.{is_bare, is_arithmetic}
use Rattle.ra_indirect.specs.declared.node.Node.{Node}
use Rattle.ra_indirect.specs.Trees.{Tree, join, cells_in, tracked_in}
use Rattle.ra_condition.specs.declared.flag.Flag.{Flag}
use Rattle.ra_condition.specs.declared.flag.Flag.TheVariants.{AddSource, SubSource, AddAddress, Remember}
use Rattle.ra_condition.specs.Flags.{hands_on}
use Rattle.ra_indirect.specs.Growing.{GrowsBy, IsFront}
use Rattle.ra_chain.specs.Elaboration.{added, joined, handed_on}
use Rattle.ra_chain.specs.Planting.{SpellsSum, SpellsOrZero, Plants}
use Rattle.ra_chain.specs.Sides.{sum_trees, PlantsSides}
use Rattle.ra_chain.proofs.PlantLemmas.{grows_through, grows_as, grows_again, spells_more}

bare_from : (op : Op) → IsTrue (is_bare op) → op ≡ Bare
bare_from Bare holds = refl
bare_from _ holds = absurd (false≢true holds)

-- an operator that is there and may join is arithmetic
pub arithmetic_from : (op : Op) → (op ≡ Bare → ⊥) → IsTrue (is_bare op) ⊎ IsTrue (is_arithmetic op)
    → IsTrue (is_arithmetic op)
arithmetic_from op other (inl bare) = absurd (other (bare_from op bare))
arithmetic_from op other (inr arithmetic) = arithmetic

pub joined_is : (op : Op) (left right : Tree) → IsTrue (is_arithmetic op) → joined op left right ≡ join op left right
joined_is Bare left right holds = absurd (false≢true holds)
joined_is _ left right holds = refl

join_flat : {X : Type 0} (f : Tree → List X) (op : Op) (trees : List Tree) (l t : Tree)
    → f (join op l t) ≡ f l ++ f t → flat_map f (((trees ++ l ∷ []) ++ t ∷ []) ++ [])
    ≡ flat_map f (trees ++ join op l t ∷ [])
join_flat f op trees l t is =
    ap (flat_map f) (append-nil ((trees ++ l ∷ []) ++ t ∷ []))
    ∙ flat_map-append f (trees ++ l ∷ []) (t ∷ [])
    ∙ ap₂ (λ xs ys. xs ++ ys) (flat_map-append f trees (l ∷ [])
    ∙ ap (λ xs. flat_map f trees ++ xs) (append-nil (f l))) (append-nil (f t))
    ∙ append_assoc (flat_map f trees) (f l) (f t)
    ∙ ap (λ xs. flat_map f trees ++ xs) (sym is ∙ sym (append-nil (f (join op l t))))
    ∙ sym (flat_map-append f trees (join op l t ∷ []))

-- two trees and then the operator over them
pub grows_joined : (a b c d : List Node) (op : Op) (trees : List Tree) (l t : Tree)
    → GrowsBy a b (trees ++ l ∷ []) → GrowsBy b c (t ∷ []) → GrowsBy c d []
    → GrowsBy a d (trees ++ join op l t ∷ [])
grows_joined a b c d op trees l t first second third =
    grows_as a d (((trees ++ l ∷ []) ++ t ∷ []) ++ []) (trees ++ join op l t ∷ [])
    (join_flat cells_in op trees l t refl) (join_flat tracked_in op trees l t refl)
    (grows_through a c d ((trees ++ l ∷ []) ++ t ∷ []) []
    (grows_through a b c (trees ++ l ∷ []) (t ∷ []) first second) third)

added_flat : {X : Type 0} (f : Tree → List X) (s v : Tree) → f (join Add s v) ≡ f s ++ f v
    → flat_map f (((s ∷ []) ++ v ∷ []) ++ []) ≡ flat_map f (join Add s v ∷ [])
added_flat f s v is =
    sym (append_assoc (f s) (f v) []) ∙ ap (λ xs. xs ++ []) (sym is)

-- a sum, a value, and the value added to the sum
pub grows_added : (a b c : List Node) (s : Option Tree) (v : Tree)
    → GrowsBy a b (sum_trees s ++ v ∷ []) → GrowsBy b c [] → GrowsBy a c (added s v ∷ [])
grows_added a b c None v first second = grows_through a b c (v ∷ []) [] first second
grows_added a b c (Some s) v first second =
    grows_as a c (((s ∷ []) ++ v ∷ []) ++ []) (join Add s v ∷ []) (added_flat cells_in s v refl)
    (added_flat tracked_in s v refl)
    (grows_through a b c ((s ∷ []) ++ v ∷ []) [] first second)

pub sum_more : (old new : List Node) (sum : Option ℕ) (s : Option Tree) → IsFront old new
    → SpellsSum old sum s → SpellsSum new sum s
sum_more old new None None front spells = tt
sum_more old new None (Some t) front spells = absurd spells
sum_more old new (Some n) None front spells = absurd spells
sum_more old new (Some n) (Some t) front spells = spells_more old new n t front spells

pub or_zero_more : (old new : List Node) (number : Option ℕ) (tree : Tree) → IsFront old new
    → SpellsOrZero old number tree → SpellsOrZero new number tree
or_zero_more old new None tree front spells = spells
or_zero_more old new (Some n) tree front spells = spells_more old new n tree front spells

-- a value is handed on alone but by a Remember
pub handed_alone : (flag : Flag) (s : Option Tree) (v : Tree) → IsTrue (hands_on flag)
    → (flag ≡ Remember → ⊥) → handed_on flag s v ≡ v
handed_alone AddSource s v holds other = refl
handed_alone SubSource s v holds other = refl
handed_alone AddAddress s v holds other = refl
handed_alone Remember s v holds other = absurd (other refl)
handed_alone _ s v holds other = absurd (false≢true holds)

-- one value on both sides
pub both_sides : (base new : List Node) (v : Tree) (n : ℕ) → Plants base new (v ∷ []) v n → PlantsSides base new v v n n
both_sides base new v n plants = record {
  grows = grows_through base new new (v ∷ []) (v ∷ []) plants.grows
      (grows_again new n v plants.grows.pool plants.spells);
  left_too = plants.spells;
  right_too = plants.spells;
}

-- the left operand with its sum, and then the right one
pub two_sides : (base old mid new : List Node) (s : Option Tree) (l t : Tree) (first second : ℕ)
    → GrowsBy base old (sum_trees s ++ l ∷ []) → Plants old mid [] (added s l) first
    → Plants mid new (t ∷ []) t second → PlantsSides base new (added s l) t first second
two_sides base old mid new s l t first second grew left right = record {
  grows = grows_through base mid new (added s l ∷ []) (t ∷ [])
      (grows_added base old mid s l grew left.grows) right.grows;
  left_too = spells_more mid new first (added s l) right.grows.front left.spells;
  right_too = right.spells;
}
