-- The first achievement of an id, among items that are taken from the last one on.
use Rattle.std.specs.Option.{option_or}
use Rattle.std.proofs.Common.{◌≡◌, ℕ, suc, ◌<◌, ◌≤◌, ◌==◌, Bool, true, false, cond, Option, None, Some, List, [], ◌∷◌}
use Rattle.std.proofs.Common.{◌++◌, map, option_map, length, sum_by, slice_index_or, refl, sym, ap, subst, arith, ◌∙◌}
use Rattle.std.proofs.lemmas.List.{map-append}
use Rattle.std.proofs.lemmas.List.Sums.{sum_by-cons}
use Rattle.ra_condition.specs.Contents.{TriggerContents, trigger_hits}
use Rattle.ra_condition.specs.Spelled.{IsTrigger}
use Rattle.ra_set.specs.Spelled.{IsItem, IsSpelled}
use Rattle.ra_set.specs.Limits.{IsWithinLimits, item_conditions}
use Rattle.ra_set.specs.Contents.{ItemContents, SetContents, Unlocks, Ranks, item_contents}
use Rattle.ra_set.specs.declared.item.Item.{Item}
use Rattle.ra_goals.specs.Choosing.{trigger_of}

-- the first of two that is there
abbrev pub first_of : {T : Type 0} → Option T → Option T → Option T
first_of (Some x) other = Some x
first_of None other = other

first_in : {T : Type 0} (a b c : Option T) → first_of (first_of a b) c ≡ first_of a (first_of b c)
first_in (Some x) b c = refl
first_in None b c = refl

-- one item more behind others
trigger_behind : (id : ℕ) (items : List ItemContents) (item : ItemContents) → trigger_of id
    (items ++ item ∷ []) ≡ first_of (trigger_of id items) (trigger_of id (item ∷ []))
trigger_behind id [] item = refl
trigger_behind id (Unlocks other t ∷ items) item = by_id (other == id) (trigger_behind id items item)
  where
    by_id : (b : Bool) → trigger_of id (items ++ item ∷ []) ≡ first_of (trigger_of id items)
        (trigger_of id (item ∷ [])) → cond b (Some t) (trigger_of id (items ++ item ∷ []))
        ≡ first_of (cond b (Some t) (trigger_of id items)) (trigger_of id (item ∷ []))
    by_id true rest = refl
    by_id false rest = rest
trigger_behind id (Ranks other format b ∷ items) item = trigger_behind id items item

-- the last of the items that are left was looked at
pub looked_at : (id : ℕ) (all : Option TriggerContents) (items rest : List Item) (item : Item)
    (found new : Option TriggerContents) → items ≡ rest ++ item ∷ [] → new
    ≡ first_of (trigger_of id (item_contents item ∷ [])) found
    → all ≡ first_of (trigger_of id (map item_contents items)) found → all
    ≡ first_of (trigger_of id (map item_contents rest)) new
looked_at id all items rest item found new is looks before =
    before ∙ ap (λ (xs : List ItemContents). first_of (trigger_of id xs) found)
    (ap (map item_contents) is ∙ map-append item_contents rest (item ∷ []))
    ∙ ap (λ o. first_of o found) (trigger_behind id (map item_contents rest) (item_contents item))
    ∙ first_in (trigger_of id (map item_contents rest)) (trigger_of id (item_contents item ∷ [])) found
    ∙ ap (first_of (trigger_of id (map item_contents rest))) (sym looks)

pub or_mapped : {A B : Type 0} (f : A → B) (a b : Option A) → option_map f (option_or a b)
    ≡ first_of (option_map f a) (option_map f b)
or_mapped f (Some x) b = refl
or_mapped f None b = refl

module _ (id : ℕ) (t : TriggerContents) where
  some_same : (x y : TriggerContents) → Some x ≡ Some y → x ≡ y
  some_same x y same = cc

  -- what holds of the trigger of each achievement holds of the one that is chosen
  among : (P : TriggerContents → Type 0) (items : List ItemContents)
      → ((k : ℕ) (other : ℕ) (u : TriggerContents) → k < length items → slice_index_or items k
      (Unlocks 0 u) ≡ Unlocks other u → P u) → trigger_of id items ≡ Some t → P t
  among P [] each here = absurd (cc)
  among P (Ranks other format b ∷ items) each here =
      among P items (λ k o u below is. each (suc k) o u (omega (arith, below)) is) here
  among P (Unlocks other u ∷ items) each here = by_id (other == id)
      (among P items (λ k o v below is. each (suc k) o v (omega (arith, below)) is)) here
    where
      by_id : (b : Bool) → (trigger_of id items ≡ Some t → P t) → cond b (Some u) (trigger_of id items) ≡ Some t → P t
      by_id true more here = subst P (some_same u t here) (each 0 other u (omega arith) refl)
      by_id false more here = more here

  -- it is spelled
  pub chosen_spelled : (set : SetContents) → IsSpelled set → trigger_of id set.items ≡ Some t → IsTrigger t
  chosen_spelled set spelled some = among IsTrigger set.items
      (λ k other u below is. subst IsItem is (spelled.items k (Unlocks 0 u) below)) some

  -- and has no more conditions than its set
  few_in : (items : List ItemContents) → trigger_of id items ≡ Some t → trigger_hits t ≤ sum_by item_conditions items
  few_in [] here = absurd (cc)
  few_in (Ranks other format b ∷ items) here = let few = few_in items here in
      omega (arith, few, sum_by-cons item_conditions (Ranks other format b) items)
  few_in (Unlocks other u ∷ items) here = by_id (other == id) (few_in items) here
    where
      by_id : (b : Bool) → (trigger_of id items ≡ Some t
          → trigger_hits t ≤ sum_by item_conditions items) → cond b (Some u) (trigger_of id items)
          ≡ Some t → trigger_hits t ≤ sum_by item_conditions (Unlocks other u ∷ items)
      by_id true more here = subst (λ v. trigger_hits v
          ≤ sum_by item_conditions (Unlocks other u ∷ items)) (some_same u t here)
          (omega (arith, sum_by-cons item_conditions (Unlocks other u) items))
      by_id false more here = let few = more here in
          omega (arith, few, sum_by-cons item_conditions (Unlocks other u) items)

  pub chosen_few : (set : SetContents) → IsWithinLimits set → trigger_of id set.items ≡ Some t → trigger_hits t ≤ 65536
  chosen_few set limits some = let few = few_in set.items some in omega (arith, few, limits.conditions)
