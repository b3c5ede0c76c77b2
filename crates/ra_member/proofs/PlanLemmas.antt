-- Plans over a pool that grows.
use Rattle.std.proofs.Common.{◌≡◌, ℕ, suc, ◌+◌, ◌<◌, ◌≤◌, Option, None, Some, List, [], ◌∷◌, ◌++◌, length, map, get_or}
use Rattle.std.proofs.Common.{sym, ◌∙◌, ap, subst, arith, Vec, Global}
use Rattle.std.specs.List.{flat_map, range_with_len}
use Rattle.std.proofs.lemmas.List.{append-nil, map-append}
use Rattle.std.proofs.lemmas.List.Concat.{flat_map-append}
use Rattle.ra_condition.specs.declared.condition.Condition.{Condition}
use Rattle.ra_condition.specs.Contents.{PartContents, Legacy, Grouped, counted_in}
use Rattle.ra_condition.specs.Chains.{pass_order}
use Rattle.ra_indirect.specs.declared.node.Node.{Node}
use Rattle.ra_indirect.specs.Trees.{Tree}
use Rattle.ra_indirect.specs.Pools.{Spells}
use Rattle.ra_indirect.specs.Interned.{IsPool}
use Rattle.ra_indirect.specs.Growing.{IsFront, GrowsBy}
use Rattle.ra_chain.specs.declared.plan.GroupPlan.{GroupPlan}
use Rattle.ra_chain.specs.Elaboration.{left_of, right_of, lefts_of, rights_of, terms_tree}
use Rattle.ra_chain.specs.Elaborates.{SpellsEach}
use Rattle.ra_chain.proofs.PlantLemmas.{spells_more, grows_none, grows_through}
use Rattle.ra_group.specs.Along.{pause_count}
use Rattle.ra_member.specs.declared.planning.ValuePlan.{ValuePlan}
use Rattle.ra_member.specs.Laid.{PlanSeen, plan_rows}
use Rattle.ra_member.specs.Plans.{AreSpelled, IsPlan, AreSums, IsValuePlan}
use Rattle.ra_member.specs.Plans.{GrowsWithin}

pub within_none : (nodes : List Node) (conditions : ℕ) → IsPool nodes → GrowsWithin nodes nodes [] conditions
within_none nodes conditions pool = record {
  grows = grows_none nodes pool;
  few = omega arith;
  few_cells = omega arith;
  few_views = omega arith;
}

pub within_through : (a b c : List Node) (ts us : List Tree) (m n k : ℕ) → m + n ≤ k
    → GrowsWithin a b ts m → GrowsWithin b c us n → GrowsWithin a c (ts ++ us) k
within_through a b c ts us m n k enough first next = record {
  grows = grows_through a b c ts us first.grows next.grows;
  few = omega (arith, first.few, next.few);
  few_cells = omega (arith, first.few_cells, next.few_cells);
  few_views = omega (arith, first.few_views, next.few_views);
}

pub within_as : (a b : List Node) (ts us : List Tree) (m n : ℕ) → ts ≡ us → m ≤ n
    → GrowsWithin a b ts m → GrowsWithin a b us n
within_as a b ts us m n same enough grows = record {
  grows = subst (GrowsBy a b) same grows.grows;
  few = omega (arith, grows.few);
  few_cells = omega (arith, grows.few_cells);
  few_views = omega (arith, grows.few_views);
}

spelled_row : (nodes : List Node) (ns : List ℕ) (trees : List Tree) (ns' : List ℕ)
    (trees' : List Tree) → AreSpelled nodes ns trees → AreSpelled nodes ns' trees'
    → AreSpelled nodes (ns ++ ns') (trees ++ trees')
spelled_row nodes [] [] ns' trees' are are' = are'
spelled_row nodes [] (tree ∷ trees) ns' trees' are are' = absurd are
spelled_row nodes (n ∷ ns) [] ns' trees' are are' = absurd are
spelled_row nodes (n ∷ ns) (tree ∷ trees) ns' trees' are are' =
    (are.0, spelled_row nodes ns trees ns' trees' are.1 are')

spelled_more : (old new : List Node) (ns : List ℕ) (trees : List Tree) → IsFront old new
    → AreSpelled old ns trees → AreSpelled new ns trees
spelled_more old new [] [] front are = tt
spelled_more old new [] (tree ∷ trees) front are = absurd are
spelled_more old new (n ∷ ns) [] front are = absurd are
spelled_more old new (n ∷ ns) (tree ∷ trees) front are =
    (spells_more old new n tree front are.0, spelled_more old new ns trees front are.1)

-- what spells each tree from a place on spells them in a row
spelled_from : (nodes : List Node) (tree : ℕ → Tree) (ns : List ℕ) (from : ℕ)
    → ((j : ℕ) → j < length ns → Spells nodes (get_or ns j 0) (tree (from + j)))
    → AreSpelled nodes ns (map tree (range_with_len from (length ns)))
spelled_from nodes tree [] from each = tt
spelled_from nodes tree (n ∷ ns) from each =
    let here : from + 0 ≡ from = omega arith in (
      subst (λ k. Spells nodes n (tree k)) here (each 0 (omega arith)),
      spelled_from nodes tree ns (from + 1) (λ j below. let later : from + suc j ≡ from + 1 + j =
          omega arith in
          subst (λ k. Spells nodes (get_or ns j 0) (tree k)) later (each (suc j) (omega arith))),
    )

spelled_each : (nodes : List Node) (ns : List ℕ) (count : ℕ) (tree : ℕ → Tree)
    → SpellsEach nodes ns count tree → AreSpelled nodes ns (map tree (range_with_len 0 count))
spelled_each nodes ns count tree each =
    subst (λ n. AreSpelled nodes ns (map tree (range_with_len 0 n))) each.as_many
    (spelled_from nodes tree ns 0 (λ j below. let here : j ≡ 0 + j = omega arith in subst
    (λ k. Spells nodes (get_or ns j 0) (tree k)) here (each.each j (omega (arith, each.as_many)))))

pub one_more : {A B : Type 0} (f : A → List B) (xs : List A) (x : A) → flat_map f (xs ++ x ∷ []) ≡ flat_map f xs ++ f x
one_more f xs x = flat_map-append f xs (x ∷ []) ∙ ap (λ l. flat_map f xs ++ l) (append-nil (f x))

pub plan_more : (old new : List Node) (groups : List (List Condition)) (plan : PlanSeen)
    → IsFront old new → IsPlan old groups plan → IsPlan new groups plan
plan_more old new groups plan front is = record {
  order = is.order;
  pauses = is.pauses;
  lefts = spelled_more old new plan.lefts (flat_map lefts_of groups) front is.lefts;
  rights = spelled_more old new plan.rights (flat_map rights_of groups) front is.rights;
}

-- a plan of one group
pub plan_one : (nodes : List Node) (cs : List Condition) (plan : GroupPlan) → plan.order.items ≡ pass_order cs
    → plan.pauses.items ≡ pause_count cs ∷ [] → SpellsEach nodes plan.lefts.items (length cs) (left_of cs)
    → SpellsEach nodes plan.rights.items (length cs) (right_of cs) → IsPlan nodes (cs ∷ []) (plan_rows plan)
plan_one nodes cs plan order pauses lefts rights = record {
  order = order ∙ sym (append-nil (pass_order cs));
  pauses = pauses;
  lefts = subst (AreSpelled nodes plan.lefts.items) (sym (append-nil (lefts_of cs)))
      (spelled_each nodes plan.lefts.items (length cs) (left_of cs) lefts);
  rights = subst (AreSpelled nodes plan.rights.items) (sym (append-nil (rights_of cs)))
      (spelled_each nodes plan.rights.items (length cs) (right_of cs) rights);
}

-- a group behind others
module _ (old new : List Node) (front : IsFront old new) (cs : List Condition) (before added after : GroupPlan) where
  pub plan_added :
      added.order.items ≡ pass_order cs → added.pauses.items ≡ pause_count cs ∷ []
      → SpellsEach new added.lefts.items (length cs) (left_of cs)
      → SpellsEach new added.rights.items (length cs) (right_of cs)
      → after.order.items ≡ before.order.items ++ added.order.items → after.pauses.items
      ≡ before.pauses.items ++ added.pauses.items → after.lefts.items ≡ before.lefts.items
      ++ added.lefts.items → after.rights.items ≡ before.rights.items ++ added.rights.items
      → (groups : List (List Condition)) → IsPlan old groups (plan_rows before)
      → IsPlan new (groups ++ cs ∷ []) (plan_rows after)
  plan_added order pause lefts rights orders pauses all_lefts all_rights groups is = record {
    order = orders ∙ (λ i. is.order i ++ order i) ∙ sym (one_more pass_order groups cs);
    pauses = pauses ∙ (λ i. is.pauses i ++ pause i) ∙ sym (map-append pause_count groups (cs ∷ []));
    lefts =
        subst (λ ns. AreSpelled new ns (flat_map lefts_of (groups ++ cs ∷ []))) (sym all_lefts)
        (subst (AreSpelled new (before.lefts.items ++ added.lefts.items)) (sym (one_more lefts_of groups cs))
        (spelled_row new before.lefts.items (flat_map lefts_of groups) added.lefts.items
        (lefts_of cs) (spelled_more old new before.lefts.items (flat_map lefts_of groups) front
        is.lefts) (spelled_each new added.lefts.items (length cs) (left_of cs) lefts)));
    rights =
        subst (λ ns. AreSpelled new ns (flat_map rights_of (groups ++ cs ∷ []))) (sym all_rights)
        (subst (AreSpelled new (before.rights.items ++ added.rights.items)) (sym (one_more rights_of groups cs))
        (spelled_row new before.rights.items (flat_map rights_of groups) added.rights.items
        (rights_of cs) (spelled_more old new before.rights.items (flat_map rights_of groups) front
        is.rights) (spelled_each new added.rights.items (length cs) (right_of cs) rights)));
  }

-- a legacy part has no conditions
pub plan_empty : (nodes : List Node) (groups : List (List Condition)) (plan : GroupPlan)
    (pauses : Vec ℕ Global) → pauses.items ≡ plan.pauses.items ++ 0 ∷ [] → IsPlan nodes groups (plan_rows plan)
    → IsPlan nodes (groups ++ [] ∷ []) (plan_rows (record plan { pauses = pauses }))
plan_empty nodes groups plan pauses more is = record {
  pauses = more ∙ ap (λ ns. ns ++ 0 ∷ []) is.pauses ∙ sym (map-append pause_count groups ([] ∷ []));
  order = is.order ∙ sym (append-nil (flat_map pass_order groups)) ∙ sym (one_more pass_order groups []);
  lefts = subst (AreSpelled nodes plan.lefts.items) (sym (append-nil (flat_map lefts_of groups))
      ∙ sym (one_more lefts_of groups [])) is.lefts;
  rights = subst (AreSpelled nodes plan.rights.items) (sym (append-nil (flat_map rights_of groups))
      ∙ sym (one_more rights_of groups [])) is.rights;
}

pub sums_more : (old new : List Node) (parts : List PartContents) (ns : List (Option ℕ))
    → IsFront old new → AreSums old parts ns → AreSums new parts ns
sums_more old new [] [] front are = tt
sums_more old new [] (n ∷ ns) front are = absurd are
sums_more old new (Legacy terms ∷ parts) [] front are = absurd are
sums_more old new (Legacy terms ∷ parts) (None ∷ ns) front are = absurd are
sums_more old new (Legacy terms ∷ parts) (Some n ∷ ns) front are =
    (spells_more old new n (terms_tree terms) front are.0, sums_more old new parts ns front are.1)
sums_more old new (Grouped cs ∷ parts) [] front are = absurd are
sums_more old new (Grouped cs ∷ parts) (Some n ∷ ns) front are = absurd are
sums_more old new (Grouped cs ∷ parts) (None ∷ ns) front are = sums_more old new parts ns front are

sums_row : (nodes : List Node) (parts : List PartContents) (ns : List (Option ℕ))
    (part : PartContents) (n : Option ℕ) → AreSums nodes parts ns
    → AreSums nodes (part ∷ []) (n ∷ []) → AreSums nodes (parts ++ part ∷ []) (ns ++ n ∷ [])
sums_row nodes [] [] part n are one = one
sums_row nodes [] (m ∷ ns) part n are one = absurd are
sums_row nodes (Legacy terms ∷ parts) [] part n are one = absurd are
sums_row nodes (Legacy terms ∷ parts) (None ∷ ns) part n are one = absurd are
sums_row nodes (Legacy terms ∷ parts) (Some m ∷ ns) part n are one = (are.0, sums_row nodes parts ns part n are.1 one)
sums_row nodes (Grouped cs ∷ parts) [] part n are one = absurd are
sums_row nodes (Grouped cs ∷ parts) (Some m ∷ ns) part n are one = absurd are
sums_row nodes (Grouped cs ∷ parts) (None ∷ ns) part n are one = sums_row nodes parts ns part n are one

-- a part behind others, from its groups and its sum
pub part_added : (old new : List Node) (part : PartContents) (n : Option ℕ) (before after : ValuePlan) → IsFront old new
    → ((groups : List (List Condition)) → IsPlan old groups (plan_rows before.groups)
    → IsPlan new (groups ++ counted_in part ∷ []) (plan_rows after.groups))
    → AreSums new (part ∷ []) (n ∷ []) → after.sums.items ≡ before.sums.items ++ n ∷ []
    → (parts : List PartContents) → IsValuePlan old parts before → IsValuePlan new (parts ++ part ∷ []) after
part_added old new part n before after front groups one sums parts is = record {
  groups = subst (λ gs. IsPlan new gs (plan_rows after.groups)) (sym (map-append counted_in parts (part ∷ [])))
      (groups (map counted_in parts) is.groups);
  sums = subst (AreSums new (parts ++ part ∷ [])) (sym sums) (sums_row new parts before.sums.items
      part n (sums_more old new parts before.sums.items front is.sums) one);
}
