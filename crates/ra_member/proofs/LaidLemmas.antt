-- What a laid plan reads at a frame is what the definitions say over the whole history.
use Rattle.std.proofs.Common.{◌≡◌, ℕ, zero, suc, ◌+◌, ◌<◌, Option, None, Some, List, [], ◌∷◌, ◌++◌, length, map}
use Rattle.std.proofs.Common.{take, get_or, Box, Global}
use Rattle.std.proofs.Common.{sum_by, slice_index, refl, sym, ◌∙◌, ap, ap₂, subst, arith, length-append, append_assoc}
use Rattle.std.specs.List.{flat_map, range_with_len}
use Rattle.std.proofs.lemmas.Option.{slice_get_within, get_or_from_slice_get}
use Rattle.std.proofs.Math.Seq.{get_or-append_seam}
use Rattle.std.proofs.lemmas.List.{map-append, length-map, get_or-map}
use Rattle.std.proofs.lemmas.Simd.{map-map}
use Rattle.std.proofs.lemmas.List.FromFn.{length-range_with_len}
use Rattle.std.proofs.lemmas.List.Sums.{sum_by-cons}
use Rattle.ra_operand.specs.declared.op.Op.{Op}
use Rattle.ra_operand.specs.Operators.{compared}
use Rattle.ra_condition.specs.declared.condition.Condition.{Condition}
use Rattle.ra_condition.specs.Contents.{condition_at, no_condition, PartContents, Legacy, Grouped, counted_in}
use Rattle.ra_condition.specs.Contents.{value_hits}
use Rattle.ra_condition.specs.Chains.{pass_order, places}
use Rattle.ra_memory.specs.Image.{History}
use Rattle.ra_indirect.specs.declared.node.Node.{Node}
use Rattle.ra_indirect.specs.declared.node.Node.TheVariants.{Const, Cell as CellNode, View, Arith}
use Rattle.ra_indirect.specs.Trees.{Tree, constant}
use Rattle.ra_indirect.specs.Pools.{Spelled, IsTree, spelled_at, spelled_with, spelled_by, Spells, IsValued, node_at}
use Rattle.ra_indirect.proofs.Spelling.{spelled_by-here, length-spelled_by}
use Rattle.ra_chain.specs.Elaboration.{left_of, right_of, lefts_of, rights_of, terms_tree}
use Rattle.ra_group.proofs.AlongLemmas.{length-pass_order}
use Rattle.ra_memref.specs.Values.{Start, value_of}
use Rattle.ra_memref.specs.Table.{spelled_value}
use Rattle.ra_member.specs.declared.laid.Few.{Few}
use Rattle.ra_member.specs.declared.laid.Laid.{Laid}
use Rattle.ra_member.specs.declared.laid.Many.{Many}
use Rattle.ra_member.specs.declared.sides.Sides.{Sides}
use Rattle.ra_member.specs.Frames.{truth_at, lefts_at, truths_at, sum_at}
use Rattle.ra_member.specs.Laid.{PlanSeen, laid_seen, left_nodes, right_nodes, operators}
use Rattle.ra_member.specs.Plans.{AreSpelled, AreSums, IsPlan}
use Rattle.ra_member.specs.Readings.{ops_in, ops_of, numbers_at, truths_by, AreValued, sum_by_node, AreValuedSums}
use Rattle.ra_member.specs.Runs.{HasRoom, IsLaid, MayFill, IsFilled, lefts_in, truths_in}

-- a node that spells a tree has a value
gives_value : (s : List Spelled) (node : Node) (tree : Tree) → spelled_with s node ≡ IsTree tree → IsValued node
gives_value s (Const n) tree is = tt
gives_value s (CellNode width pointer offset) tree is = absurd (cc)
gives_value s (View kind size c) tree is = tt
gives_value s (Arith op left right) tree is = tt

pub valued : (nodes : List Node) (n : ℕ) (tree : Tree) → Spells nodes n tree → (n < length nodes)
    × IsValued (node_at nodes n)
valued nodes n tree is =
    let listed : n < length (spelled_by nodes) = slice_get_within (spelled_by nodes) n (IsTree tree) is in
    let within : n < length nodes = omega (arith, length-spelled_by nodes) in
    let here : spelled_at (spelled_by nodes) n ≡ IsTree tree =
    get_or_from_slice_get (spelled_by nodes) n (IsTree tree) (IsTree (constant 0)) is in
    (within, gives_value _ (node_at nodes n) tree (sym (spelled_by-here nodes n within) ∙ here))

pub all_valued : (nodes : List Node) (ns : List ℕ) (trees : List Tree) → AreSpelled nodes ns trees → AreValued nodes ns
all_valued nodes [] trees are k within = absurd (omega arith)
all_valued nodes (n ∷ ns) [] are k within = absurd are
all_valued nodes (n ∷ ns) (tree ∷ trees) are zero within = valued nodes n tree are.0
all_valued nodes (n ∷ ns) (tree ∷ trees) are (suc k) within = all_valued nodes ns trees are.1 k (omega arith)

pub all_summed : (nodes : List Node) (parts : List PartContents) (ns : List (Option ℕ))
    → AreSums nodes parts ns → AreValuedSums nodes ns
all_summed nodes parts [] are k within = absurd (omega arith)
all_summed nodes [] (n ∷ ns) are k within = absurd are
all_summed nodes (Legacy terms ∷ parts) (None ∷ ns) are k within = absurd are
all_summed nodes (Legacy terms ∷ parts) (Some n ∷ ns) are zero within = valued nodes n (terms_tree terms) are.0
all_summed nodes (Legacy terms ∷ parts) (Some n ∷ ns) are (suc k) within =
    all_summed nodes parts ns are.1 k (omega arith)
all_summed nodes (Grouped cs ∷ parts) (Some n ∷ ns) are k within = absurd are
all_summed nodes (Grouped cs ∷ parts) (None ∷ ns) are zero within = tt
all_summed nodes (Grouped cs ∷ parts) (None ∷ ns) are (suc k) within = all_summed nodes parts ns are k (omega arith)

pub length_sums : (nodes : List Node) (parts : List PartContents) (ns : List (Option ℕ))
    → AreSums nodes parts ns → length ns ≡ length parts
length_sums nodes [] [] are = refl
length_sums nodes [] (n ∷ ns) are = absurd are
length_sums nodes (Legacy terms ∷ parts) [] are = absurd are
length_sums nodes (Legacy terms ∷ parts) (None ∷ ns) are = absurd are
length_sums nodes (Legacy terms ∷ parts) (Some n ∷ ns) are = ap suc (length_sums nodes parts ns are.1)
length_sums nodes (Grouped cs ∷ parts) [] are = absurd are
length_sums nodes (Grouped cs ∷ parts) (Some n ∷ ns) are = absurd are
length_sums nodes (Grouped cs ∷ parts) (None ∷ ns) are = ap suc (length_sums nodes parts ns are)

length_spelled : (nodes : List Node) (ns : List ℕ) (trees : List Tree) → AreSpelled nodes ns trees
    → length ns ≡ length trees
length_spelled nodes [] [] are = refl
length_spelled nodes [] (tree ∷ trees) are = absurd are
length_spelled nodes (n ∷ ns) [] are = absurd are
length_spelled nodes (n ∷ ns) (tree ∷ trees) are = ap suc (length_spelled nodes ns trees are.1)

-- lists laid in a row, an entry for each condition
along : {A : Type 0} (f : List Condition → List A) → ((cs : List Condition) → length (f cs) ≡ length
    cs) → (groups : List (List Condition)) → length (flat_map f groups) ≡ sum_by length groups
along f each [] = refl
along f each (cs ∷ groups) =
    length-append (f cs) (flat_map f groups) ∙ ap₂ (λ m n. m + n) (each cs) (along f each groups)
    ∙ sym (sum_by-cons length cs groups)

length_places : {A : Type 0} (f : ℕ → A) (cs : List Condition) → length (map f (places cs)) ≡ length cs
length_places f cs = length-map (places cs) f ∙ length-range_with_len 0 (length cs)

pub length_ops : (groups : List (List Condition)) → length (ops_of groups) ≡ sum_by length groups
length_ops groups = along ops_in (λ cs. length-map cs (λ c. c.op)) groups

length_lefts : (groups : List (List Condition)) → length (flat_map lefts_of groups) ≡ sum_by length groups
length_lefts groups = along lefts_of (λ cs. length_places (left_of cs) cs) groups

length_rights : (groups : List (List Condition)) → length (flat_map rights_of groups) ≡ sum_by length groups
length_rights groups = along rights_of (λ cs. length_places (right_of cs) cs) groups

-- the counts of a value's conditions
pub sums_grouped : (parts : List PartContents) → sum_by length (map counted_in parts) ≡ value_hits parts
sums_grouped [] = refl
sums_grouped (part ∷ parts) =
    sum_by-cons length (counted_in part) (map counted_in parts)
    ∙ ap (λ n. length (counted_in part) + n) (sums_grouped parts)
    ∙ sym (sum_by-cons (λ p. length (counted_in p)) part parts)

module _ (nodes : List Node) (groups : List (List Condition)) where
  -- a laid plan may be filled, and is laid after that
  pub laid_fills : (laid : Laid) → IsLaid nodes groups laid → MayFill nodes laid
  laid_fills laid is =
      let ops : length laid.ops ≡ sum_by length groups = ap length is.ops ∙ length_ops groups in
      record {
        lefts = all_valued nodes laid.plan.lefts (flat_map lefts_of groups) is.plan.lefts;
        rights = all_valued nodes laid.plan.rights (flat_map rights_of groups) is.plan.rights;
        left_nodes = length_spelled nodes laid.plan.lefts
            (flat_map lefts_of groups) is.plan.lefts ∙ length_lefts groups ∙ sym ops;
        right_nodes = length_spelled nodes laid.plan.rights
            (flat_map rights_of groups) is.plan.rights ∙ length_rights groups ∙ sym ops;
      }

-- the truths of groups laid in a row
truths_row : (ops : List Op) (xs ys : List ℕ) (ops' : List Op) (xs' ys' : List ℕ) → length xs
    ≡ length ops → length ys ≡ length ops → truths_by (ops ++ ops') (xs ++ xs') (ys ++ ys')
    ≡ truths_by ops xs ys ++ truths_by ops' xs' ys'
truths_row [] [] [] ops' xs' ys' long long_too = refl
truths_row [] [] (y ∷ ys) ops' xs' ys' long long_too = absurd (omega arith)
truths_row [] (x ∷ xs) ys ops' xs' ys' long long_too = absurd (omega arith)
truths_row (op ∷ ops) [] ys ops' xs' ys' long long_too = absurd (omega arith)
truths_row (op ∷ ops) (x ∷ xs) [] ops' xs' ys' long long_too = absurd (omega arith)
truths_row (op ∷ ops) (x ∷ xs) (y ∷ ys) ops' xs' ys' long long_too =
    ap (λ r. compared op x y ∷ r) (truths_row ops xs ys ops' xs' ys' (omega arith) (omega arith))

truths_places : (op : ℕ → Op) (f g : ℕ → ℕ) (js : List ℕ)
    → truths_by (map op js) (map f js) (map g js) ≡ map (λ j. compared (op j) (f j) (g j)) js
truths_places op f g [] = refl
truths_places op f g (j ∷ js) = ap (λ r. compared (op j) (f j) (g j) ∷ r) (truths_places op f g js)

-- what is said of each element is said of each place
map_shifted : {A B : Type 0} (f : A → B) (d : A) (before xs : List A) → map f xs
    ≡ map (λ j. f (get_or (before ++ xs) j d)) (range_with_len (length before) (length xs))
map_shifted f d before [] = refl
map_shifted f d before (x ∷ xs) =
    let here : get_or (before ++ x ∷ xs) (length before) d ≡ x = get_or-append_seam before x xs d in
    let count : length (before ++ x ∷ []) ≡ length before + 1 = omega (arith, length-append before (x ∷ [])) in
    let rest : map f xs ≡ map (λ j. f (get_or ((before ++ x ∷ []) ++ xs) j d)) (range_with_len
    (length (before ++ x ∷ [])) (length xs)) = map_shifted f d (before ++ x ∷ []) xs in
    let later : map f xs ≡ map (λ j. f (get_or (before ++ x ∷ xs) j d))
    (range_with_len (length before + 1) (length xs)) = rest ∙ ap₂ (λ l n. map (λ j. f
    (get_or l j d)) (range_with_len n (length xs))) (append_assoc before (x ∷ []) xs) count in
    ap₂ (λ y ys. y ∷ ys) (ap f (sym here)) later

ops_places : (cs : List Condition) → ops_in cs ≡ map (λ j. (condition_at cs j).op) (places cs)
ops_places cs = map_shifted (λ c. c.op) no_condition [] cs

module _ (nodes : List Node) (values : List ℕ) (start : Start) (h : History) (has : values
    ≡ map (spelled_value start h) (spelled_by nodes)) where
  -- a node's number is the value of its tree
  read_one : (n : ℕ) (tree : Tree) → Spells nodes n tree → slice_index values n ≡ value_of start tree h
  read_one n tree is =
      ap (λ vs. get_or vs n 0) has
      ∙ get_or-map (spelled_value start h) (spelled_by nodes) n (IsTree tree) 0
      (slice_get_within (spelled_by nodes) n (IsTree tree) is)
      ∙ ap (spelled_value start h) (get_or_from_slice_get (spelled_by nodes) n (IsTree tree) (IsTree tree) is)

  read_all : (ns : List ℕ) (trees : List Tree) → AreSpelled nodes ns trees → numbers_at values ns
      ≡ map (λ tree. value_of start tree h) trees
  read_all [] [] are = refl
  read_all [] (tree ∷ trees) are = absurd are
  read_all (n ∷ ns) [] are = absurd are
  read_all (n ∷ ns) (tree ∷ trees) are = ap₂ (λ x xs. x ∷ xs) (read_one n tree are.0) (read_all ns trees are.1)

  pub read_sums_of : (parts : List PartContents) (ns : List (Option ℕ)) → AreSums nodes parts ns
      → map (sum_by_node values) ns ≡ map (sum_at start h) parts
  read_sums_of [] [] are = refl
  read_sums_of [] (n ∷ ns) are = absurd are
  read_sums_of (Legacy terms ∷ parts) [] are = absurd are
  read_sums_of (Legacy terms ∷ parts) (None ∷ ns) are = absurd are
  read_sums_of (Legacy terms ∷ parts) (Some n ∷ ns) are =
      ap₂ (λ x xs. x ∷ xs) (read_one n (terms_tree terms) are.0) (read_sums_of parts ns are.1)
  read_sums_of (Grouped cs ∷ parts) [] are = absurd are
  read_sums_of (Grouped cs ∷ parts) (Some n ∷ ns) are = absurd are
  read_sums_of (Grouped cs ∷ parts) (None ∷ ns) are = ap (λ xs. 0 ∷ xs) (read_sums_of parts ns are)

  abbrev value : Tree → ℕ
  value tree = value_of start tree h

  lefts_row : (groups : List (List Condition)) → map value (flat_map lefts_of groups) ≡ lefts_at start h groups
  lefts_row [] = refl
  lefts_row (cs ∷ groups) =
      map-append value (lefts_of cs) (flat_map lefts_of groups)
      ∙ ap₂ (λ xs ys. xs ++ ys) (map-map value (left_of cs) (places cs)) (lefts_row groups)

  truths_one : (cs : List Condition) → truths_by (ops_in cs) (map value (lefts_of cs))
      (map value (rights_of cs)) ≡ map (truth_at start h cs) (places cs)
  truths_one cs =
      (λ i. truths_by (ops_places cs i) (map-map value (left_of cs) (places cs) i)
      (map-map value (right_of cs) (places cs) i))
      ∙ truths_places (λ j. (condition_at cs j).op) (λ j. value (left_of cs j)) (λ j. value (right_of cs j)) (places cs)

  truths_all : (groups : List (List Condition)) → truths_by (ops_of groups) (map value
      (flat_map lefts_of groups)) (map value (flat_map rights_of groups)) ≡ truths_at start h groups
  truths_all [] = refl
  truths_all (cs ∷ groups) =
      let ops : length (ops_in cs) ≡ length cs = length-map cs (λ c. c.op) in
      let xs : length (map value (lefts_of cs)) ≡ length cs =
      length-map (lefts_of cs) value ∙ length_places (left_of cs) cs in
      let ys : length (map value (rights_of cs)) ≡ length cs =
      length-map (rights_of cs) value ∙ length_places (right_of cs) cs in
      (λ i. truths_by (ops_of (cs ∷ groups)) (map-append value (lefts_of cs)
      (flat_map lefts_of groups) i) (map-append value (rights_of cs) (flat_map rights_of groups) i))
      ∙ truths_row (ops_in cs) (map value (lefts_of cs)) (map value (rights_of cs)) (ops_of groups)
      (map value (flat_map lefts_of groups)) (map value (flat_map rights_of groups)) (xs ∙ sym ops)
      (ys ∙ sym ops)
      ∙ ap₂ (λ a b. a ++ b) (truths_one cs) (truths_all groups)

  module _ (groups : List (List Condition)) (old : Laid) (is : IsLaid nodes groups old) where
    -- what the nodes of a laid plan give is what its conditions see
    pub laid_lefts : numbers_at values old.plan.lefts ≡ lefts_at start h groups
    laid_lefts = read_all old.plan.lefts (flat_map lefts_of groups) is.plan.lefts ∙ lefts_row groups

    pub laid_truths : truths_by old.ops (numbers_at values old.plan.lefts)
        (numbers_at values old.plan.rights)
        ≡ truths_at start h groups
    laid_truths =
        (λ i. truths_by (is.ops i) (read_all old.plan.lefts (flat_map lefts_of groups) is.plan.lefts i)
        (read_all old.plan.rights (flat_map rights_of groups) is.plan.rights i))
        ∙ truths_all groups

  module _ (groups : List (List Condition)) (old new : Laid) (few : Few) (is : IsLaid nodes groups old)
      (filled : IsFilled values old new few) where
    pub lefts_read : lefts_in new few ≡ lefts_at start h groups
    lefts_read = filled.lefts ∙ laid_lefts groups old is

    pub truths_read : truths_in new few ≡ truths_at start h groups
    truths_read = filled.truths ∙ laid_truths groups old is

pub length_truths : (ops : List Op) (xs ys : List ℕ) → length xs ≡ length ops → length ys ≡ length ops
    → length (truths_by ops xs ys) ≡ length ops
length_truths [] xs ys long long_too = refl
length_truths (op ∷ ops) [] ys long long_too = absurd (omega arith)
length_truths (op ∷ ops) (x ∷ xs) [] long long_too = absurd (omega arith)
length_truths (op ∷ ops) (x ∷ xs) (y ∷ ys) long long_too = ap suc (length_truths ops xs ys (omega arith) (omega arith))

module _ (nodes : List Node) (values : List ℕ) (groups : List (List Condition)) (old new : Laid) (few : Few)
    (is : IsLaid nodes groups old) (filled : IsFilled values old new few) where
  -- what was taken up has an entry for each condition
  pub length_read : (length (truths_in new few) ≡ sum_by length groups)
      × (length (lefts_in new few) ≡ sum_by length groups)
  length_read =
      let may : MayFill nodes old = laid_fills nodes groups old is in
      let ops : length old.ops ≡ sum_by length groups = ap length is.ops ∙ length_ops groups in
      let xs : length (numbers_at values old.plan.lefts) ≡ length old.ops =
      length-map old.plan.lefts (slice_index values) ∙ may.left_nodes in
      let ys : length (numbers_at values old.plan.rights) ≡ length old.ops =
      length-map old.plan.rights (slice_index values) ∙ may.right_nodes in
      (ap length filled.truths ∙ length_truths old.ops _ _ xs ys ∙ ops, ap length filled.lefts ∙ xs ∙ ops)

  pub laid_again : IsLaid nodes groups new
  laid_again = record {
    plan = subst (IsPlan nodes groups) (sym filled.plan) is.plan;
    ops = filled.ops ∙ is.ops;
    room = filled.room;
  }

-- sides are taken up: into the room for many conditions, or into that for few
module _ (values turns : List ℕ) (sides : List Sides) (old : Option (Box Many Global)) (few : Few) where
  abbrev xs : List ℕ
  xs = numbers_at values (left_nodes sides)

  abbrev ys : List ℕ
  ys = numbers_at values (right_nodes sides)

  long : length (operators sides) ≡ length sides
  long = length-map sides (λ s. s.op)

  xs_long : length xs ≡ length (operators sides)
  xs_long = length-map (left_nodes sides) (slice_index values) ∙ length-map sides (λ s. s.left) ∙ sym long

  ys_long : length ys ≡ length (operators sides)
  ys_long = length-map (right_nodes sides) (slice_index values) ∙ length-map sides (λ s. s.right) ∙ sym long

  pub filled_many : (room : Box Many Global) → room.value.lefts.items ≡ xs
      → room.value.truths.items ≡ truths_by (operators sides) xs ys
      → IsFilled values (laid_seen turns sides old) (laid_seen turns sides (Some room)) few
  filled_many room lefts truths = record {
    plan = refl;
    ops = refl;
    room = (ap length truths ∙ length_truths (operators sides) xs ys xs_long ys_long, ap length lefts ∙ xs_long);
    lefts = lefts;
    truths = truths;
  }

  pub filled_few : old ≡ None → HasRoom (length (operators sides)) old → take (length sides) few.lefts ≡ xs
      → take (length sides) few.truths ≡ truths_by (operators sides) xs ys
      → IsFilled values (laid_seen turns sides old) (laid_seen turns sides old) few
  filled_few none room lefts truths =
      subst (λ r. IsFilled values (laid_seen turns sides r) (laid_seen turns sides r) few) (sym none) (record {
        plan = refl;
        ops = refl;
        room = subst (HasRoom (length (operators sides))) none room;
        lefts = ap (λ n. take n few.lefts) long ∙ lefts;
        truths = ap (λ n. take n few.truths) long ∙ truths;
      })

-- a plan of some groups has as many turns and nodes as there are operators
module _ (nodes : List Node) (groups : List (List Condition)) (plan : PlanSeen) (is : IsPlan nodes groups plan)
    (ops : List Op) (all : ops ≡ ops_of groups) where
  pub order_long : length plan.order ≡ length ops
  order_long =
      ap length is.order ∙ along pass_order length-pass_order groups ∙ sym (length_ops groups) ∙ sym (ap length all)

  pub lefts_long : length plan.lefts ≡ length ops
  lefts_long =
      length_spelled nodes plan.lefts (flat_map lefts_of groups) is.lefts ∙ length_lefts groups
      ∙ sym (length_ops groups) ∙ sym (ap length all)

  pub rights_long : length plan.rights ≡ length ops
  rights_long =
      length_spelled nodes plan.rights (flat_map rights_of groups) is.rights ∙ length_rights groups
      ∙ sym (length_ops groups) ∙ sym (ap length all)
