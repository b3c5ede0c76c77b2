-- What the trees of groups, triggers and values name of the memory, counted: at most two things for each condition.
use Rattle.std.proofs.Common.{◌≡◌, ℕ, zero, suc, ◌+◌, ◌*◌, ◌<◌, ◌≤◌, ◌==◌, Bool, true, false, if◌then◌else◌, Option}
use Rattle.std.proofs.Common.{None, Some, List, [], ◌∷◌, ◌++◌, length, replicate, set, sum_by, refl, subst, inl, inr}
use Rattle.std.proofs.Common.{◌⊎◌, ◌≢◌, arith, length-append, length-set}
use Rattle.std.specs.List.{flat_map, before_first}
use Rattle.std.proofs.lemmas.Bool.{cases_lt, cases_eq}
use Rattle.std.proofs.lemmas.List.{get_or-set_same, get_or-set_other, get_or_past}
use Rattle.std.proofs.lemmas.List.Concat.{flat_map-append}
use Rattle.std.proofs.lemmas.List.Sums.{sum_by-cons}
use Rattle.ra_operand.specs.declared.size.Size.{Size}
use Rattle.ra_operand.specs.declared.kind.Kind.{Kind}
use Rattle.ra_operand.specs.declared.operand.Operand.{Operand}
use Rattle.ra_operand.specs.declared.operand.Operand.TheVariants.{Cell, Const, Recall}
use Rattle.ra_operand.specs.declared.op.Op.{Op}
use Rattle.ra_operand.specs.declared.op.Op.TheVariants.{Bare, Add, Sub, Mul}
use Rattle.ra_condition.specs.declared.flag.Flag.{Flag}
use Rattle.ra_condition.specs.declared.flag.Flag.TheVariants.{AddSource, SubSource, AddAddress, Remember}
use Rattle.ra_condition.specs.declared.condition.Condition.{Condition}
use Rattle.ra_condition.specs.declared.part.Term.{Term}
use Rattle.ra_condition.specs.Flags.{hands_on, is_address, is_remember}
use Rattle.ra_condition.specs.Contents.{condition_at, flag_at}
use Rattle.ra_condition.specs.Chains.{pass_order}
use Rattle.ra_indirect.specs.Trees.{Tree, constant, join, view}
use Rattle.ra_chain.specs.Elaboration.{tree_at, operand_tree, pointer_of, last_remembered, recall_of, added, subtracted}
use Rattle.ra_chain.specs.Elaboration.{sum_after, sum_of, left_operand, right_operand, joined, handed_on}
use Rattle.ra_chain.specs.Elaboration.{value_by_rules, values_along, values_of, left_of, right_of, times, term_tree}
use Rattle.ra_chain.specs.Elaboration.{summed_from, terms_tree}
use Rattle.ra_chain.specs.Elaborates.{trees_along}
use Rattle.ra_chain.specs.Occurrence.{trees_in_group}
use Rattle.ra_chain.proofs.WalkLemmas.{order_length}
use Rattle.ra_member.proofs.Listed.{In, In_front, In_behind, In_split}

-- what is counted of a tree: what its parts name, and at most one thing more for a view
pub record Counts {X : Type 0} (f : Tree → List X) : Type 0 where
  pub own : Kind → Size → (pointer : Tree) → (address : ℕ) → List X
  pub of_constant : (n : ℕ) → f (constant n) ≡ []
  pub of_join : (op : Op) (left right : Tree) → f (join op left right) ≡ f left ++ f right
  pub of_view : (kind : Kind) (size : Size) (pointer : Tree) (address : ℕ)
      → f (view kind size pointer address) ≡ f pointer ++ own kind size pointer address
  pub one : (kind : Kind) (size : Size) (pointer : Tree) (address : ℕ) → length (own kind size pointer address) ≤ 1

-- trees of so many conditions are covered: what they name stands in a list that is short enough
pub record Covered {X : Type 0} (f : Tree → List X) (trees : List Tree) (conditions : ℕ) : Type 0 where
  pub allowed : List X
  pub few : length allowed ≤ 2 * conditions
  pub within : (x : X) → In x (flat_map f trees) → In x allowed

pub covered_more : {X : Type 0} (f : Tree → List X) (trees : List Tree) (m n : ℕ) → m ≤ n
    → Covered f trees m → Covered f trees n
covered_more f trees m n more c =
    record { allowed = c.allowed; few = omega (arith, c.few, more); within = c.within }

pub covered_both : {X : Type 0} (f : Tree → List X) (ts us : List Tree) (m n : ℕ) → Covered f ts m
    → Covered f us n → Covered f (ts ++ us) (m + n)
covered_both f ts us m n c d = record {
  allowed = c.allowed ++ d.allowed;
  few = omega (arith, c.few, d.few, length-append c.allowed d.allowed);
  within = λ x h. elim (In_split x (flat_map f ts) (flat_map f us) (subst (In x) (flat_map-append f ts us) h)) [
    | inl front ↦ In_front x c.allowed d.allowed (c.within x front)
    | inr behind ↦ In_behind x c.allowed d.allowed (d.within x behind)
  ];
}

pub covered_flat : {X Z : Type 0} (f : Tree → List X) (trees : Z → List Tree) (weight : Z → ℕ)
    → ((z : Z) → Covered f (trees z) (weight z)) → (zs : List Z)
    → Covered f (flat_map trees zs) (sum_by weight zs)
covered_flat f trees weight each [] =
    record { allowed = []; few = omega arith; within = λ x h. absurd h }
covered_flat f trees weight each (z ∷ zs) =
    covered_more f (trees z ++ flat_map trees zs) (weight z + sum_by weight zs)
    (sum_by weight (z ∷ zs)) (omega (arith, sum_by-cons weight z zs))
    (covered_both f (trees z) (flat_map trees zs) (weight z) (sum_by weight zs) (each z)
    (covered_flat f trees weight each zs))

module _ {X : Type 0} (f : Tree → List X) (counts : Counts f) where
  -- what a tree names stands in a list
  abbrev Holds : List X → Tree → Type 0
  Holds allowed tree = (x : X) → In x (f tree) → In x allowed

  abbrev SumHolds : List X → Option Tree → Type 0
  SumHolds allowed None = Unit {0}
  SumHolds allowed (Some tree) = Holds allowed tree

  constant_holds : (allowed : List X) (n : ℕ) → Holds allowed (constant n)
  constant_holds allowed n x h = absurd (subst (In x) (counts.of_constant n) h)

  join_holds : (allowed : List X) (op : Op) (left right : Tree) → Holds allowed left
      → Holds allowed right → Holds allowed (join op left right)
  join_holds allowed op left right l r x h =
      elim (In_split x (f left) (f right) (subst (In x) (counts.of_join op left right) h)) [
        | inl front ↦ l x front
        | inr behind ↦ r x behind
      ]

  holds_front : (allowed more : List X) (tree : Tree) → Holds allowed tree → Holds (allowed ++ more) tree
  holds_front allowed more tree holds x h = In_front x allowed more (holds x h)

  -- what an operand names beside its pointer
  abbrev new_of : Operand → Tree → List X
  new_of (Const n) pointer = []
  new_of Recall pointer = []
  new_of (Cell kind size address) pointer = counts.own kind size pointer address

  new_few : (o : Operand) (pointer : Tree) → length (new_of o pointer) ≤ 1
  new_few (Const n) pointer = omega arith
  new_few Recall pointer = omega arith
  new_few (Cell kind size address) pointer = counts.one kind size pointer address

  operand_holds : (allowed : List X) (o : Operand) (pointer recall : Tree) → Holds allowed pointer
      → Holds allowed recall → ((x : X) → In x (new_of o pointer) → In x allowed)
      → Holds allowed (operand_tree o pointer recall)
  operand_holds allowed (Const n) pointer recall p r new = constant_holds allowed n
  operand_holds allowed Recall pointer recall p r new = r
  operand_holds allowed (Cell kind size address) pointer recall p r new =
      λ x h. elim (In_split x (f pointer) (counts.own kind size pointer address)
      (subst (In x) (counts.of_view kind size pointer address) h)) [
        | inl front ↦ p x front
        | inr behind ↦ new x behind
      ]

  added_holds : (allowed : List X) (sum : Option Tree) (value : Tree) → SumHolds allowed sum
      → Holds allowed value → Holds allowed (added sum value)
  added_holds allowed None value s v = v
  added_holds allowed (Some sum) value s v = join_holds allowed Add sum value s v

  subtracted_holds : (allowed : List X) (sum : Option Tree) (value : Tree) → SumHolds allowed sum
      → Holds allowed value → Holds allowed (subtracted sum value)
  subtracted_holds allowed None value s v = join_holds allowed Sub (constant 0) value (constant_holds allowed 0) v
  subtracted_holds allowed (Some sum) value s v = join_holds allowed Sub sum value s v

  after_holds : (allowed : List X) (flag : Flag) (value : Tree) (sum : Option Tree)
      → Holds allowed value → SumHolds allowed sum → SumHolds allowed (sum_after flag value sum)
  after_holds allowed AddSource value sum v s = added_holds allowed sum value s v
  after_holds allowed SubSource value sum v s = subtracted_holds allowed sum value s v
  after_holds allowed AddAddress value sum v s = s
  after_holds allowed _ value sum v s = tt

  joined_holds : (allowed : List X) (op : Op) (left right : Tree) → Holds allowed left
      → Holds allowed right → Holds allowed (joined op left right)
  joined_holds allowed Bare left right l r = l
  joined_holds allowed op left right l r = join_holds allowed op left right l r

  handed_holds : (allowed : List X) (flag : Flag) (sum : Option Tree) (value : Tree)
      → SumHolds allowed sum → Holds allowed value → Holds allowed (handed_on flag sum value)
  handed_holds allowed AddSource sum value s v = v
  handed_holds allowed SubSource sum value s v = v
  handed_holds allowed AddAddress sum value s v = v
  handed_holds allowed Remember sum value s v = added_holds allowed sum value s v
  handed_holds allowed _ sum value s v = constant_holds allowed 0

  none_handed : (allowed : List X) (flag : Flag) (sum : Option Tree) (value : Tree) → hands_on flag
      ≡ false → Holds allowed (handed_on flag sum value)
  none_handed allowed AddSource sum value e = absurd cc
  none_handed allowed SubSource sum value e = absurd cc
  none_handed allowed AddAddress sum value e = absurd cc
  none_handed allowed Remember sum value e = absurd cc
  none_handed allowed _ sum value e = constant_holds allowed 0

  module _ (cs : List Condition) where
    -- what a condition names beside its pointer
    abbrev new_at : List Tree → ℕ → List X
    new_at values j = new_of (condition_at cs j).left (pointer_of cs values j)
        ++ new_of (condition_at cs j).right (pointer_of cs values j)

    new_at_few : (values : List Tree) (j : ℕ) → length (new_at values j) ≤ 2
    new_at_few values j =
        let left = new_of (condition_at cs j).left (pointer_of cs values j) in
        let right = new_of (condition_at cs j).right (pointer_of cs values j) in
        omega (
          arith,
          length-append left right,
          new_few (condition_at cs j).left (pointer_of cs values j),
          new_few (condition_at cs j).right (pointer_of cs values j),
        )

    module _ (values : List Tree) (allowed : List X) (holds : (j : ℕ) → Holds allowed (tree_at values j)) where
      pointer_holds : (j : ℕ) → Holds allowed (pointer_of cs values j)
      pointer_holds zero = constant_holds allowed 0
      pointer_holds (suc i) = by_flag (is_address (flag_at cs i))
        where
          by_flag : (b : Bool) → Holds allowed (if b then tree_at values i else constant 0)
          by_flag true = holds i
          by_flag false = constant_holds allowed 0

      last_holds : (before : Tree) (is : List ℕ) → Holds allowed before
          → Holds allowed (last_remembered cs values before is)
      last_holds before [] b = b
      last_holds before (i ∷ is) b =
          last_holds (if is_remember (flag_at cs i) then tree_at values i else before) is
          (by_flag (is_remember (flag_at cs i)))
        where
          by_flag : (r : Bool) → Holds allowed (if r then tree_at values i else before)
          by_flag true = holds i
          by_flag false = b

      recall_holds : (j : ℕ) → Holds allowed (recall_of cs values j)
      recall_holds j = last_holds (constant 0) (before_first (λ i. i == j) (pass_order cs)) (constant_holds allowed 0)

      sum_holds : (j : ℕ) → SumHolds allowed (sum_of cs values j)
      sum_holds zero = tt
      sum_holds (suc i) = after_holds allowed (flag_at cs i) (tree_at values i) (sum_of cs values i)
          (holds i) (sum_holds i)

      module _ (j : ℕ) (new : (x : X) → In x (new_at values j) → In x allowed) where
        left_holds : Holds allowed (left_operand cs values j)
        left_holds =
            operand_holds allowed (condition_at cs j).left (pointer_of cs values j)
            (recall_of cs values j) (pointer_holds j) (recall_holds j)
            (λ x h. new x (In_front x (new_of (condition_at cs j).left (pointer_of cs values j))
            (new_of (condition_at cs j).right (pointer_of cs values j)) h))

        right_holds : Holds allowed (right_operand cs values j)
        right_holds =
            operand_holds allowed (condition_at cs j).right (pointer_of cs values j)
            (recall_of cs values j) (pointer_holds j) (recall_holds j)
            (λ x h. new x (In_behind x (new_of (condition_at cs j).left (pointer_of cs values j))
            (new_of (condition_at cs j).right (pointer_of cs values j)) h))

        value_holds : Holds allowed (value_by_rules cs values j)
        value_holds =
            handed_holds allowed (flag_at cs j) (sum_of cs values j) (joined (condition_at cs j).op
            (left_operand cs values j) (right_operand cs values j)) (sum_holds j)
            (joined_holds allowed (condition_at cs j).op (left_operand cs values j)
            (right_operand cs values j) left_holds right_holds)

      set_holds : (i : ℕ) (tree : Tree) → Holds allowed tree → (j : ℕ) → Holds allowed (tree_at (set values i tree) j)
      set_holds i tree t j = elim (cases_lt j (length values)) [
        | inl within ↦ by_place within (cases_eq j i)
        | inr past ↦ rw (get_or_past (set values i tree) j (constant 0)
            (omega (arith, past, length-set values i tree))) (constant_holds allowed 0)
      ]
        where
          by_place : j < length values → (j ≡ i) ⊎ (j ≢ i) → Holds allowed (tree_at (set values i tree) j)
          by_place within (inl here) = subst (λ k. Holds allowed (tree_at (set values k tree) j))
              here (rw (get_or-set_same values j tree (constant 0) within) t)
          by_place within (inr other) = rw (get_or-set_other values i j tree (constant 0) other) (holds j)

    -- a condition that hands a value on is counted where it passes, and each other one where its trees are taken
    abbrev counted_first : ℕ → ℕ
    counted_first j = if hands_on (flag_at cs j) then 1 else 0

    abbrev counted_last : ℕ → ℕ
    counted_last j = if hands_on (flag_at cs j) then 0 else 1

    all_counted : (js : List ℕ) → sum_by counted_first js + sum_by counted_last js ≡ length js
    all_counted [] = omega arith
    all_counted (j ∷ js) =
        let both : counted_first j + counted_last j ≡ 1 = one (hands_on (flag_at cs j)) in
        omega (arith, both, all_counted js, sum_by-cons counted_first j js, sum_by-cons counted_last j js)
      where
        one : (b : Bool) → (if b then 1 else 0) + (if b then 0 else 1) ≡ 1
        one true = omega arith
        one false = omega arith

    -- what the values name so far
    record Reached (values : List Tree) (conditions : ℕ) : Type 0 where
      pub allowed : List X
      pub few : length allowed ≤ 2 * conditions
      pub holds : (j : ℕ) → Holds allowed (tree_at values j)

    zero_tree : (n j : ℕ) → tree_at (replicate n (constant 0)) j ≡ constant 0
    zero_tree zero j = refl
    zero_tree (suc n) zero = refl
    zero_tree (suc n) (suc j) = zero_tree n j

    begun : (n : ℕ) → Reached (replicate n (constant 0)) 0
    begun n =
        record { allowed = []; few = omega arith; holds = λ j. rw (zero_tree n j) (constant_holds [] 0) }

    passed : (values : List Tree) (n i : ℕ) → Reached values n
        → Reached (set values i (value_by_rules cs values i)) (n + counted_first i)
    passed values n i r = by_flag (hands_on (flag_at cs i)) refl
      where
        by_flag : (b : Bool) → hands_on (flag_at cs i) ≡ b
            → Reached (set values i (value_by_rules cs values i)) (n + (if b then 1 else 0))
        by_flag true e =
            let all = r.allowed ++ new_at values i in
            let front : (j : ℕ) → Holds all (tree_at values j) =
            λ j. holds_front r.allowed (new_at values i) (tree_at values j) (r.holds j) in
            record {
              allowed = all;
              few = omega (arith, r.few, new_at_few values i, length-append r.allowed (new_at values i));
              holds = set_holds values all front i (value_by_rules cs values i) (value_holds values
                  all front i (λ x h. In_behind x r.allowed (new_at values i) h));
            }
        by_flag false e = record {
          allowed = r.allowed;
          few = omega (arith, r.few);
          holds = set_holds values r.allowed r.holds i (value_by_rules cs values i)
              (none_handed r.allowed (flag_at cs i) (sum_of cs values i) (joined
              (condition_at cs i).op (left_operand cs values i) (right_operand cs values i)) e);
        }

    along : (js : List ℕ) (values : List Tree) (n : ℕ) → Reached values n
        → Reached (values_along cs values js) (n + sum_by counted_first js)
    along [] values n r =
        record { allowed = r.allowed; few = omega (arith, r.few); holds = r.holds }
    along (j ∷ js) values n r =
        let rest : Reached (values_along cs values (j ∷ js))
        (n + counted_first j + sum_by counted_first js) = along js
        (set values j (value_by_rules cs values j)) (n + counted_first j) (passed values n j r) in
        record {
          allowed = rest.allowed;
          few = omega (arith, rest.few, sum_by-cons counted_first j js);
          holds = rest.holds;
        }

    reached : Reached (values_of cs) (sum_by counted_first (pass_order cs))
    reached =
        let r : Reached (values_of cs) (0 + sum_by counted_first (pass_order cs)) =
        along (pass_order cs) (replicate (length cs) (constant 0)) 0 (begun (length cs)) in
        record { allowed = r.allowed; few = omega (arith, r.few); holds = r.holds }

    -- what the trees of conditions name beside that
    record Sides (base : List X) (js : List ℕ) : Type 0 where
      pub more : List X
      pub few : length more ≤ 2 * sum_by counted_last js
      pub within : (x : X) → In x (flat_map f (trees_along cs js)) → In x (base ++ more)

    -- the two trees of a condition, which hands its value on or not
    record TwoSides (base : List X) (j : ℕ) (hands : Bool) : Type 0 where
      pub more : List X
      pub few : length more ≤ 2 * (if hands then 0 else 1)
      pub left : Holds (base ++ more) (if hands then tree_at (values_of cs) j
          else added (sum_of cs (values_of cs) j) (left_operand cs (values_of cs) j))
      pub right : Holds (base ++ more) (if hands then tree_at (values_of cs) j else right_operand cs (values_of cs) j)

    two_sides : (base : List X) → ((j : ℕ) → Holds base (tree_at (values_of cs) j))
        → (j : ℕ) (hands : Bool) → TwoSides base j hands
    two_sides base holds j true = record {
      more = [];
      few = omega arith;
      left = holds_front base [] (tree_at (values_of cs) j) (holds j);
      right = holds_front base [] (tree_at (values_of cs) j) (holds j);
    }
    two_sides base holds j false =
        let values = values_of cs in
        let all = base ++ new_at values j in
        let front : (i : ℕ) → Holds all (tree_at values i) =
        λ i. holds_front base (new_at values j) (tree_at values i) (holds i) in
        let new : (x : X) → In x (new_at values j) → In x all = λ x h. In_behind x base (new_at values j) h in
        record {
          more = new_at values j;
          few = omega (arith, new_at_few values j);
          left = added_holds all (sum_of cs values j) (left_operand cs values j)
              (sum_holds values all front j) (left_holds values all front j new);
          right = right_holds values all front j new;
        }

    sides : (base : List X) → ((j : ℕ) → Holds base (tree_at (values_of cs) j)) → (js : List ℕ) → Sides base js
    sides base holds [] = record { more = []; few = omega arith; within = λ x h. absurd h }
    sides base holds (j ∷ js) =
        let here : TwoSides base j (hands_on (flag_at cs j)) = two_sides base holds j (hands_on (flag_at cs j)) in
        let rest : Sides base js = sides base holds js in
        let first : (x : X) → In x (base ++ here.more) → In x (base ++ (here.more ++ rest.more)) =
        λ x h. elim (In_split x base here.more h) [
          | inl front ↦ In_front x base (here.more ++ rest.more) front
          | inr behind ↦ In_behind x base (here.more ++ rest.more) (In_front x here.more rest.more behind)
        ] in
        let last : (x : X) → In x (base ++ rest.more) → In x (base ++ (here.more ++ rest.more)) =
        λ x h. elim (In_split x base rest.more h) [
          | inl front ↦ In_front x base (here.more ++ rest.more) front
          | inr behind ↦ In_behind x base (here.more ++ rest.more) (In_behind x here.more rest.more behind)
        ] in
        record {
          more = here.more ++ rest.more;
          few = omega (arith, here.few, rest.few, length-append here.more rest.more, sum_by-cons counted_last j js);
          within = λ x h. elim (In_split x (f (left_of cs j)) (f (right_of cs j) ++ flat_map f (trees_along cs js)) h) [
            | inl left ↦ first x (here.left x left)
            | inr behind ↦ elim (In_split x (f (right_of cs j)) (flat_map f (trees_along cs js)) behind) [
              | inl right ↦ first x (here.right x right)
              | inr later ↦ last x (rest.within x later)
            ]
          ];
        }

    -- the trees of a group
    pub group_covered : Covered f (trees_in_group cs) (length cs)
    group_covered =
        let base : Reached (values_of cs) (sum_by counted_first (pass_order cs)) = reached in
        let all : Sides base.allowed (pass_order cs) = sides base.allowed base.holds (pass_order cs) in
        record {
          allowed = base.allowed ++ all.more;
          few = omega (
            arith,
            base.few,
            all.few,
            length-append base.allowed all.more,
            all_counted (pass_order cs),
            order_length cs,
          );
          within = all.within;
        }

  -- ---- legacy terms

  record TermHolds (tree : Tree) (terms : ℕ) : Type 0 where
    pub allowed : List X
    pub few : length allowed ≤ 2 * terms
    pub holds : Holds allowed tree

  factor_holds : (allowed : List X) (tree : Tree) (factor : Option Operand) → Holds allowed tree
      → (few : ℕ) → length allowed ≤ few → (new : List X) × (length new ≤ few + 1)
      × Holds new (times tree factor)
  factor_holds allowed tree None holds few most = (allowed, omega (arith, most), holds)
  factor_holds allowed tree (Some o) holds few most =
      let new = new_of o (constant 0) in
      let all = allowed ++ new in (
        all,
        omega (arith, most, new_few o (constant 0), length-append allowed new),
        join_holds all Mul tree (operand_tree o (constant 0) (constant 0)) (holds_front allowed new tree holds)
            (operand_holds all o (constant 0) (constant 0) (constant_holds all 0)
            (constant_holds all 0) (λ x h. In_behind x allowed new h)),
      )

  term_holds : (t : Term) → TermHolds (term_tree t) 1
  term_holds t =
      let new = new_of t.operand (constant 0) in
      let both = factor_holds new (operand_tree t.operand (constant 0) (constant 0)) t.factor
      (operand_holds new t.operand (constant 0) (constant 0) (constant_holds new 0)
      (constant_holds new 0) (λ x h. h)) 1 (new_few t.operand (constant 0)) in
      record { allowed = both.0; few = omega (arith, both.1); holds = both.2 }

  summed_holds : (sum : Tree) (n : ℕ) → TermHolds sum n → (ts : List Term)
      → TermHolds (summed_from sum ts) (n + length ts)
  summed_holds sum n s [] =
      record { allowed = s.allowed; few = omega (arith, s.few); holds = s.holds }
  summed_holds sum n s (t ∷ ts) =
      let one : TermHolds (term_tree t) 1 = term_holds t in
      let all = s.allowed ++ one.allowed in
      let next : TermHolds (join Add sum (term_tree t)) (n + 1) = record {
        allowed = all;
        few = omega (arith, s.few, one.few, length-append s.allowed one.allowed);
        holds = join_holds all Add sum (term_tree t) (holds_front s.allowed one.allowed sum s.holds)
            (λ x h. In_behind x s.allowed one.allowed (one.holds x h));
      } in
      let rest : TermHolds (summed_from sum (t ∷ ts)) (n + 1 + length ts) =
      summed_holds (join Add sum (term_tree t)) (n + 1) next ts in
      record { allowed = rest.allowed; few = omega (arith, rest.few); holds = rest.holds }

  terms_hold : (ts : List Term) → TermHolds (terms_tree ts) (length ts)
  terms_hold [] =
      record { allowed = []; few = omega arith; holds = constant_holds [] 0 }
  terms_hold (t ∷ ts) =
      let all : TermHolds (summed_from (term_tree t) ts) (1 + length ts) =
      summed_holds (term_tree t) 1 (term_holds t) ts in
      record { allowed = all.allowed; few = omega (arith, all.few); holds = all.holds }

  pub terms_covered : (ts : List Term) → Covered f (terms_tree ts ∷ []) (length ts)
  terms_covered ts =
      let t : TermHolds (terms_tree ts) (length ts) = terms_hold ts in
      record {
        allowed = t.allowed;
        few = t.few;
        within = λ x h. elim (In_split x (f (terms_tree ts)) [] h) [
          | inl here ↦
              t.holds x here
          | inr none ↦ absurd none
        ];
      }
