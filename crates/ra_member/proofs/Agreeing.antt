-- What tests and values do at two frames at which their trees have one value.
use Rattle.std.proofs.Common.{◌≡◌, ℕ, Bool, true, false, not, inl, inr, List, [], ◌∷◌, ◌++◌, map, filter, refl, ap}
use Rattle.std.specs.List.{flat_map}
use Rattle.ra_operand.specs.Operators.{compared}
use Rattle.ra_condition.specs.declared.condition.Condition.{Condition}
use Rattle.ra_condition.specs.Contents.{condition_at, TriggerContents, groups_of, PartContents, Legacy, Grouped}
use Rattle.ra_condition.specs.Contents.{counted_in}
use Rattle.ra_condition.specs.Chains.{places, pass_order, in_pause_chain}
use Rattle.ra_memory.specs.Image.{History}
use Rattle.ra_indirect.specs.Trees.{Tree}
use Rattle.ra_chain.specs.Elaboration.{left_of, right_of, terms_tree}
use Rattle.ra_chain.specs.Occurrence.{trees_in_group, trees_in_trigger, trees_in_value}
use Rattle.ra_memref.specs.Values.{Start, value_of}
use Rattle.ra_trigger.specs.Steps.{TriggerKept, step as trigger_step, truth, hits_after_truth}
use Rattle.ra_value.specs.Steps.{ValueKept, step as value_step}
use Rattle.ra_member.specs.Frames.{left_at, truth_at, lefts_at, truths_at, achievement_next, test_next, test_holds}
use Rattle.ra_member.specs.Frames.{sum_at, value_next}
use Rattle.ra_member.specs.Members.{MemberContents, MemberKept, tests_next, tests_hold, values_next, member_next}
use Rattle.ra_member.specs.Members.{members_next, trees_in_member}
use Rattle.ra_member.proofs.Listed.{In, In_front, In_behind, In_split, In_flat, In_filter, map_agree, flat_map_agree}

-- a place of a group stands in its pass order
In_either : (p : ℕ → Bool) (x : ℕ) (xs : List ℕ) → In x xs → In x (filter p xs ++ filter (λ j. not (p j)) xs)
In_either p x xs h = elim (p x) as (λ b. p x ≡ b → In x (filter p xs ++ filter (λ j. not (p j)) xs)) [
  | true ↦ λ e. In_front x (filter p xs) (filter (λ j. not (p j)) xs) (In_filter p x xs h e)
  | false ↦ λ e. In_behind x (filter p xs) (filter (λ j. not (p j)) xs) (In_filter (λ j. not (p j)) x xs h (ap not e))
] refl

pub passes : (cs : List Condition) (j : ℕ) → In j (places cs) → In j (pass_order cs)
passes cs j h = In_either (in_pause_chain cs) j (places cs) h

module _ (start start' : Start) (h h' : History) where
  -- the trees have one value at the last frames of two histories, by a start for each
  abbrev pub Agree : List Tree → Type 0
  Agree trees = (tree : Tree) → In tree trees → value_of start tree h ≡ value_of start' tree h'

  pub agree_front : (xs ys : List Tree) → Agree (xs ++ ys) → Agree xs
  agree_front xs ys agree tree there = agree tree (In_front tree xs ys there)

  pub agree_behind : (xs ys : List Tree) → Agree (xs ++ ys) → Agree ys
  agree_behind xs ys agree tree there = agree tree (In_behind tree xs ys there)

  agree_in : {A : Type 0} (f : A → List Tree) (x : A) (xs : List A) → In x xs → Agree (flat_map f xs) → Agree (f x)
  agree_in f x xs there agree tree among = agree tree (In_flat f x tree xs there among)

  -- the two sides of a condition
  sides : (cs : List Condition) → Agree (trees_in_group cs) → (j : ℕ) → In j (places cs)
      → Agree (left_of cs j ∷ right_of cs j ∷ [])
  sides cs agree j there = agree_in (λ k. left_of cs k ∷ right_of cs k ∷ []) j (pass_order cs) (passes cs j there) agree

  lefts_agree : (groups : List (List Condition)) → Agree (flat_map trees_in_group groups)
      → lefts_at start h groups ≡ lefts_at start' h' groups
  lefts_agree groups agree =
      flat_map_agree (λ cs. map (left_at start h cs) (places cs)) (λ cs. map (left_at start' h' cs) (places cs)) groups
      (λ cs there. map_agree (left_at start h cs) (left_at start' h' cs) (places cs) (λ j at. sides
      cs (agree_in trees_in_group cs groups there agree) j at (left_of cs j) (inl refl)))

  truths_agree : (groups : List (List Condition)) → Agree (flat_map trees_in_group groups)
      → truths_at start h groups ≡ truths_at start' h' groups
  truths_agree groups agree =
      flat_map_agree (λ cs. map (truth_at start h cs) (places cs))
      (λ cs. map (truth_at start' h' cs) (places cs)) groups
      (λ cs there. map_agree (truth_at start h cs) (truth_at start' h' cs) (places cs) (λ j at.
      let both : Agree (left_of cs j ∷ right_of cs j ∷ []) =
      sides cs (agree_in trees_in_group cs groups there agree) j at in
      λ i. compared (condition_at cs j).op (both (left_of cs j) (inl refl) i)
      (both (right_of cs j) (inr (inl refl)) i)))

  -- an achievement
  pub achievement_agrees : (t : TriggerContents) → Agree (trees_in_trigger t) → (kept : TriggerKept)
      → achievement_next start t h kept ≡ achievement_next start' t h' kept
  achievement_agrees t agree kept =
      let truths = truths_agree (groups_of t) agree in
      let lefts = lefts_agree (groups_of t) agree in
      (λ i. trigger_step t (truths i) (lefts i) kept)

  -- a trigger without states
  pub test_agrees : (t : TriggerContents) → Agree (trees_in_trigger t) → (hits : List ℕ)
      → test_next start t h hits ≡ test_next start' t h' hits
  test_agrees t agree hits =
      let truths = truths_agree (groups_of t) agree in
      let lefts = lefts_agree (groups_of t) agree in
      (λ i. hits_after_truth t (truths i) (lefts i) hits)

  pub holds_agrees : (t : TriggerContents) → Agree (trees_in_trigger t) → (hits : List ℕ)
      → test_holds start t h hits ≡ test_holds start' t h' hits
  holds_agrees t agree hits =
      let truths = truths_agree (groups_of t) agree in
      let lefts = lefts_agree (groups_of t) agree in
      (λ i. truth t (truths i) (lefts i) hits)

  -- the groups and the sums of a value's parts
  grouped : (parts : List PartContents) → Agree (trees_in_value parts)
      → Agree (flat_map trees_in_group (map counted_in parts))
  grouped [] agree tree there = absurd there
  grouped (Legacy terms ∷ parts) agree tree there =
      grouped parts (λ other among. agree other (inr among)) tree there
  grouped (Grouped cs ∷ parts) agree tree there = elim
      (In_split tree (trees_in_group cs) (flat_map trees_in_group (map counted_in parts)) there) [
        | inl here ↦ agree tree (In_front tree (trees_in_group cs) (trees_in_value parts) here)
        | inr later ↦ grouped parts (agree_behind (trees_in_group cs) (trees_in_value parts) agree) tree later
      ]

  sums_agree : (parts : List PartContents) → Agree (trees_in_value parts)
      → map (sum_at start h) parts ≡ map (sum_at start' h') parts
  sums_agree [] agree = refl
  sums_agree (Legacy terms ∷ parts) agree =
      let first = agree (terms_tree terms) (inl refl) in
      let rest = sums_agree parts (λ tree there. agree tree (inr there)) in
      (λ i. first i ∷ rest i)
  sums_agree (Grouped cs ∷ parts) agree =
      let rest = sums_agree parts (agree_behind (trees_in_group cs) (trees_in_value parts) agree) in
      (λ i. 0 ∷ rest i)

  pub value_agrees : (parts : List PartContents) → Agree (trees_in_value parts) → (kept : ValueKept)
      → value_next start parts h kept ≡ value_next start' parts h' kept
  value_agrees parts agree kept =
      let truths = truths_agree (map counted_in parts) (grouped parts agree) in
      let lefts = lefts_agree (map counted_in parts) (grouped parts agree) in
      let sums = sums_agree parts agree in
      (λ i. value_step parts (truths i) (lefts i) (sums i) kept)

  -- all tests and all values of a member
  pub tests_agree : (tests : List TriggerContents) → Agree (flat_map trees_in_trigger tests)
      → (hits : List (List ℕ)) → tests_next start tests h hits ≡ tests_next start' tests h' hits
  tests_agree [] agree hits = refl
  tests_agree (t ∷ tests) agree [] = refl
  tests_agree (t ∷ tests) agree (k ∷ hits) =
      let first = test_agrees t (agree_front (trees_in_trigger t) (flat_map trees_in_trigger tests) agree) k in
      let rest = tests_agree tests (agree_behind (trees_in_trigger t) (flat_map trees_in_trigger tests) agree) hits in
      (λ i. first i ∷ rest i)

  pub tests_hold_agree : (tests : List TriggerContents) → Agree (flat_map trees_in_trigger tests)
      → (hits : List (List ℕ)) → tests_hold start tests h hits ≡ tests_hold start' tests h' hits
  tests_hold_agree [] agree hits = refl
  tests_hold_agree (t ∷ tests) agree [] = refl
  tests_hold_agree (t ∷ tests) agree (k ∷ hits) =
      let first = holds_agrees t (agree_front (trees_in_trigger t) (flat_map trees_in_trigger tests) agree) k in
      let rest = tests_hold_agree tests
      (agree_behind (trees_in_trigger t) (flat_map trees_in_trigger tests) agree) hits in
      (λ i. first i ∷ rest i)

  pub values_agree : (values : List (List PartContents)) → Agree (flat_map trees_in_value values) →
      (kept : List ValueKept) → values_next start values h kept ≡ values_next start' values h' kept
  values_agree [] agree kept = refl
  values_agree (v ∷ values) agree [] = refl
  values_agree (v ∷ values) agree (k ∷ kept) =
      let first = value_agrees v (agree_front (trees_in_value v) (flat_map trees_in_value values) agree) k in
      let rest = values_agree values (agree_behind (trees_in_value v) (flat_map trees_in_value values) agree) kept in
      (λ i. first i ∷ rest i)

  pub member_agrees : (m : MemberContents) → Agree (trees_in_member m) → (kept : MemberKept)
      → member_next start m h kept ≡ member_next start' m h' kept
  member_agrees m agree kept =
      let tests = tests_agree m.tests (agree_front (flat_map trees_in_trigger m.tests)
      (flat_map trees_in_value m.values) agree) kept.tests in
      let values = values_agree m.values (agree_behind (flat_map trees_in_trigger m.tests)
      (flat_map trees_in_value m.values) agree) kept.values in
      (λ i. record { tests = tests i; values = values i })

  -- members beside each other
  pub members_agree : (members : List MemberContents) → Agree (flat_map trees_in_member members)
      → (kept : List MemberKept) → members_next start members h kept
      ≡ members_next start' members h' kept
  members_agree [] agree kept = refl
  members_agree (m ∷ members) agree [] = refl
  members_agree (m ∷ members) agree (k ∷ kept) =
      let first = member_agrees m (agree_front (trees_in_member m) (flat_map trees_in_member members) agree) k in
      let rest = members_agree members
      (agree_behind (trees_in_member m) (flat_map trees_in_member members) agree) kept in
      (λ i. first i ∷ rest i)
