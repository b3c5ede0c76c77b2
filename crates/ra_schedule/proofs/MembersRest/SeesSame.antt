-- Where a reader of what a test or a value needs reads the same, these see the same.
use Rattle.std.proofs.Common.{◌≡◌, inl, inr, ℕ, suc, ◌+◌, ◌<◌, ◌≤◌, Bool, true, false, Option, None, Some, List, []}
use Rattle.std.proofs.Common.{◌∷◌, length, map, take, drop, slice_index, slice_index_or, refl, sym, ◌∙◌, ap, ap₂, subst}
use Rattle.std.proofs.Common.{arith, length-append}
use Rattle.std.proofs.Math.Path.{transport}
use Rattle.std.proofs.lemmas.Bool.{cases_lt, false≢true}
use Rattle.std.proofs.lemmas.List.{get_or_append_left, get_or-append-add, get_or-map, get_or-drop, get_or-take}
use Rattle.std.proofs.lemmas.List.{get_or_past, length-map, length-take}
use Rattle.ra_operand.specs.declared.op.Op.{Op}
use Rattle.ra_operand.specs.declared.op.Op.TheVariants as ops
use Rattle.ra_operand.specs.Operators.{compared}
use Rattle.ra_condition.specs.declared.condition.Condition.{Condition}
use Rattle.ra_condition.specs.Contents.{condition_at, no_condition, PartContents, counted_in}
use Rattle.ra_indirect.specs.declared.node.Node.{Node}
use Rattle.ra_truths.specs.declared.comparison.Comparison.{Comparison}
use Rattle.ra_truths.specs.Comparisons.{holds_by}
use Rattle.ra_member.specs.declared.laid.Laid.{Laid}
use Rattle.ra_member.specs.declared.value_run.ValueRun.{ValueRun}
use Rattle.ra_member.specs.Readings.{IsValuedSum, numbers_at, ops_in, ops_of, sum_by_node, truths_by}
use Rattle.ra_member.specs.Runs.{IsLaid, IsValueRun}
use Rattle.ra_member.proofs.LaidLemmas.{all_summed, laid_fills, laid_lefts, laid_truths, read_sums_of}
use Rattle.ra_group.specs.declared.form.Form.{Form}
use Rattle.ra_group.specs.declared.form.Form.TheVariants.{InValue}
use Rattle.ra_schedule.specs.Given.{GiveTheSame, given_by, given_in, gives_left}
use Rattle.ra_schedule.specs.Inputs.{Instant, SeeSame, ValueSeesSame}
use Rattle.ra_schedule.specs.Readers.{Reads}
use Rattle.ra_schedule.specs.Signals.{AreHeard, AreSumsRead, Hears, IsGivenRead, IsSumRead, SignalsSeen, comparison_in}
use Rattle.ra_schedule.specs.Signals.{is_comparing}
use Rattle.ra_schedule.specs.Waking.{Agrees, AreValuesAt}

-- an operator that compares nothing, or has no right side, comes out one way
constant_truth : (op : Op) (x y x' y' : ℕ) → is_comparing op ≡ false → compared op x' y' ≡ compared op x y
constant_truth ops.Bare x y x' y' is = refl
constant_truth ops.Eq x y x' y' is = absurd (false≢true (sym is))
constant_truth ops.Ne x y x' y' is = absurd (false≢true (sym is))
constant_truth ops.Lt x y x' y' is = absurd (false≢true (sym is))
constant_truth ops.Le x y x' y' is = absurd (false≢true (sym is))
constant_truth ops.Gt x y x' y' is = absurd (false≢true (sym is))
constant_truth ops.Ge x y x' y' is = absurd (false≢true (sym is))
constant_truth ops.Mul x y x' y' is = refl
constant_truth ops.Div x y x' y' is = refl
constant_truth ops.And x y x' y' is = refl
constant_truth ops.Xor x y x' y' is = refl
constant_truth ops.Rem x y x' y' is = refl
constant_truth ops.Add x y x' y' is = refl
constant_truth ops.Sub x y x' y' is = refl

-- as many flags as conditions
pub length_given : (form : Form) (groups : List (List Condition)) → length (given_by form groups)
    ≡ length (ops_of groups)
length_given form [] = refl
length_given form (cs ∷ groups) =
    omega (
      arith,
      length_given form groups,
      length-append (given_in form cs) (given_by form groups),
      length-map cs (gives_left form),
      length-append (ops_in cs) (ops_of groups),
      length-map cs (λ (c : Condition). c.op),
    )

module _ (values values' : List ℕ) where
  truths_same : (row : List Op) (ls rs : List ℕ)
      → ((j : ℕ) → j < length row → compared (slice_index_or row j ops.Bare) (slice_index values'
      (slice_index ls j)) (slice_index values' (slice_index rs j)) ≡ compared (slice_index_or row j
      ops.Bare) (slice_index values (slice_index ls j)) (slice_index values (slice_index rs j)))
      → truths_by row (numbers_at values' ls) (numbers_at values' rs)
      ≡ truths_by row (numbers_at values ls) (numbers_at values rs)
  truths_same [] ls rs each = refl
  truths_same (op ∷ row) [] rs each = refl
  truths_same (op ∷ row) (l ∷ ls) [] each = refl
  truths_same (op ∷ row) (l ∷ ls) (r ∷ rs) each =
      ap₂ (λ b bs. b ∷ bs) (each 0 (omega arith))
      (truths_same row ls rs (λ j below. each (suc j) (omega (arith, below))))

  sums_same : (ns : List (Option ℕ)) → ((j : ℕ) → j < length ns
      → sum_by_node values' (slice_index_or ns j None) ≡ sum_by_node values
      (slice_index_or ns j None)) → map (sum_by_node values') ns ≡ map (sum_by_node values) ns
  sums_same [] each = refl
  sums_same (n ∷ ns) each =
      ap₂ (λ x xs. x ∷ xs) (each 0 (omega arith)) (sums_same ns (λ j below. each (suc j) (omega (arith, below))))

-- rows that agree where a flag is set give the same
module _ (form : Form) where
  here_given : (cs : List Condition) (groups : List (List Condition)) (j : ℕ)
      → gives_left form (condition_at cs j) ≡ true → j < length cs
      → slice_index_or (given_by form (cs ∷ groups)) j false ≡ true
  here_given cs groups j gives below =
      get_or_append_left (given_in form cs) (given_by form groups) false j
      (omega (arith, below, length-map cs (gives_left form)))
      ∙ get_or-map (gives_left form) cs j no_condition false below ∙ gives

  there_given : (cs : List Condition) (groups : List (List Condition)) (j : ℕ)
      → slice_index_or (given_by form (cs ∷ groups)) (length cs + j) false
      ≡ slice_index_or (given_by form groups) j false
  there_given cs groups j =
      ap (λ n. slice_index_or (given_by form (cs ∷ groups)) (n + j) false) (sym (length-map cs (gives_left form)))
      ∙ get_or-append-add (given_in form cs) (given_by form groups) j false

  give_same : (groups : List (List Condition)) (lefts others : List ℕ)
      → ((j : ℕ) → slice_index_or (given_by form groups) j false ≡ true → slice_index lefts j
      ≡ slice_index others j) → GiveTheSame form groups lefts others
  give_same [] lefts others same = tt
  give_same (cs ∷ groups) lefts others same = (
    record { at = λ j gives. in_front j gives },
    give_same groups (drop (length cs) lefts) (drop (length cs) others)
        (λ j given. get_or-drop (length cs) lefts j 0 ∙ same (length cs + j)
        (there_given cs groups j ∙ given) ∙ sym (get_or-drop (length cs) others j 0)),
  )
    where
      in_front : (j : ℕ) → gives_left form (condition_at cs j) ≡ true
          → slice_index (take (length cs) lefts) j ≡ slice_index (take (length cs) others) j
      in_front j gives = elim (cases_lt j (length cs)) [
        | inl below ↦ get_or-take (length cs) lefts j 0 below ∙ same j
            (here_given cs groups j gives below) ∙ sym (get_or-take (length cs) others j 0 below)
        | inr past ↦ get_or_past (take (length cs) lefts) j 0
            (omega (arith, past, length-take (length cs) lefts)) ∙ sym (get_or_past
            (take (length cs) others) j 0 (omega (arith, past, length-take (length cs) others)))
      ]

-- a reader of what something needs reads the same
module _ (nodes : List Node) (s : SignalsSeen) (reader : ℕ) (values values' : List ℕ)
    (now later : Instant) (many : length nodes ≡ s.nodes)
    (at : AreValuesAt nodes values now) (at' : AreValuesAt nodes values' later)
    (agree : Agrees (length nodes) s.comparisons s.readers reader values values') where
  -- a comparison that is heard comes out the same
  heard_same : (c : Comparison) → Hears s c reader → holds_by values' c ≡ holds_by values c
  heard_same c hears =
      subst (λ (c : Comparison). holds_by values' c ≡ holds_by values c) hears.is
      (agree.truths hears.number hears.within
      (subst (λ n. Reads s.readers (n + hears.number) reader) (sym many) hears.reads))

  module _ (form : Form) (groups : List (List Condition)) (laid : Laid) (is : IsLaid nodes groups laid)
      (heard : AreHeard s laid (length laid.ops) reader) (read : IsGivenRead
      (given_by form groups) laid (length laid.ops) s.readers reader) where
    abbrev left : ℕ → ℕ
    left j = slice_index laid.plan.lefts j

    same_truth : (j : ℕ) → j < length laid.ops → (b : Bool)
        → is_comparing (slice_index_or laid.ops j ops.Bare) ≡ b
        → compared (slice_index_or laid.ops j ops.Bare) (slice_index values' (left j))
        (slice_index values' (slice_index laid.plan.rights j))
        ≡ compared (slice_index_or laid.ops j ops.Bare) (slice_index values (left j))
        (slice_index values (slice_index laid.plan.rights j))
    same_truth j below true comparing = heard_same (comparison_in laid j) (heard j below comparing)
    same_truth j below false comparing = constant_truth (slice_index_or laid.ops j ops.Bare) _ _ _ _ comparing

    same_left : (j : ℕ) → slice_index_or (given_by form groups) j false ≡ true
        → slice_index (numbers_at values laid.plan.lefts) j
        ≡ slice_index (numbers_at values' laid.plan.lefts) j
    same_left j given = elim (cases_lt j (length laid.ops)) [
      | inl below ↦
          let may = laid_fills nodes groups laid is in
          let inside : j < length laid.plan.lefts = omega (arith, below, may.left_nodes) in
          let number = agree.numbers (left j) (may.lefts j inside).0 (read j below given) in
          get_or-map (slice_index values) laid.plan.lefts j 0 0 inside ∙ sym number
          ∙ sym (get_or-map (slice_index values') laid.plan.lefts j 0 0 inside)
      | inr past ↦
          let many_flags : length (given_by form groups) ≤ j =
          omega (arith, past, length_given form groups, ap length is.ops) in
          absurd (false≢true (sym (get_or_past (given_by form groups) j false many_flags) ∙ given))
    ]

    pub laid_sees : SeeSame form now later groups
    laid_sees = record {
      truths =
          sym (laid_truths nodes values' later.start later.history at' groups laid is)
          ∙ truths_same values values' laid.ops laid.plan.lefts laid.plan.rights
          (λ j below. same_truth j below
          (is_comparing (slice_index_or laid.ops j ops.Bare)) refl)
          ∙ laid_truths nodes values now.start now.history at groups laid is;
      lefts =
          transport (λ i. GiveTheSame form groups (laid_lefts nodes values now.start now.history at
          groups laid is i)
          (laid_lefts nodes values' later.start later.history at' groups laid is i))
          (give_same form groups (numbers_at values laid.plan.lefts)
          (numbers_at values' laid.plan.lefts) same_left);
    }

  -- the number of a node that may be missing is the same
  same_sum : (sum : Option ℕ) → IsValuedSum nodes sum → IsSumRead sum s.readers reader
      → sum_by_node values' sum ≡ sum_by_node values sum
  same_sum None valued read = refl
  same_sum (Some n) valued read = agree.numbers n valued.0 read

  pub value_sees : (parts : List PartContents) (run : ValueRun) → IsValueRun nodes parts run
      → AreHeard s run.laid (length run.laid.ops) reader
      → IsGivenRead (given_by InValue (map counted_in parts)) run.laid
      (length run.laid.ops) s.readers reader → AreSumsRead run.nodes.items
      (length run.nodes.items) s.readers reader → ValueSeesSame now later parts
  value_sees parts run is heard given read =
      let valued = all_summed nodes parts run.nodes.items is.nodes_too in
      record {
        conditions = laid_sees InValue (map counted_in parts) run.laid is.laid heard given;
        sums =
            sym (read_sums_of nodes values' later.start later.history at' parts run.nodes.items is.nodes_too)
            ∙ sums_same values values' run.nodes.items (λ j below. same_sum
            (slice_index_or run.nodes.items j None) (valued j below) (read j below))
            ∙ read_sums_of nodes values now.start now.history at parts run.nodes.items is.nodes_too;
      }
