-- A text spells no more conditions than it has bytes.
use Rattle.std.proofs.Common.{◌≡◌, ◌∙◌, ℕ, ◌+◌, ◌≤◌, Bool, true, List, [], ◌∷◌, ◌++◌, length, add-zero, Option, Some}
use Rattle.std.proofs.Common.{None, option_to_list, refl, ap, arith, codes, length-append, inl, inr}
use Rattle.std.specs.List.{sum_by, filter_map}
use Rattle.std.proofs.lemmas.List.Sums.{sum_by-cons, sum_by-append}
use Rattle.ra_operand.specs.Grammar.{operand}
use Rattle.ra_operand.proofs.Operands.{begins-operand}
use Rattle.ra_condition.specs.declared.condition.Condition.{Condition}
use Rattle.ra_condition.specs.declared.setting.Setting.TheVariants.{InTrigger, InValue}
use Rattle.ra_condition.specs.Contents.{TriggerContents, PartContents, trigger_hits}
use Rattle.ra_condition.specs.Flags.{is_measured}
use Rattle.ra_condition.specs.Grammar.{condition, flagged, group, trigger, trigger_of}
use Rattle.ra_condition.specs.Values.{measured_by, measured_conditions, term, part, value}
use Rattle.ra_condition.proofs.ConditionReaders.{begins-condition, begins-flagged}
use Rattle.ra_leaderboard.specs.declared.tag.Tag.{Tag}
use Rattle.ra_leaderboard.specs.declared.tag.Tag.TheVariants.{Start, Cancel, Submit, Value, Progress}
use Rattle.ra_leaderboard.specs.Contents.{BoardContents}
use Rattle.ra_leaderboard.specs.Fields.{FieldContents, OfStart, OfCancel, OfSubmit, OfValue, OfProgress, start_in}
use Rattle.ra_leaderboard.specs.Fields.{cancel_in, submit_in, value_in, progress_in}
use Rattle.ra_leaderboard.specs.Grammar.{held, field, next_field, at_most_one, board}
use Rattle.ra_set.specs.Contents.{Unlocks, Ranks}
use Rattle.ra_set.specs.Counting.{board_conditions}
use Rattle.ra_set.specs.Grammar.{Line, line, ended_line, items_of}
use Rattle.ra_set.specs.Limits.{part_conditions, value_conditions, optional_value, item_conditions}
use Rattle.ra_set.specs.Runs.{many}
use Rattle.ra_text.specs.Chain.{Chain, joined}
use Rattle.ra_text.specs.Form.{Form}
use Rattle.ra_text.specs.Table.{only, only_letters}
use Rattle.ra_text.proofs.Begins.{Begins, begins-then}

-- ---- lists of items with separators

-- a text that is not empty has a byte
some-byte : {V : Type 0} (form : Form ℕ V) (u : ℕ → Type 0) → Begins form u → (t : List ℕ) (v : V)
    → form t v → 1 ≤ length t
some-byte form u begins [] v h = absurd (begins.not_empty v h)
some-byte form u begins (c ∷ t) v h = omega arith

module _ {T S V : Type 0} (separator : S → ℕ → Option T) (item : S → T → Form ℕ V) (step : S → V
    → S) (done : S → Bool) where
  chain-length : (s : S) (t : List ℕ) (vs : List V) → Chain separator item step done s t vs → length vs ≤ length t
  chain-length s t [] h = omega arith
  chain-length s t (v ∷ vs) h = let more = chain-length (step s v) h.behind vs h.of_others in
      omega (arith, ap length h.parts, length-append h.front h.behind)

  chain-sum : (size : V → ℕ) → ((s : S) (tag : T) (t : List ℕ) (v : V) → item s tag t v
      → size v ≤ length t) → (s : S) (t : List ℕ) (vs : List V)
      → Chain separator item step done s t vs → sum_by size vs ≤ length t
  chain-sum size small s t [] h = omega arith
  chain-sum size small s t (v ∷ vs) h =
      let first = small s h.tag h.front v h.of_item in
      let more = chain-sum size small (step s v) h.behind vs h.of_others in
      omega (arith, ap length h.parts, length-append h.front h.behind, sum_by-cons size v vs)

module _ {T V : Type 0} (separator : ℕ → Option T) (item : Form ℕ V) where
  joined-length : (u : ℕ → Type 0) → Begins item u → (t : List ℕ) (vs : List V)
      → joined separator item t vs → length vs ≤ length t
  joined-length u begins t vs h =
      let first = some-byte item u begins h.front h.v h.of_first in
      let others = chain-length {S = Unit {0}} (λ s. separator) (λ s tag. item) (λ s v. s)
      (λ s. true) tt h.of_next.front h.of_next.v h.of_next.of_first in
      omega (
        arith,
        ap length h.parts,
        length-append h.front h.behind,
        ap length h.of_next.parts,
        length-append h.of_next.front h.of_next.behind,
        ap length h.of_next.of_next.is,
      )

  joined-sum : (size : V → ℕ) → ((t : List ℕ) (v : V) → item t v → size v ≤ length t)
      → (t : List ℕ) (vs : List V) → joined separator item t vs → sum_by size vs ≤ length t
  joined-sum size small t vs h =
      let first = small h.front h.v h.of_first in
      let others = chain-sum {S = Unit {0}} (λ s. separator) (λ s tag. item) (λ s v. s)
      (λ s. true) size (λ s tag. small) tt h.of_next.front h.of_next.v h.of_next.of_first in
      omega (
        arith,
        ap length h.parts,
        length-append h.front h.behind,
        ap length h.of_next.parts,
        length-append h.of_next.front h.of_next.behind,
        ap (sum_by size) h.of_next.of_next.is,
        sum_by-cons size h.v h.of_next.v,
      )

-- ---- triggers and values

group-count : (t : List ℕ) (cs : List Condition) → group t cs → length cs ≤ length t
group-count t cs (inl h) = joined-length (only (codes "_")) (condition InTrigger) _ (begins-condition InTrigger) t cs h
group-count t cs (inr h) = omega (arith, ap length h.is)

hits-of : (gs : List (List Condition)) → trigger_hits (trigger_of gs) ≡ sum_by length gs
hits-of [] = refl
hits-of (core ∷ alts) = refl

pub trigger-count : (t : List ℕ) (v : TriggerContents) → trigger t v → trigger_hits v ≤ length t
trigger-count t v h =
    let all = joined-sum (only_letters (codes "S")) group length group-count h.front h.v h.of_first in
    omega (arith, ap trigger_hits h.of_next.is, hits-of h.v, ap length h.parts, length-append h.front h.behind)

conditions-count : (t : List ℕ) (cs : List Condition) → measured_conditions t cs → length cs ≤ length t
conditions-count t cs h =
    let first = some-byte (flagged InValue) _ (begins-flagged InValue) h.front h.v h.of_first in
    let others = chain-length (λ so_far. only (codes "_")) (λ so_far tag. condition InValue)
    measured_by (λ so_far. so_far)
    (is_measured h.v.flag) h.of_next.front h.of_next.v h.of_next.of_first in
    omega (
      arith,
      ap length h.parts,
      length-append h.front h.behind,
      ap length h.of_next.parts,
      length-append h.of_next.front h.of_next.behind,
      ap length h.of_next.of_next.is,
    )

part-count : (t : List ℕ) (p : PartContents) → part t p → part_conditions p ≤ length t
part-count t p (inl h) = let all = conditions-count h.front h.v h.of_first in omega
    (arith, ap part_conditions h.of_next.is, ap length h.parts, length-append h.front h.behind)
part-count t p (inr h) =
    let all = joined-length (only (codes "_")) term _ (begins-then operand _ _ begins-operand) h.front h.v h.of_first in
    omega (arith, ap part_conditions h.of_next.is, ap length h.parts, length-append h.front h.behind)

pub value-count : (t : List ℕ) (v : List PartContents) → value t v → value_conditions v ≤ length t
value-count t v h = joined-sum (only (codes "$")) part part_conditions part-count t v h

-- ---- boards

-- the conditions of a field
abbrev field_conditions : FieldContents → ℕ
field_conditions (OfStart t) = trigger_hits t
field_conditions (OfCancel t) = trigger_hits t
field_conditions (OfSubmit t) = trigger_hits t
field_conditions (OfValue v) = value_conditions v
field_conditions (OfProgress v) = value_conditions v

held-count : (tag : Tag) (t : List ℕ) (f : FieldContents) → held tag t f → field_conditions f ≤ length t
held-count Start t f h = let c = trigger-count h.front h.v h.of_first in omega
    (arith, ap field_conditions h.of_next.is, ap length h.parts, length-append h.front h.behind)
held-count Cancel t f h = let c = trigger-count h.front h.v h.of_first in omega
    (arith, ap field_conditions h.of_next.is, ap length h.parts, length-append h.front h.behind)
held-count Submit t f h = let c = trigger-count h.front h.v h.of_first in omega
    (arith, ap field_conditions h.of_next.is, ap length h.parts, length-append h.front h.behind)
held-count Value t f h = let c = value-count h.front h.v h.of_first in omega
    (arith, ap field_conditions h.of_next.is, ap length h.parts, length-append h.front h.behind)
held-count Progress t f h = let c = value-count h.front h.v h.of_first in omega
    (arith, ap field_conditions h.of_next.is, ap length h.parts, length-append h.front h.behind)

field-count : (t : List ℕ) (f : FieldContents) → field t f → field_conditions f ≤ length t
field-count t f h =
    let c = held-count h.v h.of_next.behind f h.of_next.of_next in
    omega (
      arith,
      ap length h.parts,
      length-append h.front h.behind,
      ap length h.of_next.parts,
      length-append h.of_next.front h.of_next.behind,
    )

next-count : (t : List ℕ) (f : FieldContents) → next_field t f → field_conditions f ≤ length t
next-count t f h = let c = field-count h.behind f h.of_next in
    omega (arith, ap length h.parts, length-append h.front h.behind)

-- the conditions of fields, by their tags
by-tags : (fs : List FieldContents) → sum_by field_conditions fs
    ≡ sum_by trigger_hits (filter_map start_in fs) + sum_by trigger_hits (filter_map cancel_in fs)
    + sum_by trigger_hits (filter_map submit_in fs)
    + sum_by value_conditions (filter_map value_in fs) + sum_by value_conditions (filter_map progress_in fs)
by-tags [] = refl
by-tags (OfStart t ∷ fs) =
    omega (
      arith,
      sum_by-cons field_conditions (OfStart t) fs,
      sum_by-cons trigger_hits t (filter_map start_in fs),
      by-tags fs,
    )
by-tags (OfCancel t ∷ fs) =
    omega (
      arith,
      sum_by-cons field_conditions (OfCancel t) fs,
      sum_by-cons trigger_hits t (filter_map cancel_in fs),
      by-tags fs,
    )
by-tags (OfSubmit t ∷ fs) =
    omega (
      arith,
      sum_by-cons field_conditions (OfSubmit t) fs,
      sum_by-cons trigger_hits t (filter_map submit_in fs),
      by-tags fs,
    )
by-tags (OfValue v ∷ fs) =
    omega (
      arith,
      sum_by-cons field_conditions (OfValue v) fs,
      sum_by-cons value_conditions v (filter_map value_in fs),
      by-tags fs,
    )
by-tags (OfProgress v ∷ fs) =
    omega (
      arith,
      sum_by-cons field_conditions (OfProgress v) fs,
      sum_by-cons value_conditions v (filter_map progress_in fs),
      by-tags fs,
    )

optional-sum : (o : Option (List PartContents)) → sum_by value_conditions (at_most_one o) ≡ optional_value o
optional-sum None = refl
optional-sum (Some v) = sum_by-cons value_conditions v [] ∙ add-zero (value_conditions v)

pub board-count : (t : List ℕ) (b : BoardContents) → board t b → board_conditions b ≤ length t
board-count t b h =
    let fields = h.of_first in
    let first = field-count fields.front fields.v fields.of_first in
    let others = chain-sum {S = Unit {0}} (λ s. only (codes ":")) (λ s colon. next_field) (λ s f. s)
    (λ s. true) field_conditions
    (λ s tag. next-count) tt fields.of_next.front fields.of_next.v fields.of_next.of_first in
    let all : sum_by field_conditions h.v ≤ length t = omega (
      arith,
      ap length h.parts,
      length-append h.front h.behind,
      ap length fields.parts,
      length-append fields.front fields.behind,
      ap length fields.of_next.parts,
      length-append fields.of_next.front fields.of_next.behind,
      ap (sum_by field_conditions) fields.of_next.of_next.is,
      sum_by-cons field_conditions fields.v fields.of_next.v,
    ) in
    let a = h.of_next in
    omega (
      arith,
      all,
      by-tags h.v,
      ap (sum_by trigger_hits) a.start,
      ap (sum_by trigger_hits) a.cancel,
      ap (sum_by trigger_hits) a.submit,
      ap (sum_by value_conditions) a.value,
      ap (sum_by value_conditions) a.progress,
      optional-sum b.progress,
      sum_by-cons trigger_hits b.start [],
      sum_by-cons trigger_hits b.cancel [],
      sum_by-cons trigger_hits b.submit [],
      sum_by-cons value_conditions b.value [],
    )

-- ---- lines

-- the conditions of what a line has
abbrev line_count : Line → ℕ
line_count l = sum_by item_conditions (option_to_list l)

line-count : (t : List ℕ) (l : Line) → line t l → line_count l ≤ length t
line-count t l (inl h) = omega (arith, ap line_count h.of_next.of_next.is)
line-count t l (inr (inl h)) =
    let c = trigger-count h.of_next.front h.of_next.v h.of_next.of_first in
    omega (
      arith,
      ap line_count h.of_next.of_next.is,
      sum_by-cons item_conditions (Unlocks h.v h.of_next.v) [],
      ap length h.parts,
      length-append h.front h.behind,
      ap length h.of_next.parts,
      length-append h.of_next.front h.of_next.behind,
    )
line-count t l (inr (inr (inl h))) =
    let b = h.of_next.of_next.of_next in
    let c = board-count b.front b.v b.of_first in
    omega (
      arith,
      ap line_count b.of_next.is,
      sum_by-cons item_conditions (Ranks h.v h.of_next.v b.v) [],
      ap length h.parts,
      length-append h.front h.behind,
      ap length h.of_next.parts,
      length-append h.of_next.front h.of_next.behind,
      ap length h.of_next.of_next.parts,
      length-append h.of_next.of_next.front h.of_next.of_next.behind,
      ap length b.parts,
      length-append b.front b.behind,
    )
line-count t l (inr (inr (inr h))) = omega (arith, ap line_count h.is)

lines-sum : (l : Line) (lines : List Line) → sum_by item_conditions (items_of (l ∷ lines))
    ≡ line_count l + sum_by item_conditions (items_of lines)
lines-sum l lines = sum_by-append item_conditions (option_to_list l) (items_of lines)

-- lines with their ends and a last line have no more conditions than their text has bytes
pub ended-count : (ended : List Line) (t : List ℕ) → many ended_line t ended
    → (u : List ℕ) (last : Line) → line u last
    → sum_by item_conditions (items_of (ended ++ last ∷ [])) ≤ length t + length u
ended-count [] t none u last h = let c = line-count u last h in omega (arith, lines-sum last [])
ended-count (l ∷ ended) t h u last hl =
    let c = line-count h.of_first.front h.of_first.v h.of_first.of_first in
    let more = ended-count ended h.behind h.of_next u last hl in
    omega (
      arith,
      lines-sum l (ended ++ last ∷ []),
      ap line_count h.of_first.of_next.of_next.is,
      ap length h.parts,
      length-append h.front h.behind,
      ap length h.of_first.parts,
      length-append h.of_first.front h.of_first.behind,
    )
