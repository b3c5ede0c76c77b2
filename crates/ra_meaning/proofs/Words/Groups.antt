-- Hits and measured numbers that groups, triggers and values give are of 32 bits.
use Rattle.std.proofs.Common.{ℕ, ◌+◌, min, ◌==◌, ◌&&◌, ◌||◌, not, Bool, true, false, if◌then◌else◌, Option, None, Some}
use Rattle.std.proofs.Common.{unwrap_or, List, [], ◌∷◌, length, map, take, drop, replicate, slice_index, slice_index_or}
use Rattle.std.proofs.Common.{nat_lt, ℤ, pos, negsuc, ◌+ℤ◌, arith, lit<}
use Rattle.std.specs.List.{AllByRecursion, flat_map, list_any}
use Rattle.ra_condition.specs.declared.condition.Condition.{Condition}
use Rattle.ra_condition.specs.Contents.{condition_at, TriggerContents, groups_of, PartContents, Legacy, Grouped}
use Rattle.ra_condition.specs.Contents.{counted_in}
use Rattle.ra_condition.specs.Flags.{hands_on, is_pause, is_measured, is_measured_if}
use Rattle.ra_condition.specs.Chains.{places, in_pause_chain}
use Rattle.ra_group.specs.declared.form.Form.{Form}
use Rattle.ra_group.specs.declared.form.Form.TheVariants.{InTrigger, InValue}
use Rattle.ra_group.specs.Equations.{Frame, frame_of, met, reset_by, hits_after, add_by, clamped, prev_of, settled_at}
use Rattle.ra_group.specs.Outcome.{some_valid, all_valid, from_total, number_of, larger, offer, greatest, option_if}
use Rattle.ra_group.specs.Outcome.{outcome_of, next_hit, next_hits}
use Rattle.ra_trigger.specs.States.{is_triggered, is_cleared}
use Rattle.ra_trigger.specs.Steps.{frames_along, greatest_of, together, TriggerKept, kept_after, step as trigger_step}
use Rattle.ra_trigger.specs.Steps.{hits_after_truth}
use Rattle.ra_value.specs.Steps.{ValueKept, PartStep, part_step, part_steps, number_after, step as value_step}
use Rattle.ra_meaning.proofs.Each.{each_take, each_drop, each_replicate, each_at, each_map, each_map_of, each_flat_map}
use Rattle.ra_meaning.proofs.Words.Trees.{IsWord, if_word}

-- numbers of 32 bits
abbrev pub AreAllWords : List ℕ → Type 0
AreAllWords numbers = AllByRecursion IsWord numbers

-- a number that may be missing
abbrev pub HasNumber : Option ℕ → Type 0
HasNumber None = Unit {0}
HasNumber (Some n) = IsWord n

-- hits and left values of a frame are of 32 bits
pub record AreFrameWords (f : Frame) : Type 0 where
  pub hits : AreAllWords f.hits
  pub lefts : AreAllWords f.lefts

index_word : (numbers : List ℕ) → AreAllWords numbers → (k : ℕ) → IsWord (slice_index numbers k)
index_word numbers words k = each_at IsWord numbers k 0 (lit< tt) words

hits_after_word : (reset m : Bool) (target h : ℕ) → IsWord h → IsWord (hits_after reset m target h)
hits_after_word reset m target h word =
    let counted = m && (target == 0 || nat_lt h target) in
    let next = min (h + 1) 4294967295 in
    if_word reset 0 (if counted then next else h) (lit< tt) (if_word counted next h (omega arith) word)

clamped_word : (z : ℤ) → IsWord (clamped z)
clamped_word (pos n) = omega arith
clamped_word (negsuc n) = lit< tt

module _ (f : Frame) (words : AreFrameWords f) where
  hit_word : (j : ℕ) → IsWord (settled_at f j).hit
  hit_word j =
      let c = condition_at f.conditions j in
      let prev = prev_of f j in
      hits_after_word (reset_by prev) (met prev (slice_index_or f.truths j false)) c.target
      (slice_index f.hits j) (index_word f.hits words.hits j)

  next_word : (j : ℕ) → IsWord (next_hit f j)
  next_word j =
      let counts = not (hands_on (condition_at f.conditions j).flag)
      && (not (some_valid is_pause f (places f.conditions)) || in_pause_chain f.conditions j) in
      if_word counts (settled_at f j).hit (slice_index f.hits j) (hit_word j) (index_word f.hits words.hits j)

  pub next_words : AreAllWords (next_hits f)
  next_words = each_map IsWord (next_hit f) next_word (places f.conditions)

  total_word : (j : ℕ) → IsWord (settled_at f j).total
  total_word j = clamped_word (pos (settled_at f j).hit +ℤ add_by (prev_of f j))

  number_word : (form : Form) (c : Condition) (total left : ℕ) → IsWord total → IsWord left
      → IsWord (number_of form c total left)
  number_word form c total left first second =
      let own = if c.target == 0 then total else min total c.target in
      if_word (from_total form c) own left
      (if_word (c.target == 0) total (min total c.target) first (omega arith)) second

  offer_word : (form : Form) (j : ℕ) → HasNumber (offer form f j)
  offer_word form j =
      let c = condition_at f.conditions j in
      let n = number_of form c (settled_at f j).total (slice_index f.lefts j) in
      elim (is_measured c.flag) as (λ b. HasNumber (if b then Some n else None)) [
        | true ↦ number_word form c (settled_at f j).total (slice_index f.lefts j) (total_word j)
            (index_word f.lefts words.lefts j)
        | false ↦ tt
      ]

larger_word : (a b : Option ℕ) → HasNumber a → HasNumber b → HasNumber (larger a b)
larger_word None b first second = second
larger_word (Some m) None first second = first
larger_word (Some m) (Some n) first second = omega arith

option_word : (holds : Bool) (o : Option ℕ) → HasNumber o → HasNumber (option_if holds o)
option_word true o word = word
option_word false None word = tt
option_word false (Some n) word = lit< tt

unwrapped_word : (o : Option ℕ) (n : ℕ) → HasNumber o → IsWord n → IsWord (unwrap_or o n)
unwrapped_word None n has word = word
unwrapped_word (Some m) n has word = has

greatest_word : (f : Frame) → AreFrameWords f → (form : Form) (js : List ℕ) → HasNumber (greatest form f js)
greatest_word f words form [] = tt
greatest_word f words form (j ∷ js) =
    larger_word (offer form f j) (greatest form f js) (offer_word f words form j) (greatest_word f words form js)

measured_word : (form : Form) (f : Frame) → AreFrameWords f → HasNumber (outcome_of form f).measured
measured_word form f words =
    let js = places f.conditions in
    let number = option_if (all_valid is_measured_if f js) (greatest form f js) in
    elim (some_valid is_pause f js) as (λ b. HasNumber (if b then None else number)) [
      | true ↦ tt
      | false ↦ option_word (all_valid is_measured_if f js) (greatest form f js) (greatest_word f words form js)
    ]

frames_words : (groups : List (List Condition)) (truths : List Bool) (lefts hits : List ℕ)
    → AreAllWords lefts → AreAllWords hits
    → AllByRecursion AreFrameWords (frames_along groups truths lefts hits)
frames_words [] truths lefts hits left_words words = tt
frames_words (cs ∷ groups) truths lefts hits left_words words =
    let n = length cs in (
      record { hits = each_take IsWord n hits words; lefts = each_take IsWord n lefts left_words },
      frames_words groups (drop n truths) (drop n lefts) (drop n hits)
          (each_drop IsWord n lefts left_words) (each_drop IsWord n hits words),
    )

greatest_of_word : (frames : List Frame) → AllByRecursion AreFrameWords frames
    → HasNumber (greatest_of (map (outcome_of InTrigger) frames))
greatest_of_word [] words = tt
greatest_of_word (f ∷ frames) words =
    larger_word (outcome_of InTrigger f).measured (greatest_of (map (outcome_of InTrigger) frames))
    (measured_word InTrigger f words.0) (greatest_of_word frames words.1)

cleared_words : (b : Bool) (hits : List ℕ) → AreAllWords hits
    → AreAllWords (if b then replicate (length hits) 0 else hits)
cleared_words true hits words = each_replicate IsWord (length hits) 0 (lit< tt)
cleared_words false hits words = words

-- what is kept of a trigger is of 32 bits
pub record AreTriggerWords (kept : TriggerKept) : Type 0 where
  pub measured : IsWord kept.measured
  pub hits : AreAllWords kept.hits

module _ (t : TriggerContents) (truths : List Bool) (lefts : List ℕ) (left_words : AreAllWords lefts) where
  together_words : (hits : List ℕ) → AreAllWords hits → AreAllWords (together t truths lefts hits).hits
  together_words hits words =
      each_flat_map IsWord AreFrameWords next_hits next_words (frames_along (groups_of t) truths
      lefts hits) (frames_words (groups_of t) truths lefts hits left_words words)

  pub truth_words : (hits : List ℕ) → AreAllWords hits → AreAllWords (hits_after_truth t truths lefts hits)
  truth_words hits words =
      cleared_words (together t truths lefts hits).reset (together t truths lefts hits).hits (together_words hits words)

  kept_words : (old : TriggerKept) → AreTriggerWords old
      → AreTriggerWords (kept_after old (together t truths lefts old.hits))
  kept_words old words =
      let now = together t truths lefts old.hits in
      let clear = is_cleared old.state now.reset now.valid in
      let frames = frames_along (groups_of t) truths lefts old.hits in
      let measured : HasNumber now.measured = greatest_of_word frames
      (frames_words (groups_of t) truths lefts old.hits left_words words.hits) in
      record {
        measured = if_word (clear && now.from_hits) 0 (unwrap_or now.measured old.measured)
            (lit< tt) (unwrapped_word now.measured old.measured measured words.measured);
        hits = cleared_words clear now.hits (together_words old.hits words.hits);
      }

  pub step_words : (old : TriggerKept) → AreTriggerWords old → AreTriggerWords (trigger_step t truths lefts old)
  step_words old words =
      elim (is_triggered old.state) as (λ b. AreTriggerWords
      (if b then old else kept_after old (together t truths lefts old.hits))) [
        | true ↦ words
        | false ↦ kept_words old words
      ]

-- what a part gives is of 32 bits
record ArePartWords (part : PartStep) : Type 0 where
  number : IsWord part.number
  hits : AreAllWords part.hits

-- what is kept of a value is of 32 bits
pub record AreValueWords (kept : ValueKept) : Type 0 where
  pub hits : AreAllWords kept.hits
  pub numbers : AreAllWords kept.numbers

part_words : (part : PartContents) (f : Frame) (sum old : ℕ) → AreFrameWords f → IsWord sum
    → IsWord old → ArePartWords (part_step part f sum old)
part_words (Legacy terms) f sum old words sum_word word = record { number = sum_word; hits = tt }
part_words (Grouped cs) f sum old words sum_word word = record {
  number = unwrapped_word (outcome_of InValue f).measured old (measured_word InValue f words) word;
  hits = next_words f words;
}

parts_words : (parts : List PartContents) (truths : List Bool) (lefts hits sums numbers : List ℕ)
    → AreAllWords lefts → AreAllWords hits → AreAllWords sums → AreAllWords numbers
    → AllByRecursion ArePartWords (part_steps parts truths lefts hits sums numbers)
parts_words [] truths lefts hits sums numbers left_words hit_words sum_words words = tt
parts_words (part ∷ parts) truths lefts hits sums numbers left_words hit_words sum_words words =
    let n = length (counted_in part) in
    let f = frame_of (counted_in part) (take n truths) (take n lefts) (take n hits) in (
      part_words part f (slice_index sums 0) (slice_index numbers 0)
          (record {
            hits = each_take IsWord n hits hit_words;
            lefts = each_take IsWord n lefts left_words;
          }) (index_word sums sum_words 0) (index_word numbers words 0),
      parts_words parts (drop n truths) (drop n lefts) (drop n hits) (drop 1 sums) (drop 1 numbers)
          (each_drop IsWord n lefts left_words) (each_drop IsWord n hits hit_words)
          (each_drop IsWord 1 sums sum_words) (each_drop IsWord 1 numbers words),
    )

pub value_words : (parts : List PartContents) (truths : List Bool) (lefts sums : List ℕ)
    (old : ValueKept) → AreAllWords lefts → AreAllWords sums → AreValueWords old
    → AreValueWords (value_step parts truths lefts sums old)
value_words parts truths lefts sums old left_words sum_words words =
    let steps = part_steps parts truths lefts old.hits sums old.numbers in
    let are = parts_words parts truths lefts old.hits sums old.numbers left_words words.hits sum_words words.numbers in
    let reset = list_any (λ (part : PartStep). part.reset) steps in
    let hits = flat_map (λ (part : PartStep). part.hits) steps in
    record {
      hits = cleared_words reset hits (each_flat_map IsWord ArePartWords (λ part. part.hits)
          (λ part each. each.hits) steps are);
      numbers = each_map_of IsWord ArePartWords (number_after reset) (λ part each. if_word
          (reset && part.from_hits) 0 part.number (lit< tt) each.number) steps are;
    }
