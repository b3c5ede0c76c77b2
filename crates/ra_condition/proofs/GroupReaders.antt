-- The readers of groups and triggers.
use Rattle.std.proofs.Common.{◌≡◌, ℕ, Bool, true, false, ◌||◌, List, [], ◌∷◌, ◌++◌, Ok, refl, codes, cond, length, ◌≤◌}
use Rattle.ra_operand.specs.Reading.{operand_at, operand_starts, memory_at, constant_at, unsigned_at}
use Rattle.ra_operand.specs.Reading.{decimal_constant_at, cell_or_constant_at, hex_constant_at, recall_at}
use Rattle.ra_condition.specs.declared.condition.Condition.{Condition}
use Rattle.ra_condition.specs.declared.setting.Setting.TheVariants.{InTrigger}
use Rattle.ra_condition.specs.Grammar.{flags, condition, group, trigger, trigger_of}
use Rattle.ra_condition.specs.Reading.{equal_at, unequal_at, less_at, greater_at, less_or_greater_at}
use Rattle.ra_condition.specs.Reading.{unequal_or_ordered_at, comparison_at, target_at, bracketed_or_none_at}
use Rattle.ra_condition.specs.Reading.{compared_at, compared_or_bare_at, modified_at, ignored_at, unflagged_at}
use Rattle.ra_condition.specs.Reading.{flagged_at, condition_at, begins_condition, conditions_at, group_at, groups_at}
use Rattle.ra_condition.specs.Reading.{trigger_at}
use Rattle.ra_condition.proofs.TailReaders.{condition_rest}
use Rattle.ra_condition.proofs.ConditionReaders.{flag_keys, condition_keys, reader-condition, begins-condition}
use Rattle.ra_condition.proofs.ConditionReaders.{reads-condition}
use Rattle.ra_text.specs.Chain.{Chain, joined}
use Rattle.ra_text.specs.Form.{Form, Spell, Then, Viable}
use Rattle.ra_text.specs.Reading.{rest_of, Reads}
use Rattle.ra_text.specs.ReadingNumbers.{saturated_at, numeral_at, signed_at}
use Rattle.ra_text.specs.Table.{lookup, is_in, only, only_letters, marks, letter_marks}
use Rattle.ra_text.proofs.Begins.{Begins, Firsts, begins-then, firsts-or, firsts-begins, firsts-spell}
use Rattle.ra_text.proofs.Chains.{reader-joined}
use Rattle.ra_text.proofs.Either.{reader-map, reader-or_else}
use Rattle.ra_text.proofs.Readers.{Reader, reader-spell, reads-of}
use Rattle.ra_text.proofs.Steps.{reads-shorter}
use Rattle.ra_text.proofs.Tables.{In, has, listed_in, in_within, in_apart, is_in-in, opens-whole, passes}

-- ---- conditions with `_` between them

abbrev pub conditions : Form ℕ (List Condition)
conditions = joined (only (codes "_")) (condition InTrigger)

-- what goes on with a group: also a first condition, where it is empty
abbrev pub group_rest : List ℕ
group_rest = condition_rest ++ (codes "_" ++ condition_keys)

reader-conditions : Reader conditions conditions_at (In group_rest)
unfolding conditions_at
reader-conditions = reader-joined (only (codes "_")) (condition InTrigger) (condition_at InTrigger)
    (In group_rest) (In condition_rest) (reader-condition InTrigger)
    (λ c h on. in_apart (codes "_") condition_rest refl c (listed_in (marks (codes "_")) c h) on)
    (in_within condition_rest group_rest refl)
    (λ c h. in_within (codes "_") group_rest refl c (listed_in (marks (codes "_")) c h))

begins-conditions : Begins conditions (In condition_keys)
begins-conditions = begins-then (condition InTrigger) (λ first. Then (Chain {S = Unit {0}}
    (λ s. only (codes "_")) (λ s tag. condition InTrigger) (λ s v. s) (λ s. true) tt) (λ others.
    Spell (first ∷ others))) (In condition_keys) (begins-condition InTrigger)

-- how each first byte goes on to a whole condition
completion : ℕ → List ℕ
completion c = cond (has flag_keys c) (codes ":0=0")
    (cond (has (codes "{") c) (codes "recall}=0") (cond (has (codes "~") c) (codes "0x0=0")
    (cond (has (codes "0123456789") c) (codes "=0") (codes "0=0"))))

opens-conditions : (c : ℕ) → In condition_keys c → Viable conditions (c ∷ [])
unfolding completion conditions_at condition_at flagged_at unflagged_at modified_at
    compared_or_bare_at ignored_at compared_at comparison_at equal_at unequal_or_ordered_at
    unequal_at less_or_greater_at less_at greater_at operand_at recall_at cell_or_constant_at
    memory_at constant_at unsigned_at decimal_constant_at hex_constant_at signed_at saturated_at
    numeral_at target_at bracketed_or_none_at
opens-conditions = opens-whole conditions conditions_at (reads-of conditions conditions_at
    (In group_rest) reader-conditions) condition_keys completion refl

-- ---- the test of the code, and the first bytes of conditions

begins-in : (c : ℕ) → begins_condition c ≡ true → In condition_keys c
begins-in c is = cases (is_in (lookup flags) c) refl (is_in (only operand_starts) c) refl is where
  cases : (flag : Bool) → is_in (lookup flags) c ≡ flag → (starts : Bool)
      → is_in (only operand_starts) c ≡ starts → (flag || starts) ≡ true → In condition_keys c
  cases true a starts b is = in_within flag_keys condition_keys refl c (is_in-in flags c a)
  cases false a true b is = in_within operand_starts condition_keys refl c (is_in-in (marks operand_starts) c b)
  cases false a false b is = absurd (cc is)

begins-not_in : (c : ℕ) → begins_condition c ≡ false → In condition_keys c → ⊥
begins-not_in c is here = let yes_it_is : begins_condition c ≡ true =
    passes begins_condition condition_keys refl c here in cc (is, yes_it_is)

-- ---- groups

pub reader-group : Reader group group_at (In group_rest)
unfolding group_at
reader-group = reader-or_else conditions (Spell []) conditions_at
    (λ text. Ok ([], text)) begins_condition (In condition_keys) (In group_rest) reader-conditions
    (reader-spell [] (In group_rest)) begins-conditions
    (λ c is. opens-conditions c (begins-in c is)) (λ c is. in_within condition_keys group_rest refl
    c (begins-in c is)) (λ c s v is h. absurd (cc h.empty)) begins-not_in

-- ---- triggers

abbrev pub trigger_rest : List ℕ
trigger_rest = group_rest ++ codes "Ss"

abbrev pub groups : Form ℕ (List (List Condition))
groups = joined (only_letters (codes "S")) group

reader-groups : Reader groups groups_at (In trigger_rest)
unfolding groups_at
reader-groups = reader-joined (only_letters (codes "S")) group group_at (In trigger_rest) (In group_rest) reader-group
    (λ c h on. in_apart (codes "Ss") group_rest refl c (listed_in (letter_marks (codes "S")) c h) on)
    (in_within group_rest trigger_rest refl)
    (λ c h. in_within (codes "Ss") trigger_rest refl c (listed_in (letter_marks (codes "S")) c h))

pub reader-trigger : Reader trigger trigger_at (In trigger_rest)
unfolding trigger_at
reader-trigger = reader-map groups groups_at (In trigger_rest) trigger_of reader-groups

pub reads-trigger : (text : List ℕ) → Reads trigger text (trigger_at text)
reads-trigger = reads-of trigger trigger_at (In trigger_rest) reader-trigger

pub reads-group : (text : List ℕ) → Reads group text (group_at text)
reads-group = reads-of group group_at (In group_rest) reader-group

-- a condition, and a group, leave no more than the text
pub condition-shorter : (text : List ℕ) → length (rest_of (condition_at InTrigger text)) ≤ length text
condition-shorter text = reads-shorter (reads-condition InTrigger text)

pub group-shorter : (text : List ℕ) → length (rest_of (group_at text)) ≤ length text
group-shorter text = reads-shorter (reads-group text)
