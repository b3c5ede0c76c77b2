-- Reading conditions, groups and triggers from left to right: the step between the code and docs/DEFINITIONS.md,
-- "Conditions" and "Triggers".
use Rattle.std.specs.Prelude.{ℕ, ◌&&◌, ◌||◌, not, Bool, true, false, List, [], ◌∷◌, Ok, codes}
use Rattle.ra_operand.specs.declared.op.Op.{Op}
use Rattle.ra_operand.specs.declared.op.Op.TheVariants.{Eq, Ne, Lt, Le, Gt, Ge}
use Rattle.ra_operand.specs.Grammar.{kinds}
use Rattle.ra_operand.specs.Reading.{operand_at, operand_starts}
use Rattle.ra_condition.specs.declared.condition.Condition.{Condition}
use Rattle.ra_condition.specs.declared.flag.Flag.{Flag}
use Rattle.ra_condition.specs.declared.flag.Flag.TheVariants.{Plain}
use Rattle.ra_condition.specs.declared.setting.Setting.{Setting}
use Rattle.ra_condition.specs.declared.setting.Setting.TheVariants.{InTrigger}
use Rattle.ra_condition.specs.declared.tail.Tail.{Tail}
use Rattle.ra_condition.specs.Contents.{TriggerContents}
use Rattle.ra_condition.specs.Flags.{hands_on}
use Rattle.ra_condition.specs.Grammar.{flags, operators, bare, stands_bare, trigger_of}
use Rattle.ra_text.specs.Reading.{Outcome, ◌>>=◌, one_at, optional_at, choice_at, begins, joined_at}
use Rattle.ra_text.specs.ReadingNumbers.{decimal_at}
use Rattle.ra_text.specs.Table.{lookup, bytes_for, is_in, only, only_letters}

-- "=" | "=="
unfoldable pub equal_at : List ℕ → Outcome ℕ Op
equal_at text = do
  first ← one_at (only (codes "=")) text
  second ← optional_at (only (codes "=")) tt first.1
  Ok (Eq, second.1)

-- "!="
unfoldable pub unequal_at : List ℕ → Outcome ℕ Op
unequal_at text = do
  first ← one_at (only (codes "!")) text
  second ← one_at (only (codes "=")) first.1
  Ok (Ne, second.1)

-- "<" | "<="
unfoldable pub less_at : List ℕ → Outcome ℕ Op
less_at text = do
  first ← one_at (only (codes "<")) text
  optional_at (lookup (bytes_for (codes "=") Le)) Lt first.1

-- ">" | ">="
unfoldable pub greater_at : List ℕ → Outcome ℕ Op
greater_at text = do
  first ← one_at (only (codes ">")) text
  optional_at (lookup (bytes_for (codes "=") Ge)) Gt first.1

-- a comparison that begins with "<" or ">"
unfoldable pub less_or_greater_at : List ℕ → Outcome ℕ Op
less_or_greater_at = choice_at (begins (is_in (only (codes "<")))) less_at greater_at

-- a comparison that does not begin with "="
unfoldable pub unequal_or_ordered_at : List ℕ → Outcome ℕ Op
unequal_or_ordered_at = choice_at (begins (is_in (only (codes "!")))) unequal_at less_or_greater_at

-- cmp
unfoldable pub comparison_at : List ℕ → Outcome ℕ Op
comparison_at = choice_at (begins (is_in (only (codes "=")))) equal_at unequal_or_ordered_at

-- a number between two bytes
unfoldable pub between_at : (opening closing : ℕ) → List ℕ → Outcome ℕ ℕ
between_at opening closing text = do
  o ← one_at (only (opening ∷ [])) text
  n ← decimal_at o.1
  c ← one_at (only (closing ∷ [])) n.1
  Ok (n.0, c.1)

-- "." dec "."
unfoldable pub dotted_at : List ℕ → Outcome ℕ ℕ
dotted_at = between_at 46 46

-- "(" dec ")"
unfoldable pub bracketed_at : List ℕ → Outcome ℕ ℕ
bracketed_at = between_at 40 41

-- a number in brackets, or no target
unfoldable pub bracketed_or_none_at : List ℕ → Outcome ℕ ℕ
bracketed_or_none_at = choice_at (begins (is_in (only (codes "(")))) bracketed_at (λ text. Ok (0, text))

-- [target]
unfoldable pub target_at : List ℕ → Outcome ℕ ℕ
target_at = choice_at (begins (is_in (only (codes ".")))) dotted_at bracketed_or_none_at

-- cmp operand [target]
unfoldable pub compared_at : List ℕ → Outcome ℕ Tail
compared_at text = do
  op ← comparison_at text
  right ← operand_at op.1
  n ← target_at right.1
  Ok (record { op = op.0; right = right.0; target = n.0 }, n.1)

-- cmp operand [target], of which nothing is kept
unfoldable pub ignored_at : List ℕ → Outcome ℕ Tail
ignored_at text = do
  tail ← compared_at text
  Ok (bare, tail.1)

-- arith operand [target], whose target is not kept
unfoldable pub computed_at : List ℕ → Outcome ℕ Tail
computed_at text = do
  op ← one_at (lookup operators) text
  right ← operand_at op.1
  n ← target_at right.1
  Ok (record { op = op.0; right = right.0; target = 0 }, n.1)

-- a comparison begins
abbrev pub begins_comparison : List ℕ → Bool
begins_comparison = begins (is_in (only (codes "=!<>")))

-- what is computed, or nothing
unfoldable pub computed_or_bare_at : List ℕ → Outcome ℕ Tail
computed_or_bare_at = choice_at (begins (is_in (lookup operators))) computed_at (λ text. Ok (bare, text))

-- the tail of a condition that hands a value on
unfoldable pub modified_at : List ℕ → Outcome ℕ Tail
modified_at = choice_at begins_comparison ignored_at computed_or_bare_at

-- the tail of a condition that may stand without an operator
unfoldable pub compared_or_bare_at : List ℕ → Outcome ℕ Tail
compared_or_bare_at = choice_at begins_comparison compared_at (λ text. Ok (bare, text))

-- the tail that the flag asks for
abbrev pub tail_at : (hands_on stands_bare : Bool) → List ℕ → Outcome ℕ Tail
tail_at true may = modified_at
tail_at false true = compared_or_bare_at
tail_at false false = compared_at

-- a condition after its flag
unfoldable pub unflagged_at : Setting → Flag → List ℕ → Outcome ℕ Condition
unflagged_at setting flag text = do
  left ← operand_at text
  tail ← tail_at (hands_on flag) (stands_bare setting flag) left.1
  Ok (record { flag = flag; left = left.0; op = tail.0.op; right = tail.0.right; target = tail.0.target }, tail.1)

-- a flag, a colon, and a condition
unfoldable pub flagged_at : Setting → List ℕ → Outcome ℕ Condition
flagged_at setting text = do
  flag ← one_at (lookup flags) text
  colon ← one_at (only (codes ":")) flag.1
  unflagged_at setting flag.0 colon.1

-- a flag begins: a letter of one, before a colon or where it begins no operand
abbrev pub begins_flag : List ℕ → Bool
begins_flag [] = false
begins_flag (byte ∷ rest) = is_in (lookup flags) byte
    && (begins (is_in (only (codes ":"))) rest || not (is_in (lookup kinds) byte))

-- cond, in a value vcond
unfoldable pub condition_at : Setting → List ℕ → Outcome ℕ Condition
condition_at setting = choice_at begins_flag (flagged_at setting) (unflagged_at setting Plain)

-- a condition may begin with the byte
abbrev pub begins_condition : ℕ → Bool
begins_condition byte = is_in (lookup flags) byte || is_in (only operand_starts) byte

-- cond { "_" cond }
unfoldable pub conditions_at : List ℕ → Outcome ℕ (List Condition)
conditions_at = joined_at (only (codes "_")) (condition_at InTrigger)

-- [ cond { "_" cond } ]
unfoldable pub group_at : List ℕ → Outcome ℕ (List Condition)
group_at = choice_at (begins begins_condition) conditions_at (λ text. Ok ([], text))

-- group { "S" group }
unfoldable pub groups_at : List ℕ → Outcome ℕ (List (List Condition))
groups_at = joined_at (only_letters (codes "S")) group_at

-- the groups of a trigger, the first as its core
unfoldable pub trigger_at : List ℕ → Outcome ℕ TriggerContents
trigger_at text = do
  groups ← groups_at text
  Ok (trigger_of groups.0, groups.1)
