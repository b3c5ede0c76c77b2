-- The grammar of conditions, groups and triggers: docs/DEFINITIONS.md, "Conditions" and "Triggers".
use Rattle.std.specs.Prelude.{ℕ, Bool, true, false, List, [], ◌∷◌, ◌++◌, codes}
use Rattle.ra_operand.specs.declared.op.Op.{Op}
use Rattle.ra_operand.specs.declared.op.Op.TheVariants.{Bare, Eq, Ne, Lt, Le, Gt, Ge, Mul, Div, And, Xor, Rem, Add, Sub}
use Rattle.ra_operand.specs.declared.operand.Operand.TheVariants.{Const}
use Rattle.ra_operand.specs.Grammar.{operand}
use Rattle.ra_condition.specs.declared.condition.Condition.{Condition}
use Rattle.ra_condition.specs.declared.flag.Flag.{Flag}
use Rattle.ra_condition.specs.declared.flag.Flag.TheVariants.{Plain, PauseIf, ResetIf, AddSource, SubSource, AddHits}
use Rattle.ra_condition.specs.declared.flag.Flag.TheVariants.{SubHits, AndNext, OrNext, Measured, MeasuredPercent}
use Rattle.ra_condition.specs.declared.flag.Flag.TheVariants.{MeasuredIf, AddAddress, TriggerIf, ResetNextIf, Remember}
use Rattle.ra_condition.specs.declared.setting.Setting.{Setting}
use Rattle.ra_condition.specs.declared.setting.Setting.TheVariants.{InTrigger, InValue}
use Rattle.ra_condition.specs.declared.tail.Tail.{Tail}
use Rattle.ra_condition.specs.Contents.{TriggerContents}
use Rattle.ra_condition.specs.Flags.{hands_on, is_measured}
use Rattle.ra_text.specs.Chain.{joined}
use Rattle.ra_text.specs.Form.{Form, Spell, One, ◌>>=◌, ◌or◌, optional}
use Rattle.ra_text.specs.Number.{decimal}
use Rattle.ra_text.specs.Table.{lookup, letters, bytes_for, only, only_letters}

-- the letters of the flags, in either case
abbrev pub flags : List (ℕ × Flag)
flags =
    letters (codes "P") PauseIf ++ letters (codes "R") ResetIf ++ letters (codes "A") AddSource
    ++ letters (codes "B") SubSource ++ letters (codes "C") AddHits ++ letters (codes "D") SubHits
    ++ letters (codes "N") AndNext ++ letters (codes "O") OrNext ++ letters (codes "M") Measured
    ++ letters (codes "G") MeasuredPercent ++ letters (codes "Q") MeasuredIf
    ++ letters (codes "I") AddAddress ++ letters (codes "T") TriggerIf
    ++ letters (codes "Z") ResetNextIf ++ letters (codes "K") Remember

-- "=" | "=="
abbrev pub equal : Form ℕ Op
equal = do
  first ← One (only (codes "="))
  second ← optional (only (codes "=")) tt
  Spell Eq

-- "!="
abbrev pub unequal : Form ℕ Op
unequal = do
  first ← One (only (codes "!"))
  second ← One (only (codes "="))
  Spell Ne

-- "<" | "<="
abbrev pub less : Form ℕ Op
less = do
  first ← One (only (codes "<"))
  optional (lookup (bytes_for (codes "=") Le)) Lt

-- ">" | ">="
abbrev pub greater : Form ℕ Op
greater = do
  first ← One (only (codes ">"))
  optional (lookup (bytes_for (codes "=") Ge)) Gt

-- cmp
abbrev pub comparison : Form ℕ Op
comparison = equal or (unequal or (less or greater))

-- arith, as a table of the operators
abbrev pub operators : List (ℕ × Op)
operators =
    bytes_for (codes "*") Mul ++ bytes_for (codes "/") Div ++ bytes_for (codes "&") And
    ++ bytes_for (codes "^") Xor ++ bytes_for (codes "%") Rem
    ++ bytes_for (codes "+") Add ++ bytes_for (codes "-") Sub

-- "." dec "."
abbrev pub dotted : Form ℕ ℕ
dotted = do
  point ← One (only (codes "."))
  n ← decimal
  closing ← One (only (codes "."))
  Spell n

-- "(" dec ")"
abbrev pub bracketed : Form ℕ ℕ
bracketed = do
  bracket ← One (only (codes "("))
  n ← decimal
  closing ← One (only (codes ")"))
  Spell n

-- [target], where none is 0
abbrev pub target : Form ℕ ℕ
target = dotted or (bracketed or Spell 0)

-- the tail of a condition without an operator
abbrev pub bare : Tail
bare = record { op = Bare; right = Const 0; target = 0 }

-- cmp operand [target]
abbrev pub compared : Form ℕ Tail
compared = do
  op ← comparison
  right ← operand
  n ← target
  Spell (record { op = op; right = right; target = n })

-- cmp operand [target], which is read and not kept
abbrev pub ignored : Form ℕ Tail
ignored = do
  tail ← compared
  Spell bare

-- arith operand [target], whose target is read and not kept
abbrev pub computed : Form ℕ Tail
computed = do
  op ← One (lookup operators)
  right ← operand
  n ← target
  Spell (record { op = op; right = right; target = 0 })

-- a Measured of a value may stand without an operator
abbrev pub stands_bare : Setting → Flag → Bool
stands_bare InTrigger flag = false
stands_bare InValue flag = is_measured flag

-- what follows the left operand: arithmetic or nothing where a value is handed on, else a comparison, or nothing where
-- that may be
abbrev pub tail_of : (hands_on stands_bare : Bool) → Form ℕ Tail
tail_of true may = ignored or (computed or Spell bare)
tail_of false true = compared or Spell bare
tail_of false false = compared

-- a condition after its flag
abbrev pub unflagged : Setting → Flag → Form ℕ Condition
unflagged setting flag = do
  left ← operand
  tail ← tail_of (hands_on flag) (stands_bare setting flag)
  Spell (record { flag = flag; left = left; op = tail.op; right = tail.right; target = tail.target })

-- flag ":" and what follows it
abbrev pub flagged : Setting → Form ℕ Condition
flagged setting = do
  flag ← One (lookup flags)
  colon ← One (only (codes ":"))
  unflagged setting flag

-- cond, in a value vcond
abbrev pub condition : Setting → Form ℕ Condition
condition setting = flagged setting or unflagged setting Plain

-- [ cond { "_" cond } ]
abbrev pub group : Form ℕ (List Condition)
group = joined (only (codes "_")) (condition InTrigger) or Spell []

-- the trigger of these groups, the first as its core
abbrev pub trigger_of : List (List Condition) → TriggerContents
trigger_of [] = record { core = []; alts = [] }
trigger_of (core ∷ alts) = record { core = core; alts = alts }

-- group { "S" group }
abbrev pub trigger : Form ℕ TriggerContents
trigger = do
  groups ← joined (only_letters (codes "S")) group
  Spell (trigger_of groups)
