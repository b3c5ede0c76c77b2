-- Notices on the conditions and on the trigger of an item: docs/DEFINITIONS.md, "Review of a set".
use Rattle.std.specs.Prelude.{ℕ, zero, suc, ◌==◌, ◌&&◌, ◌||◌, not, nat_lt, Bool, true, false, if◌then◌else◌, List, []}
use Rattle.std.specs.Prelude.{◌∷◌, ◌++◌, length}
use Rattle.std.specs.List.{list_any, list_all, flat_map, range_with_len}
use Rattle.ra_operand.specs.declared.kind.Kind.TheVariants.{Mem}
use Rattle.ra_operand.specs.declared.size.Size.{Size}
use Rattle.ra_operand.specs.declared.size.Size.TheVariants.{Two}
use Rattle.ra_operand.specs.declared.operand.Operand.{Operand}
use Rattle.ra_operand.specs.declared.operand.Operand.TheVariants.{Cell, Const, Recall}
use Rattle.ra_operand.specs.Same.{same_size, same_kind, same_op}
use Rattle.ra_condition.specs.declared.flag.Flag.{Flag}
use Rattle.ra_condition.specs.declared.flag.Flag.TheVariants.{Plain, PauseIf, ResetIf, AddSource, SubSource, AddHits}
use Rattle.ra_condition.specs.declared.flag.Flag.TheVariants.{SubHits, AndNext, OrNext, Measured, MeasuredPercent}
use Rattle.ra_condition.specs.declared.flag.Flag.TheVariants.{MeasuredIf, AddAddress, TriggerIf, ResetNextIf, Remember}
use Rattle.ra_condition.specs.declared.condition.Condition.{Condition}
use Rattle.ra_condition.specs.Contents.{condition_at, flag_at, TriggerContents, groups_of}
use Rattle.ra_condition.specs.Chains.{places}
use Rattle.ra_condition.specs.Flags.{hands_on, combines, is_pause, is_reset, is_measured, is_measured_if, is_required}
use Rattle.ra_lint.specs.declared.warning.Place.{Place}
use Rattle.ra_lint.specs.declared.warning.Place.TheVariants.{Trigger, Start, Cancel, Submit}
use Rattle.ra_lint.specs.Warnings.{always_at}
use Rattle.ra_set.specs.Contents.{ItemContents, Unlocks, Ranks}
use Rattle.ra_notices.specs.declared.notice.Notice.{Notice}
use Rattle.ra_notices.specs.declared.notice.Word.{Word}
use Rattle.ra_notices.specs.declared.notice.Word.TheVariants.{OpenChain, Twice, MemoryRight, ResetsAlways, PausesAlways}
use Rattle.ra_notices.specs.declared.notice.Word.TheVariants.{NoMeasured, Empty, NoNeed, NoUnlock}

-- ---- one condition

-- the chain goes on after the condition at j, and the group ends there
abbrev pub is_open : List Condition → ℕ → Bool
is_open cs j = combines (flag_at cs j) && (suc j == length cs)

-- the chain goes on after the condition before j
abbrev pub is_chained : List Condition → ℕ → Bool
is_chained cs zero = false
is_chained cs (suc i) = combines (flag_at cs i)

-- the operand is `{recall}`
abbrev pub is_recall : Operand → Bool
is_recall Recall = true
is_recall _ = false

-- the condition at j is a chain by itself, has no combining flag, and no operand of it is `{recall}`
abbrev pub is_lone : List Condition → ℕ → Bool
is_lone cs j =
    not (combines (flag_at cs j)) && not (is_chained cs j)
    && not (is_recall (condition_at cs j).left || is_recall (condition_at cs j).right)

-- a number for each flag
abbrev pub number_of_flag : Flag → ℕ
number_of_flag Plain = 0
number_of_flag PauseIf = 1
number_of_flag ResetIf = 2
number_of_flag AddSource = 3
number_of_flag SubSource = 4
number_of_flag AddHits = 5
number_of_flag SubHits = 6
number_of_flag AndNext = 7
number_of_flag OrNext = 8
number_of_flag Measured = 9
number_of_flag MeasuredPercent = 10
number_of_flag MeasuredIf = 11
number_of_flag AddAddress = 12
number_of_flag TriggerIf = 13
number_of_flag ResetNextIf = 14
number_of_flag Remember = 15

-- the two operands are one
abbrev pub same_operand : Operand → Operand → Bool
same_operand (Cell kind size address) (Cell kind' size' address') =
    same_kind kind kind' && same_size size size' && (address == address')
same_operand (Const n) (Const n') = n == n'
same_operand Recall Recall = true
same_operand _ _ = false

-- the two conditions are equal: flag, operands, operator and target
abbrev pub same_condition : Condition → Condition → Bool
same_condition c d =
    (number_of_flag c.flag == number_of_flag d.flag) && same_operand c.left d.left && same_op c.op d.op
    && same_operand c.right d.right && (c.target == d.target)

-- the condition at j and an earlier one of the group are equal, and each is a chain by itself
abbrev pub is_twice : List Condition → ℕ → Bool
is_twice cs j =
    is_lone cs j && list_any (λ i. is_lone cs i
    && same_condition (condition_at cs i) (condition_at cs j)) (range_with_len 0 j)

-- the operand is a cell of 16 bits at this address, of any kind
abbrev pub is_word_at : Operand → ℕ → Bool
is_word_at (Cell kind Two address) n = address == n
is_word_at _ n = false

-- the right operand is the plain 16-bit cell of an address below 256, and the left is none of that size and address
abbrev pub has_memory_right : Operand → Operand → Bool
has_memory_right left (Cell Mem Two address) = nat_lt address 256 && not (is_word_at left address)
has_memory_right left _ = false

-- something stands before j in its chain that is no AddSource, SubSource, AddAddress or Remember
abbrev pub has_before : List Condition → ℕ → Bool
has_before cs zero = false
has_before cs (suc i) = if hands_on (flag_at cs i) then has_before cs i else combines (flag_at cs i)

-- the condition at j has no target, nothing stands before it in its chain, and its comparison always holds
abbrev pub stands : List Condition → ℕ → Bool
stands cs j = ((condition_at cs j).target == 0) && not (has_before cs j) && always_at cs j

-- the condition at j is a ResetIf that stands
abbrev pub resets_at : List Condition → ℕ → Bool
resets_at cs j = is_reset (flag_at cs j) && stands cs j

-- the condition at j is a PauseIf that stands
abbrev pub pauses_at : List Condition → ℕ → Bool
pauses_at cs j = is_pause (flag_at cs j) && stands cs j

-- ---- one trigger

-- some condition of the group is a ResetIf that stands
abbrev pub resets : List Condition → Bool
resets cs = list_any (resets_at cs) (places cs)

-- some condition of the group is a ResetIf or a PauseIf that stands
abbrev pub locks : List Condition → Bool
locks cs = list_any (λ j. resets_at cs j || pauses_at cs j) (places cs)

-- some condition of the group has a flag of the class
abbrev pub some_in : (Flag → Bool) → List Condition → Bool
some_in class cs = list_any (λ c. class c.flag) cs

-- some condition of the trigger has a flag of the class
abbrev pub some_of : (Flag → Bool) → TriggerContents → Bool
some_of class t = list_any (some_in class) (groups_of t)

-- the group resets its trigger at each frame: a ResetIf stands, and no PauseIf pauses it
abbrev pub resets_always : List Condition → Bool
resets_always cs = resets cs && not (some_in is_pause cs)

-- there are groups, and each has a ResetIf or a PauseIf that stands
abbrev pub all_lock : List (List Condition) → Bool
all_lock [] = false
all_lock (cs ∷ groups) = list_all locks (cs ∷ groups)

-- the core, or an alt, or all alts keep the trigger from being valid
abbrev pub is_locked : TriggerContents → Bool
is_locked t = locks t.core || list_any resets_always t.alts || all_lock t.alts

-- the trigger has a MeasuredIf and nothing that is measured
abbrev pub lacks_measured : TriggerContents → Bool
lacks_measured t = some_of is_measured_if t && not (some_of is_measured t)

-- any flag
abbrev pub any_flag : Flag → Bool
any_flag flag = true

-- the trigger has no condition
abbrev pub is_empty : TriggerContents → Bool
is_empty t = not (some_of any_flag t)

-- the trigger has conditions, and none that has to be valid
abbrev pub lacks_need : TriggerContents → Bool
lacks_need t = not (is_empty t) && not (some_of is_required t)

-- ---- the notices

-- a notice
abbrev pub notice : Place → (group condition : ℕ) → Word → Notice
notice place group condition word = record { place = place; group = group; condition = condition; word = word }

-- the notice where the test holds
abbrev pub where_so : Bool → Notice → List Notice
where_so true n = n ∷ []
where_so false n = []

-- the notices on the condition at j, in the order of the words
abbrev pub condition_notices : Place → ℕ → List Condition → ℕ → List Notice
condition_notices place group cs j =
    where_so (is_open cs j) (notice place group j OpenChain)
    ++ where_so (is_twice cs j) (notice place group j Twice)
    ++ where_so (has_memory_right (condition_at cs j).left (condition_at cs j).right) (notice place group j MemoryRight)
    ++ where_so (resets_at cs j) (notice place group j ResetsAlways)
    ++ where_so (pauses_at cs j) (notice place group j PausesAlways)

-- the notices on the conditions of a group
abbrev pub group_notices : Place → ℕ → List Condition → List Notice
group_notices place group cs = flat_map (condition_notices place group cs) (places cs)

-- the notices on groups, from this number on
abbrev pub notices_from : Place → ℕ → List (List Condition) → List Notice
notices_from place group [] = []
notices_from place group (cs ∷ groups) = group_notices place group cs ++ notices_from place (suc group) groups

-- the notices on the conditions of a trigger, the core being group 0
abbrev pub trigger_notices : Place → TriggerContents → List Notice
trigger_notices place t = notices_from place 0 (groups_of t)

-- the notices on the trigger of an achievement itself
abbrev pub whole_notices : TriggerContents → List Notice
whole_notices t =
    where_so (lacks_measured t) (notice Trigger 0 0 NoMeasured)
    ++ where_so (is_empty t) (notice Trigger 0 0 Empty)
    ++ where_so (lacks_need t) (notice Trigger 0 0 NoNeed)
    ++ where_so (is_locked t) (notice Trigger 0 0 NoUnlock)

-- the notices on an item; of a board those on its three triggers
abbrev pub item_notices : ItemContents → List Notice
item_notices (Unlocks id t) = trigger_notices Trigger t ++ whole_notices t
item_notices (Ranks id format b) =
    trigger_notices Start b.start ++ trigger_notices Cancel b.cancel ++ trigger_notices Submit b.submit
