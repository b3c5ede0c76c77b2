-- The warnings on a set: docs/DEFINITIONS.md, "Warnings".
use Rattle.std.specs.Prelude.{ℕ, suc, ◌||◌, not, Bool, true, false, if◌then◌else◌, List, [], ◌∷◌, ◌++◌}
use Rattle.std.specs.List.{list_all, flat_map}
use Rattle.ra_condition.specs.declared.condition.Condition.{Condition}
use Rattle.ra_condition.specs.Flags.{hands_on}
use Rattle.ra_condition.specs.Contents.{condition_at, flag_at, TriggerContents, groups_of}
use Rattle.ra_condition.specs.Chains.{places}
use Rattle.ra_chain.specs.Elaboration.{left_of, right_of}
use Rattle.ra_leaderboard.specs.Contents.{BoardContents}
use Rattle.ra_set.specs.Contents.{ItemContents, Unlocks, Ranks, SetContents}
use Rattle.ra_lint.specs.declared.warning.Warning.{Warning}
use Rattle.ra_lint.specs.declared.warning.Place.{Place}
use Rattle.ra_lint.specs.declared.warning.Place.TheVariants.{Trigger, Start, Cancel, Submit}
use Rattle.ra_lint.specs.declared.warning.Word.{Word}
use Rattle.ra_lint.specs.declared.warning.Word.TheVariants.{Never, Always, Unreachable, NoUnlock, NoStart}
use Rattle.ra_lint.specs.Chances.{never_reached, chance_at, is_dead}
use Rattle.ra_lint.specs.Verdicts.{is_never, is_always}

-- the comparison at j never holds, or always
abbrev pub never_at : List Condition → ℕ → Bool
never_at cs j = is_never (condition_at cs j).op (left_of cs j) (right_of cs j)

-- the comparison at j always holds
abbrev pub always_at : List Condition → ℕ → Bool
always_at cs j = is_always (condition_at cs j).op (left_of cs j) (right_of cs j)

-- the comparison at j may hold
abbrev pub may_hold : List Condition → ℕ → Bool
may_hold cs j = not (never_at cs j)

-- the condition at j has a target that it never reaches
abbrev pub is_unreachable : List Condition → ℕ → Bool
is_unreachable cs j = never_reached (condition_at cs j).target (chance_at cs (may_hold cs) j)

-- no group of these is ever valid; where there is none, some is
abbrev pub are_dead : List (List Condition) → Bool
are_dead [] = false
are_dead (cs ∷ groups) = list_all (λ g. is_dead g (may_hold g)) (cs ∷ groups)

-- a trigger that is never valid: its core is dead, or it has alts and all of them are
abbrev pub is_dead_trigger : TriggerContents → Bool
is_dead_trigger t = is_dead t.core (may_hold t.core) || are_dead t.alts

-- a warning
abbrev pub warning : ℕ → Place → (group condition : ℕ) → Word → Warning
warning item place group condition word =
    record { item = item; place = place; group = group; condition = condition; word = word }

-- the warning where the test holds
abbrev pub where_so : Bool → Warning → List Warning
where_so true w = w ∷ []
where_so false w = []

-- the warnings on the condition at j, in the order of the words
abbrev pub condition_warnings : ℕ → Place → ℕ → List Condition → ℕ → List Warning
condition_warnings item place group cs j =
    if hands_on (flag_at cs j) then [] else
    where_so (never_at cs j) (warning item place group j Never)
    ++ where_so (always_at cs j) (warning item place group j Always)
    ++ where_so (is_unreachable cs j) (warning item place group j Unreachable)

-- the warnings on the conditions of a group
abbrev pub group_warnings : ℕ → Place → ℕ → List Condition → List Warning
group_warnings item place group cs = flat_map (condition_warnings item place group cs) (places cs)

-- the warnings on groups, from this number on
abbrev pub warnings_from : ℕ → Place → ℕ → List (List Condition) → List Warning
warnings_from item place group [] = []
warnings_from item place group (cs ∷ groups) =
    group_warnings item place group cs ++ warnings_from item place (suc group) groups

-- the warnings on the conditions of a trigger, the core being group 0
abbrev pub trigger_warnings : ℕ → Place → TriggerContents → List Warning
trigger_warnings item place t = warnings_from item place 0 (groups_of t)

-- the warnings on a board, its own word last
abbrev pub board_warnings : ℕ → BoardContents → List Warning
board_warnings item b =
    trigger_warnings item Start b.start
    ++ trigger_warnings item Cancel b.cancel
    ++ trigger_warnings item Submit b.submit
    ++ where_so (is_dead_trigger b.start) (warning item Start 0 0 NoStart)

-- the warnings on an item, its own word last
abbrev pub item_warnings : ℕ → ItemContents → List Warning
item_warnings item (Unlocks id t) =
    trigger_warnings item Trigger t ++ where_so (is_dead_trigger t) (warning item Trigger 0 0 NoUnlock)
item_warnings item (Ranks id format b) = board_warnings item b

-- the warnings on items, from this number on
abbrev pub warnings_on : ℕ → List ItemContents → List Warning
warnings_on item [] = []
warnings_on item (x ∷ items) = item_warnings item x ++ warnings_on (suc item) items

-- all warnings on a set
abbrev pub warnings_of : SetContents → List Warning
warnings_of set = warnings_on 0 set.items
