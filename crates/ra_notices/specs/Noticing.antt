-- What is known of a condition or of groups while notices are taken: the step between the code and
-- docs/DEFINITIONS.md, "Review of a set".
use Rattle.std.specs.Prelude.{◌≡◌, ◌<◌, false, length, slice_index_or, ℕ, ◌==◌, ◌&&◌, ◌||◌, not, if◌then◌else◌, Bool}
use Rattle.std.specs.Prelude.{true, List, ◌++◌, ◌∷◌, []}
use Rattle.std.specs.List.{list_any}
use Rattle.ra_condition.specs.declared.condition.Condition.{Condition}
use Rattle.ra_condition.specs.declared.flag.Flag.{Flag}
use Rattle.ra_condition.specs.Contents.{condition_at, flag_at}
use Rattle.ra_condition.specs.Flags.{is_pause, is_reset, is_measured, is_measured_if, is_required, hands_on, combines}
use Rattle.ra_lint.specs.declared.warning.Place.{Place}
use Rattle.ra_notices.specs.declared.class.Class.{Class}
use Rattle.ra_notices.specs.declared.class.Class.TheVariants as class
use Rattle.ra_notices.specs.declared.conditions.Spot.{Spot}
use Rattle.ra_notices.specs.declared.conditions.Seen.{Seen}
use Rattle.ra_notices.specs.declared.groups.Standing.{Standing}
use Rattle.ra_notices.specs.declared.notice.Notice.{Notice}
use Rattle.ra_notices.specs.declared.notice.Word.{Word}
use Rattle.ra_notices.specs.declared.notice.Word.TheVariants.{OpenChain, Twice, MemoryRight, ResetsAlways, PausesAlways}
use Rattle.ra_notices.specs.Notices.{any_flag, has_before, resets_at, pauses_at, resets_always, all_lock}
use Rattle.ra_notices.specs.Notices.{has_memory_right, is_recall, notice, where_so}

-- the flags of a class
abbrev pub has_class : Class → Flag → Bool
has_class class.Any = any_flag
has_class class.Pause = is_pause
has_class class.MeasuredIf = is_measured_if
has_class class.Measured = is_measured
has_class class.Required = is_required

-- a row of marks says at which places of a group something holds; a place past the end of the row is not marked
abbrev pub AreMarks : List Bool → (ℕ → Bool) → List Condition → Type 0
AreMarks marks holds cs = (j : ℕ) → j < length cs → slice_index_or marks j false ≡ holds j

-- a group of the trigger at a place
abbrev pub spot_of : Place → ℕ → Spot
spot_of place group = record { place = place; group = group }

-- a notice on a condition of a group
abbrev pub notice_at : Spot → ℕ → Word → Notice
notice_at spot j word = notice spot.place spot.group j word

-- the notices on a condition, by what is seen of it
abbrev pub notices_by : Spot → ℕ → Seen → List Notice
notices_by spot j seen =
    where_so seen.chained (notice_at spot j OpenChain) ++ where_so seen.twice (notice_at spot j Twice)
    ++ where_so seen.memory_right (notice_at spot j MemoryRight) ++ where_so seen.resets (notice_at spot j ResetsAlways)
    ++ where_so seen.pauses (notice_at spot j PausesAlways)

-- the condition is a ResetIf or a PauseIf without target, by whether something stands before it in its chain
abbrev pub may_lock_after : Condition → Bool → Bool
may_lock_after c before = (is_reset c.flag || is_pause c.flag) && (c.target == 0) && not before

-- the condition at j is a ResetIf or a PauseIf without target, with nothing before it in its chain
abbrev pub may_lock : List Condition → ℕ → Bool
may_lock cs j = may_lock_after (condition_at cs j) (has_before cs j)

-- the condition is a ResetIf or a PauseIf that stands
abbrev pub locks_at : List Condition → ℕ → Bool
locks_at cs j = resets_at cs j || pauses_at cs j

-- what the next condition has before it in its chain, by this one
abbrev pub before_next : Condition → Bool → Bool
before_next c before = if hands_on c.flag then before else combines c.flag

-- alts keep their trigger from being valid
abbrev pub alts_lock : List (List Condition) → Bool
alts_lock alts = list_any resets_always alts || all_lock alts

-- the condition is a chain by itself and no operand of it is `{recall}`, by whether that before it goes on
abbrev pub is_lone_after : Condition → Bool → Bool
is_lone_after c chained = not (combines c.flag) && not chained && not (is_recall c.left || is_recall c.right)

-- what is seen of a condition, by whether it is the last, stands there twice, and locks
abbrev pub seen_by : Condition → (last twice locks : Bool) → Seen
seen_by c last twice locks = record {
  chained = combines c.flag && last;
  twice = twice;
  memory_right = has_memory_right c.left c.right;
  resets = is_reset c.flag && locks;
  pauses = is_pause c.flag && locks;
}

-- what conditions do, with one more
abbrev pub standing_with : Standing → Seen → Standing
standing_with standing seen = record {
  resets = standing.resets || seen.resets;
  locks = standing.locks || seen.resets || seen.pauses;
}
