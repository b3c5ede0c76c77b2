-- What warnings mean: docs/DEFINITIONS.md, "Warnings".
use Rattle.std.specs.Prelude.{◌≡◌, ℕ, true, false, Option, None, Some, List, [], ◌∷◌, map, slice_index_or}
use Rattle.ra_condition.specs.declared.condition.Condition.{Condition}
use Rattle.ra_condition.specs.Contents.{TriggerContents, groups_of}
use Rattle.ra_memory.specs.Image.{History}
use Rattle.ra_memref.specs.Values.{Start}
use Rattle.ra_group.specs.Equations.{Frame, frame_of}
use Rattle.ra_group.specs.Laws.{reached_at}
use Rattle.ra_trigger.specs.Kept.{no_trigger}
use Rattle.ra_trigger.specs.States.{is_triggered}
use Rattle.ra_trigger.specs.Steps.{frames_along, TriggerKept}
use Rattle.ra_set.specs.Contents.{ItemContents, Unlocks, Ranks}
use Rattle.ra_member.specs.Folds.{after}
use Rattle.ra_member.specs.Frames.{truth_at, truths_at, lefts_at, achievement_next, test_next, test_holds}
use Rattle.ra_member.specs.Members.{no_hits}
use Rattle.ra_lint.specs.declared.warning.Place.{Place}
use Rattle.ra_lint.specs.declared.warning.Place.TheVariants.{Trigger, Start as OfStart, Cancel, Submit}
use Rattle.ra_lint.specs.declared.warning.Warning.{Warning}
use Rattle.ra_lint.specs.declared.warning.Word.{Word}
use Rattle.ra_lint.specs.Warnings.{never_at, always_at, is_unreachable, is_dead_trigger}
use Rattle.ra_lint.specs.declared.warning.Word.TheVariants.{Never, Always, Unreachable, NoUnlock, NoStart}

-- the conditions of a group of a trigger, and none past the last
abbrev pub group_at : TriggerContents → ℕ → List Condition
group_at t group = slice_index_or (groups_of t) group []

-- the frame of a group of a trigger after a history, from the hits before the last image
abbrev pub frame_after : Start → TriggerContents → (hits : List ℕ) → History → ℕ → Frame
frame_after start t hits history group =
    let truths = truths_at start history (groups_of t) in
    let lefts = lefts_at start history (groups_of t) in
    slice_index_or (frames_along (groups_of t) truths lefts hits) group (frame_of [] [] [] [])

-- what is kept of an achievement after a history from the plain opening
abbrev pub plain_achievement : Start → TriggerContents → History → TriggerKept
plain_achievement start t history = after (achievement_next start t) (no_trigger t) history

-- the hits of a test after a history from the plain opening
abbrev pub plain_hits : Start → TriggerContents → History → List ℕ
plain_hits start t history = after (test_next start t) (no_hits t) history

-- the hits before a frame: those of an achievement, or of a test
abbrev pub hits_before : Place → Start → TriggerContents → History → List ℕ
hits_before Trigger start t earlier = (plain_achievement start t earlier).hits
hits_before _ start t earlier = plain_hits start t earlier

-- What a warning on a trigger says. Whatever numbers stand before the first frame, the comparison is false, or true, at
-- every frame; from no hits on the target is never reached; from no hits, and waiting, it is never triggered or true.
abbrev pub Says : Place → TriggerContents → (group condition : ℕ) → Word → Type 0
Says place t group j Never =
    (start : Start) (history : History) → truth_at start history (group_at t group) j ≡ false
Says place t group j Always =
    (start : Start) (history : History) → truth_at start history (group_at t group) j ≡ true
Says place t group j Unreachable =
    (start : Start) (image : List ℕ) (earlier : History)
    → reached_at (frame_after start t (hits_before place start t earlier) (image ∷ earlier) group) j ≡ false
Says place t group j NoUnlock =
    (start : Start) (history : History) → is_triggered (plain_achievement start t history).state ≡ false
Says place t group j NoStart =
    (start : Start) (image : List ℕ) (earlier : History)
    → test_holds start t (image ∷ earlier) (plain_hits start t earlier) ≡ false

-- the trigger of an item at a place, if it has it
abbrev pub trigger_at : Place → ItemContents → Option TriggerContents
trigger_at Trigger (Unlocks id t) = Some t
trigger_at OfStart (Ranks id format b) = Some b.start
trigger_at Cancel (Ranks id format b) = Some b.cancel
trigger_at Submit (Ranks id format b) = Some b.submit
trigger_at _ _ = None

-- a warning is on a trigger that is there, and what it says holds
pub record Holds (items : List ItemContents) (w : Warning) : Type 0 where
  pub item : ItemContents
  pub there : slice_index_or (map Some items) w.item None ≡ Some item
  pub trigger : TriggerContents
  pub placed : trigger_at w.place item ≡ Some trigger
  pub says : Says w.place trigger w.group w.condition w.word

-- What the judgements of a trigger's conditions mean, where some text spells the trigger.
pub record AreSound (place : Place) (t : TriggerContents) : Type 0 where
  pub never : (group j : ℕ) → never_at (group_at t group) j ≡ true → Says place t group j Never
  pub always : (group j : ℕ) → always_at (group_at t group) j ≡ true → Says place t group j Always
  pub unreachable : (group j : ℕ) → is_unreachable (group_at t group) j ≡ true → Says place t group j Unreachable
  pub no_unlock : is_dead_trigger t ≡ true → Says place t 0 0 NoUnlock
  pub no_start : is_dead_trigger t ≡ true → Says place t 0 0 NoStart
