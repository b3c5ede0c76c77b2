-- One frame of a trigger, in which all groups are stepped, and what they say together: docs/DEFINITIONS.md, "Triggers
-- over frames".
use Rattle.std.specs.Prelude.{ℕ, Bool, false, ◌&&◌, ◌||◌, not, if◌then◌else◌, Option, None, unwrap_or, List, [], ◌∷◌}
use Rattle.std.specs.Prelude.{length, map, take, drop, replicate}
use Rattle.std.specs.List.{list_any, list_all, flat_map}
use Rattle.ra_condition.specs.declared.condition.Condition.{Condition}
use Rattle.ra_condition.specs.Flags.{is_trigger}
use Rattle.ra_condition.specs.Contents.{TriggerContents, groups_of}
use Rattle.ra_group.specs.declared.outcome.Outcome.{Outcome}
use Rattle.ra_group.specs.declared.form.Form.TheVariants.{InTrigger}
use Rattle.ra_group.specs.Equations.{Frame, frame_of}
use Rattle.ra_group.specs.Outcome.{outcome_of, next_hits, larger}
use Rattle.ra_trigger.specs.declared.state.State.{State}
use Rattle.ra_trigger.specs.States.{state_after, is_cleared, is_triggered}

-- the frame of each group, from lists that run over the conditions of all groups
abbrev pub frames_along : List (List Condition) → List Bool → (lefts hits : List ℕ) → List Frame
frames_along [] truths lefts hits = []
frames_along (cs ∷ groups) truths lefts hits =
    frame_of cs (take (length cs) truths) (take (length cs) lefts) (take (length cs) hits)
    ∷ frames_along groups (drop (length cs) truths) (drop (length cs) lefts) (drop (length cs) hits)

-- the core has it, and some alt too where there are alts
abbrev pub core_and_some : (Outcome → Bool) → List Outcome → Bool
core_and_some has [] = false
core_and_some has (core ∷ []) = has core
core_and_some has (core ∷ alt ∷ alts) = has core && list_any has (alt ∷ alts)

-- the core has it, or all alts where there are alts
abbrev pub core_or_all : (Outcome → Bool) → List Outcome → Bool
core_or_all has [] = false
core_or_all has (core ∷ []) = has core
core_or_all has (core ∷ alt ∷ alts) = has core || list_all has (alt ∷ alts)

-- the greatest number that a group gives, if one does
abbrev pub greatest_of : List Outcome → Option ℕ
greatest_of [] = None
greatest_of (o ∷ os) = larger o.measured (greatest_of os)

-- some condition of the groups is a Trigger
abbrev pub has_trigger : List (List Condition) → Bool
has_trigger groups = list_any (λ cs. list_any (λ c. is_trigger c.flag) cs) groups

-- what the groups of a trigger say together at a frame
pub record Together : Type 0 where
  pub reset : Bool
  pub valid : Bool
  pub paused : Bool
  pub primed : Bool
  pub from_hits : Bool
  pub measured : Option ℕ
  pub hits : List ℕ

-- what the groups of a trigger say together, by the comparisons, left values and hits of all their conditions
abbrev pub together : TriggerContents → List Bool → (lefts hits : List ℕ) → Together
together t truths lefts hits =
    let frames = frames_along (groups_of t) truths lefts hits in
    let outcomes = map (outcome_of InTrigger) frames in
    let reset = list_any (λ o. o.reset) outcomes in
    record {
      reset = reset;
      valid = not reset && core_and_some (λ o. o.valid) outcomes;
      paused = core_or_all (λ o. o.paused) outcomes;
      primed = not reset && (has_trigger (groups_of t) && core_and_some (λ o. o.primed) outcomes);
      from_hits = list_any (λ o. o.from_hits) outcomes;
      measured = greatest_of outcomes;
      hits = flat_map next_hits frames;
    }

-- the hits, each set to 0
abbrev pub cleared : List ℕ → List ℕ
cleared hits = replicate (length hits) 0

-- what is kept of an achievement between frames; the hits run over the conditions of all groups
pub record TriggerKept : Type 0 where
  pub state : State
  pub measured : ℕ
  pub hits : List ℕ

-- what a frame leaves, from what its groups say together
abbrev pub kept_after : TriggerKept → Together → TriggerKept
kept_after old now =
    let measured = unwrap_or now.measured old.measured in
    let clear = is_cleared old.state now.reset now.valid in
    record {
      state = state_after old.state now.reset now.valid now.paused now.primed;
      measured = if clear && now.from_hits then 0 else measured;
      hits = if clear then cleared now.hits else now.hits;
    }

-- one frame of an achievement; nothing of a triggered one is stepped or changed
abbrev pub step : TriggerContents → List Bool → List ℕ → TriggerKept → TriggerKept
step t truths lefts old =
    if is_triggered old.state then old else kept_after old (together t truths lefts old.hits)

-- the truth of a trigger without states at a frame
abbrev pub truth : TriggerContents → List Bool → (lefts hits : List ℕ) → Bool
truth t truths lefts hits = (together t truths lefts hits).valid

-- the hits of a trigger without states after a frame
abbrev pub hits_after_truth : TriggerContents → List Bool → (lefts hits : List ℕ) → List ℕ
hits_after_truth t truths lefts hits =
    let now = together t truths lefts hits in
    if now.reset then cleared now.hits else now.hits
