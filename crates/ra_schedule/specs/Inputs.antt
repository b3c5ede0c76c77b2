-- What tests and values see at the last frame of a history, and when they see the same at another: docs/INTERNALS.md,
-- "Members at rest".
use Rattle.std.specs.Prelude.{◌≡◌, List, [], ◌∷◌, map}
use Rattle.ra_condition.specs.declared.condition.Condition.{Condition}
use Rattle.ra_condition.specs.Contents.{TriggerContents, groups_of, PartContents, counted_in}
use Rattle.ra_memory.specs.Image.{History}
use Rattle.ra_memref.specs.Values.{Start}
use Rattle.ra_member.specs.Frames.{lefts_at, truths_at, sum_at}
use Rattle.ra_member.specs.Members.{MemberContents}
use Rattle.ra_group.specs.declared.form.Form.{Form}
use Rattle.ra_group.specs.declared.form.Form.TheVariants.{InTrigger, InValue}
use Rattle.ra_schedule.specs.Given.{GiveTheSame}

-- the last frame of a history, from a start
pub record Instant : Type 0 where
  pub start : Start
  pub history : History

-- the conditions of some groups see the same at two moments: the same comparisons hold, and what is given as a number
-- is the same
pub record SeeSame (form : Form) (now later : Instant) (groups : List (List Condition)) : Type 0 where
  pub truths : truths_at later.start later.history groups ≡ truths_at now.start now.history groups
  pub lefts : GiveTheSame form groups (lefts_at now.start now.history groups)
      (lefts_at later.start later.history groups)

-- each of some tests sees the same at two moments
abbrev pub TestsSeeSame : (now later : Instant) → List TriggerContents → Type 0
TestsSeeSame now later [] = Unit {0}
TestsSeeSame now later (t ∷ tests) = SeeSame InTrigger now later (groups_of t) × TestsSeeSame now later tests

-- a value sees the same at two moments, its legacy sums too
pub record ValueSeesSame (now later : Instant) (parts : List PartContents) : Type 0 where
  pub conditions : SeeSame InValue now later (map counted_in parts)
  pub sums : map (sum_at later.start later.history) parts ≡ map (sum_at now.start now.history) parts

-- each of some values does
abbrev pub ValuesSeeSame : (now later : Instant) → List (List PartContents) → Type 0
ValuesSeeSame now later [] = Unit {0}
ValuesSeeSame now later (parts ∷ values) = ValueSeesSame now later parts × ValuesSeeSame now later values

-- all tests and values of a member see the same at two moments
pub record MemberSeesSame (now later : Instant) (m : MemberContents) : Type 0 where
  pub tests : TestsSeeSame now later m.tests
  pub values : ValuesSeeSame now later m.values
