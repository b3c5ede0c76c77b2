-- Members with their plans, and what their calls do: docs/DEFINITIONS.md, "Members".
use Rattle.std.specs.Prelude.{◌≡◌, ℕ, ◌<◌, ◌^◌, Bool, List, [], ◌∷◌, ◌++◌, length, map, set, get_or}
use Rattle.std.specs.List.{AllByRecursion}
use Rattle.ra_condition.specs.Contents.{TriggerContents, PartContents}
use Rattle.ra_indirect.specs.declared.node.Node.{Node}
use Rattle.ra_text.specs.Words.{words_at}
use Rattle.ra_memory.specs.Image.{History}
use Rattle.ra_memref.specs.Values.{Start}
use Rattle.ra_memref.specs.Table.{TableSeen}
use Rattle.ra_member.specs.declared.member.Member.{Member}
use Rattle.ra_member.specs.declared.trigger_run.TriggerRun.{TriggerRun}
use Rattle.ra_member.specs.declared.value_run.ValueRun.{ValueRun}
use Rattle.ra_member.specs.Beside.{AreBeside}
use Rattle.ra_member.specs.Members.{MemberContents, MemberKept, no_member, trees_in_member, member_conditions}
use Rattle.ra_member.specs.Members.{values_next}
use Rattle.ra_member.specs.Plans.{GrowsWithin}
use Rattle.ra_member.specs.Runs.{HasValues, IsTriggerRun, IsValueRun, StepsTest, StepsValue}

-- a member with its plans
pub record IsMember (nodes : List Node) (m : MemberContents) (member : Member) : Type 0 where
  pub tests : AreBeside (IsTriggerRun nodes) m.tests member.tests.items
  pub values : AreBeside (IsValueRun nodes) m.values member.values.items

-- what is kept of a member
abbrev pub kept_by : Member → MemberKept
kept_by member = record {
  tests = map (λ test. test.trigger.hits) member.tests.items;
  values = map (λ value. value.value) member.values.items;
}

-- a member has its plans over a pool that grew by its trees, and nothing is kept of it yet
pub record IsNewMember (old new : List Node) (m : MemberContents) (member : Member) : Type 0 where
  pub grows : GrowsWithin old new (trees_in_member m) (member_conditions m)
  pub member_too : IsMember new m member
  pub plain : kept_by member ≡ no_member m

-- a new member with one test more, after the others and before all values
abbrev pub AddsTest : (old new : List Node) → TriggerContents → (before after : Member) → Type 0
AddsTest old new t before after =
    (first : List Node) (tests : List TriggerContents)
    → IsNewMember first old (record { tests = tests; values = [] }) before
    → IsNewMember first new (record { tests = tests ++ t ∷ []; values = [] }) after

-- a new member with one value more, after all others
abbrev pub AddsValue : (old new : List Node) → List PartContents → (before after : Member) → Type 0
AddsValue old new parts before after =
    (first : List Node) (m : MemberContents) → IsNewMember first old m before
    → IsNewMember first new (record m { values = m.values ++ parts ∷ [] }) after

-- the test at a place is this one, with its plan
pub record HasTest (nodes : List Node) (t : TriggerContents) (place : ℕ) (member : Member) : Type 0 where
  pub within : place < length member.tests.items
  pub run : (d : TriggerRun) → IsTriggerRun nodes t (get_or member.tests.items place d)

-- the value at a place is this one, with its plan
pub record HasValue (nodes : List Node) (parts : List PartContents) (place : ℕ) (member : Member) : Type 0 where
  pub within : place < length member.values.items
  pub run : (d : ValueRun) → IsValueRun nodes parts (get_or member.values.items place d)

-- one frame of the test at a place; all else stays
pub record StepsTestAt (table : TableSeen) (t : TriggerContents) (place : ℕ) (old new : Member)
    (holds : Bool) : Type 0 where
  pub run : TriggerRun
  pub is : IsTriggerRun table.nodes t run
  pub steps : (d : TriggerRun) → StepsTest table t (get_or old.tests.items place d) run holds
  pub tests : new.tests.items ≡ set old.tests.items place run
  pub values : new.values ≡ old.values

-- one frame of the value at a place; all else stays
pub record StepsValueAt (table : TableSeen) (parts : List PartContents) (place : ℕ) (old new : Member) : Type 0 where
  pub run : ValueRun
  pub is : IsValueRun table.nodes parts run
  pub steps : (d : ValueRun) → StepsValue table parts (get_or old.values.items place d) run
  pub values : new.values.items ≡ set old.values.items place run
  pub tests : new.tests ≡ old.tests

-- one frame of each value of a member; its tests stay
pub record StepsValues (table : TableSeen) (values : List (List PartContents)) (old new : Member) : Type 0 where
  pub values_too : AreBeside (IsValueRun table.nodes) values new.values.items
  pub kept : (start : Start) (history : History) → HasValues table start history
      → (kept_by new).values ≡ values_next start values history (kept_by old).values
  pub tests : new.tests ≡ old.tests

-- the member is one with its plans where the old one was
abbrev pub StaysMember : (old new : Member) → Type 0
StaysMember old new = (nodes : List Node) (m : MemberContents) → IsMember nodes m old → IsMember nodes m new

-- each number is of 32 bits
abbrev pub FitWords : List ℕ → Type 0
FitWords numbers = AllByRecursion (λ n. n < 2 ^ 32) numbers

-- the numbers come after the others, and each is of 32 bits
pub record PutsBehind (old new numbers : List ℕ) : Type 0 where
  pub all : new ≡ old ++ numbers
  pub fit : FitWords numbers

-- the tests have the plans that they had
abbrev pub StayTests : (olds news : List TriggerRun) → Type 0
StayTests olds news =
    (nodes : List Node) (tests : List TriggerContents) → AreBeside (IsTriggerRun nodes) tests olds
    → AreBeside (IsTriggerRun nodes) tests news

-- the values have the plans that they had
abbrev pub StayValues : (olds news : List ValueRun) → Type 0
StayValues olds news =
    (nodes : List Node) (values : List (List PartContents))
    → AreBeside (IsValueRun nodes) values olds → AreBeside (IsValueRun nodes) values news

-- the hits of a trigger are those at a place
pub record PutsBackTest (bytes : List ℕ) (at : ℕ) (old new : TriggerRun) : Type 0 where
  pub hits : new.trigger.hits ≡ words_at bytes at (length old.trigger.hits)
  pub laid : new.laid ≡ old.laid

-- the hits and the numbers of a value are those at two places
pub record PutsBackValue (bytes : List ℕ) (hits numbers : ℕ) (old new : ValueRun) : Type 0 where
  pub hits_too : new.value.hits ≡ words_at bytes hits (length old.value.hits)
  pub numbers_too : new.value.numbers ≡ words_at bytes numbers (length old.value.numbers)
  pub rest : new ≡ record old { value = new.value }
