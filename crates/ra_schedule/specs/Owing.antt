-- What members keep that owe hits, and when they rest: docs/INTERNALS.md, "Members at rest".
use Rattle.std.specs.Prelude.{◌≡◌, ℕ, ◌≤◌, min, true, List, [], ◌∷◌, length, map, zip, slice_index}
use Rattle.std.specs.List.{AllByRecursion}
use Rattle.ra_condition.specs.Contents.{TriggerContents, groups_of, PartContents, counted_in}
use Rattle.ra_group.specs.declared.form.Form.TheVariants.{InTrigger, InValue}
use Rattle.ra_schedule.specs.Groups.{groups_keep, paid}
use Rattle.ra_schedule.specs.Values.{owed_value}
use Rattle.ra_value.specs.Steps.{ValueKept}
use Rattle.ra_member.specs.Members.{MemberKept}

-- each of these numbers is of 32 bits
abbrev pub AreSmall : List ℕ → Type 0
AreSmall numbers = (j : ℕ) → slice_index numbers j ≤ 4294967295

-- each hit of these tests is of 32 bits
abbrev pub AreTestsSmall : List (List ℕ) → Type 0
AreTestsSmall hits = AllByRecursion AreSmall hits

-- each hit of these values is of 32 bits
abbrev pub AreValuesSmall : List ValueKept → Type 0
AreValuesSmall kept = AllByRecursion (λ v. AreSmall v.hits) kept

-- all hits of a member are of 32 bits
pub record AreHitsSmall (kept : MemberKept) : Type 0 where
  pub tests : AreTestsSmall kept.tests
  pub values : AreValuesSmall kept.values

-- the hits of tests after n frames more at rest, by those before the frame at which the rest began
abbrev pub owed_tests : ℕ → (before hits : List (List ℕ)) → List (List ℕ)
owed_tests n before hits = map (λ p. paid n p.0 p.1) (zip before hits)

-- values after n frames more at rest
abbrev pub owed_values : ℕ → (before : List (List ℕ)) → List ValueKept → List ValueKept
owed_values n before kept = map (λ p. owed_value n p.0 p.1) (zip before kept)

-- what is kept of a member after n frames more at rest, by what was kept before the frame at which the rest began
abbrev pub owed_member : ℕ → (before kept : MemberKept) → MemberKept
owed_member n before kept = record {
  tests = owed_tests n before.tests kept.tests;
  values = owed_values n (map (λ v. v.hits) before.values) kept.values;
}

-- each condition of each test kept its hits at a frame, or is free and has one more
abbrev pub TestsKeep : List TriggerContents → (before after : List (List ℕ)) → Type 0
TestsKeep [] [] [] = Unit {0}
TestsKeep (t ∷ tests) (old ∷ before) (new ∷ after) =
    (groups_keep InTrigger (groups_of t) old new ≡ true) × TestsKeep tests before after
TestsKeep _ _ _ = ⊥

-- a value keeps its numbers at a frame, and each of its conditions its hits, or is free and has one more
pub record ValueKeeps (parts : List PartContents) (old new : ValueKept) : Type 0 where
  pub hits : groups_keep InValue (map counted_in parts) old.hits new.hits ≡ true
  pub numbers : new.numbers ≡ old.numbers

-- each value does
abbrev pub ValuesKeep : List (List PartContents) → (before after : List ValueKept) → Type 0
ValuesKeep [] [] [] = Unit {0}
ValuesKeep (parts ∷ values) (old ∷ before) (new ∷ after) = ValueKeeps parts old new × ValuesKeep values before after
ValuesKeep _ _ _ = ⊥

-- this many frames are owed as far as hits can tell: all of them, or the most that a hit can count
abbrev pub AreFramesOwed : (frames owed : ℕ) → Type 0
AreFramesOwed frames owed = owed ≡ min frames 4294967295

-- hits of tests are as many, test by test
abbrev pub AreAsLong : (rows others : List (List ℕ)) → Type 0
AreAsLong rows others = map length rows ≡ map length others

-- two members keep as many hits and numbers, row by row
pub record HaveOneShape (one other : MemberKept) : Type 0 where
  pub tests : AreAsLong one.tests other.tests
  pub hits : AreAsLong (map (λ v. v.hits) one.values) (map (λ v. v.hits) other.values)
  pub numbers : AreAsLong (map (λ v. v.numbers) one.values) (map (λ v. v.numbers) other.values)
