-- Tests and values that are kept together, as those of a leaderboard or of a display line: docs/DEFINITIONS.md,
-- "Members".
use Rattle.std.specs.Prelude.{◌≡◌, ℕ, ◌+◌, Bool, List, ◌++◌, length, map, take, drop, replicate, zip, sum, sum_by}
use Rattle.std.specs.List.{concat, flat_map}
use Rattle.ra_condition.specs.Contents.{TriggerContents, trigger_hits, PartContents, value_hits}
use Rattle.ra_memory.specs.Image.{History}
use Rattle.ra_indirect.specs.Trees.{Tree}
use Rattle.ra_chain.specs.Occurrence.{trees_in_trigger, trees_in_value}
use Rattle.ra_memref.specs.Values.{Start}
use Rattle.ra_set.specs.Limits.{value_conditions}
use Rattle.ra_trigger.specs.Steps.{cleared as cleared_hits}
use Rattle.ra_value.specs.Kept.{cleared as cleared_value}
use Rattle.ra_value.specs.Steps.{ValueKept, no_value}
use Rattle.ra_member.specs.Beside.{AreBeside}
use Rattle.ra_member.specs.Frames.{test_next, test_holds, value_next}
use Rattle.ra_member.specs.Rows.{rows_by}

-- a leaderboard has three tests and one or two values, a display line a test or none and the values of its macros
pub record MemberContents : Type 0 where
  pub tests : List TriggerContents
  pub values : List (List PartContents)

-- what is kept of a member between frames: the hits of each test, and the hits and numbers of each value
pub record MemberKept : Type 0 where
  pub tests : List (List ℕ)
  pub values : List ValueKept

-- the trees of a member: those of its tests, and then those of its values
abbrev pub trees_in_member : MemberContents → List Tree
trees_in_member m = flat_map trees_in_trigger m.tests ++ flat_map trees_in_value m.values

-- how many conditions a member has, the legacy terms of its values counted too
abbrev pub member_conditions : MemberContents → ℕ
member_conditions m = sum_by trigger_hits m.tests + sum_by value_conditions m.values

-- the hits of a test that was never stepped
abbrev pub no_hits : TriggerContents → List ℕ
no_hits t = replicate (trigger_hits t) 0

-- what is kept of values that begin anew: 0 everywhere
abbrev pub no_values : List (List PartContents) → List ValueKept
no_values values = map no_value values

-- what is kept of a member that was never stepped: 0 everywhere
abbrev pub no_member : MemberContents → MemberKept
no_member m = record { tests = map no_hits m.tests; values = no_values m.values }

-- what is kept of a member, with 0 everywhere
abbrev pub cleared_member : MemberKept → MemberKept
cleared_member kept = record { tests = map cleared_hits kept.tests; values = map cleared_value kept.values }

-- the hits of tests after the last frame, from those before it
abbrev pub tests_next : Start → List TriggerContents → History → List (List ℕ) → List (List ℕ)
tests_next start tests history hits = map (λ t. test_next start t.0 history t.1) (zip tests hits)

-- whether each test is true at the last frame, from the hits before it
abbrev pub tests_hold : Start → List TriggerContents → History → List (List ℕ) → List Bool
tests_hold start tests history hits = map (λ t. test_holds start t.0 history t.1) (zip tests hits)

-- values that are all stepped, after the last frame
abbrev pub values_next : Start → List (List PartContents) → History → List ValueKept → List ValueKept
values_next start values history kept = map (λ v. value_next start v.0 history v.1) (zip values kept)

-- a member of which all is stepped, after the last frame
abbrev pub member_next : Start → MemberContents → History → MemberKept → MemberKept
member_next start m history kept = record {
  tests = tests_next start m.tests history kept.tests;
  values = values_next start m.values history kept.values;
}

-- members of which all is stepped, one beside the other, after the last frame
abbrev pub members_next : Start → List MemberContents → History → List MemberKept → List MemberKept
members_next start members history kept = map (λ m. member_next start m.0 history m.1) (zip members kept)

-- how many hits each test and then each value keeps
abbrev pub hit_lengths : MemberContents → List ℕ
hit_lengths m = map trigger_hits m.tests ++ map value_hits m.values

-- how many numbers each value keeps
abbrev pub number_lengths : MemberContents → List ℕ
number_lengths m = map length m.values

-- the hits that are kept, test by test and then value by value
abbrev pub hit_rows : MemberKept → List (List ℕ)
hit_rows kept = kept.tests ++ map (λ v. v.hits) kept.values

-- the numbers that are kept, value by value
abbrev pub number_rows : MemberKept → List (List ℕ)
number_rows kept = map (λ v. v.numbers) kept.values

-- what is kept of a member has the counts of its texts
pub record HasShape (m : MemberContents) (kept : MemberKept) : Type 0 where
  pub tests : map length kept.tests ≡ map trigger_hits m.tests
  pub hits : map length (map (λ v. v.hits) kept.values) ≡ map value_hits m.values
  pub numbers : map length (number_rows kept) ≡ number_lengths m

-- each of some members is kept as its texts say
abbrev pub HaveShapes : List MemberContents → List MemberKept → Type 0
HaveShapes members kept = AreBeside HasShape members kept

-- the hits of a member as a progress file has them, in one row
abbrev pub saved_hits : MemberKept → List ℕ
saved_hits kept = concat (hit_rows kept)

-- the numbers of a member as a progress file has them, in one row
abbrev pub saved_numbers : MemberKept → List ℕ
saved_numbers kept = concat (number_rows kept)

-- values from their hits and their numbers
abbrev pub values_of : (hits numbers : List (List ℕ)) → List ValueKept
values_of hits numbers = map (λ row. record { hits = row.0; numbers = row.1 }) (zip hits numbers)

-- what an opening keeps for a member, from the hits and the numbers of a progress file
abbrev pub opened_member : MemberContents → (hits numbers : List ℕ) → MemberKept
opened_member m hits numbers =
    let rows = rows_by (hit_lengths m) hits in
    record {
      tests = take (length m.tests) rows;
      values = values_of (drop (length m.tests) rows) (rows_by (number_lengths m) numbers);
    }

-- how many hits a member keeps
abbrev pub member_hits : MemberContents → ℕ
member_hits m = sum (hit_lengths m)

-- how many numbers a member keeps
abbrev pub member_numbers : MemberContents → ℕ
member_numbers m = sum (number_lengths m)

-- what an opening keeps for members one after the other, from the hits and the numbers of all of them
abbrev pub opened_members : List MemberContents → (hits numbers : List ℕ) → List MemberKept
opened_members members hits numbers =
    map (λ m. opened_member m.0 m.1.0 m.1.1)
    (zip members (zip (rows_by (map member_hits members) hits) (rows_by (map member_numbers members) numbers)))
