-- Which conditions counted a hit at a frame, and what they owe at rest: docs/INTERNALS.md, "Rest".
use Rattle.std.specs.Prelude.{◌≡◌, ℕ, ◌+◌, ◌/◌, Bool, false, if◌then◌else◌, not, ◌&&◌, ◌||◌, ◌==◌, List, ◌++◌, length}
use Rattle.std.specs.Prelude.{map, take, drop, slice_index, slice_index_or, zip}
use Rattle.std.specs.List.{flat_map, list_all, range_with_len}
use Rattle.ra_condition.specs.declared.condition.Condition.{Condition}
use Rattle.ra_group.specs.declared.form.Form.{Form}
use Rattle.ra_value.specs.Steps.{ValueKept}
use Rattle.ra_member.specs.Members.{MemberKept}
use Rattle.ra_schedule.specs.Groups.{is_free, plus}

-- whether nothing but a save looks at the hits of each condition, and whether each counted at the last step
pub record CountsSeen : Type 0 where
  pub free : List Bool
  pub counted : List Bool

-- how many bits half of them are
abbrev pub half : List Bool → ℕ
half bits = length bits / 2

-- the halves of bits, which stand one after the other
abbrev pub halves : List Bool → CountsSeen
halves bits = record { free = take (half bits) bits; counted = drop (half bits) bits }

-- whether the hits of each condition changed at a frame
abbrev pub counted : (before after : List ℕ) → List Bool
counted before after = map (λ j. not (slice_index after j == slice_index before j)) (range_with_len 0 (length after))

-- hits with n more where a condition counts, at most the greatest number of 32 bits
abbrev pub owed_by : ℕ → List Bool → List ℕ → List ℕ
owed_by n counts hits =
    map
    (λ j. if slice_index_or counts j false then plus n (slice_index hits j) else slice_index hits j)
    (range_with_len 0 (length hits))

-- whether nothing looks at the hits of each condition of some groups
abbrev pub free_in : Form → List (List Condition) → List Bool
free_in form groups = flat_map (λ cs. map (is_free form) cs) groups

-- hits stay at a frame, or are free and one more
abbrev pub keeps_by : (free : Bool) → (before after : ℕ) → Bool
keeps_by free before after = (after == before) || (free && (after == before + 1))

-- those of each condition do
abbrev pub all_keep_by : (free : List Bool) → (before after : List ℕ) → Bool
all_keep_by free before after =
    list_all
    (λ j. keeps_by (slice_index_or free j false) (slice_index before j) (slice_index after j))
    (range_with_len 0 (length after))

-- the conditions of a member's tests and of its values that counted a hit at a frame
pub record MemberCounted : Type 0 where
  pub tests : List (List Bool)
  pub values : List (List Bool)

-- row by row, whether hits changed at a frame
abbrev pub counted_rows : (befores afters : List (List ℕ)) → List (List Bool)
counted_rows befores afters = map (λ p. counted p.0 p.1) (zip befores afters)

-- which conditions of a member counted at a frame
abbrev pub counted_member : (old new : MemberKept) → MemberCounted
counted_member old new = record {
  tests = counted_rows old.tests new.tests;
  values = counted_rows (map (λ v. v.hits) old.values) (map (λ v. v.hits) new.values);
}

-- a value with n hits more where a condition counts
abbrev pub owed_value_by : ℕ → List Bool → ValueKept → ValueKept
owed_value_by n counts kept = record kept { hits = owed_by n counts kept.hits }

-- rows of hits with n more where a condition counts
abbrev pub owed_rows_by : ℕ → List (List Bool) → List (List ℕ) → List (List ℕ)
owed_rows_by n counts hits = map (λ p. owed_by n p.0 p.1) (zip counts hits)

-- the same of values
abbrev pub owed_values_by : ℕ → List (List Bool) → List ValueKept → List ValueKept
owed_values_by n counts kept = map (λ p. owed_value_by n p.0 p.1) (zip counts kept)

-- what is kept of a member, with n hits more where a condition counts
abbrev pub owed_member_by : ℕ → MemberCounted → MemberKept → MemberKept
owed_member_by n counts kept = record {
  tests = owed_rows_by n counts.tests kept.tests;
  values = owed_values_by n counts.values kept.values;
}

-- the bits of a member in one row, those of its tests first
abbrev pub bits_in : MemberCounted → List Bool
bits_in counts = flat_map (λ bits. bits) (counts.tests ++ counts.values)

-- there is a bit for each hit of a member
pub record CountsFit (counts : MemberCounted) (kept : MemberKept) : Type 0 where
  pub tests : map length counts.tests ≡ map length kept.tests
  pub values : map length counts.values ≡ map length (map (λ v. v.hits) kept.values)
