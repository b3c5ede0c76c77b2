-- What counts are for, and a room that holds what a member keeps: docs/INTERNALS.md, "Members at rest".
use Rattle.std.specs.Prelude.{◌≡◌, ℕ, ◌<◌, Bool, true, List, [], length, map, slice_index_or, take}
use Rattle.ra_condition.specs.Contents.{counted_in, groups_of}
use Rattle.ra_group.specs.declared.form.Form.TheVariants.{InTrigger, InValue}
use Rattle.ra_value.specs.Steps.{ValueKept}
use Rattle.ra_member.specs.Members.{MemberContents, MemberKept}
use Rattle.ra_schedule.specs.declared.member_counts.MemberCounts.{MemberCounts}
use Rattle.ra_schedule.specs.declared.room.Room.{Room}
use Rattle.ra_schedule.specs.declared.room.ValueRoom.{ValueRoom}
use Rattle.ra_schedule.specs.declared.member_counts.Judged.{Judged}
use Rattle.ra_schedule.specs.Counted.{CountsSeen, MemberCounted, all_keep_by, counted_rows, free_in}
use Rattle.ra_schedule.specs.Owing.{AreHitsSmall, HaveOneShape}

-- counts with these conditions at whose hits nothing looks, and a bit for each condition
pub record IsFor (free : List Bool) (counts : CountsSeen) : Type 0 where
  pub is : counts.free ≡ free
  pub many : length counts.counted ≡ length free

-- at which hits of each row nothing looks
abbrev pub free_rows : List CountsSeen → List (List Bool)
free_rows counts = map (λ c. c.free) counts

-- which conditions of each row counted
abbrev pub bit_rows : List CountsSeen → List (List Bool)
bit_rows counts = map (λ c. c.counted) counts

-- which conditions of a member counted
abbrev pub counts_of : MemberCounts → MemberCounted
counts_of counts = record { tests = bit_rows counts.tests.items; values = bit_rows counts.values.items }

-- counts are those of a member's texts
pub record AreFor (m : MemberContents) (counts : MemberCounts) : Type 0 where
  pub tests : free_rows counts.tests.items ≡ map (λ t. free_in InTrigger (groups_of t)) m.tests
  pub values : free_rows counts.values.items ≡ map (λ parts. free_in InValue (map counted_in parts)) m.values
  pub test_bits : map length (bit_rows counts.tests.items) ≡ map length (free_rows counts.tests.items)
  pub value_bits : map length (bit_rows counts.values.items) ≡ map length (free_rows counts.values.items)

-- what a room holds of a value
abbrev pub value_held : ValueRoom → ValueKept
value_held room = record { hits = room.hits.items; numbers = room.numbers.items }

-- what the first rows of a room hold, as many as a member has
abbrev pub held : Room → MemberKept → MemberKept
held room kept = record {
  tests = take (length kept.tests) (map (λ row. row.items) room.tests.items);
  values = take (length kept.values) (map value_held room.values.items);
}

-- a room holds what a member keeps, whose hits are of 32 bits
pub record Holds (room : Room) (kept : MemberKept) : Type 0 where
  pub is : held room kept ≡ kept
  pub small : AreHitsSmall kept

-- beside each row of hits there is a bit for each, and whether nothing looks at it
pub record FitRows (counts : List CountsSeen) (hits : List (List ℕ)) : Type 0 where
  pub bits : map length (bit_rows counts) ≡ map length hits
  pub free : map length (free_rows counts) ≡ map length hits

-- a step is noted row by row: the bits say which hits changed, and it is said whether each stayed, or is free and one
-- more
pub record JudgesRows (old new : List CountsSeen) (befores afters : List (List ℕ)) (keeps : Bool) : Type 0 where
  pub free : free_rows new ≡ free_rows old
  pub bits : bit_rows new ≡ counted_rows befores afters
  pub keep : keeps ≡ true → (k : ℕ) → k < length afters
      → all_keep_by (slice_index_or (free_rows old) k []) (slice_index_or befores k [])
      (slice_index_or afters k []) ≡ true

-- a member may be judged: a room holds as much of what it kept before as it keeps now, and there is a bit for each of
-- its hits
pub record MayJudge (counts : MemberCounts) (room : Room) (kept : MemberKept) : Type 0 where
  pub shape : HaveOneShape (held room kept) kept
  pub tests : FitRows counts.tests.items kept.tests
  pub values : FitRows counts.values.items (map (λ v. v.hits) kept.values)

-- a member is judged by what it kept before and after a step
pub record Judges (old new : MemberCounts) (before after : MemberKept) (result : Judged) : Type 0 where
  pub tests : JudgesRows old.tests.items new.tests.items before.tests after.tests result.tests
  pub values : JudgesRows old.values.items new.values.items (map (λ v. v.hits) before.values)
      (map (λ v. v.hits) after.values) result.values
  pub numbers : result.values ≡ true → map (λ v. v.numbers) before.values ≡ map (λ v. v.numbers) after.values
