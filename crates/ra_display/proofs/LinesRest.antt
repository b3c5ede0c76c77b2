-- A line that rested at a frame goes on to rest while it sees the same.
use Rattle.std.proofs.Common.{true, ◌≡◌, ℕ, ◌+◌, Bool, Option, None, Some, List, [], ◌∷◌, length, refl, sym, ◌∙◌, ap}
use Rattle.ra_memory.specs.Image.{History}
use Rattle.ra_memref.specs.Table.{TableSeen}
use Rattle.ra_memref.specs.Values.{Start}
use Rattle.ra_truths.specs.declared.comparison.Comparison.{Comparison}
use Rattle.ra_schedule.specs.Readers.{ReadersSeen}
use Rattle.ra_richpresence.specs.Contents.{LineContents}
use Rattle.ra_member.specs.declared.member.Member.{Member}
use Rattle.ra_member.specs.Members.{HasShape, MemberContents, MemberKept, member_next, tests_hold, tests_next}
use Rattle.ra_member.specs.Members.{values_next}
use Rattle.ra_member.specs.MemberRuns.{kept_by}
use Rattle.ra_member.proofs.Shaped.{member_shape}
use Rattle.ra_schedule.specs.declared.member_counts.MemberCounts.{MemberCounts}
use Rattle.ra_schedule.specs.Counted.{owed_member_by}
use Rattle.ra_schedule.specs.Counts.{counts_of}
use Rattle.ra_schedule.specs.Inputs.{MemberSeesSame}
use Rattle.ra_schedule.specs.Owing.{owed_member}
use Rattle.ra_schedule.specs.Waking.{Agrees, AreValuesAt, IsMemberTold, IsSomeFrame, first_frame}
use Rattle.ra_schedule.specs.Schedules.{as_hits_tell}
use Rattle.ra_schedule.proofs.MembersRest.Counted.{counted_owes_member, member_by_at_most}
use Rattle.ra_schedule.proofs.MembersRest.GoesOn.{tests_go_on, tests_say_on, values_go_on, tests_owe_nothing}
use Rattle.ra_schedule.proofs.MembersRest.GoesOn.{values_owe_nothing}
use Rattle.ra_schedule.proofs.MembersRest.Woken.{member_through}
use Rattle.ra_meaning.specs.LineMembers.{line_member}
use Rattle.ra_display.specs.LineRests.{LineGoesOn, LineRested, StepsLineSeen, StepsNoted, seen_line}
use Rattle.ra_meaning.specs.Presence.{line_holds}

-- hits tell no more than the most frames that they can count
pub seen_as_told : (run : Member) (c : MemberCounts) (owed : Option ℕ)
    → seen_line run c (as_hits_tell owed) ≡ seen_line run c owed
seen_as_told run c None = refl
seen_as_told run c (Some n) = member_by_at_most n (counts_of c) (kept_by run)

module _ (table : TableSeen) (line : LineContents) (seen : MemberKept) (rests : Bool) (quiet : rests ≡ true)
    (c : MemberCounts) (new : Member) (holds : Bool) (steps : StepsNoted table line seen rests c new holds)
    (start : Start) (image : List ℕ) (has : AreValuesAt table.nodes table.values (first_frame start image)) where
  abbrev m : MemberContents
  m = line_member line

  abbrev h : History
  h = image ∷ []

  abbrev old : MemberKept
  old = kept_by steps.mid

  abbrev now : MemberKept
  now = kept_by new

  rested : LineRested line c old now
  rested = steps.rested quiet

  shape : HasShape m old
  shape = member_shape table.nodes m steps.mid steps.is

  stepped : now ≡ member_next start m h old
  stepped = steps.steps.kept start h has

  tests_stepped : now.tests ≡ tests_next start m.tests h old.tests
  tests_stepped = ap (λ (k : MemberKept). k.tests) stepped

  values_stepped : now.values ≡ values_next start m.values h old.values
  values_stepped = ap (λ (k : MemberKept). k.values) stepped

  -- what the bits owe is what the hits before and after the step do
  owes : (n : ℕ) → owed_member_by n (counts_of c) now ≡ owed_member n old now
  owes n = ap (λ bits. owed_member_by n bits now) rested.bits ∙ counted_owes_member n old now

  -- nothing is owed at once
  pub line_starts : owed_member_by 0 (counts_of c) now ≡ now
  line_starts =
      let small = rested.small in
      let keeps = rested.keeps in
      let tests = tests_owe_nothing start h m.tests old.tests now.tests shape.tests tests_stepped
      small.tests keeps.tests in
      let values = values_owe_nothing start h m.values old.values now.values shape.hits
      values_stepped small.values keeps.values in
      owes 0 ∙ (λ i. record { tests = tests i; values = values i })

  module _ (start' : Start) (image' : List ℕ)
      (same : MemberSeesSame (first_frame start image) (first_frame start' image') m) (n : ℕ) where
    kept_later : member_next start' m (image' ∷ []) (owed_member n old now) ≡ owed_member (n + 1) old now
    kept_later =
        let small = rested.small in
        let keeps = rested.keeps in
        let tests = tests_go_on (first_frame start image) (first_frame start' image') m.tests
        old.tests now.tests shape.tests same.tests tests_stepped small.tests keeps.tests n in
        let values = values_go_on (first_frame start image) (first_frame start' image') m.values
        old.values now.values shape.hits same.values values_stepped small.values keeps.values n in
        (λ i. record { tests = tests i; values = values i })

    goes_on : member_next start' m (image' ∷ []) (owed_member_by n (counts_of c) now)
        ≡ owed_member_by (n + 1) (counts_of c) now
    goes_on = ap (member_next start' m (image' ∷ [])) (owes n) ∙ kept_later ∙ sym (owes (n + 1))

    holds_on : line_holds (tests_hold start' m.tests (image' ∷ []) (owed_member_by n (counts_of c) now).tests) ≡ holds
    holds_on =
        let small = rested.small in
        let keeps = rested.keeps in
        ap (λ (k : MemberKept). line_holds (tests_hold start' m.tests (image' ∷ []) k.tests)) (owes n)
        ∙ ap line_holds (tests_say_on (first_frame start image) (first_frame start' image') m.tests
        old.tests now.tests shape.tests same.tests tests_stepped small.tests keeps.tests n)
        ∙ sym (steps.steps.truth start h has)

  pub line_rests_on : LineGoesOn table.nodes table.values line c new holds
  line_rests_on = record {
    now = first_frame start image;
    at = has;
    kept = λ start' image' same n. goes_on start' image' same n;
    truth = λ start' image' same n. holds_on start' image' same n;
  }

-- a line that goes on to rest by earlier values, where it reads the same still
module _ (table : TableSeen) (values : List ℕ) (line : LineContents) (c : MemberCounts)
    (run : Member) (holds : Bool) (on : LineGoesOn table.nodes values line c run holds)
    (comparisons : List Comparison) (readers : ReadersSeen) (reader : ℕ)
    (told : IsMemberTold table.nodes comparisons readers (line_member line) reader)
    (same : Agrees (length table.nodes) comparisons readers reader values table.values) where
  sees : (start : Start) (image : List ℕ) → AreValuesAt table.nodes table.values
      (first_frame start image) → MemberSeesSame on.now (first_frame start image) (line_member line)
  sees start image has = told values table.values on.now (first_frame start image) on.at has same

  pub still_on : IsSomeFrame table → LineGoesOn table.nodes table.values line c run holds
  still_on frame =
      let next = first_frame frame.start frame.image in
      let first = sees frame.start frame.image frame.has in
      record {
        now = next;
        at = frame.has;
        kept = λ start image seen n. on.kept start image
            (member_through on.now next (first_frame start image) (line_member line) first seen) n;
        truth = λ start image seen n. on.truth start image
            (member_through on.now next (first_frame start image) (line_member line) first seen) n;
      }

  pub skipped : (n : ℕ) → StepsLineSeen table line (owed_member_by n (counts_of c) (kept_by run))
      (owed_member_by (n + 1) (counts_of c) (kept_by run)) holds
  skipped n = record {
    kept = λ start image has. sym (on.kept start image (sees start image has) n);
    truth = λ start image has. sym (on.truth start image (sees start image has) n);
  }
