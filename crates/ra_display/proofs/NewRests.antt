-- New rests of lines, and rests that are given up: each line is told of what it sees, and there is room for what it
-- keeps.
use Rattle.std.proofs.Common.{◌≡◌, ℕ, true, List, [], length, map, get_or, refl, sym, ◌∙◌, ap, subst}
use Rattle.std.proofs.lemmas.List.{length-replicate}
use Rattle.ra_indirect.specs.declared.node.Node.{Node}
use Rattle.ra_richpresence.specs.Contents.{LineContents}
use Rattle.ra_member.specs.declared.member.Member.{Member}
use Rattle.ra_member.specs.Members.{MemberKept}
use Rattle.ra_member.specs.MemberRuns.{kept_by}
use Rattle.ra_member.proofs.SideBySide.{beside_length}
use Rattle.ra_schedule.specs.declared.member_counts.MemberCounts.{MemberCounts}
use Rattle.ra_schedule.specs.Inputs.{Instant, MemberSeesSame}
use Rattle.ra_schedule.specs.Readers.{ReadersSeen}
use Rattle.ra_truths.specs.Truths.{TruthsSeen}
use Rattle.ra_schedule.specs.Schedules.{ScheduleSeen, no_truths, nothing_owed, owed_at, seen_all}
use Rattle.ra_schedule.specs.Signals.{AreSignals, SignalsSeen}
use Rattle.ra_schedule.proofs.MembersRest.SeenAll.{heard_forgotten, heard_new, nothing_at_rest, nothing_owed_at}
use Rattle.ra_schedule.proofs.MembersRest.SeenAll.{seen_awake}
use Rattle.ra_schedule.proofs.MembersRest.Woken.{told_by_rows}
use Rattle.ra_display.specs.declared.line_rests.LineRests.{LineRests}
use Rattle.ra_meaning.specs.LineMembers.{line_member}
use Rattle.ra_display.specs.LineRests.{AreLineRests, AreLinesTold, HasLineRoom, HaveLineRooms, seen_line}
use Rattle.ra_display.proofs.LineSteps.{beside_at}

-- what each line of a schedule of which nothing is owed is seen to keep
pub awake_kept : (runs : List Member) (each : List MemberCounts) (schedule : ScheduleSeen)
    (readers : ReadersSeen) (truths : TruthsSeen) (clock : ℕ) → schedule
    ≡ nothing_owed readers truths clock → length each ≡ length runs
    → seen_all seen_line (owed_at schedule) runs each ≡ map kept_by runs
awake_kept runs each schedule readers truths clock is many =
    seen_awake Member MemberCounts MemberKept seen_line kept_by (λ run b. refl) (owed_at schedule)
    (λ k. ap (λ (s : ScheduleSeen). owed_at s k) is
    ∙ nothing_owed_at readers truths clock k) runs each many

-- rests that are made, by who reads what, with a bit for each condition of each line
pub all_made : (nodes : List Node) (values : List ℕ) (lines : List LineContents)
    (runs : List Member) (signals : SignalsSeen) (rests : LineRests)
    → AreSignals nodes (AreLinesTold nodes lines) (length lines) signals (length lines)
    → rests.schedule ≡ nothing_owed signals.readers (no_truths signals.nodes signals.comparisons) 0
    → HaveLineRooms lines rests.each.items → length rests.holds ≡ length lines
    → AreLineRests nodes values lines runs rests
all_made nodes values lines runs signals rests made is rooms holds = record {
  many = beside_length HasLineRoom lines rests.each.items rooms;
  holds = holds;
  heard = heard_new nodes values (AreLinesTold nodes lines) (length lines)
      (length lines) signals rests.schedule made is;
  told_of = λ k within line.
      told_by_rows (λ (now later : Instant). MemberSeesSame now later (line_member (get_or lines k
      line))) nodes (record {
        readers = signals.readers;
        truths = no_truths signals.nodes
            signals.comparisons;
        since = [];
        clock = 0;
      }) rests.schedule k
      (ap (λ (s : ScheduleSeen). s.readers.rows) is)
      (ap (λ (s : ScheduleSeen). s.truths.comparisons) is) (made.told k within line);
  room = λ k within line c. beside_at HasLineRoom lines rests.each.items rooms k line c within;
  at_rest = nothing_at_rest _ (length lines) signals.readers
      (no_truths signals.nodes signals.comparisons) 0 rests.schedule is (ap length made.due
      ∙ length-replicate (length lines) true);
}

-- rests of which none rests are those of any runs of their lines
pub forgotten_rests : (nodes : List Node) (values : List ℕ) (lines : List LineContents)
    (before runs : List Member) (old new : LineRests) → AreLineRests nodes values lines before old
    → new.each.items ≡ old.each.items → new.schedule
    ≡ nothing_owed old.schedule.readers old.schedule.truths old.schedule.clock
    → new.holds ≡ old.holds → AreLineRests nodes values lines runs new
forgotten_rests nodes values lines before runs old new are each is holds = record {
  many = ap length each ∙ are.many;
  holds = ap length holds ∙ are.holds;
  heard = heard_forgotten nodes values old.schedule new.schedule are.heard is;
  told_of = λ k within line.
      told_by_rows (λ (now later : Instant). MemberSeesSame now later
      (line_member (get_or lines k line))) nodes old.schedule new.schedule k
      (ap (λ (s : ScheduleSeen). s.readers.rows) is)
      (ap (λ (s : ScheduleSeen). s.truths.comparisons) is) (are.told_of k within line);
  room = λ k within line c. subst (λ (cs : List MemberCounts). HasLineRoom (get_or lines k line)
      (get_or cs k c)) (sym each) (are.room k within line c);
  at_rest = nothing_at_rest _ (length lines) old.schedule.readers
      old.schedule.truths old.schedule.clock new.schedule is are.at_rest.due_many;
}
