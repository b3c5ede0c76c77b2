-- The lines that are due, stepped one after the other: what is seen of all of them after a frame.
use Rattle.std.proofs.Common.{◌≡◌, ℕ, zero, suc, ◌+◌, ◌<◌, ◌≤◌, not, Bool, true, if◌then◌else◌, Option, None, Some}
use Rattle.std.proofs.Common.{IfSome, List, [], ◌∷◌, length, get_or, set, slice_index_or, sym, ◌∙◌, ap, subst, arith}
use Rattle.std.proofs.Math.Path.{transport}
use Rattle.std.proofs.lemmas.List.{get_or_default, get_or-set_same, get_or-set_other, length-set}
use Rattle.ra_indirect.specs.declared.node.Node.{Node}
use Rattle.ra_memref.specs.Flags.{NoneSet, IsFirstSet}
use Rattle.ra_memref.specs.Table.{TableSeen}
use Rattle.ra_richpresence.specs.Contents.{LineContents}
use Rattle.ra_member.specs.declared.member.Member.{Member}
use Rattle.ra_member.specs.Members.{MemberKept, member_next, tests_hold}
use Rattle.ra_member.specs.Beside.{AreBeside}
use Rattle.ra_member.proofs.SideBySide.{beside_length}
use Rattle.ra_schedule.specs.declared.member_counts.MemberCounts.{MemberCounts}
use Rattle.ra_schedule.specs.Inputs.{Instant, MemberSeesSame}
use Rattle.ra_schedule.specs.Schedules.{Begins, ScheduleSeen, frames_since, next_count, owed_at, since_at}
use Rattle.ra_schedule.specs.Waking.{AreChanged, IsSomeFrame}
use Rattle.ra_schedule.proofs.MembersRest.Frames.{AreUnderWay, IsAlong, IsDone, Place, Took, along_begins, along_on}
use Rattle.ra_schedule.proofs.MembersRest.Frames.{done_now, heard_after, place_of, still_owed, still_there, took_frame}
use Rattle.ra_schedule.proofs.MembersRest.Frames.{under_way_on}
use Rattle.ra_schedule.proofs.MembersRest.Woken.{told_by_rows}
use Rattle.ra_truths.specs.Truths.{TruthsSeen}
use Rattle.ra_schedule.proofs.MembersRest.SeenAll.{all_steps, seen_at, seen_many}
use Rattle.ra_schedule.proofs.MembersRest.Turns.{element, taken_begins}
use Rattle.ra_schedule.specs.declared.room.Room.{Room}
use Rattle.ra_display.specs.declared.line_rests.LineRests.{LineRests}
use Rattle.ra_meaning.specs.LineMembers.{line_member, tests_in}
use Rattle.ra_meaning.specs.Presence.{line_holds}
use Rattle.ra_display.specs.LineRests.{AreLineRests, AreLinesSeen, HasLinePlace, HasLineRoom, IsLineSteppedAt}
use Rattle.ra_display.specs.LineRests.{LineGoesOn, StepsLineSeen, StepsNoted, seen_line, seen_lines}
use Rattle.ra_display.specs.PresenceRuns.{AreLineRuns, IsLineRun}
use Rattle.ra_display.proofs.LinesRest.{line_rests_on, line_starts, skipped, still_on}

-- what stands at the place of a line
pub record LineSpot : Type 0 where
  pub run : Member
  pub counts : MemberCounts
  pub holds : Bool

abbrev pub spots : List Member → LineRests → Member → MemberCounts → ℕ → LineSpot
spots runs rests m c k =
    record { run = get_or runs k m; counts = get_or rests.each.items k c; holds = slice_index_or rests.holds k true }

abbrev pub spot_seen : LineSpot → Option ℕ → MemberKept
spot_seen s owed = seen_line s.run s.counts owed

-- a line takes a frame, and there is room beside it
abbrev pub SpotSteps : TableSeen → LineContents → (old new : MemberKept) → LineSpot → Type 0
SpotSteps table line old new s = StepsLineSeen table line old new s.holds × HasLineRoom line s.counts

abbrev pub SpotOn : TableSeen → LineContents → LineSpot → Type 0
SpotOn table line s = LineGoesOn table.nodes table.values line s.counts s.run s.holds

abbrev pub LineTook : TableSeen → List LineContents → LineContents → List Member → LineRests
    → Member → MemberCounts → ℕ → Place LineSpot → Type 0
LineTook table lines line olds before m c =
    Took before.schedule LineSpot MemberKept spot_seen (λ k. SpotSteps table (get_or lines k line))
    (λ k. SpotOn table (get_or lines k line)) (spots olds before m c)

-- the lines in front of a place are gone through: those that were due are stepped, and all others are as they were
pub record AreLinesFar (table : TableSeen) (lines : List LineContents) (olds : List Member)
    (before : LineRests) (start : ScheduleSeen) (runs : List Member) (rests : LineRests)
    (at : ℕ) : Type 0 where
  pub runs_too : AreLineRuns table.nodes lines runs
  pub each_many : length rests.each.items ≡ length lines
  pub holds_many : length rests.holds ≡ length lines
  pub along : IsAlong start rests.schedule
  pub under_way : (line : LineContents) (m : Member) (c : MemberCounts)
      → AreUnderWay LineSpot (LineTook table lines line olds before m c) start
      (spots olds before m c) rests.schedule (spots runs rests m c) at

-- runs of which one is another one
runs_set : (nodes : List Node) (lines : List LineContents) (runs : List Member) (k : ℕ)
    (run : Member) → AreLineRuns nodes lines runs
    → ((line : LineContents) → IsLineRun nodes (get_or lines k line) run) → AreLineRuns nodes lines (set runs k run)
runs_set nodes [] [] k run are is = tt
runs_set nodes [] (r ∷ runs) k run are is = absurd are
runs_set nodes (line ∷ lines) [] k run are is = absurd are
runs_set nodes (line ∷ lines) (r ∷ runs) zero run are is = (is line, are.1)
runs_set nodes (line ∷ lines) (r ∷ runs) (suc k) run are is = (are.0, runs_set nodes lines runs k run are.1 is)

-- what stands side by side at a place
pub beside_at : {X Y : Type 0} (has : X → Y → Type 0) (xs : List X) (ys : List Y)
    → AreBeside has xs ys → (k : ℕ) (d : X) (e : Y) → k < length xs
    → has (get_or xs k d) (get_or ys k e)
beside_at has [] ys are k d e within = absurd (omega arith)
beside_at has (x ∷ xs) [] are k d e within = absurd are
beside_at has (x ∷ xs) (y ∷ ys) are zero d e within = are.0
beside_at has (x ∷ xs) (y ∷ ys) are (suc k) d e within = beside_at has xs ys are.1 k d e (omega arith)

-- one of the runs
pub run_at : (nodes : List Node) (lines : List LineContents) (runs : List Member)
    → AreLineRuns nodes lines runs → (k : ℕ) (d : LineContents) (e : Member) → k < length lines
    → IsLineRun nodes (get_or lines k d) (get_or runs k e)
run_at nodes lines runs are k d e within = beside_at (IsLineRun nodes) lines runs are k d e within

pub length_runs : (nodes : List Node) (lines : List LineContents) (runs : List Member)
    → AreLineRuns nodes lines runs → length runs ≡ length lines
length_runs nodes lines runs are = beside_length (IsLineRun nodes) lines runs are

-- a line that was stepped took the frame
line_done : (table : TableSeen) → IsSomeFrame table → (line : LineContents) (next : ℕ)
    (old : MemberKept) (s : LineSpot) (rests : Bool) → HasLineRoom line s.counts
    → StepsNoted table line old rests s.counts s.run s.holds
    → IsDone LineSpot MemberKept spot_seen (SpotSteps table line) (SpotOn table line) next old
    (record { spot = s; since = if rests then Some next else None; due = not rests })
line_done table frame line next old s rests room steps =
    done_now LineSpot MemberKept spot_seen (SpotSteps table line) (SpotOn table line) next old s rests (
      record {
        kept = λ start image has. steps.steps.kept start (image ∷ []) has
            ∙ ap (λ k. member_next start (line_member line) (image ∷ []) k) steps.kept;
        truth = λ start image has. steps.steps.truth start (image ∷ []) has ∙ ap (λ
            (k : MemberKept). line_holds
            (tests_hold start (tests_in line.test) (image ∷ []) k.tests)) steps.kept;
      },
      room,
    )
    (λ yes. (
      line_starts table line old rests yes s.counts s.run s.holds steps frame.start frame.image frame.has,
      line_rests_on table line old rests yes s.counts s.run s.holds steps frame.start frame.image frame.has,
    ))

module _ (table : TableSeen) (frame : IsSomeFrame table) (lines : List LineContents)
    (olds : List Member) (before : LineRests) (start : ScheduleSeen) (values : List ℕ)
    (were : AreLineRests table.nodes values lines olds before) (were_runs : AreLineRuns table.nodes
    lines olds) (begun : Begins table before.schedule start) where
  abbrev Far : List Member → LineRests → ℕ → Type 0
  Far runs rests at = AreLinesFar table lines olds before start runs rests at

  pub lines_begin : (room : Room) → Far olds
      (record { each = before.each; schedule = start; holds = before.holds; room = room }) 0
  lines_begin room = record {
    runs_too = were_runs;
    each_many = were.many;
    holds_many = were.holds;
    along = along_begins start begun.awake;
    under_way = λ line m c. taken_begins (Place LineSpot) start.readers.due (place_of LineSpot start
        (spots olds before m c)) (LineTook table lines line olds before m c);
  }

  module _ (runs : List Member) (rests : LineRests) (at : ℕ) (far : Far runs rests at) where
    due_many : length rests.schedule.readers.due ≡ length lines
    due_many = far.along.due_many ∙ begun.woken.long ∙ were.at_rest.due_many

    since_many : length rests.schedule.since ≡ length lines
    since_many = far.along.since_many ∙ ap length begun.since ∙ were.at_rest.since_many

    runs_many : length runs ≡ length lines
    runs_many = length_runs table.nodes lines runs far.runs_too

    module _ (place : ℕ) (first : IsFirstSet rests.schedule.readers.due at place) where
      pub line_here : place < length lines
      line_here = omega (arith, first.within, due_many)

      m : Member
      m = element runs place (omega (arith, line_here, runs_many))

      a_line : LineContents
      a_line = element lines place line_here

      there : (line : LineContents) (d : Member) (c : MemberCounts) → place_of LineSpot
          rests.schedule (spots runs rests d c) place
          ≡ place_of LineSpot start (spots olds before d c) place
      there line d c =
          still_there LineSpot (LineTook table lines line olds before d c) start
          (spots olds before d c) rests.schedule (spots runs rests d c) at place far.along
          (far.under_way line d c) first

      pub has_place : HasLinePlace lines rests place
      has_place = record {
        many = far.each_many;
        due = due_many;
        holds = far.holds_many;
        rooms = λ line c. subst (λ (p : Place LineSpot). HasLineRoom (get_or lines place line)
            p.spot.counts) (sym (there line m c)) (were.room place line_here line c);
      }

      module _ (news : List Member) (after : LineRests)
          (steps : IsLineSteppedAt table lines place runs news rests after) where
        new_spot : (d : Member) (c : MemberCounts)
            → record { run = steps.run; counts = steps.counts; holds = steps.holds }
            ≡ spots news after d c place
        new_spot d c =
            let run = sym (ap (λ rs. get_or rs place d) steps.runs
            ∙ get_or-set_same runs place steps.run d (omega (arith, line_here, runs_many))) in
            let had = sym (ap (λ bs. get_or bs place c) steps.each ∙ get_or-set_same
            rests.each.items place steps.counts c (omega (arith, line_here, far.each_many))) in
            let holds = sym (ap (λ hs. get_or hs place true) steps.all ∙ get_or-set_same rests.holds
            place steps.holds true (omega (arith, line_here, far.holds_many))) in
            (λ i. record { run = run i; counts = had i; holds = holds i })

        other_spot : (d : Member) (c : MemberCounts) (k : ℕ) → (k ≡ place → ⊥)
            → spots news after d c k ≡ spots runs rests d c k
        other_spot d c k other =
            let run = ap (λ rs. get_or rs k d) steps.runs ∙ get_or-set_other runs place k steps.run d other in
            let had = ap (λ bs. get_or bs k c) steps.each
            ∙ get_or-set_other rests.each.items place k steps.counts c other in
            let holds = ap (λ hs. get_or hs k true) steps.all
            ∙ get_or-set_other rests.holds place k steps.holds true other in
            (λ i. record { run = run i; counts = had i; holds = holds i })

        was : (line : LineContents) (d : Member) (c : MemberCounts)
            → seen_line (get_or runs place d) (get_or rests.each.items place c)
            (owed_at rests.schedule place) ≡ seen_line (get_or olds place d)
            (get_or before.each.items place c) (owed_at before.schedule place)
        was line d c =
            let owed = still_owed LineSpot (LineTook table lines line olds before d c) start
            (spots olds before d c) rests.schedule (spots runs rests d c) at place far.along
            (far.under_way line d c) first in
            (λ i. spot_seen (there line d c i).spot (owed i)) ∙ (λ i. seen_line
            (get_or olds place d) (get_or before.each.items place c) (begun_owed place i))
          where
            begun_owed : (k : ℕ) → owed_at start k ≡ owed_at before.schedule k
            begun_owed k = (λ i. frames_since (begun.clock i) (slice_index_or (begun.since i) k None))

        done : (line : LineContents) (d : Member) (c : MemberCounts)
            → LineTook table lines line olds before d c place
            (record {
              spot = spots news after d c place;
              since = if steps.rests then Some (next_count before.schedule.clock) else None;
              due = not steps.rests;
            })
        done line d c =
            subst (λ (s : LineSpot). LineTook table lines line olds before d c place
            (record {
              spot = s;
              since = if steps.rests then Some (next_count before.schedule.clock) else None;
              due = not steps.rests;
            })) (new_spot d c)
            (line_done table frame (get_or lines place line) (next_count before.schedule.clock)
            (seen_line (get_or olds place d) (get_or before.each.items place c)
            (owed_at before.schedule place))
            (record { run = steps.run; counts = steps.counts; holds = steps.holds }) steps.rests (steps.room line)
            (subst (λ k. StepsNoted table (get_or lines place line) k steps.rests steps.counts
            steps.run steps.holds) (was line d c) (steps.steps line d c)))

        pub lines_on : Far news after (place + 1)
        lines_on = record {
          runs_too = subst (AreLineRuns table.nodes lines) (sym steps.runs)
              (runs_set table.nodes lines runs place steps.run far.runs_too steps.is);
          each_many = ap length steps.each ∙ length-set rests.each.items place steps.counts ∙ far.each_many;
          holds_many = ap length steps.all ∙ length-set rests.holds place steps.holds ∙ far.holds_many;
          along = along_on start rests.schedule after.schedule place steps.rests far.along first.within
              steps.known steps.schedule;
          under_way = λ line d c.
              under_way_on LineSpot (LineTook table lines line olds before d c) start
              (spots olds before d c) rests.schedule (spots runs rests d c) at place far.along
              (far.under_way line d c) first
              after.schedule (spots news after d c) steps.rests (next_count before.schedule.clock)
              (omega (arith, line_here, since_many)) steps.schedule
              (ap next_count (far.along.clock ∙ begun.clock)) (other_spot d c) (done line d c);
        }

    -- at the end
    module _ (changed : AreChanged table values)
        (none : NoneSet rests.schedule.readers.due at (length rests.schedule.readers.due)) where
      known : (k : ℕ) → k < length lines → (line : LineContents) (m : Member) (c : MemberCounts)
          → LineTook table lines line olds before m c k
          (place_of LineSpot rests.schedule (spots runs rests m c) k)
      known k within line m c =
          took_frame table values changed (length lines) before.schedule start were.heard begun
          LineSpot MemberKept spot_seen (λ k. SpotSteps table (get_or lines k line))
          (λ k. SpotOn table (get_or lines k line)) (spots olds before m c)
          _ were.at_rest
          (λ k within was quiet n. (
            skipped table values (get_or lines k line) (get_or before.each.items k c)
                (get_or olds k m) _ (was line c m) before.schedule.truths.comparisons
                before.schedule.readers k (were.told_of k within line) quiet n,
            were.room k within line c,
          ))
          (λ k within was quiet. still_on table values (get_or lines k line)
          (get_or before.each.items k c) (get_or olds k m) _ (was line c m)
          before.schedule.truths.comparisons before.schedule.readers k
          (were.told_of k within line) quiet frame)
          rests.schedule (spots runs rests m c) at far.along (far.under_way line m c) none k within

      a_run : (k : ℕ) → k < length lines → Member
      a_run k within = element runs k (omega (arith, within, runs_many))

      a_counts : (k : ℕ) → k < length lines → MemberCounts
      a_counts k within = element rests.each.items k (omega (arith, within, far.each_many))

      abbrev pub lines_after : LineRests
      lines_after =
          record {
            each = rests.each;
            schedule = record rests.schedule { clock = next_count rests.schedule.clock };
            holds = rests.holds;
            room = rests.room;
          }

      next_is : next_count before.schedule.clock ≡ next_count rests.schedule.clock
      next_is = sym (ap next_count (far.along.clock ∙ begun.clock))

      pub rests_after : AreLineRests table.nodes table.values lines runs lines_after
      rests_after = record {
        many = far.each_many;
        holds = far.holds_many;
        heard = heard_after table values before.schedule start lines_after.schedule were.heard begun far.along.truths;
        told_of = λ k within line.
            told_by_rows (λ (now later : Instant). MemberSeesSame now later
            (line_member (get_or lines k line))) table.nodes before.schedule
            lines_after.schedule k (far.along.rows ∙ begun.woken.rows)
            (ap (λ (t : TruthsSeen). t.comparisons) far.along.truths ∙ begun.comparisons)
            (were.told_of k within line);
        room = λ k within line c. (known k within line (a_run k within) c).steps.1;
        at_rest = record {
          due_many = due_many;
          since_many = since_many;
          early = λ k within.
              subst (λ n. IfSome (slice_index_or rests.schedule.since k None) (λ since. since ≤ n))
              next_is (known k within (element lines k within) (a_run k within)
              (a_counts k within)).early;
          rests = λ k within quiet. (known k within (element lines k within) (a_run k within)
              (a_counts k within)).rests quiet;
          known = λ k within quiet. far.along.awake k quiet;
          on = λ k within quiet line c run. (known k within line run c).on quiet;
        };
      }

      pub seen_after : AreLinesSeen table lines (seen_lines olds before) (seen_lines runs lines_after) rests.holds
      seen_after =
          all_steps LineContents MemberKept Bool (StepsLineSeen table) lines
          (seen_lines olds before) (seen_lines runs lines_after) rests.holds
          (seen_many Member MemberCounts MemberKept seen_line
          (owed_at before.schedule) olds before.each.items (were.many ∙ sym olds_many) ∙ olds_many)
          (seen_many Member MemberCounts MemberKept seen_line (owed_at lines_after.schedule) runs
          rests.each.items (far.each_many ∙ sym runs_many) ∙ runs_many) far.holds_many
          (λ k within line old new said.
          let m = a_run k within in
          let c = a_counts k within in
          let at_old = seen_at Member MemberCounts MemberKept seen_line
          (owed_at before.schedule) k olds before.each.items m c old
          (omega (arith, within, olds_many)) (were.many ∙ sym olds_many) in
          let at_new = seen_at Member MemberCounts MemberKept seen_line
          (owed_at lines_after.schedule) k runs rests.each.items m c new
          (omega (arith, within, runs_many)) (far.each_many ∙ sym runs_many) in
          let later : spot_seen (spots runs rests m c k)
          (frames_since (next_count before.schedule.clock) (since_at rests.schedule k))
          ≡ spot_seen (spots runs rests m c k) (owed_at lines_after.schedule k) = ap (λ n. spot_seen
          (spots runs rests m c k) (frames_since n (since_at rests.schedule k))) next_is in
          transport (λ i. StepsLineSeen table (get_or lines k line) (sym at_old i)
          ((later ∙ sym at_new) i) (same_holds k within said i))
          (known k within line m c).steps.0)
        where
          olds_many : length olds ≡ length lines
          olds_many = length_runs table.nodes lines olds were_runs

          same_holds : (k : ℕ) → k < length lines → (said : Bool)
              → slice_index_or rests.holds k true ≡ get_or rests.holds k said
          same_holds k within said = get_or_default rests.holds k true said (omega (arith, within, far.holds_many))
