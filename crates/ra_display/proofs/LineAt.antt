-- The line at a place, stepped.
use Rattle.std.proofs.Common.{◌≡◌, ℕ, ◌<◌, Bool, true, Option, List, length, map, get_or, set, slice_set, sym}
use Rattle.std.proofs.Common.{◌∙◌, ap, subst}
use Rattle.std.proofs.Common.{arith}
use Rattle.std.proofs.Math.Path.{transport}
use Rattle.std.proofs.lemmas.List.{get_or-map, get_or_default, length-map}
use Rattle.ra_indirect.specs.declared.node.Node.{Node}
use Rattle.ra_memref.specs.Table.{TableSeen}
use Rattle.ra_richpresence.specs.declared.line.Line.{Line}
use Rattle.ra_richpresence.specs.Contents.{LineContents, line_contents}
use Rattle.ra_member.specs.declared.member.Member.{Member}
use Rattle.ra_schedule.specs.declared.member_counts.MemberCounts.{MemberCounts}
use Rattle.ra_schedule.specs.Schedules.{as_hits_tell, noted_at, owed_at}
use Rattle.ra_display.specs.declared.line_rests.LineRests.{LineRests}
use Rattle.ra_display.specs.LineRests.{HasLineRoom, IsLineSteppedAt, StepsNoted, seen_line}
use Rattle.ra_display.specs.PresenceRuns.{AreLineRuns, IsLineRun}
use Rattle.ra_display.proofs.LineSteps.{run_at}
use Rattle.ra_display.proofs.LinesRest.{seen_as_told}

-- the contents of the line at a place
pub contents_at : (lines : List Line) (place : ℕ) (line : Line) (d : LineContents)
    → place < length lines → line ≡ get_or lines place line
    → get_or (map line_contents lines) place d ≡ line_contents line
contents_at lines place line d within is =
    get_or-map line_contents lines place line d within ∙ ap line_contents (sym is)

-- the run at a place is that of the line at it
pub own_run : (nodes : List Node) (lines : List Line) (runs : List Member) (place : ℕ) (line : Line)
    (run : Member) → place < length lines → line ≡ get_or lines place line
    → AreLineRuns nodes (map line_contents lines) runs → IsLineRun nodes (line_contents line) (get_or runs place run)
own_run nodes lines runs place line run within is are =
    subst (λ (l : LineContents). IsLineRun nodes l (get_or runs place run))
    (contents_at lines place line (line_contents line) within is)
    (run_at nodes (map line_contents lines) runs are place (line_contents line) run
    (omega (arith, within, length-map lines line_contents)))

module _ (table : TableSeen) (lines : List Line) (place : ℕ) (olds news : List Member)
    (old new : LineRests) (line : Line) (was run : Member) (had counts : MemberCounts)
    (owed : Option ℕ) (rests holds : Bool)
    (within : place < length lines) (is : line ≡ get_or lines place line)
    (within_runs : place < length olds) (within_each : place < length old.each.items)
    (was_is : was ≡ get_or olds place was) (had_is : had ≡ get_or old.each.items place had)
    (owed_is : owed ≡ as_hits_tell (owed_at old.schedule place)) where
  pub stepped_at : news ≡ set olds place run → new.each.items ≡ set old.each.items place counts →
      new.schedule ≡ noted_at place rests old.schedule → (rests ≡ true → old.schedule.truths.known ≡ true)
      → new.holds ≡ slice_set old.holds place holds
      → IsLineRun table.nodes (line_contents line) run → HasLineRoom (line_contents line) counts
      → StepsNoted table (line_contents line) (seen_line was had owed) rests counts run holds
      → IsLineSteppedAt table (map line_contents lines) place olds news old new
  stepped_at runs each schedule known all one room steps = record {
    run = run;
    counts = counts;
    rests = rests;
    holds = holds;
    runs = runs;
    each = each;
    schedule = schedule;
    known = known;
    all = all;
    is = λ d. subst (λ (l : LineContents). IsLineRun table.nodes l run)
        (sym (contents_at lines place line d within is)) one;
    room = λ d. subst (λ (l : LineContents). HasLineRoom l counts)
        (sym (contents_at lines place line d within is)) room;
    steps = λ d r b.
        let same : was ≡ get_or olds place r = was_is ∙ get_or_default olds place was r within_runs in
        let same_too : had ≡ get_or old.each.items place b =
        had_is ∙ get_or_default old.each.items place had b within_each in
        let seen : seen_line was had owed ≡ seen_line (get_or olds place r)
        (get_or old.each.items place b) (owed_at old.schedule place) =
        ap (seen_line was had) owed_is ∙ seen_as_told was had (owed_at old.schedule place)
        ∙ (λ i. seen_line (same i) (same_too i) (owed_at old.schedule place)) in
        transport (λ i. StepsNoted table (sym (contents_at lines place line d within is) i)
        (seen i) rests counts run holds) steps;
  }
