use Rattle.std.proofs.Common.{◌≡◌, ◌≤◌, List, length, map, sym, ◌∙◌, ap, subst, arith}
use Rattle.std.specs.Vec.{with_items}
use Rattle.std.proofs.lemmas.List.{with_items_is}
use Rattle.ra_set.specs.Contents.{set_contents}
use Rattle.ra_meaning.specs.Earned.{both_earned, earned_in, is_earned, items_with, with_earned}
use Rattle.ra_meaning.specs.Openings.{snapshot}
use Rattle.ra_items.specs.declared.item_run.ItemRun.{ItemRun}
use Rattle.ra_items.specs.AllRuns.{AreItemRuns, all_events}
use Rattle.ra_items.specs.Earning.{earned_runs}
use Rattle.ra_items.specs.Rests.{AreRests, AreTold, seen_by}
use Rattle.ra_items.proofs.EarnedRuns.{earned_are, earned_events, earned_rests, earned_seen, earned_told}
use Rattle.ra_items.proofs.RunsLemmas.{length_runs}
use Rattle.ra_display.specs.LineRests.{optional_presence_seen}
use Rattle.ra_runtime.specs.Courses.{CourseSeen}
use Rattle.ra_runtime.specs.Laid.{opening_by}
use Rattle.ra_runtime.specs.Seen.{course_seen, events_where, lines_where}
use Rattle.ra_runtime.proofs.EarnedCourses.{stands_too}
use Rattle.ra_runtime.proofs.course.Course.earn.Goals as goal

pub earn_runs-requires : goal.earn_runs-requires
earn_runs-requires c =
    let t = c.self.inside in
    let items = (set_contents t.set).items in
    omega (
      arith,
      c.requires,
      ap length c.deref_mut.ensures.value,
      length_runs t.table.nodes items t.runs.items c.self.invariant.runs,
      ap (λ (r : CourseSeen). length r.set.items) c.self.view_is,
    )

pub invariant_of-self : goal.invariant_of-self
invariant_of-self c =
    let t = c.self.inside in
    let set = set_contents t.set in
    let inv = c.self.invariant in
    let earned = c.args.earned.now in
    let news = c.earn_runs.new.runs in
    let same : (with_items t.runs news).items ≡ earned_runs earned t.runs.items =
    with_items_is t.runs news (c.earn_runs.auto.runs ∙ c.deref_mut.ensures.len)
    ∙ c.earn_runs.ensures ∙ ap (earned_runs earned) c.deref_mut.ensures.value in
    record {
      script = inv.script;
      limits = inv.limits;
      lazy = inv.lazy;
      names = inv.names;
      room = inv.room;
      over = inv.over;
      runs = subst (λ (rs : List ItemRun). AreItemRuns t.table.nodes set.items rs) (sym same)
          (earned_are t.table.nodes set.items earned t.runs.items inv.runs);
      rests = subst (λ (rs : List ItemRun). AreRests t.table.nodes t.table.values set.items rs t.rests) (sym same)
          (earned_rests t.table.nodes t.table.values set.items earned t.runs.items t.rests inv.runs inv.rests);
      told = λ came. subst (λ (rs : List ItemRun). AreTold set.items rs t.rests) (sym same)
          (earned_told set.items earned t.runs.items t.rests (inv.told came));
      presence = inv.presence;
      lines = inv.lines;
      digits = inv.digits;
      size = inv.size;
      small = inv.small;
    }

pub returns : goal.returns
returns c =
    let t = c.self.inside in
    let set = set_contents t.set in
    let earned = c.args.earned.now in
    let olds = t.runs.items in
    let news = c.earn_runs.new.runs in
    let runs = (with_items t.runs news).items in
    let many : length olds ≤ length earned = omega (
      arith,
      c.requires,
      length_runs t.table.nodes set.items olds c.self.invariant.runs,
      ap (λ (r : CourseSeen). length r.set.items) c.self.view_is,
    ) in
    let same : runs ≡ earned_runs earned olds =
    with_items_is t.runs news (c.earn_runs.auto.runs ∙ c.deref_mut.ensures.len)
    ∙ c.earn_runs.ensures ∙ ap (earned_runs earned) c.deref_mut.ensures.value in
    let seen : seen_by runs t.rests ≡ items_with
    (both_earned (map is_earned (seen_by olds t.rests)) earned) (seen_by olds t.rests) =
    ap (λ rs. seen_by rs t.rests) same ∙ earned_seen earned olds t.rests many in
    let told : all_events set.items runs ≡ all_events set.items olds =
    ap (all_events set.items) same ∙ earned_events set.items earned olds in
    let before = course_seen t in
    let more = both_earned (earned_in before.kept) earned in
    let presence = optional_presence_seen t.presence t.line_rests in
    let kept : opening_by t.count t.table (seen_by runs t.rests) presence
    ≡ with_earned before.kept more = (λ i. opening_by t.count t.table (seen i) presence) in
    rw (← c.self.view_is) (record {
      rest = λ i. record before
          { kept = kept i; events = events_where t.last (told i); lines = lines_where t.last (told i) };
      stands = λ image o history is.
          kept ∙ stands_too before.kept (snapshot set o history) more is
          ∙ ap (λ k. with_earned (snapshot set o history) (earned_in k)) (sym kept);
    })
