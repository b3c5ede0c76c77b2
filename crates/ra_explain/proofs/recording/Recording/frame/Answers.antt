use Rattle.std.proofs.Common.{◌≤◌, ◌+◌, ◌-◌, ◌*◌, false, length, replicate, ap, sym, subst, ◌∙◌, arith}
use Rattle.ra_condition.specs.Contents.{trigger_contents, trigger_hits, groups_of}
use Rattle.ra_member.proofs.LaidLemmas.{laid_fills, length_ops}
use Rattle.ra_explain.specs.Recorders.{RecorderSeen, TakesFrame, product_of, most_rows}
use Rattle.ra_explain.specs.Recordings.{RecordingSeen, over}
use Rattle.ra_explain.specs.RowLists.{RowsSeen, rows_from}
use Rattle.ra_explain.specs.Slots.{kept_by}
use Rattle.ra_explain.proofs.CurrentLemmas.{current_agrees}
use Rattle.ra_explain.proofs.FrameLemmas.{over_after}
use Rattle.ra_explain.proofs.SlotLemmas.{slots_kept, keeps_slots}
use Rattle.ra_explain.proofs.TakenLemmas.{takes_row, frames_on, stands_on, answers_on, places_on, somewhere_on}
use Rattle.ra_explain.proofs.TakenLemmas.{slots_same, slots_fit_on}
use Rattle.ra_explain.proofs.recording.Recording.frame.Goals as goal

pub fill-requires-clause-may : goal.fill-requires-clause-may
fill-requires-clause-may g c =
    laid_fills _ (groups_of (trigger_contents c.self.inside.text)) _ c.step-change.ensures.run.laid

pub fill-requires-clause-width : goal.fill-requires-clause-width
fill-requires-clause-width g c =
    ap length c.step-change.ensures.run.laid.ops ∙ length_ops (groups_of (trigger_contents c.self.inside.text))
    ∙ sym (ap (λ (r : RowsSeen). r.width) c.in_ok-add.ensures.ok ∙ c.self.invariant.width)

pub invariant_of-self-2 : goal.invariant_of-self-2
invariant_of-self-2 g c =
    let r = c.self.inside in
    let image = g.I.Image.bytes c.args.image.now in
    let t = trigger_contents r.text in
    let inv = c.self.invariant in
    let takes = takes_row r.rows c.add.new.self c.fill.new.self (replicate r.rows.width false) r.latest c.len.result
    inv.over c.sample.ensures.taken c.step-change.ensures.run c.step-change.ensures.steps c.in_ok-add.ensures.ok
    c.fill.ensures c.len.ensures in
    let product = subst (λ (o : RecordingSeen). product_of (over o image) ≤ most_rows) (sym c.self.view_is)
    (omega (arith, c.product-found.ensures, c.if-found-gt-MOST_ROWS.false)) in
    record {
      few = inv.few;
      over = over_after t r.table c.sample.new.self image inv.over c.sample.ensures.taken;
      run_too = c.step-change.ensures.run;
      width = ap (λ (s : RowsSeen). s.width) takes.grown ∙ inv.width;
      rows_few = subst (λ n. n * (trigger_hits t + 1) ≤ most_rows)
          (sym (frames_on takes (omega (arith, inv.latest)))) product;
      latest = omega (arith, c.len.ensures);
      somewhere = somewhere_on takes inv.somewhere;
      unlock = λ is. record {
        image = image;
        earlier = inv.somewhere.history;
        stands = stands_on takes inv.somewhere.history inv.somewhere.stands;
        unlocks = sym (answers_on takes inv.somewhere.history inv.somewhere.stands)
            ∙ sym c.unlocks-self-inside.ensures ∙ is;
      };
      sixteen = inv.sixteen;
      slots_fit = slots_fit_on takes r.slots.items inv.slots_fit;
    }

pub returns-clause-taken : goal.returns-clause-taken
returns-clause-taken g c =
    let r = c.self.inside in
    let image = g.I.Image.bytes c.args.image.now in
    let t = trigger_contents r.text in
    let inv = c.self.invariant in
    let takes = takes_row r.rows c.add.new.self c.fill.new.self (replicate r.rows.width false) r.latest c.len.result
    inv.over c.sample.ensures.taken c.step-change.ensures.run c.step-change.ensures.steps c.in_ok-add.ensures.ok
    c.fill.ensures c.len.ensures in
    let frames = frames_on takes (omega (arith, inv.latest)) in
    let slots = slots_same takes r.slots.items inv.slots_fit in
    let behind = c.fill.new.self.behind in
    let kept = kept_by c.sample.new.self c.step-change.new.self.trigger (rows_from behind c.len.result) in
    let new : RecorderSeen = record {
      trigger = t;
      image = image;
      frames = length behind - 1;
      kept = kept;
      slots = slots_kept t behind r.slots.items;
      unlocked = c.unlocks-self-inside.result;
    } in
    record {
      frame = subst (λ (old : RecordingSeen). TakesFrame (over old image) new new.unlocked) c.self.view_is (record {
        few = subst (λ (o : RecordingSeen). product_of (over o image) ≤ most_rows) (sym c.self.view_is)
            (omega (arith, c.product-found.ensures, c.if-found-gt-MOST_ROWS.false));
        rest = (λ i. record new { frames = frames i; slots = slots i });
        stands = stands_on takes;
        answers = λ history stands. c.unlocks-self-inside.ensures ∙ answers_on takes history stands;
      });
      reads = rw (← c.self.view_is) (record {
        unmarked = c.sample.ensures.reads.unmarked ∙ ap (λ cs. replicate (length cs) false) inv.over.cells;
        places = places_on takes;
        counted = c.sample.ensures.reads.counted;
      });
      counts = c.sample.ensures.counts;
    }

pub returns-clause-stays : goal.returns-clause-stays
returns-clause-stays g c =
    let rest = (returns-clause-taken g c).frame.rest in
    record {
      slots = keeps_slots _ _ (ap (λ (r : RecorderSeen). r.trigger) rest) (ap (λ (r : RecorderSeen). r.slots) rest);
      current = current_agrees _ c.sample.new.self _ (over_after _ c.self.inside.table c.sample.new.self _
          c.self.invariant.over c.sample.ensures.taken) c.sample.ensures.taken.agrees;
      size = c.sample.ensures.taken.pool.1 ∙ ap (λ (s : RecordingSeen). s.size) c.self.view_is;
    }
