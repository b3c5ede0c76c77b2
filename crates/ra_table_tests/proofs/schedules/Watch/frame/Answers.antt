use Rattle.std.proofs.Common.{◌≡◌, ◌∙◌, ◌<◌, List, ap, length, rules, slice_index, sym, subst}
use Rattle.ra_indirect.specs.declared.node.Node.{Node}
use Rattle.ra_schedule.specs.Schedules.{IsHeard, ScheduleSeen}
use Rattle.ra_schedule.specs.Waking.{AreChanged}
use Rattle.ra_schedule.proofs.MembersRest.Frames.{heard_after, may_begin}
use Rattle.ra_table_tests.proofs.schedules.Watch.frame.Goals as goal

pub begin-requires : goal.begin-requires
begin-requires g c =
    let t = c.self.inside in
    let now = c.sample.new.self in
    let same = c.sample.ensures.taken.pool.0 in
    let changed = c.sample.ensures.changed in
    may_begin now t.table.values t.schedule (record {
      each = λ n within differ. changed.each n (subst (λ (ns : List Node). n < length ns) same within) differ;
      nodes = λ k within. subst (λ (ns : List Node). slice_index now.changed k < length ns)
          (sym same) (changed.nodes k within);
    })
    (subst (λ (ns : List Node). IsHeard ns t.table.values t.schedule) (sym same) c.self.invariant.heard) (search rules)

pub invariant_of-self : goal.invariant_of-self
invariant_of-self g c =
    let t = c.self.inside in
    let now = c.sample.new.self in
    let same = c.sample.ensures.taken.pool.0 in
    let begun = c.begin.ensures in
    let heard = subst (λ (ns : List Node). IsHeard ns t.table.values t.schedule) (sym same) c.self.invariant.heard in
    record {
      size = c.sample.ensures.taken.pool.1 ∙ c.self.invariant.size;
      agrees = c.sample.ensures.taken.agrees;
      heard = heard_after now t.table.values t.schedule c.begin.new.self c.end.new.self heard begun
          (ap (λ (s : ScheduleSeen). s.truths) c.end.ensures ∙ c.step-third.ensures.truths
          ∙ c.step-second.ensures.truths ∙ c.step-first.ensures.truths);
      due = ap (λ (s : ScheduleSeen). length s.readers.due) c.end.ensures ∙ c.step-third.ensures.due
          ∙ c.step-second.ensures.due ∙ c.step-first.ensures.due
          ∙ begun.woken.long ∙ c.self.invariant.due;
    }
