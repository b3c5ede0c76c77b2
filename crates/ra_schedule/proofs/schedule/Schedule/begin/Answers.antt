use Rattle.std.proofs.Common.{inl, inr, slice_index, refl, sym, ◌∙◌, subst, arith}
use Rattle.std.proofs.lemmas.Bool.{cases_eq, eq-eqb, ltb-true}
use Rattle.ra_schedule.specs.Schedules.{Begins, ScheduleSeen, signals_at}
use Rattle.ra_schedule.proofs.MembersRest.Woken.{not_at_end, woken_all, woken_some}
use Rattle.ra_schedule.proofs.schedule.Schedule.begin.Goals.{then-many, else-many}
use Rattle.ra_schedule.proofs.schedule.Schedule.begin.Goals as goal

pub wake-requires-clause-comparisons : goal.wake-requires-clause-comparisons
wake-requires-clause-comparisons c = λ k within.
    let flipped = c.take.new.self.flipped in
    let one = c.take.ensures.only (slice_index flipped k) (record { place = k; within = within; here = refl }) in
    omega (arith, one.0, c.self.invariant.rows, c.take.ensures.nodes)

pub returns : goal.returns
returns c =
    let s = c.self.inside in
    let after : ScheduleSeen =
    record { readers = c.wake.new.readers; truths = c.take.new.self; since = s.since.items; clock = s.clock } in
    let signals = signals_at c.args.table.now c.take.new.self in
    subst (Begins c.args.table.now c.args.self.now) (sym c.note_many.ensures)
    (subst (λ (old : ScheduleSeen). Begins c.args.table.now old after) c.self.view_is (record {
      comparisons = c.take.ensures.comparisons;
      nodes = c.take.ensures.nodes;
      truths = λ known. c.take.ensures;
      awake = λ k quiet. c.take.ensures.known;
      woken = elim c.if-many.branch [
        | then-many w ↦ woken_all s.clock signals s.readers c.wake.new.readers
            (c.wake.ensures.all (w.all-is ∙ w.if-many.true))
        | else-many w ↦ elim (cases_eq s.clock 18446744073709551615) [
          | inl end ↦ woken_all s.clock signals s.readers c.wake.new.readers
              (c.wake.ensures.all (w.all-is ∙ eq-eqb s.clock 18446744073709551615 end))
          | inr apart ↦
              woken_some s.clock signals s.readers c.wake.new.readers (omega (arith, apart))
              (c.wake.ensures.wakes (w.all-is ∙ not_at_end s.clock apart))
        ]
      ];
      only = λ known. elim c.if-many.branch [
        | then-many w ↦ λ few small. absurd (omega (arith, few, ltb-true _ _ (sym w.if-many.ensures)))
        | else-many w ↦ λ few small r quiet due. (c.wake.ensures.wakes (w.all-is
            ∙ not_at_end s.clock (λ same. omega (arith, same, small)))).only r quiet due
      ];
      since = refl;
      clock = refl;
    }))
