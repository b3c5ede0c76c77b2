use Rattle.std.proofs.Common.{ap, ◌∙◌, refl, arith, length}
use Rattle.ra_memref.proofs.UnderWay.{under_way, way_first, way_end, within_way, agreed_way, settled_way, way_on}
use Rattle.ra_memref.proofs.UnderWay.{way_taken, way_noted, way_counted}
use Rattle.ra_memref.proofs.DueLemmas.{settled_to}
use Rattle.ra_memref.proofs.numbers.Numbers.take_frame.Goals.{else-loop-due-test}
use Rattle.ra_memref.proofs.numbers.Numbers.take_frame.Goals.{then-loop-due-test+in-Some+then-left-eq0}
use Rattle.ra_memref.proofs.numbers.Numbers.take_frame.Goals as goal

pub loop-due-init : goal.loop-due-init
loop-due-init g c = record {
  way = rw c.clear.ensures (under_way c.requires.plan c.requires.sized c.requires.agreed c.requires.room);
  idle = c.requires.idle;
  start = λ all. refl;
  dues = c.requires.dues;
}

pub returns-in_default-clause-taken : goal.returns-in_default-clause-taken
returns-in_default-clause-taken g c =
    let done = c.loop-due.invariant in
    let none = c.next_from.ensures.none c.in_default.is in
    way_taken (way_end done.way (done.idle c.loop-due-test.true) done.dues none) (omega arith)

pub returns-in_default-clause-reads : goal.returns-in_default-clause-reads
returns-in_default-clause-reads g c =
    let done = c.loop-due.invariant in
    let none = c.next_from.ensures.none c.in_default.is in
    way_counted (way_end done.way (done.idle c.loop-due-test.true) done.dues none) (omega arith)

pub returns-in_default-clause-changed : goal.returns-in_default-clause-changed
returns-in_default-clause-changed g c = way_noted c.loop-due.invariant.way

pub take_due-changed-requires-clause-agreed : goal.take_due-changed-requires-clause-agreed
take_due-changed-requires-clause-agreed g c =
    let done = c.loop-due.invariant in
    agreed_way (way_first done.way (done.idle c.loop-due-test.true) done.dues c.in-Some.ensures.first)
    (omega (arith, c.in-Some.ensures.first.within, done.dues))

pub loop-due-preserved : goal.loop-due-preserved
loop-due-preserved g c =
    let done = c.loop-due.invariant in
    let e = c.take_due-changed.ensures in
    let way = way_first done.way (done.idle c.loop-due-test.true) done.dues c.in-Some.ensures.first in
    record {
      way = rw c.note.ensures (way_on way (omega (arith, c.in-Some.ensures.first.within, done.dues)) e.taken e.bytes
          e.counter e.reads e.changed);
      idle = λ some. e.idle;
      start = λ all. cc (all, c.loop-due-test.true);
      dues = e.dues ∙ ap length c.next_from.ensures.same ∙ done.dues;
    }

pub loop-number-init : goal.loop-number-init
loop-number-init g c =
    let done = c.loop-due.invariant in
    elim c.loop-due-test.branch [
      | else-loop-due-test w ↦ record {
        way = rw w.at-is done.way;
        settled = λ n below still same. absurd (omega (arith, below, w.at-is, done.start w.loop-due-test.false));
        dues = ap length w.due-is ∙ done.dues;
      }
      | then-loop-due-test+in-Some+then-left-eq0 w ↦
          let idle = done.idle w.loop-due-test.true in
          let way = way_first done.way idle done.dues w.in-Some.ensures.first in
          record {
            way = rw w.at-is way;
            settled = λ n below still. settled_to _ c.loop-due.due _ _ idle w.in-Some.number way.most n
                (omega (arith, below, w.at-is))
                (cc (w.clear_from.ensures.before n (omega (arith, below, w.at-is)), still));
            dues = ap length w.due-is ∙ w.clear_from.ensures.long ∙ ap length w.next_from.ensures.same ∙ done.dues;
          }
    ]

pub take_node-changed-requires-clause-within : goal.take_node-changed-requires-clause-within
take_node-changed-requires-clause-within g c = within_way c.loop-number.invariant.way c.loop-number-test.true

pub take_node-changed-requires-clause-agreed : goal.take_node-changed-requires-clause-agreed
take_node-changed-requires-clause-agreed g c = agreed_way c.loop-number.invariant.way c.loop-number-test.true

pub loop-number-preserved : goal.loop-number-preserved
loop-number-preserved g c =
    let done = c.loop-number.invariant in
    let e = c.take_node-changed.ensures in
    record {
      way = rw c.note-in-loop-number.ensures (way_on done.way c.loop-number-test.true e.taken e.bytes e.counter e.reads
          e.changed);
      settled = settled_way done.way c.loop-number-test.true e.taken _ done.settled;
      dues = done.dues;
    }

pub returns-clause-taken : goal.returns-clause-taken
returns-clause-taken g c = way_taken c.loop-number.invariant.way c.loop-number-test.false

pub returns-clause-changed : goal.returns-clause-changed
returns-clause-changed g c = way_noted c.loop-number.invariant.way

pub returns-clause-settled : goal.returns-clause-settled
returns-clause-settled g c = λ _ n below.
    c.loop-number.invariant.settled n (omega (arith, below, c.loop-number-test.false))

pub returns-clause-reads : goal.returns-clause-reads
returns-clause-reads g c = way_counted c.loop-number.invariant.way c.loop-number-test.false
