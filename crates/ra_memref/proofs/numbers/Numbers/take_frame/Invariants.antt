use Rattle.std.proofs.Common.{◌≡◌, true, false, length, ◌-◌}
use Rattle.ra_memref.specs.Due.{AreIdle}
use Rattle.ra_memref.proofs.UnderWay.{IsUnderWay}
use Rattle.ra_memref.proofs.DueLemmas.{AreSettledTo}
use Rattle.ra_memref.proofs.numbers.Numbers.take_frame.Given as goal

abbrev pub invariant-loop-due : goal.invariant-loop-due
invariant-loop-due g l = record {
  way : IsUnderWay l.plan l.fn.self l.self (record {
    bytes = g.I.Image.bytes l.fn.image;
    reads = g.I.Image.reads l.fn.image;
    counter = g.I.Image.counter l.fn.image;
  }) (record {
    bytes = g.I.Image.bytes l.image;
    reads = g.I.Image.reads l.image;
    counter = g.I.Image.counter l.image;
  }) l.at l.changes;
  idle : l.plan.all ≡ false → AreIdle l.plan.nodes.now l.due l.self l.plan.slots.now;
  start : l.plan.all ≡ true → l.at ≡ 0;
  dues : length l.due ≡ length l.plan.nodes.now;
}

abbrev pub decreases-loop-due : goal.decreases-loop-due
decreases-loop-due g l = length l.plan.nodes.now - l.at

abbrev pub invariant-loop-number : goal.invariant-loop-number
invariant-loop-number g l = record {
  way : IsUnderWay l.plan l.fn.self l.self (record {
    bytes = g.I.Image.bytes l.fn.image;
    reads = g.I.Image.reads l.fn.image;
    counter = g.I.Image.counter l.fn.image;
  }) (record {
    bytes = g.I.Image.bytes l.image;
    reads = g.I.Image.reads l.image;
    counter = g.I.Image.counter l.image;
  }) l.number l.changes;
  settled : AreSettledTo l.plan.nodes.now l.due l.self l.plan.slots.now l.number;
  dues : length l.due ≡ length l.plan.nodes.now;
}
