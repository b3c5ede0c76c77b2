use Rattle.std.proofs.Common.{ap}
use Rattle.ra_truths.specs.Kept.{KeptSeen}
use Rattle.ra_truths.specs.Seen.{truths_seen}
use Rattle.ra_truths.proofs.TakingLemmas.{takes_seen}
use Rattle.ra_truths.proofs.truths.Truths.take.Goals.{then-self+then-changed-self, else-self}
use Rattle.ra_truths.proofs.truths.Truths.take.Goals as goal

pub returns : goal.returns
returns c = elim c.if-self.branch [
  | then-self+then-changed-self w ↦ rw w.self-inside-is
      (takes_seen (truths_seen c.self.inside) c.args.self.now c.self.view_is c.clear.new.self w.settle_changed.new.kept
      c.args.table.now w.deref.result.now w.deref.ensures.value (ap (λ (k : KeptSeen). k.truths) c.clear.ensures)
      w.settle_changed.ensures.settled w.settle_changed.ensures.settles)
  | else-self w ↦ rw w.self-inside-is
      (takes_seen (truths_seen c.self.inside) c.args.self.now c.self.view_is c.clear.new.self w.settle_all.new.kept
      c.args.table.now w.deref-else-self.result.now w.deref-else-self.ensures.value
      (ap (λ (k : KeptSeen). k.truths) c.clear.ensures) w.settle_all.ensures.settled w.settle_all.ensures.settles)
]
