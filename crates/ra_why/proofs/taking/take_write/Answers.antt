use Rattle.std.proofs.Common.{length, ap, ◌∙◌}
use Rattle.ra_memory.proofs.Written.{length-written}
use Rattle.ra_why.specs.declared.watcher.Watcher.{Watcher}
use Rattle.ra_why.proofs.FollowLemmas.{more_watching, written_on}
use Rattle.ra_why.proofs.taking.take_write.Goals as goal

pub returns-clause-goes : goal.returns-clause-goes
returns-clause-goes c = λ m follows.
    written_on c.args.watcher.now c.write.new.self m follows c.args.at c.args.bytes.now c.write.ensures.written
    (length-written c.args.watcher.now.memory c.args.bytes.now c.args.at c.requires.within) c.write.ensures.stands

pub returns-clause-watches : goal.returns-clause-watches
returns-clause-watches c = λ most w. more_watching most c.write.new.self (c.write.ensures.watches most w)

pub returns-clause-size : goal.returns-clause-size
returns-clause-size c =
    ap (λ (w : Watcher). length w.memory) c.write.ensures.written
    ∙ length-written c.args.watcher.now.memory c.args.bytes.now c.args.at c.requires.within
