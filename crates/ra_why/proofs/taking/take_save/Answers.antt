use Rattle.std.proofs.Common.{ap}
use Rattle.ra_why.specs.declared.watcher.Watcher.{Watcher}
use Rattle.ra_why.proofs.FollowLemmas.{more_watching, saved_on}
use Rattle.ra_why.proofs.taking.take_save.Goals as goal

pub returns-clause-goes : goal.returns-clause-goes
returns-clause-goes c = λ m follows.
    saved_on c.args.watcher.now c.save.new.self m c.args.slot c.requires.watches.most follows c.requires.watches.watches
    c.in_ok-save.ensures.saved

pub returns-clause-watches : goal.returns-clause-watches
returns-clause-watches c = λ most w. more_watching most c.save.new.self (c.in_ok-save.ensures.watches most w)

pub returns-clause-text : goal.returns-clause-text
returns-clause-text c = ap (λ (w : Watcher). w.text) c.in_ok-save.ensures.saved.rest

pub returns-clause-size : goal.returns-clause-size
returns-clause-size c = ap (λ (w : Watcher). w.memory) c.in_ok-save.ensures.saved.rest
