use Rattle.std.proofs.Common.{arith, ◌≡◌, ◌∙◌, ap, None, replicate, length}
use Rattle.std.proofs.lemmas.Bool.Decides.{nat_tests}
use Rattle.ra_set.specs.Contents.{set_contents}
use Rattle.ra_meaning.specs.Order.{shape_of}
use Rattle.ra_session.specs.Loading.{progress_in}
use Rattle.ra_session.proofs.SaysLemmas.{shape_fits}
use Rattle.ra_session.proofs.StandLemmas.{stands_first, accepted_for}
use Rattle.ra_session.proofs.player.Player.new.Goals as goal

pub take_up-requires : goal.take_up-requires
take_up-requires c = accepted_for (set_contents c.args.beginning.set) c.args.beginning.progress
    c.in_ok-runtime.runtime c.in_ok-runtime.ensures.set_too c.requires.begins.accepted

pub returns-clause-stands : goal.returns-clause-stands
returns-clause-stands c = λ o behind earned at.
    let set = set_contents c.args.beginning.set in
    let sixteen : length c.loop-slots.slots.items ≡ 16 =
    grind (arith, nat_tests, c.loop-slots-test.false, c.len.ensures, c.loop-slots.invariant.few) in
    let shape = shape_fits set _ c.requires.begins.playable
    (ap shape_of c.in_ok-runtime.ensures.set_too) c.take_up.ensures.short in
    stands_first set c.args.size (progress_in c.args.beginning) o behind earned
    c.in_ok-runtime.runtime c.take_up.new.runtime c.loop-slots.slots.items
    c.requires.begins.playable shape c.in_ok-runtime.ensures c.take_up.ensures.taken at
    (c.loop-slots.invariant.empty ∙ ap (λ n. replicate n None) sixteen)
