use Rattle.std.proofs.Common.{◌≡◌, ◌∙◌, ap, sym, None, Some, slice_index_or}
use Rattle.ra_session.proofs.StandLemmas.{slot_empty, stands_restored, of_own_set}
use Rattle.ra_session.proofs.player.Player.restore.Goals as goal

pub returns-in_default-clause-empty : goal.returns-in_default-clause-empty
returns-in_default-clause-empty c = λ set o m earned stands.
    slot_empty set o m earned c.args.self.now.runtime _ c.args.slot (ap (λ slots. slice_index_or
    slots c.args.slot None) (sym c.as_slice.ensures.value) ∙ sym c.in_default.ensures) stands

pub returns-clause-restored : goal.returns-clause-restored
returns-clause-restored c = λ set o m earned stands.
    stands_restored set o m earned c.args.self.now.runtime c.take.new.self _ c.args.slot
    c.in-Some.state.now (ap (λ slots. slice_index_or slots c.args.slot None)
    (sym c.as_slice.ensures.value) ∙ sym c.in-Some.ensures)
    c.in-Ok.ensures.taken c.take.ensures.image stands

pub unreachable-requires : goal.unreachable-requires
unreachable-requires c =
    let at = c.requires in
    c.in-Err.ensures.other (of_own_set at.set at.opening at.moment at.earned c.args.self.now.runtime
    _ c.args.slot c.in-Some.state.now (ap (λ slots. slice_index_or slots c.args.slot None)
    (sym c.as_slice.ensures.value) ∙ sym c.in-Some.ensures) at.stands)
