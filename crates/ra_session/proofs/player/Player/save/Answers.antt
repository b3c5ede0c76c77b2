use Rattle.std.proofs.Common.{rules, arith, sym, subst, slice_index_or, slice_set, length, ◌≡◌, ◌≤◌, None, IfSome, inl}
use Rattle.std.proofs.Common.{inr}
use Rattle.std.proofs.lemmas.Bool.{cases_lt, false≢true}
use Rattle.ra_meaning.specs.Order.{shape_of}
use Rattle.ra_meaning.specs.Play.{moved}
use Rattle.ra_trace.specs.Entries.{Saved}
use Rattle.ra_runtime.specs.Keeping.{IsKeptFor}
use Rattle.ra_session.specs.Playing.{StandsAt}
use Rattle.ra_session.proofs.StandLemmas.{stands_saved, stands_past, filled_for, opening_at}
use Rattle.ra_session.proofs.player.Player.save.Goals as goal

pub returns-in_ok-fill-clause-saved : goal.returns-in_ok-fill-clause-saved
returns-in_ok-fill-clause-saved c = λ set o m earned stands.
    let runtime = c.args.self.now.runtime in
    let slots = c.args.self.now.slots.items in
    let here : slice_index_or slots c.args.slot None ≡ c.in-Some.state.now = search rules in
    let filled = subst (λ state. IfSome state (IsKeptFor (shape_of runtime.set))) here
    (filled_for set o m earned runtime slots c.args.slot stands) in
    subst (λ k. StandsAt set o (moved (Saved c.args.slot) m) earned runtime
    (slice_set slots k c.fill.new.slot)) (sym c.from.ensures)
    (stands_saved set o m earned runtime slots c.args.slot c.fill.new.slot
    (c.in_ok-fill.ensures (opening_at set o m earned runtime slots stands) filled) stands)

pub returns-in_default-clause-saved : goal.returns-in_default-clause-saved
returns-in_default-clause-saved c = λ set o m earned stands.
    let slots = c.args.self.now.slots.items in
    let long : length slots ≤ c.args.slot = elim (cases_lt c.args.slot (length slots)) [
      | inl within ↦ absurd (false≢true (c.in_default.ensures.variant.1 (omega (arith, within, c.from.ensures))))
      | inr past ↦ omega (arith, past, c.from.ensures)
    ] in
    stands_past set o m earned c.args.self.now.runtime slots c.args.slot long stands
