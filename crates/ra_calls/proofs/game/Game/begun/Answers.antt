use Rattle.std.proofs.Common.{ℕ, List, Some, option_map, ap, subst, sym, ◌∙◌}
use Rattle.ra_condition.specs.Contents.{trigger_contents}
use Rattle.ra_set.specs.Accepted.{IsSet}
use Rattle.ra_calls.specs.Games.{GameSeen}
use Rattle.ra_calls.specs.Recordings.{IsOfId}
use Rattle.ra_calls.proofs.GameLemmas.{begun_of_id}
use Rattle.ra_calls.proofs.game.Game.begun.Goals as goal

pub returns-in_ok-recording-in-Some : goal.returns-in_ok-recording-in-Some
returns-in_ok-recording-in-Some c =
    let held = c.self.inside.held in
    let r = c.in_ok-recording-in-Some.recording in
    let found = c.in_ok-text.ensures held.set (subst (λ (bytes : List ℕ). IsSet bytes held.set)
    (sym c.deref.ensures.value) c.self.invariant.spelled) in
    subst (λ (g : GameSeen). IsOfId c.args.id g.course (Some r)) c.self.view_is
    (begun_of_id c.args.id held (trigger_contents c.in-Some.text) c.size.result r (sym found.same ∙
    ap (option_map trigger_contents) c.in-Some.is) c.size.ensures c.in_ok-recording-in-Some.ensures)
