use Rattle.std.proofs.Common.{◌≡◌, ℕ, ◌&&◌, Bool, [], ap, ◌∙◌, arith}
use Rattle.ra_condition.specs.Contents.{flag_at}
use Rattle.ra_condition.specs.Flags.{is_pause}
use Rattle.ra_group.specs.declared.standing.Standing.{Standing}
use Rattle.ra_group.specs.Equations.{Frame, frame_of, settled_at}
use Rattle.ra_account.proofs.AloneLemmas.{any_more}
use Rattle.ra_account.proofs.stands.some_pause.Goals as goal

pub loop-place-preserved : goal.loop-place-preserved
loop-place-preserved c =
    let f : Frame = frame_of c.args.conditions.now c.args.truths.now [] c.args.hits.now in
    let place = c.loop-place.place in
    let passes : ℕ → Bool = λ j. is_pause (flag_at f.conditions j) && (settled_at f j).valid in
    let here : c.is_valid_pause-paused.result ≡ passes place =
    c.is_valid_pause-paused.ensures ∙ ap (λ (s : Standing). is_pause (flag_at f.conditions place)
    && s.valid) (c.requires.standings place (omega arith)) in
    any_more passes place c.loop-place.paused c.is_valid_pause-paused.result c.loop-place.invariant here
