use Rattle.std.proofs.Common.{ℕ, ◌<◌, ◌&&◌, Bool, length, ap, ◌∙◌, arith, below_more}
use Rattle.ra_condition.specs.Contents.{flag_at}
use Rattle.ra_condition.specs.Flags.{is_pause, is_reset}
use Rattle.ra_group.specs.declared.standing.Standing.{Standing}
use Rattle.ra_group.specs.Equations.{Frame, settled_at}
use Rattle.ra_account.specs.Groups.{row_frame, row_in}
use Rattle.ra_account.proofs.AloneLemmas.{any_more, neither, stands_apart}
use Rattle.ra_account.proofs.noting.survey.Goals as goal

pub loop-place-preserved : goal.loop-place-preserved
loop-place-preserved c =
    let f : Frame = row_frame c.args.conditions.now (row_in c.args.row.now) in
    let place = c.loop-place.place in
    let known = c.loop-place.invariant in
    let below : place < length c.args.conditions.now = omega (arith, c.loop-place-test.true) in
    let stands = stands_apart f place c.requires.alone below in
    let pauses : ℕ → Bool = λ j. is_pause (flag_at f.conditions j) && (settled_at f j).valid in
    let resets : ℕ → Bool = λ j. is_reset (flag_at f.conditions j) && (settled_at f j).valid in
    record {
      pauses = any_more pauses place c.loop-place.paused c.is_pausing-paused.result known.pauses
          (c.is_pausing-paused.ensures
          ∙ ap (λ (s : Standing). is_pause (flag_at f.conditions place) && s.valid) stands);
      resets_too = any_more resets place c.loop-place.resets c.is_resetting-resets.result known.resets_too
          (c.is_resetting-resets.ensures
          ∙ ap (λ (s : Standing). is_reset (flag_at f.conditions place) && s.valid) stands);
      moved_too = λ stays.
          let both = neither c.loop-place.moved c.is_moved-moved.result stays in
          below_more _ _ (known.moved_too both.0) (c.is_moved-moved.ensures both.1);
    }
