-- Copies of columns have the marks of the same frames.
use Rattle.std.proofs.Common.{Some, List, [], ◌∷◌, sym, ap, ◌∙◌}
use Rattle.ra_account.specs.Counting.{count_of}
use Rattle.ra_account.specs.Copies.{IsNearestLike}
use Rattle.ra_account.specs.Nearness.{Lack, IsNearest}
use Rattle.ra_account.specs.declared.nearest.Nearest.{Nearest}
use Rattle.std.proofs.Common.{ℕ, ◌+◌, ◌*◌, ◌<◌, Bool, List, length, map, get_or, sym, ap, ◌∙◌, subst, arith}
use Rattle.ra_account.specs.declared.columns.Columns.{Columns}
use Rattle.ra_account.specs.declared.mark.Mark.{Mark}
use Rattle.ra_account.specs.declared.mark.Mark.TheVariants.{Never}
use Rattle.ra_account.specs.Marks.{IsSound, IsTimeline, IsWidth, column_of}
use Rattle.ra_account.specs.Copies.{AreColumnsOf, IsAccountLike}
use Rattle.ra_account.specs.Running.{HasCounted, HasSeen, IsRunning}
use Rattle.ra_account.specs.declared.condition.ConditionAccount.{ConditionAccount}
use Rattle.ra_account.specs.declared.facts.Facts.{Facts}
use Rattle.ra_account.specs.declared.running.Running.{Running}

-- within their bounds too
pub same_sound : (old copy : Columns) → AreColumnsOf old copy → IsSound old → IsSound copy
same_sound old copy same sound = record {
  sixty = ap length same.marks ∙ sound.sixty;
  full = omega (arith, same.full, sound.full);
  begun = omega (arith, same.begun, same.width, sound.begun);
  none_begun = λ e. same.begun ∙ sound.none_begun (sym same.full ∙ e);
}

-- of the same frames
pub same_timeline : (counts : List Bool) (old copy : Columns) → AreColumnsOf old copy
    → IsTimeline counts old → IsTimeline counts copy
same_timeline counts old copy same known = record {
  columns_too = record {
    frames = (λ i. same.full i * same.width i + same.begun i) ∙ known.columns_too.frames;
    marks_too = λ k there. ap (λ (ms : List Mark). get_or ms k Never) same.marks
        ∙ known.columns_too.marks_too k (subst (λ (w : ℕ). k * w < length counts) same.width there)
        ∙ ap (λ w. column_of w k counts) (sym same.width);
  };
  width_too = subst (λ (w : ℕ). IsWidth (length counts) w) (sym same.width) known.width_too;
}

-- a copy of an account has counted what it has
pub copy_counted : (counts past : List Bool) (old copy : ConditionAccount) → IsAccountLike old copy
    → HasCounted counts past old → HasCounted counts past copy
copy_counted counts past old copy same known = record {
  as_many = known.as_many;
  counts_too = same.counts_too ∙ known.counts_too;
  past_too = same.past_too ∙ known.past_too;
  columns_too = same_timeline counts old.columns copy.columns same.columns_too known.columns_too;
}

-- and seen what it has
pub copy_seen : (frames : List Facts) (old copy : ConditionAccount) → IsAccountLike old copy
    → HasSeen frames old → HasSeen frames copy
copy_seen frames old copy same known = record {
  best = same.best_too ∙ known.best;
  left = same.left_too ∙ known.left;
  right = same.right_too ∙ known.right;
}

-- the same where the last frames are still to be counted
pub copy_runs : (frames : List Facts) (old : Running) (copy : ConditionAccount)
    → IsAccountLike old.account copy → IsRunning frames old
    → IsRunning frames (record old { account = copy })
copy_runs frames old copy same known =
    let runs = known.runs in
    record {
      runs = record {
        latest = runs.latest;
        before = runs.before;
        split = runs.split;
        since_too = runs.since_too;
        counts_too = runs.counts_too;
        past_too = runs.past_too;
        counted = copy_counted (map (λ f. f.counts) runs.before)
            (map (λ f. f.past) runs.before) old.account copy same runs.counted;
        seen = copy_seen frames old.account copy same runs.seen;
      };
      some = known.some;
    }

-- a copy of the nearest of some frames is the nearest of them
pub same_nearest_of : (frames : List Lack) (old copy : Nearest) → IsNearestLike old copy
    → IsNearest frames old → IsNearest frames copy
same_nearest_of [] old copy same known = (same.at_too ∙ known.0, same.reset_too ∙ known.1, same.count_too ∙ known.2)
same_nearest_of (now ∷ earlier) old copy same known = record {
  at_too = same.at_too ∙ known.at_too;
  lack = known.lack ∙ (λ i. Some (record { reset = sym same.reset_too i; wants = sym same.wants_too i }));
  count_too = same.count_too ∙ known.count_too ∙ ap count_of (sym same.wants_too);
}
