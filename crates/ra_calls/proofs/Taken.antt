-- What calls leave: what is held stays held where the set stays.
use Rattle.std.proofs.Common.{◌≡◌, sym, ap, subst, ◌∙◌, ℕ, List, [], length, map}
use Rattle.std.proofs.lemmas.Option.{none-some}
use Rattle.std.specs.Prelude.{None, Some, OnOk, OnErr, IfOk, IfErr}
use Rattle.std.specs.declared.result.Result.{Result}
use Rattle.std.specs.declared.result.Result.TheVariants.{Ok, Err}
use Rattle.ra_meaning.specs.Runtime.{TakesUp}
use Rattle.ra_runtime.specs.Courses.{CourseSeen, over}
use Rattle.ra_set.specs.Contents.{SetContents}
use Rattle.ra_set.specs.Spelled.{IsSpelled}
use Rattle.ra_goals.specs.Goals.{goal_of, format_in}
use Rattle.ra_progress.specs.Laws.{IsShape}
use Rattle.ra_progress.specs.Layout.{length_of}
use Rattle.ra_progress.specs.Reading.{refusal}
use Rattle.ra_progress.specs.declared.refused.ProgressRefused.{ProgressRefused}
use Rattle.ra_meaning.specs.Order.{shape_of}
use Rattle.ra_calls.specs.declared.held.Held.TheInside.{Inside}
use Rattle.ra_calls.specs.Answers.{BeginsAgain, IsFirst, TakesProgress}
use Rattle.ra_calls.specs.Standing.{IsStanding}
use Rattle.ra_calls.specs.Views.{IsHeld}

-- what is held stays held, where the set stays and the course stands
pub still_held : (old new : Inside) → IsHeld old → new.course.set ≡ old.course.set → new.first.items ≡ old.first.items
    → new.goals.items ≡ old.goals.items → IsStanding new.course → IsHeld new
still_held old new held same first goals standing = record {
  spelled = subst IsSpelled (sym same) held.spelled;
  shape = subst (λ (s : SetContents). IsShape (shape_of s)) (sym same) held.shape;
  first =
      subst (IsFirst new.course.set) (sym first)
      (subst (λ (s : SetContents). IsFirst s old.first.items) (sym same) held.first);
  accepted =
      subst (λ (bytes : List ℕ). refusal (shape_of new.course.set) bytes ≡ None) (sym first)
      (subst (λ (s : SetContents). refusal (shape_of s) old.first.items ≡ None) (sym same) held.accepted);
  long = ap length first ∙ held.long ∙ ap (λ (s : SetContents). length_of (shape_of s)) (sym same);
  goals_too = goals ∙ held.goals_too ∙ ap (λ (s : SetContents). map goal_of s.items) (sym same);
  digits = λ id format is. held.digits id format (ap (format_in id) (sym goals) ∙ is);
  standing = standing;
}

-- what is taken up over every memory
abbrev pub TakesOver : (bytes : List ℕ) → (old new : CourseSeen) → Type 0
TakesOver bytes old new = (image : List ℕ) → TakesUp (over old image) (over new image) bytes

-- the set stays over a restore, also over one that is refused
pub set_stays : (result : Result (Unit {0}) ProgressRefused) (old new : CourseSeen) (bytes : List ℕ)
    → OnOk result (TakesOver bytes old new) → OnErr result (new ≡ old) → new.set ≡ old.set
set_stays (Ok done) old new bytes takes stays = (takes []).set
set_stays (Err why) old new bytes takes stays = ap (λ r. r.set) stays

-- bytes that are accepted are taken up
pub takes_progress : (result : Result (Unit {0}) ProgressRefused) (old new : CourseSeen) (bytes : List ℕ)
    → OnOk result (TakesOver bytes old new) → OnOk result (refusal (shape_of old.set) bytes ≡ None)
    → new.size ≡ old.size → OnOk result (TakesProgress bytes old new)
takes_progress (Ok done) old new bytes takes accepted size =
    record { accepted = accepted; taken = record { size = size; taken = takes } }
takes_progress (Err why) old new bytes takes accepted size = tt

-- the first bytes are taken up
pub begins_again : (result : Result (Unit {0}) ProgressRefused) (old new : CourseSeen) (bytes first : List ℕ)
    → bytes ≡ first → IsFirst old.set first → OnOk result (TakesOver bytes old new) → new.size ≡ old.size
    → IfErr result (λ why. refusal (shape_of old.set) bytes ≡ Some why) → refusal (shape_of old.set) first ≡ None
    → BeginsAgain old new
begins_again (Ok done) old new bytes first same is takes size refused accepted =
    record {
      first = first;
      of_set = is;
      taken = record { size = size; taken = subst (λ (b : List ℕ). TakesOver b old new) same takes };
    }
begins_again (Err why) old new bytes first same is takes size refused accepted =
    absurd (none-some why (sym accepted ∙ ap (refusal (shape_of old.set)) (sym same) ∙ refused))

-- what holds of a value that came, in other words
pub if_ok : {A E : Type 0} (result : Result A E) (P Q : A → Type 0) → ((a : A) → P a → Q a)
    → IfOk result P → IfOk result Q
if_ok (Ok a) P Q turns p = turns a p
if_ok (Err e) P Q turns p = tt
