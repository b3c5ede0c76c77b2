-- What a held course is seen as, by its fields.
use Rattle.std.specs.Prelude.{◌≡◌, ℕ, None, Some, length, map}
use Rattle.ra_set.specs.Spelled.{IsSpelled}
use Rattle.ra_progress.specs.Reading.{refusal}
use Rattle.ra_meaning.specs.Order.{shape_of}
use Rattle.ra_runtime.specs.Courses.{CourseSeen}
use Rattle.ra_progress.specs.Laws.{IsShape}
use Rattle.ra_progress.specs.Layout.{length_of}
use Rattle.ra_value_format.specs.Formats.{HasDigits}
use Rattle.ra_value_format.specs.declared.format.Format.{Format}
use Rattle.ra_goals.specs.Goals.{goal_of, format_in}
use Rattle.ra_calls.specs.Answers.{IsFirst}
use Rattle.ra_calls.specs.Standing.{IsStanding}
use Rattle.ra_calls.specs.declared.held.Held.TheInside.{Inside}

-- what a caller sees: the course
abbrev pub held_seen : Inside → CourseSeen
held_seen t = t.course

-- The set is spelled and its shape is one. The first bytes are those of the set before its first frame, which are
-- accepted, and as long as each save. The goals are those of the set's items, whose formats have digits. The course
-- stands.
pub record IsHeld (t : Inside) : Type 0 where
  pub spelled : IsSpelled t.course.set
  pub shape : IsShape (shape_of t.course.set)
  pub first : IsFirst t.course.set t.first.items
  pub accepted : refusal (shape_of t.course.set) t.first.items ≡ None
  pub long : length t.first.items ≡ length_of (shape_of t.course.set)
  pub goals_too : t.goals.items ≡ map goal_of t.course.set.items
  pub digits : (id : ℕ) (format : Format) → format_in id t.goals.items ≡ Some format → HasDigits format
  pub standing : IsStanding t.course
