-- How the items of a set stand, as C reads it: docs/DEFINITIONS.md, "Calls from C".
use Rattle.std.specs.Prelude.{ℕ, ℤ, ◌⊎◌, ◌+◌, pos, Bool, true, false, ◌≡◌, Option, None, Some, option_map, List, []}
use Rattle.std.specs.Prelude.{◌∷◌, map, slice_index_or}
use Rattle.ra_leaderboard.specs.States.{board_byte}
use Rattle.ra_leaderboard.specs.declared.state.BoardState.{BoardState}
use Rattle.ra_leaderboard.specs.declared.state.BoardState.TheVariants.{Started}
use Rattle.ra_trigger.specs.States.{state_byte}
use Rattle.ra_items.specs.ItemStates.{state_at}
use Rattle.ra_items.specs.declared.item_state.ItemState.{ItemState}
use Rattle.ra_items.specs.declared.item_state.ItemState.TheVariants as states
use Rattle.ra_goals.specs.Goals.{goal_of, format_in}
use Rattle.ra_goals.specs.declared.goal.Goal.{Goal}
use Rattle.ra_goals.specs.declared.goal.GoalKind.{GoalKind}
use Rattle.ra_goals.specs.declared.goal.GoalKind.TheVariants.{Achievement, Leaderboard}
use Rattle.ra_meaning.specs.Earned.{earned_in}
use Rattle.ra_value_format.specs.Formats.{formatted}
use Rattle.ra_value_format.specs.declared.format.Format.{Format}
use Rattle.ra_runtime.specs.Courses.{CourseSeen}
use Rattle.ra_judge.specs.Codes.{memory}
use Rattle.ra_judge.specs.Giving.{GivesText}
use Rattle.ra_calls.specs.declared.told_item.ToldItem.{ToldItem}

-- the number of what an item is
abbrev pub kind_number : GoalKind → ℕ
kind_number Achievement = 1
kind_number Leaderboard = 2

-- 1 for what holds, else 0
abbrev pub flag_of : Bool → ℕ
flag_of true = 1
flag_of false = 0

-- whether an attempt runs
abbrev pub is_started : BoardState → Bool
is_started Started = true
is_started _ = false

-- what an item aims at, with these numbers of how it stands
abbrev pub item_with : Goal → (earned : Bool) → (state measured running : ℕ) → (number : ℤ) → ToldItem
item_with goal earned state measured running number = record {
  kind = kind_number goal.kind;
  id = goal.id;
  state = state;
  earned = flag_of earned;
  measured = measured;
  target = goal.target;
  percent = flag_of goal.percent;
  running = running;
  number = number;
}

-- how an item that aims at this stands, earned or not; one that stands nowhere waits
abbrev pub told_item : Goal → (earned : Bool) → Option ItemState → ToldItem
told_item goal earned (Some (states.Achievement state measured)) =
    item_with goal earned (state_byte state) measured 0 (pos 0)
told_item goal earned (Some (states.Leaderboard state tracked)) =
    item_with goal earned (board_byte state) 0 (flag_of (is_started state)) tracked
told_item goal earned None = item_with goal earned 0 0 0 (pos 0)

-- whether the item at a place of the set is earned
abbrev pub earned_at : CourseSeen → (place : ℕ) → Bool
earned_at course place = slice_index_or (earned_in course.kept) place false

-- how the items from a place of the set on stand
abbrev pub told_from : CourseSeen → (place : ℕ) → List Goal → List ToldItem
told_from course place [] = []
told_from course place (goal ∷ goals) = told_item goal (earned_at course place)
    (state_at course.set course.kept place) ∷ told_from course (place + 1) goals

-- how the items of the set stand, in its order
abbrev pub AreItemsOf : CourseSeen → List ToldItem → Type 0
AreItemsOf course told = told ≡ told_from course 0 (map goal_of course.set.items)

-- the number in the format of the leaderboard of an id, where there is one
abbrev pub number_text : Option Format → (number : ℤ) → Option (List ℕ)
number_text format number = option_map (λ f. formatted f number) format

-- the number in the format of the leaderboard of an id of the set, where there is one
abbrev pub number_in : CourseSeen → (id : ℕ) → (number : ℤ) → Option (List ℕ)
number_in course id number = number_text (format_in id (map goal_of course.set.items)) number

-- the number in the format of the leaderboard of an id is given, where there is memory for it, and the game stays
abbrev pub AnswersNumber : (id : ℕ) → (number : ℤ) → (before after : List ℕ) → (count code : ℕ)
    → (old new : CourseSeen) → Type 0
AnswersNumber id number before after count code old new =
    (new ≡ old) × ((code ≡ memory) ⊎ GivesText (number_in old id number) before after count code)
