-- The outcome of a group in the words of its conditions: docs/DEFINITIONS.md, "Group outcome".
use Rattle.std.specs.Prelude.{◌≡◌, ℕ, ◌<◌, ◌≤◌, Bool, true, false, length, slice_index}
use Rattle.ra_condition.specs.declared.flag.Flag.{Flag}
use Rattle.ra_condition.specs.Flags.{is_measured}
use Rattle.ra_condition.specs.Contents.{condition_at, flag_at}
use Rattle.ra_group.specs.declared.form.Form.{Form}
use Rattle.ra_group.specs.Equations.{Frame, settled_at}
use Rattle.ra_group.specs.Outcome.{number_of}

-- some condition of the class is valid
pub record SomeValid (class : Flag → Bool) (f : Frame) : Type 0 where
  pub place : ℕ
  pub within : place < length f.conditions
  pub of_class : class (flag_at f.conditions place) ≡ true
  pub valid : (settled_at f place).valid ≡ true

-- each condition of the class is valid
pub record EachValid (class : Flag → Bool) (f : Frame) : Type 0 where
  pub at : (j : ℕ) → j < length f.conditions → class (flag_at f.conditions j) ≡ true → (settled_at f j).valid ≡ true

-- no condition is measured
pub record NoneMeasured (f : Frame) : Type 0 where
  pub at : (j : ℕ) → j < length f.conditions → is_measured (flag_at f.conditions j) ≡ false

-- the number of the measured condition at the place
abbrev pub number_at : Form → Frame → ℕ → ℕ
number_at form f j = number_of form (condition_at f.conditions j) (settled_at f j).total (slice_index f.lefts j)

-- the number is that of a measured condition, and no measured one has a greater
pub record IsGreatestNumber (form : Form) (f : Frame) (n : ℕ) : Type 0 where
  pub place : ℕ
  pub within : place < length f.conditions
  pub measured : is_measured (flag_at f.conditions place) ≡ true
  pub number : n ≡ number_at form f place
  pub above : (j : ℕ) → j < length f.conditions → is_measured (flag_at f.conditions j) ≡ true → number_at form f j ≤ n
