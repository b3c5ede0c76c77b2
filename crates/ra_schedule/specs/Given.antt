-- Which left values a step needs as numbers: docs/INTERNALS.md, "Numbers that a step needs".
use Rattle.std.specs.Prelude.{◌≡◌, ℕ, Bool, true, false, not, ◌&&◌, List, [], ◌∷◌, length, map, take, drop}
use Rattle.std.specs.Prelude.{slice_index, slice_index_or}
use Rattle.std.specs.List.{flat_map}
use Rattle.ra_condition.specs.declared.condition.Condition.{Condition}
use Rattle.ra_condition.specs.Flags.{is_measured}
use Rattle.ra_condition.specs.Contents.{condition_at}
use Rattle.ra_group.specs.declared.form.Form.{Form}
use Rattle.ra_group.specs.Equations.{Frame, frame_of}
use Rattle.ra_group.specs.Outcome.{from_total}

-- the frame with other left values
abbrev pub with_lefts : Frame → List ℕ → Frame
with_lefts f lefts = frame_of f.conditions f.truths lefts f.hits

-- a condition gives its left value as a number: it is measured, and takes its number from no total
abbrev pub gives_left : Form → Condition → Bool
gives_left form c = is_measured c.flag && not (from_total form c)

-- whether each condition of a group does
abbrev pub given_in : Form → List Condition → List Bool
given_in form cs = map (gives_left form) cs

-- whether each condition of some groups does, group after group
abbrev pub given_by : Form → List (List Condition) → List Bool
given_by form groups = flat_map (given_in form) groups

-- the flags are these, of which some may be missing that are not set
abbrev pub AreGiven : (given flags : List Bool) → Type 0
AreGiven given flags = (j : ℕ) → slice_index_or given j false ≡ slice_index_or flags j false

-- two rows of left values agree where a condition gives its own as a number
pub record AgreeWhereGiven (form : Form) (cs : List Condition) (lefts others : List ℕ) : Type 0 where
  pub at : (j : ℕ) → gives_left form (condition_at cs j) ≡ true → slice_index lefts j ≡ slice_index others j

-- the same of groups, over whose conditions the rows run
abbrev pub GiveTheSame : Form → List (List Condition) → (lefts others : List ℕ) → Type 0
GiveTheSame form [] lefts others = Unit {0}
GiveTheSame form (cs ∷ groups) lefts others =
    AgreeWhereGiven form cs (take (length cs) lefts) (take (length cs) others)
    × GiveTheSame form groups (drop (length cs) lefts) (drop (length cs) others)
