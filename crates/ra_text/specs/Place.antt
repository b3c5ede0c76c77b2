-- The first bad place, and what a call that reads from a place answers: docs/DEFINITIONS.md, "First bad place".
use Rattle.std.specs.Prelude.{◌≡◌, ℕ, ◌-◌, ◌<◌, ◌≤◌, List, length, take, drop, Option, Some}
use Rattle.ra_text.specs.Form.{Form, Viable}

-- n is the length of the longest front of the text that begins some text of the form
pub record IsBadPlace {A V : Type 0} (form : Form A V) (text : List A) (n : ℕ) : Type 0 where
  pub within : n ≤ length text
  pub viable : Viable form (take n text)
  pub longest : (m : ℕ) → n < m → m ≤ length text → Viable form (take m text) → ⊥

-- the first bad place of the text is n, and what stands before it spells v alone, or nothing
pub record ReadsTo {A V : Type 0} (form : Form A V) (text : List A) (n : ℕ) (v : Option V) : Type 0 where
  pub place : IsBadPlace form text n
  pub spelled : (w : V) → v ≡ Some w → form (take n text) w
  pub only : (w : V) → form (take n text) w → v ≡ Some w

-- the text from `at` on has its first bad place at `place`, and what stands between them spells v alone, or nothing
pub record EndsAt {A V : Type 0} (form : Form A V) (text : List A) (at place : ℕ) (v : Option V) : Type 0 where
  pub behind : at ≤ place
  pub reads : ReadsTo form (drop at text) (place - at) v

-- the text is no text of the form, and n is its first bad place
pub record IsOutside {A V : Type 0} (form : Form A V) (text : List A) (n : ℕ) : Type 0 where
  pub place : IsBadPlace form text n
  pub outside : (v : V) → form text v → ⊥

-- a text of the form spells one value only
abbrev pub OneSpelling : {A V : Type 0} → Form A V → Type 0
OneSpelling {A} {V} form = (text : List A) (v w : V) → form text v → form text w → v ≡ w
