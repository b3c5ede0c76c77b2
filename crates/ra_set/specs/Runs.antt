-- Any number of texts of a form, and any number of symbols of a table: the lines and the names of docs/DEFINITIONS.md,
-- "Set file".
use Rattle.std.specs.Prelude.{◌≡◌, ℕ, true, if◌then◌else◌, List, [], ◌∷◌, ◌++◌, Option, Some, None}
use Rattle.ra_text.specs.Chain.{Chain}
use Rattle.ra_text.specs.Form.{Form, Spell}
use Rattle.ra_text.specs.Table.{is_in, only}

-- the text is two pieces, the first of the first kind and the next of the next
pub record Both {A : Type 0} (first next : List A → Type 0) (text : List A) : Type 0 where
  pub front : List A
  pub behind : List A
  pub parts : text ≡ front ++ behind
  pub of_first : first front
  pub of_next : next behind

-- any number of texts of a form, one after the other
abbrev pub many : {A V : Type 0} → Form A V → Form A (List V)
many form text [] = text ≡ []
many form text (v ∷ vs) = Both (λ t. form t v) (λ t. many form t vs) text

-- any number of symbols of a table
abbrev pub run_of : {A V : Type 0} → (A → Option V) → Form A (List V)
run_of table = Chain {S = Unit {0}} (λ s. table) (λ s v. Spell v) (λ s v. s) (λ s. true) tt

-- any byte but these
abbrev pub any_but : List ℕ → ℕ → Option ℕ
any_but others byte = if is_in (only others) byte then None else Some byte
