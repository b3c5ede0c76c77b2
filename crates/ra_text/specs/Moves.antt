-- How a method of a cursor follows the reading of a form: the step between the code and docs/DEFINITIONS.md, "First
-- bad place".
use Rattle.std.specs.Prelude.{◌≡◌, ℕ, List, ◌∷◌, Option, Some, Result, Ok, Err}
use Rattle.ra_text.specs.declared.base.Base.{Base}
use Rattle.ra_text.specs.declared.cursor.Stop.{Stop}
use Rattle.ra_text.specs.Number.{digit_of, base_of, saturated}
use Rattle.ra_text.specs.Reading.{Outcome}
use Rattle.ra_text.specs.ReadingNumbers.{digits_at}

-- what a method returned, and what it left, is what reading gives
abbrev pub Moves : {V : Type 0} → Result V Stop → List ℕ → Outcome ℕ V → Type 0
Moves (Ok v) rest outcome = outcome ≡ Ok (v, rest)
Moves (Err stop) rest outcome = outcome ≡ Err rest

-- the number of the digits after those of a first number, saturated
pub record SumsDigits (base : Base) (first : ℕ) (old : List ℕ) (number : ℕ) (new : List ℕ) : Type 0 where
  pub all : ℕ
  pub read : digits_at (digit_of base) (base_of base) first old ≡ Ok (all, new)
  pub is : number ≡ saturated all

-- one byte that the table has stands before the rest
pub record PassesOne {V : Type 0} (table : ℕ → Option V) (old new : List ℕ) : Type 0 where
  pub byte : ℕ
  pub v : V
  pub is : old ≡ byte ∷ new
  pub listed : table byte ≡ Some v
