-- Reading from left to right: the step between the code and docs/DEFINITIONS.md, "First bad place".
use Rattle.std.specs.Prelude.{◌≡◌, ℕ, ◌==◌, Bool, true, false, if◌then◌else◌, List, [], ◌∷◌, ◌++◌, length, zero, suc}
use Rattle.std.specs.Prelude.{Option, Some, None, Result, Ok, Err}
use Rattle.ra_text.specs.Form.{Form, Viable}

-- a value and what is left after it, or what is left where no text of the form goes on
abbrev pub Outcome : Type 0 → Type 0 → Type 0
Outcome A V = Result (V × List A) (List A)

-- what a reading leaves
abbrev pub rest_of : {A V : Type 0} → Outcome A V → List A
rest_of (Ok x) = x.1
rest_of (Err rest) = rest

-- reading stops at the first symbol that no text of the form goes on with, or at the end, and answers what stands
-- before it spells
pub record Reads {A V : Type 0} (form : Form A V) (text : List A) (outcome : Outcome A V) : Type 0 where
  pub front : List A
  pub parts : text ≡ front ++ rest_of outcome
  pub viable : Viable form front
  pub halts : (symbol : A) (rest : List A) → rest_of outcome ≡ symbol ∷ rest → Viable form (front ++ symbol ∷ []) → ⊥
  pub spelled : (v : V) (rest : List A) → outcome ≡ Ok (v, rest) → form front v
  pub only : (v : V) → form front v → outcome ≡ Ok (v, rest_of outcome)

infixl 10 ◌>>=◌
-- what follows a value is read on, and a refusal stays
abbrev pub ◌>>=◌ : {A V W : Type 0} → Outcome A V → (V × List A → Outcome A W) → Outcome A W
(Ok x) >>= f = f x
(Err rest) >>= f = Err rest

-- a symbol that is taken for what the table has, or left
abbrev pub taken : {A V : Type 0} → Option V → A → List A → Outcome A V
taken (Some v) symbol rest = Ok (v, rest)
taken None symbol rest = Err (symbol ∷ rest)

-- one symbol of the table
abbrev pub one_at : {A V : Type 0} → (A → Option V) → List A → Outcome A V
one_at table [] = Err []
one_at table (symbol ∷ rest) = taken (table symbol) symbol rest

-- a symbol that is taken for what the table has, or left for the value of nothing
abbrev pub taken_or : {A V : Type 0} → V → Option V → A → List A → Outcome A V
taken_or none (Some v) symbol rest = Ok (v, rest)
taken_or none None symbol rest = Ok (none, symbol ∷ rest)

-- one symbol of the table, or nothing
abbrev pub optional_at : {A V : Type 0} → (A → Option V) → V → List A → Outcome A V
optional_at table none [] = Ok (none, [])
optional_at table none (symbol ∷ rest) = taken_or none (table symbol) symbol rest

-- these bytes, one after the other
abbrev pub literal_at : List ℕ → List ℕ → Outcome ℕ (Unit {0})
literal_at [] bytes = Ok (tt, bytes)
literal_at (byte ∷ literal) [] = Err []
literal_at (byte ∷ literal) (c ∷ rest) = if c == byte then literal_at literal rest else Err (c ∷ rest)

-- one of two readings, by a test of the text
abbrev pub choice_at : {A V : Type 0} → (List A → Bool) → (List A → Outcome A V)
    → (List A → Outcome A V) → List A → Outcome A V
choice_at test first second text = if test text then first text else second text

-- there is a first symbol, and it passes the test
abbrev pub begins : {A : Type 0} → (A → Bool) → List A → Bool
begins test [] = false
begins test (symbol ∷ rest) = test symbol

-- the end of a list of items, where it may end
abbrev pub ends_at : {A V : Type 0} → Bool → List A → Outcome A (List V)
ends_at true text = Ok ([], text)
ends_at false text = Err text

-- the items of a chain; the number bounds how many
abbrev pub chain_at : {A T S V : Type 0} → (S → A → Option T) → (S → T → List A → Outcome A V)
    → (S → V → S) → (S → Bool) → ℕ → S → List A → Outcome A (List V)
chain_at separator item_at step done zero s text = ends_at (done s) text
chain_at separator item_at step done (suc most) s [] = ends_at (done s) []
chain_at separator item_at step done (suc most) s (symbol ∷ rest) = elim (separator s symbol) [
  | Some tag ↦ item_at s tag rest >>= λ v. chain_at separator item_at step done most
      (step s v.0) v.1 >>= λ vs. Ok (v.0 ∷ vs.0, vs.1)
  | None ↦ ends_at (done s) (symbol ∷ rest)
]

-- a first item, and the others, each after a separator
abbrev pub joined_at : {A T V : Type 0} → (A → Option T) → (List A → Outcome A V) → List A → Outcome A (List V)
joined_at separator item_at text =
    item_at text >>= λ first. chain_at {S = Unit {0}} (λ s. separator) (λ s tag. item_at) (λ s v. s)
    (λ s. true) (length first.1) tt first.1 >>= λ others. Ok (first.0 ∷ others.0, others.1)
