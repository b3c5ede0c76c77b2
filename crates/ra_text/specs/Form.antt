-- Forms: which texts spell which values, as in the grammars of docs/DEFINITIONS.md, "Numbers in text" the first. A
-- text is a list of symbols, such as bytes or lines.
use Rattle.std.specs.Prelude.{◌≡◌, ◌⊎◌, List, [], ◌∷◌, ◌++◌, Option, Some}

-- a relation between texts and the values that they spell
abbrev pub Form : Type 0 → Type 0 → Type 1
Form A V = List A → V → Type 0

-- the empty text, for the value v
pub record Spell {A V : Type 0} (v : V) (text : List A) (w : V) : Type 0 where
  pub empty : text ≡ []
  pub is : w ≡ v

-- one symbol that the table has, for what it has there
pub record One {A V : Type 0} (table : A → Option V) (text : List A) (v : V) : Type 0 where
  pub symbol : A
  pub alone : text ≡ symbol ∷ []
  pub listed : table symbol ≡ Some v

-- these symbols and no others
pub record Literal {A : Type 0} (symbols text : List A) (v : Unit {0}) : Type 0 where
  pub is : text ≡ symbols

-- a text of the first form, and after it one of the next
pub record Then {A V W : Type 0} (first : Form A V) (next : V → Form A W) (text : List A) (w : W) : Type 0 where
  pub front : List A
  pub behind : List A
  pub v : V
  pub parts : text ≡ front ++ behind
  pub of_first : first front v
  pub of_next : next v behind w

infixl 10 ◌>>=◌
-- a text of the first form, and after it one of the form that its value gives
abbrev pub ◌>>=◌ : {A V W : Type 0} → Form A V → (V → Form A W) → Form A W
first >>= next = Then first next

infixl 5 ◌or◌
-- a text of either form
abbrev pub ◌or◌ : {A V : Type 0} → Form A V → Form A V → Form A V
◌or◌ a b text v = a text v ⊎ b text v

-- a symbol that the table has, for what it has there, or the empty text, for the other value
abbrev pub optional : {A V : Type 0} → (A → Option V) → V → Form A V
optional table none = One table or Spell none

-- the front begins some text of the form
pub record Viable {A V : Type 0} (form : Form A V) (front : List A) : Type 0 where
  pub more : List A
  pub v : V
  pub whole : form (front ++ more) v
