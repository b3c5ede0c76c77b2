-- Any number of items, each after a separator: the braces in the grammars of docs/DEFINITIONS.md, as in "Triggers".
use Rattle.std.specs.Prelude.{◌≡◌, Bool, true, List, [], ◌∷◌, ◌++◌, Option, Some}
use Rattle.ra_text.specs.Form.{Form, Spell, ◌>>=◌}

-- a separator, an item, and what comes after it
pub record Link {A T V : Type 0} (separator : A → Option T) (item : T → Form A V) (others : List A
    → Type 0) (text : List A) (v : V) : Type 0 where
  pub symbol : A
  pub tag : T
  pub front : List A
  pub behind : List A
  pub parts : text ≡ symbol ∷ (front ++ behind)
  pub separated : separator symbol ≡ Some tag
  pub of_item : item tag front v
  pub of_others : others behind

-- items, each after a separator, where the items before say which separators may come, what may come after each, and
-- whether the text may end
abbrev pub Chain : {A T S V : Type 0} → (S → A → Option T) → (S → T → Form A V) → (S → V → S)
    → (S → Bool) → S → Form A (List V)
Chain separator item step done s text [] = (text ≡ []) × (done s ≡ true)
Chain separator item step done s text (v ∷ vs) =
    Link (separator s) (item s) (λ rest. Chain separator item step done (step s v) rest vs) text v

-- item { separator item }
abbrev pub joined : {A T V : Type 0} → (A → Option T) → Form A V → Form A (List V)
joined separator item = do
  first ← item
  others ← Chain {S = Unit {0}} (λ s. separator) (λ s tag. item) (λ s v. s) (λ s. true) tt
  Spell (first ∷ others)
