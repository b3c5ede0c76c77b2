-- What spells a form: the records of the forms, made by a call.
use Rattle.std.proofs.Common.{◌≡◌, List, [], ◌∷◌, ◌++◌, Option, Some, refl}
use Rattle.ra_text.specs.Chain.{Link}
use Rattle.ra_text.specs.Form.{Form, Spell, One, Then, Viable}

-- a front of the first form, and what is after it of the next
pub then-spelled : {A V W : Type 0} {first : Form A V} {next : V → Form A W} {text : List A} {w : W}
    (front behind : List A) (v : V) → text ≡ front ++ behind → first front v → next v behind w → Then first next text w
then-spelled front behind v parts of_first of_next =
    record { front = front; behind = behind; v = v; parts = parts; of_first = of_first; of_next = of_next }

-- nothing, for a value
pub none-spelled : {A V : Type 0} {v : V} → Spell {A = A} v [] v
none-spelled = record { empty = refl; is = refl }

-- a symbol that a table has
pub one-spelled : {A V : Type 0} {table : A → Option V} {v : V} (symbol : A)
    → table symbol ≡ Some v → One table (symbol ∷ []) v
one-spelled symbol listed = record { symbol = symbol; alone = refl; listed = listed }

-- a separator and an item, before others
pub link-spelled : {A T V : Type 0} {separator : A → Option T} {item : T → Form A V} {others : List A → Type 0}
    {text : List A} {v : V} (symbol : A) (tag : T) (front behind : List A) → text ≡ symbol ∷ (front ++ behind)
    → separator symbol ≡ Some tag → item tag front v → others behind → Link separator item others text v
link-spelled symbol tag front behind parts separated of_item of_others =
    record {
      symbol = symbol;
      tag = tag;
      front = front;
      behind = behind;
      parts = parts;
      separated = separated;
      of_item = of_item;
      of_others = of_others;
    }

-- what has to come after a front that begins some text of a form
pub viable-by : {A V : Type 0} {form : Form A V} {front : List A} (more : List A) (v : V)
    → form (front ++ more) v → Viable form front
viable-by more v whole = record { more = more; v = v; whole = whole }
