-- The readers of repeated forms, of which each item begins with a symbol of a table.
use Rattle.std.proofs.Common.{◌≡◌, ◌∙◌, true, List, [], ◌∷◌, ◌++◌, length, Option, Some, Ok, refl, sym, ap}
use Rattle.ra_richpresence.specs.Grammar.{many}
use Rattle.ra_richpresence.specs.Reading.{run_at}
use Rattle.ra_text.specs.Chain.{Chain}
use Rattle.ra_text.specs.Form.{Form, Spell, One}
use Rattle.ra_text.specs.Reading.{Outcome, chain_at}
use Rattle.ra_text.proofs.Begins.{IsListed}
use Rattle.ra_text.proofs.Chains.{reader-chain}
use Rattle.ra_text.proofs.Readers.{Reader, reader-same, reader-spell}
use Rattle.ra_text.proofs.Spelled.{none-spelled, viable-by, link-spelled}

-- a symbol of the table, and behind it a text of the form that its tag gives
pub record Headed {A T V : Type 0} (table : A → Option T) (rest : T → Form A V) (text : List A) (v : V) : Type 0 where
  pub symbol : A
  pub tag : T
  pub behind : List A
  pub is : text ≡ symbol ∷ behind
  pub listed : table symbol ≡ Some tag
  pub of_rest : rest tag behind v

-- items of a table as a chain
abbrev pub chained : {A T V : Type 0} → (A → Option T) → (T → Form A V) → Form A (List V)
chained table rest = Chain {S = Unit {0}} (λ s. table) (λ s. rest) (λ s v. s) (λ s. true) tt

abbrev pub chained_at : {A T V : Type 0} → (A → Option T) → (T → List A → Outcome A V) → List A → Outcome A (List V)
chained_at table rest_at text =
    chain_at {S = Unit {0}} (λ s. table) (λ s. rest_at) (λ s v. s) (λ s. true) (length text) tt text

module _ {A T V : Type 0} (item : Form A V) (table : A → Option T) (rest : T → Form A V)
    (head : (t : List A) (v : V) → item t v → Headed table rest t v) (unhead : (t : List A) (v : V)
    → Headed table rest t v → item t v) where
  many-chain : (t : List A) (vs : List V) → many item t vs → chained table rest t vs
  many-chain t [] h = (h, refl)
  many-chain t (v ∷ vs) h =
      let p : Headed table rest h.front v = head h.front v h.of_item in
      link-spelled p.symbol p.tag p.behind h.behind (h.parts
      ∙ ap (λ f. f ++ h.behind) p.is) p.listed p.of_rest (many-chain h.behind vs h.of_others)

  chain-many : (t : List A) (vs : List V) → chained table rest t vs → many item t vs
  chain-many t [] h = h.0
  chain-many t (v ∷ vs) h = record {
    front = h.symbol ∷ h.front;
    behind = h.behind;
    parts = h.parts;
    of_item = unhead (h.symbol ∷ h.front) v
        (record {
          symbol = h.symbol;
          tag = h.tag;
          behind = h.front;
          is = refl;
          listed = h.separated;
          of_rest = h.of_item;
        });
    of_others = chain-many h.behind vs h.of_others;
  }

  -- any number of items
  pub reader-many : (rest_at : T → List A → Outcome A V) (goes_on item_on : A → Type 0)
      → ((tag : T) → Reader (rest tag) (rest_at tag) item_on) → ((c : A) → IsListed table c →
      item_on c → ⊥) → ((c : A) → item_on c → goes_on c) → ((c : A) → IsListed table c → goes_on c)
      → Reader (many item) (chained_at table rest_at) goes_on
  reader-many rest_at goes_on item_on items apart on_item on_table = reader-same
      (chained table rest) (many item) (chained_at table rest_at) goes_on chain-many many-chain
      (reader-chain {S = Unit {0}} (λ s. table) (λ s. rest) (λ s. rest_at) (λ s v. s)
      (λ s. true) goes_on item_on (λ s. items) (λ s. apart) on_item (λ s. on_table)
      (λ s. viable-by [] [] (refl, refl)) tt)

-- one symbol is one with nothing behind it
one-headed : {A V : Type 0} (table : A → Option V) (t : List A) (v : V) → One table t v
    → Headed table (λ tag. Spell tag) t v
one-headed table t v h =
    record { symbol = h.symbol; tag = v; behind = []; is = h.alone; listed = h.listed; of_rest = none-spelled }

headed-one : {A V : Type 0} (table : A → Option V) (t : List A) (v : V)
    → Headed table (λ tag. Spell tag) t v → One table t v
headed-one table t v h =
    record {
      symbol = h.symbol;
      alone = h.is ∙ ap (λ b. h.symbol ∷ b) h.of_rest.empty;
      listed = h.listed ∙ ap (λ x. Some x) (sym h.of_rest.is);
    }

-- symbols of a table
pub reader-run : {A V : Type 0} (table : A → Option V) → Reader (many (One table)) (run_at table) (IsListed table)
reader-run table = reader-many (One table) table (λ tag. Spell tag) (one-headed table)
    (headed-one table) (λ tag rest. Ok (tag, rest)) (IsListed table) (λ c. ⊥)
    (λ tag. reader-spell tag (λ c. ⊥)) (λ c h on. on) (λ c on. absurd on) (λ c h. h)
