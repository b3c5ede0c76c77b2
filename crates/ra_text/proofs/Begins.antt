-- The symbols that the texts of a form begin with, and one form behind another that begins so.
use Rattle.std.proofs.Common.{◌≡◌, inl, inr, List, [], ◌∷◌, ◌++◌, Option, Some, refl, sym, ap, ◌∙◌, subst}
use Rattle.ra_text.specs.Form.{Form, Spell, One, Then, ◌or◌}
use Rattle.ra_text.specs.Reading.{Outcome, ◌>>=◌}
use Rattle.ra_text.proofs.Readers.{Reader, reader-then, then-begins}

-- no text of the form is empty, and each begins with such a symbol
pub record Begins {A V : Type 0} (form : Form A V) (u : A → Type 0) : Type 0 where
  pub not_empty : (v : V) → form [] v → ⊥
  pub first : (c : A) (s : List A) (v : V) → form (c ∷ s) v → u c

-- each text of the form that is not empty begins with such a symbol
pub record Firsts {A V : Type 0} (form : Form A V) (u : A → Type 0) : Type 0 where
  pub first : (c : A) (s : List A) (v : V) → form (c ∷ s) v → u c

pub firsts-begins : {A V : Type 0} (form : Form A V) (u : A → Type 0) → Begins form u → Firsts form u
firsts-begins form u b = record { first = b.first }

pub begins-wider : {A V : Type 0} (form : Form A V) (t u : A → Type 0) → ((c : A) → t c → u c)
    → Begins form t → Begins form u
begins-wider form t u wider b = record { not_empty = b.not_empty; first = λ c s v h. wider c (b.first c s v h) }

pub firsts-wider : {A V : Type 0} (form : Form A V) (t u : A → Type 0) → ((c : A) → t c → u c)
    → Firsts form t → Firsts form u
firsts-wider form t u wider b = record { first = λ c s v h. wider c (b.first c s v h) }

-- the table has the symbol
abbrev pub IsListed : {A V : Type 0} → (A → Option V) → A → Type 0
IsListed {A} {V} table c = (v : V) × (table c ≡ Some v)

pub begins-one : {A V : Type 0} (table : A → Option V) → Begins (One table) (IsListed table)
begins-one table = record {
  not_empty = λ v h. absurd (cc h.alone);
  first = λ c s v h. (v, (let same : c ≡ h.symbol = cc h.alone in ap table same ∙ h.listed));
}

pub begins-or : {A V : Type 0} (a b : Form A V) (u : A → Type 0) → Begins a u → Begins b u → Begins (a or b) u
begins-or a b u x y = record {
  not_empty = λ v h. elim h [ inl l ↦ x.not_empty v l | inr r ↦ y.not_empty v r ];
  first = λ c s v h. elim h [ inl l ↦ x.first c s v l | inr r ↦ y.first c s v r ];
}

-- the first of two pieces that are no text is empty
then-empty : {A : Type 0} (front behind : List A) → [] ≡ front ++ behind → ([] ≡ front) × ([] ≡ behind)
then-empty [] behind e = (refl, e)
then-empty (c ∷ front) behind e = absurd (cc e)

pub begins-then : {A V W : Type 0} (a : Form A V) (b : V → Form A W) (u : A → Type 0) → Begins a u → Begins (Then a b) u
begins-then a b u x = record {
  not_empty = λ w h. x.not_empty h.v (subst (λ t. a t h.v) (sym (then-empty h.front h.behind h.parts).0) h.of_first);
  first = λ c s w h. elim (then-begins a b c h.front h.behind s h.parts) [
    | inl e ↦ absurd (x.not_empty h.v (subst (λ t. a t h.v) e.0 h.of_first))
    | inr e ↦ x.first c e.0 h.v (subst (λ t. a t h.v) e.1 h.of_first)
  ];
}

-- behind a form that may be empty
pub begins-past : {A V W : Type 0} (a : Form A V) (b : V → Form A W) (u : A → Type 0) → Firsts a u
    → ((v : V) → Begins (b v) u) → Begins (Then a b) u
begins-past a b u x y = record {
  not_empty = λ w h. (y h.v).not_empty w
      (subst (λ t. b h.v t w) (sym (then-empty h.front h.behind h.parts).1) h.of_next);
  first = λ c s w h. elim (then-begins a b c h.front h.behind s h.parts) [
    | inl e ↦ (y h.v).first c s w (subst (λ t. b h.v t w) (sym e.1) h.of_next)
    | inr e ↦ x.first c e.0 h.v (subst (λ t. a t h.v) e.1 h.of_first)
  ];
}

pub firsts-spell : {A V : Type 0} (v : V) (u : A → Type 0) → Firsts (Spell {A = A} v) u
firsts-spell v u = record { first = λ c s w h. absurd (cc h.empty) }

pub firsts-or : {A V : Type 0} (a b : Form A V) (u : A → Type 0) → Firsts a u → Firsts b u → Firsts (a or b) u
firsts-or a b u x y = record { first = λ c s v h. elim h [ inl l ↦ x.first c s v l | inr r ↦ y.first c s v r ] }

pub firsts-then : {A V W : Type 0} (a : Form A V) (b : V → Form A W) (u : A → Type 0) → Firsts a u
    → ((v : V) → Firsts (b v) u) → Firsts (Then a b) u
firsts-then a b u x y = record {
  first = λ c s w h. elim (then-begins a b c h.front h.behind s h.parts) [
    | inl e ↦ (y h.v).first c s w (subst (λ t. b h.v t w) (sym e.1) h.of_next)
    | inr e ↦ x.first c e.0 h.v (subst (λ t. a t h.v) e.1 h.of_first)
  ];
}

-- one form behind another that cannot go on with the symbols that the second begins with
pub reader-behind : {A V W : Type 0} (a : Form A V) (b : V → Form A W) (a_at : List A → Outcome A V)
    (b_at : V × List A → Outcome A W) (t u w : A → Type 0)
    → Reader a a_at t → ((v : V) → Reader (b v) (λ text. b_at (v, text)) w)
    → ((v : V) → Begins (b v) u) → ((c : A) → t c → u c → ⊥)
    → Reader (Then a b) (λ text. a_at text >>= λ x. b_at (x.0, x.1)) w
reader-behind a b a_at b_at t u w ra rb begins apart = reader-then a b a_at b_at t w ra rb
    (λ v c s x h on. apart c on ((begins v).first c s x h))
    (λ v x h c on. absurd ((begins v).not_empty x h))

-- the same where the second may be empty: what goes on with the first then goes on with both
pub reader-follows : {A V W : Type 0} (a : Form A V) (b : V → Form A W) (a_at : List A
    → Outcome A V) (b_at : V × List A → Outcome A W) (t u w : A → Type 0)
    → Reader a a_at t → ((v : V) → Reader (b v) (λ text. b_at (v, text)) w)
    → ((v : V) → Firsts (b v) u) → ((c : A) → t c → u c → ⊥) → ((c : A) → t c → w c)
    → Reader (Then a b) (λ text. a_at text >>= λ x. b_at (x.0, x.1)) w
reader-follows a b a_at b_at t u w ra rb firsts apart wider = reader-then a b a_at b_at t w ra rb
    (λ v c s x h on. apart c on ((firsts v).first c s x h))
    (λ v x h c on. wider c on)
