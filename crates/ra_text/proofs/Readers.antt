-- Readers: what reads a form whatever stands behind it, and how readers are put one behind another.
use Rattle.std.proofs.Common.{◌≡◌, ◌≤◌, ◌⊎◌, inl, inr, List, [], ◌∷◌, ◌++◌, length, Option, Some, None, Ok, Err, refl}
use Rattle.std.proofs.Common.{sym, ap, ◌∙◌, subst, subst₂, arith, append_assoc, append-nil, le_trans, le_refl}
use Rattle.ra_text.specs.Form.{Form, Spell, One, Then, Viable}
use Rattle.ra_text.specs.Reading.{Outcome, Reads, ◌>>=◌, taken, one_at}
use Rattle.ra_text.proofs.Steps.{same-ok, reads-same, reads-step, reads-none, viable-whole}
use Rattle.ra_text.proofs.Spelled.{then-spelled, none-spelled, one-spelled, viable-by}

-- A reader of a form, before whatever does not begin with a symbol that goes on with the form.
pub record Reader {A V : Type 0} (form : Form A V) (at : List A → Outcome A V) (goes_on : A → Type 0) : Type 1 where
  pub before : (W : Type 0) (K : V → Form A W) (k : V × List A → Outcome A W) (text : List A)
      → ((v : V) (rest : List A) → length rest ≤ length text → Reads (K v) rest (k (v, rest)))
      → ((v : V) (c : A) (s : List A) (w : W) → K v (c ∷ s) w → goes_on c → ⊥)
      → Reads (Then form K) text (at text >>= k)

-- the empty text behind a form adds nothing
then-spell : {A V : Type 0} (form : Form A V) (text : List A) (v : V) → Then form (λ w. Spell w) text v → form text v
then-spell form text v h =
    let p : h.front ≡ text = sym (h.parts ∙ ap (λ t. h.front ++ t) h.of_next.empty ∙ append-nil h.front) in
    subst₂ (λ t w. form t w) p (sym h.of_next.is) h.of_first

spell-then : {A V : Type 0} (form : Form A V) (text : List A) (v : V) → form text v → Then form (λ w. Spell w) text v
spell-then form text v h = then-spelled text [] v (sym (append-nil text)) h none-spelled

-- what a reading gives is itself, when nothing is done with it
then-ok : {A V : Type 0} (outcome : Outcome A V) → (outcome >>= λ x. Ok (x.0, x.1)) ≡ outcome
then-ok (Ok x) = refl
then-ok (Err rest) = refl

-- the empty text is read before anything
reads-empty : {A V : Type 0} (v : V) (text : List A) → Reads (Spell v) text (Ok (v, text))
reads-empty v text = record {
  front = [];
  parts = refl;
  viable = viable-whole [] v none-spelled;
  halts = λ symbol rest e viable. absurd (cc viable.whole.empty);
  spelled = λ w rest e. record { empty = refl; is = sym (ap (λ p. p.0) (same-ok (v, text) (w, rest) e)) };
  only = λ w h. cc h.is;
}

-- a reader alone reads its form
pub reads-of : {A V : Type 0} (form : Form A V) (at : List A → Outcome A V) (goes_on : A → Type 0)
    → Reader form at goes_on → (text : List A) → Reads form text (at text)
reads-of {A} {V} form at goes_on r text =
    subst (λ o. Reads form text o) (then-ok (at text))
    (reads-same (Then form (λ v. Spell v)) form (then-spell form) (spell-then form)
    (r.before V (λ v. Spell v) (λ x. Ok (x.0, x.1)) text (λ v rest h. reads-empty v rest)
    (λ v c s w h on. absurd (cc h.empty))))

-- forms with the same texts have the same readers
pub reader-same : {A V : Type 0} (a b : Form A V) (at : List A → Outcome A V) (goes_on : A → Type 0)
    → ((t : List A) (v : V) → a t v → b t v) → ((t : List A) (v : V) → b t v → a t v)
    → Reader a at goes_on → Reader b at goes_on
reader-same a b at goes_on into back r = record {
  before = λ W K k text reads apart. reads-same (Then a K) (Then b K)
      (λ t w h. then-spelled h.front h.behind h.v h.parts (into h.front h.v h.of_first) h.of_next)
      (λ t w h. then-spelled h.front h.behind h.v h.parts (back h.front h.v h.of_first) h.of_next)
      (r.before W K k text reads apart);
}

-- readings that agree are the same reader
pub reader-at : {A V : Type 0} (form : Form A V) (at same : List A → Outcome A V) (goes_on : A
    → Type 0) → ((text : List A) → at text ≡ same text) → Reader form at goes_on
    → Reader form same goes_on
reader-at form at same goes_on e r = record {
  before = λ W K k text reads apart. subst (λ o. Reads (Then form K) text (o >>= k)) (e text)
      (r.before W K k text reads apart);
}

-- more symbols may go on
pub reader-wider : {A V : Type 0} (form : Form A V) (at : List A → Outcome A V) (t u : A → Type 0)
    → ((c : A) → t c → u c) → Reader form at t → Reader form at u
reader-wider form at t u wider r = record {
  before = λ W K k text reads apart. r.before W K k text reads (λ v c s w h on. apart v c s w h (wider c on));
}

-- nothing before a form adds nothing
spell-first : {A V W : Type 0} (v : V) (K : V → Form A W) (text : List A) (w : W) → K v text w → Then (Spell v) K text w
spell-first v K text w h = then-spelled [] text v refl none-spelled h

first-spell : {A V W : Type 0} (v : V) (K : V → Form A W) (text : List A) (w : W) → Then (Spell v) K text w → K v text w
first-spell v K text w h =
    let p : h.behind ≡ text = sym (h.parts ∙ ap (λ t. t ++ h.behind) h.of_first.empty) in
    subst₂ (λ x t. K x t w) h.of_first.is p h.of_next

pub reader-spell : {A V : Type 0} (v : V) (goes_on : A → Type 0) → Reader (Spell v) (λ text. Ok (v, text)) goes_on
reader-spell v goes_on = record {
  before = λ W K k text reads apart. reads-same (K v) (Then (Spell v) K) (spell-first v K)
      (first-spell v K) (reads v text (le_refl (length text)));
}

-- a symbol of a table before a form
one-first : {A V W : Type 0} (table : A → Option V) (K : V → Form A W) (c : A) (v : V) → table c
    ≡ Some v → (text : List A) (w : W) → K v text w → Then (One table) K (c ∷ text) w
one-first table K c v listed text w h = then-spelled (c ∷ []) text v refl (one-spelled c listed) h

-- the symbol that begins such a text is of the table
one-begins : {A V W : Type 0} (table : A → Option V) (K : V → Form A W) (c : A) (text : List A)
    (w : W) → (h : Then (One table) K (c ∷ text) w) → (table c ≡ Some h.v) × (text ≡ h.behind)
one-begins table K c text w h =
    let p : c ∷ text ≡ h.of_first.symbol ∷ h.behind = h.parts ∙ ap (λ t. t ++ h.behind) h.of_first.alone in
    let q : c ≡ h.of_first.symbol = cc p in
    (ap table q ∙ h.of_first.listed, cc p)

first-one : {A V W : Type 0} (table : A → Option V) (K : V → Form A W) (c : A) (v : V) → table c
    ≡ Some v → (text : List A) (w : W) → Then (One table) K (c ∷ text) w → K v text w
first-one table K c v listed text w h =
    let b : (table c ≡ Some h.v) × (text ≡ h.behind) = one-begins table K c text w h in
    let same : h.v ≡ v = cc (b.0, listed) in
    subst₂ (λ x t. K x t w) same (sym b.1) h.of_next

-- a symbol of a table: some symbol is listed, so that something begins so
pub record Listed {A V : Type 0} (table : A → Option V) : Type 0 where
  pub symbol : A
  pub v : V
  pub listed : table symbol ≡ Some v

-- no text begins with a symbol of a table where the table has none
pub one-not_listed : {A V W : Type 0} (table : A → Option V) (K : V → Form A W) (c : A)
    (text : List A) (w : W) → table c ≡ None → Then (One table) K (c ∷ text) w → ⊥
one-not_listed table K c text w none h = let b : (table c ≡ Some h.v) × (text ≡ h.behind) =
    one-begins table K c text w h in cc (b.0, none)

one-not_empty : {A V W : Type 0} (table : A → Option V) (K : V → Form A W) (w : W) → Then (One table) K [] w → ⊥
one-not_empty table K w h = let p : [] ≡ h.of_first.symbol ∷ h.behind =
    h.parts ∙ ap (λ t. t ++ h.behind) h.of_first.alone in cc p

-- an empty text begins some text of a form that is read
viable-empty : {A V : Type 0} {form : Form A V} {outcome : Outcome A V} → Reads form [] outcome → Viable form []
viable-empty {A} {V} {form} {outcome} r =
    viable-by (r.front ++ r.viable.more) r.viable.v r.viable.whole

-- a symbol of a table before a form begins some text where the form has one
one-viable : {A V W : Type 0} (table : A → Option V) (K : V → Form A W) → (l : Listed table)
    → Viable (K l.v) [] → Viable (Then (One table) K) []
one-viable table K l viable = viable-by (l.symbol ∷ viable.more) viable.v
    (one-first table K l.symbol l.v l.listed viable.more viable.v viable.whole)

one-taken : {A V W : Type 0} (table : A → Option V) (l : Listed table) (K : V → Form A W)
    (k : V × List A → Outcome A W) (c : A) (text : List A) (found : Option V) → table c ≡ found
    → ((v : V) (rest : List A) → length rest ≤ length (c ∷ text) → Reads (K v) rest (k (v, rest)))
    → Reads (Then (One table) K) (c ∷ text) (taken found c text >>= k)
one-taken table l K k c text (Some v) is reads = reads-step (Then (One table) K) (K v) c text
    (k (v, text)) (one-first table K c v is) (first-one table K c v is) (reads v text (omega arith))
one-taken {A} {V} {W} table l K k c text None is reads = reads-none (Then (One table) K) (c ∷ text)
    (one-viable table K l (viable-empty (reads l.v [] (omega arith))))
    (λ symbol rest e viable.
    let same : c ≡ symbol = cc e in
    one-not_listed table K symbol viable.more viable.v (subst (λ x. table x ≡ None) same is) viable.whole)
    (one-not_empty table K)

pub reader-one : {A V : Type 0} (table : A → Option V) (goes_on : A → Type 0) → Listed table
    → Reader (One table) (one_at table) goes_on
reader-one {A} {V} table goes_on l = record { before = λ W K k text reads apart. one-before W K k text reads } where
  one-before : (W : Type 0) (K : V → Form A W) (k : V × List A → Outcome A W) (text : List A)
      → ((v : V) (rest : List A) → length rest ≤ length text → Reads (K v) rest (k (v, rest)))
      → Reads (Then (One table) K) text (one_at table text >>= k)
  one-before W K k [] reads = reads-none (Then (One table) K) []
      (one-viable table K l (viable-empty (reads l.v [] (omega arith))))
      (λ symbol rest e viable. absurd (cc e)) (one-not_empty table K)
  one-before W K k (c ∷ text) reads = one-taken table l K k c text (table c) refl reads

-- three pieces cut from either side
then-left : {A V W X : Type 0} (a : Form A V) (b : V → Form A W) (K : W → Form A X) (text : List A)
    (x : X) → Then a (λ v. Then (b v) K) text x → Then (Then a b) K text x
then-left a b K text x h = then-spelled (h.front ++ h.of_next.front) h.of_next.behind h.of_next.v
    (h.parts ∙ ap (λ t. h.front ++ t) h.of_next.parts
    ∙ sym (append_assoc h.front h.of_next.front h.of_next.behind))
    (then-spelled h.front h.of_next.front h.v refl h.of_first h.of_next.of_first) h.of_next.of_next

then-right : {A V W X : Type 0} (a : Form A V) (b : V → Form A W) (K : W → Form A X) (text : List A)
    (x : X) → Then (Then a b) K text x → Then a (λ v. Then (b v) K) text x
then-right a b K text x h = then-spelled h.of_first.front
    (h.of_first.behind ++ h.behind) h.of_first.v (h.parts ∙ ap (λ t. t ++ h.behind) h.of_first.parts
    ∙ append_assoc h.of_first.front h.of_first.behind h.behind) h.of_first.of_first
    (then-spelled h.of_first.behind h.behind h.v refl h.of_first.of_next h.of_next)

-- two steps of reading done with the rest
read-then : {A V W X : Type 0} (outcome : Outcome A V) (f : V × List A → Outcome A W)
    (g : W × List A → Outcome A X) → (outcome >>= λ x. f (x.0, x.1) >>= g)
    ≡ ((outcome >>= λ x. f (x.0, x.1)) >>= g)
read-then (Ok x) f g = refl
read-then (Err rest) f g = refl

-- what begins two pieces begins the first, or the second where the first is empty
pub then-begins : {A V W : Type 0} (a : Form A V) (b : V → Form A W) (c : A)
    (front behind text : List A) → c ∷ text ≡ front ++ behind
    → ((front ≡ []) × (c ∷ text ≡ behind)) ⊎ ((rest : List A) × (front ≡ c ∷ rest))
then-begins a b c [] behind text parts = inl (refl, parts)
then-begins a b c (first ∷ rest) behind text parts = let same : c ≡ first = cc parts in
    inr (rest, ap (λ x. x ∷ rest) (sym same))

-- one form behind another
pub reader-then : {A V W : Type 0} (a : Form A V) (b : V → Form A W) (a_at : List A → Outcome A V)
    (b_at : V × List A → Outcome A W) (t w : A → Type 0)
    → Reader a a_at t → ((v : V) → Reader (b v) (λ text. b_at (v, text)) w)
    → ((v : V) (c : A) (s : List A) (x : W) → b v (c ∷ s) x → t c → ⊥)
    → ((v : V) (x : W) → b v [] x → (c : A) → t c → w c)
    → Reader (Then a b) (λ text. a_at text >>= λ x. b_at (x.0, x.1)) w
reader-then {A} {V} {W} a b a_at b_at t w ra rb apart passes = record {
  before = λ X K k text reads ends.
      subst (λ o. Reads (Then (Then a b) K) text o) (read-then (a_at text) b_at k)
      (reads-same (Then a (λ v. Then (b v) K)) (Then (Then a b) K) (then-left a b K) (then-right a b K)
      (ra.before X (λ v. Then (b v) K) (λ x. b_at (x.0, x.1) >>= k) text
      (λ v rest shorter. (rb v).before X K k rest (λ x rest' shorter'. reads x rest' (le_trans shorter' shorter)) ends)
      (λ v c s x h on.
      elim (then-begins (b v) K c h.front h.behind s h.parts) [
        | inl e ↦ ends h.v c s x (subst (λ text. K h.v text x) (sym e.1) h.of_next)
            (passes v h.v (subst (λ text. b v text h.v) e.0 h.of_first) c on)
        | inr e ↦ apart v c e.0 h.v (subst (λ text. b v text h.v) e.1 h.of_first) on
      ])));
}
