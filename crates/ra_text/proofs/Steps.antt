-- One reading: what it leaves, what it is of another form or of one symbol more, and where two readings cannot both go
-- on.
use Rattle.std.proofs.Common.{◌≡◌, ◌∙◌, ◌≤◌, List, [], ◌∷◌, ◌++◌, length, Ok, Err, refl, sym, ap, subst, arith}
use Rattle.std.proofs.Common.{append_assoc, append-nil, length-append}
use Rattle.ra_text.specs.Form.{Form, Viable}
use Rattle.ra_text.specs.Reading.{Outcome, rest_of, Reads}
use Rattle.ra_text.proofs.Spelled.{viable-by}

-- what two readings that are one answer
pub same-ok : {A V : Type 0} (x y : V × List A) → ◌≡◌ {A = Outcome A V} (Ok x) (Ok y) → x ≡ y
same-ok x y e = cc e

-- what is left is no longer than the text
pub reads-shorter : {A V : Type 0} {form : Form A V} {text : List A} {outcome : Outcome A V}
    → Reads form text outcome → length (rest_of outcome) ≤ length text
reads-shorter {A} {V} {form} {text} {outcome} r =
    omega (arith, length-append r.front (rest_of outcome), ap length r.parts)

-- a shorter front of what begins some text begins some text
pub viable-front : {A V : Type 0} {form : Form A V} (front behind : List A)
    → Viable form (front ++ behind) → Viable form front
viable-front {A} {V} {form} front behind viable = viable-by (behind ++ viable.more) viable.v
    (subst (λ text. form text viable.v) (append_assoc front behind viable.more) viable.whole)

-- a text of a form is viable
pub viable-whole : {A V : Type 0} {form : Form A V} (text : List A) (v : V) → form text v → Viable form text
viable-whole {A} {V} {form} text v h =
    viable-by [] v (subst (λ t. form t v) (sym (append-nil text)) h)

-- what begins a text of one form begins one of another
pub viable-same : {A V W : Type 0} {a : Form A V} {b : Form A W} (front : List A) → ((more : List A)
    (v : V) → a (front ++ more) v → (w : W) × b (front ++ more) w) → Viable a front → Viable b front
viable-same front into viable = viable-by viable.more ((into viable.more viable.v viable.whole).0)
    ((into viable.more viable.v viable.whole).1)

-- a reading of a form is one of every form with the same texts
pub reads-same : {A V : Type 0} (a b : Form A V) {text : List A} {outcome : Outcome A V}
    → ((t : List A) (v : V) → a t v → b t v) → ((t : List A) (v : V) → b t v → a t v)
    → Reads a text outcome → Reads b text outcome
reads-same a b into back r = record {
  front = r.front;
  parts = r.parts;
  viable = viable-same r.front (λ more v h. (v, into (r.front ++ more) v h)) r.viable;
  halts = λ symbol rest e viable. r.halts symbol rest e (viable-same (r.front ++ symbol ∷ [])
      (λ more v h. (v, back ((r.front ++ symbol ∷ []) ++ more) v h)) viable);
  spelled = λ v rest e. into r.front v (r.spelled v rest e);
  only = λ v h. r.only v (back r.front v h);
}

-- the text is empty, or begins with the same symbol as the one that is read
abbrev pub BeginsAs : {A : Type 0} → List A → List A → Type 0
BeginsAs {A} text t = (c : A) (s : List A) → t ≡ c ∷ s → (rest : List A) × (text ≡ c ∷ rest)

front-begins : {A : Type 0} (front rest : List A) → BeginsAs (front ++ rest) front
front-begins [] rest c s e = absurd (cc e)
front-begins (d ∷ front) rest c s e = let same : d ≡ c = cc e in (front ++ rest, ap (λ x. x ∷ (front ++ rest)) same)

next-begins : {A : Type 0} (front : List A) (symbol : A) (rest more : List A)
    → BeginsAs (front ++ symbol ∷ rest) ((front ++ symbol ∷ []) ++ more)
next-begins [] symbol rest more c s e = let same : symbol ≡ c = cc e in (rest, ap (λ x. x ∷ rest) same)
next-begins (d ∷ front) symbol rest more c s e = let same : d ≡ c = cc e in
    (front ++ symbol ∷ rest, ap (λ x. x ∷ (front ++ symbol ∷ rest)) same)

-- a reading of a form is one of a form that has more texts, where none of these begins as this text does
pub reads-more : {A V : Type 0} (a b : Form A V) {text : List A} {outcome : Outcome A V}
    → ((t : List A) (v : V) → a t v → b t v) → ((t : List A) (v : V) → BeginsAs text t → b t v
    → a t v) → Reads a text outcome → Reads b text outcome
reads-more a b {text} {outcome} into back r = record {
  front = r.front;
  parts = r.parts;
  viable = viable-same r.front (λ more v h. (v, into (r.front ++ more) v h)) r.viable;
  halts = λ symbol rest e viable. r.halts symbol rest e (viable-same (r.front ++ symbol ∷ []) (λ more v h. (
    v,
    back ((r.front ++ symbol ∷ []) ++ more) v
        (subst (λ t. BeginsAs t ((r.front ++ symbol ∷ []) ++ more))
        (sym (r.parts ∙ ap (λ t. r.front ++ t) e)) (next-begins r.front symbol rest more)) h,
  )) viable);
  spelled = λ v rest e. into r.front v (r.spelled v rest e);
  only = λ v h. r.only v (back r.front v
      (subst (λ t. BeginsAs t r.front) (sym r.parts) (front-begins r.front (rest_of outcome))) h);
}

-- One symbol before a text that is read: the texts that begin with it are those of the other form.
pub reads-step : {A V : Type 0} (outer inner : Form A V) (symbol : A) (text : List A) (outcome : Outcome A V)
    → ((t : List A) (v : V) → inner t v → outer (symbol ∷ t) v)
    → ((t : List A) (v : V) → outer (symbol ∷ t) v → inner t v)
    → Reads inner text outcome → Reads outer (symbol ∷ text) outcome
reads-step outer inner symbol text outcome into back r = record {
  front = symbol ∷ r.front;
  parts = ap (λ t. symbol ∷ t) r.parts;
  viable = viable-by r.viable.more r.viable.v
      (into (r.front ++ r.viable.more) r.viable.v r.viable.whole);
  halts = λ next rest e viable. r.halts next rest e
      (viable-by viable.more viable.v
      (back ((r.front ++ next ∷ []) ++ viable.more) viable.v viable.whole));
  spelled = λ v rest e. into r.front v (r.spelled v rest e);
  only = λ v h. r.only v (back r.front v h);
}

-- nothing is read where no text of the form begins so
pub reads-none : {A V : Type 0} (form : Form A V) (text : List A) → Viable form []
    → ((symbol : A) (rest : List A) → text ≡ symbol ∷ rest → Viable form (symbol ∷ []) → ⊥)
    → ((v : V) → form [] v → ⊥) → Reads form text (Err text)
reads-none form text viable halts outside = record {
  front = [];
  parts = refl;
  viable = viable;
  halts = halts;
  spelled = λ v rest e. absurd (cc e);
  only = λ v h. absurd (outside v h);
}

-- the empty text is read, and no text of the form begins so
pub reads-spell : {A V : Type 0} (form : Form A V) (text : List A) (v : V) → form [] v
    → ((w : V) → form [] w → w ≡ v) → ((symbol : A) (rest : List A) → text ≡ symbol ∷ rest
    → Viable form (symbol ∷ []) → ⊥) → Reads form text (Ok (v, text))
reads-spell form text v here unique halts = record {
  front = [];
  parts = refl;
  viable = viable-whole [] v here;
  halts = halts;
  spelled = λ w rest e. subst (λ x. form [] x) (ap (λ p. p.0) (same-ok (v, text) (w, rest) e)) here;
  only = λ w h. let same : w ≡ v = unique w h in cc same;
}
