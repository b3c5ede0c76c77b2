-- Either of two forms: the reading that goes further is that of both.
use Rattle.std.proofs.Common.{◌≡◌, inl, inr, ◌<◌, ◌≤◌, List, [], ◌∷◌, ◌++◌, length, Option, Some, None, Ok, Err, refl}
use Rattle.std.proofs.Common.{sym, ap, ◌∙◌, subst, arith, append_assoc, length-append, le_refl, le_trans}
use Rattle.std.proofs.lemmas.Bool.{cases_lt}
use Rattle.ra_text.specs.Form.{Form, Spell, One, Then, Viable, ◌or◌, optional}
use Rattle.ra_text.specs.Reading.{Outcome, rest_of, Reads, ◌>>=◌, one_at, optional_at, taken, taken_or}
use Rattle.ra_text.proofs.Steps.{reads-same, reads-shorter, viable-front, viable-whole, viable-same}
use Rattle.ra_text.proofs.Readers.{Reader, reader-spell, reader-one, Listed, reads-of}
use Rattle.ra_text.proofs.Begins.{IsListed}
use Rattle.ra_text.proofs.Spelled.{then-spelled, viable-by}

-- of two ways to cut a text, the one with the shorter front has the next symbol within the other's front
pub longer-front : {A : Type 0} (front rest other left : List A) → front ++ rest ≡ other ++ left
    → length left < length rest
    → (c : A) × (more : List A) × (behind : List A) × (rest ≡ c ∷ more) × (other ≡ (front ++ c ∷ []) ++ behind)
longer-front [] [] other left e less = absurd (omega (arith, length-append other left, ap length e))
longer-front [] (c ∷ more) [] left e less = absurd (omega (arith, ap length e))
longer-front [] (c ∷ more) (d ∷ other) left e less = let same : d ≡ c = cc e in
    (c, more, other, refl, ap (λ x. x ∷ other) same)
longer-front (a ∷ front) rest [] left e less = absurd (omega (arith, length-append front rest, ap length e))
longer-front (a ∷ front) rest (b ∷ other) left e less =
    let same : b ≡ a = cc e in
    let tail : front ++ rest ≡ other ++ left = cc e in
    let next : (c : _) × (more : List _) × (behind : List _) × (rest ≡ c ∷ more)
    × (other ≡ (front ++ c ∷ []) ++ behind) = longer-front front rest other left tail less in
    (next.0, next.1, next.2, next.3, (ap (λ x. x ∷ other) same ∙ ap (λ t. a ∷ t) next.4))

-- two fronts of one text with rests of one length are one
pub same-front : {A : Type 0} (front rest other left : List A) → front ++ rest ≡ other ++ left
    → length left ≡ length rest → front ≡ other
same-front [] rest [] left e same = refl
same-front [] rest (d ∷ other) left e same = absurd (omega (arith, length-append other left, ap length e))
same-front (a ∷ front) rest [] left e same = absurd (omega (arith, length-append front rest, ap length e))
same-front (a ∷ front) rest (b ∷ other) left e same =
    let head : a ≡ b = cc e in
    let tail : front ++ rest ≡ other ++ left = cc e in
    ap (λ x. x ∷ front) head ∙ ap (λ t. b ∷ t) (same-front front rest other left tail same)

-- a reading that stopped earlier halted on what another front has
pub reads-past : {A V : Type 0} {form : Form A V} {text : List A} {outcome : Outcome A V}
    → Reads form text outcome → (front left : List A) → text ≡ front ++ left
    → length left < length (rest_of outcome) → Viable form front → ⊥
reads-past {A} {V} {form} {text} {outcome} r front left parts less viable =
    let next : (c : A) × (more : List A) × (behind : List A) × (rest_of outcome ≡ c ∷ more)
    × (front ≡ (r.front ++ c ∷ []) ++ behind) =
    longer-front r.front (rest_of outcome) front left (sym r.parts ∙ parts) less in
    r.halts next.0 next.1 next.3
    (viable-front (r.front ++ next.0 ∷ []) next.2 (subst (λ t. Viable form t) next.4 viable))

-- The reading of one form stops before another, or fails where it is not behind it.
pub data StopsShort {A V : Type 0} (winner loser : Outcome A V) : Type 0 where
  stops_before : length (rest_of winner) < length (rest_of loser) → StopsShort winner loser
  fails_by : (rest : List A) → loser ≡ Err rest → length (rest_of winner) ≤ length rest → StopsShort winner loser

stops-by : {A V : Type 0} {winner loser : Outcome A V} → StopsShort winner loser
    → length (rest_of winner) ≤ length (rest_of loser)
stops-by (stops_before less) = omega arith
stops-by {A} {V} {winner} {loser} (fails_by rest e le) = omega (arith, ap (λ o. length (rest_of o)) e)

-- what the reading that stops short says of the other's front: no text of its form stands there
short-outside : {A V : Type 0} {form : Form A V} {text : List A} {winner loser : Outcome A V}
    → Reads form text loser → StopsShort winner loser → (front : List A) → text
    ≡ front ++ rest_of winner → (v : V) → form front v → ⊥
short-outside {A} {V} {form} {text} {winner} {loser} r (stops_before less) front parts v h =
    reads-past r front (rest_of winner) parts less (viable-whole front v h)
short-outside {A} {V} {form} {text} {winner} {loser} r (fails_by rest e le) front parts v h =
    elim (cases_lt (length (rest_of winner)) (length (rest_of loser))) [
      | inl less ↦ reads-past r front (rest_of winner) parts less (viable-whole front v h)
      | inr ge ↦
          let same : length (rest_of winner) ≡ length (rest_of loser) = omega (arith, ap (λ o. length (rest_of o)) e) in
          let fronts : r.front ≡ front =
          same-front r.front (rest_of loser) front (rest_of winner) (sym r.parts ∙ parts) same in
          let ok : loser ≡ Ok (v, rest_of loser) = r.only v (subst (λ t. form t v) (sym fronts) h) in
          cc (ok, e)
    ]

-- Two readings of one text, of which the second stops short of the first, are one reading of either form.
pub reads-either : {A V : Type 0} (a b : Form A V) (text : List A) (winner loser : Outcome A V) →
    Reads a text winner → Reads b text loser → StopsShort winner loser → Reads (a or b) text winner
reads-either {A} {V} a b text winner loser ra rb short = record {
  front = ra.front;
  parts = ra.parts;
  viable = viable-same ra.front (λ more v h. (v, inl h)) ra.viable;
  halts = λ c rest e viable. elim viable.whole [
    | inl h ↦ ra.halts c rest e (viable-by viable.more viable.v h)
    | inr h ↦ reads-past rb (ra.front ++ c ∷ []) rest (ra.parts ∙ ap (λ t. ra.front ++ t) e
        ∙ sym (append_assoc ra.front (c ∷ []) rest))
        (omega (arith, stops-by short, ap length e))
        (viable-by viable.more viable.v h)
  ];
  spelled = λ v rest e. inl (ra.spelled v rest e);
  only = λ v h. elim h [ inl l ↦ ra.only v l | inr r ↦ absurd (short-outside rb short ra.front ra.parts v r) ];
}

-- The reading of one form loses against another: it fails before it, or it ends before a symbol that the form may go
-- on with.
pub data Loses {A V : Type 0} (goes_on : A → Type 0) (winner loser : Outcome A V) : Type 0 where
  fails : (rest : List A) → loser ≡ Err rest → length (rest_of winner) ≤ length rest → Loses goes_on winner loser
  shorter : (v : V) (c : A) (s : List A) → loser ≡ Ok (v, c ∷ s) → goes_on c
      → length (rest_of winner) ≤ length s → Loses goes_on winner loser

pub data Picks {A V : Type 0} (goes_on : A → Type 0) (a b picked : Outcome A V) : Type 0 where
  first : picked ≡ a → Loses goes_on a b → Picks goes_on a b picked
  second : picked ≡ b → Loses goes_on b a → Picks goes_on a b picked

-- what is done with the rest leaves no more of it
then-shorter : {A V W : Type 0} (K : V → Form A W) (k : V × List A → Outcome A W) (text : List A)
    (outcome : Outcome A V) → length (rest_of outcome) ≤ length text
    → ((v : V) (rest : List A) → length rest ≤ length text → Reads (K v) rest (k (v, rest)))
    → length (rest_of (outcome >>= k)) ≤ length (rest_of outcome)
then-shorter K k text (Ok x) le reads = reads-shorter (reads x.0 x.1 le)
then-shorter K k text (Err rest) le reads = le_refl (length rest)

-- a reading that ends before a symbol that its form may go on with halts there, whatever follows
stays-before : {A W : Type 0} {form : Form A W} {c : A} {s : List A} {outcome : Outcome A W}
    → Reads form (c ∷ s) outcome → ((t : List A) (w : W) → form (c ∷ t) w → ⊥)
    → length s < length (rest_of outcome)
stays-before {A} {W} {form} {c} {s} {outcome} r never =
    elim (cases_lt (length s) (length (rest_of outcome))) [
      | inl less ↦ less
      | inr ge ↦
          let next : (d : A) × (more : List A) × (behind : List A) × (c ∷ s ≡ d ∷ more)
          × (r.front ≡ ([] ++ d ∷ []) ++ behind) =
          longer-front [] (c ∷ s) r.front (rest_of outcome) r.parts (omega arith) in
          let same : next.0 ≡ c = cc (next.3) in
          absurd (never (next.2 ++ r.viable.more) r.viable.v (subst (λ t. form
          (t ++ r.viable.more) r.viable.v) (next.4 ∙ ap (λ x. x ∷ next.2) same) r.viable.whole))
    ]

-- a reading that loses stops short, whatever is done with the rest
loses-short : {A V W : Type 0} (K : V → Form A W) (k : V × List A → Outcome A W) (text : List A)
    (goes_on : A → Type 0) (winner loser : Outcome A V)
    → length (rest_of winner) ≤ length text → length (rest_of loser) ≤ length text
    → ((v : V) (rest : List A) → length rest ≤ length text → Reads (K v) rest (k (v, rest)))
    → ((v : V) (c : A) (s : List A) (w : W) → K v (c ∷ s) w → goes_on c → ⊥)
    → Loses goes_on winner loser → StopsShort (winner >>= k) (loser >>= k)
loses-short K k text goes_on winner loser x y reads apart (fails rest e le) =
    fails_by rest (ap (λ o. o >>= k) e) (le_trans (then-shorter K k text winner x reads) le)
loses-short {A} {V} {W} K k text goes_on winner loser x y reads apart (shorter v c s e on le) =
    let within : length (c ∷ s) ≤ length text = subst (λ o. length (rest_of o) ≤ length text) e y in
    let stays : length s < length (rest_of (k (v, c ∷ s))) =
    stays-before (reads v (c ∷ s) within) (λ t w h. apart v c t w h on) in
    let here : length s < length (rest_of (loser >>= k)) =
    subst (λ o. length s < length (rest_of (o >>= k))) (sym e) stays in
    let w : length (rest_of (winner >>= k)) ≤ length (rest_of winner) = then-shorter K k text winner x reads in
    stops_before (omega arith)

either-then : {A V W : Type 0} (a b : Form A V) (K : V → Form A W) (t : List A) (w : W)
    → (Then a K or Then b K) t w → Then (a or b) K t w
either-then a b K t w (inl h) = then-spelled h.front h.behind h.v h.parts (inl h.of_first) h.of_next
either-then a b K t w (inr h) = then-spelled h.front h.behind h.v h.parts (inr h.of_first) h.of_next

then-either : {A V W : Type 0} (a b : Form A V) (K : V → Form A W) (t : List A) (w : W)
    → Then (a or b) K t w → (Then a K or Then b K) t w
then-either a b K t w h = elim h.of_first [
  | inl l ↦ inl (then-spelled h.front h.behind h.v h.parts l h.of_next)
  | inr r ↦ inr (then-spelled h.front h.behind h.v h.parts r h.of_next)
]

or-swap : {A V : Type 0} (a b : Form A V) (t : List A) (v : V) → (a or b) t v → (b or a) t v
or-swap a b t v (inl h) = inr h
or-swap a b t v (inr h) = inl h

or-reads : {A V W : Type 0} (a b : Form A V) (K : V → Form A W) (k : V × List A → Outcome A W)
    (text : List A) (goes_on : A → Type 0) (x y picked : Outcome A V)
    → length (rest_of x) ≤ length text → length (rest_of y) ≤ length text
    → Reads (Then a K) text (x >>= k) → Reads (Then b K) text (y >>= k)
    → ((v : V) (rest : List A) → length rest ≤ length text → Reads (K v) rest (k (v, rest)))
    → ((v : V) (c : A) (s : List A) (w : W) → K v (c ∷ s) w → goes_on c → ⊥)
    → Picks goes_on x y picked → Reads (Then (a or b) K) text (picked >>= k)
or-reads a b K k text goes_on x y picked lx ly ra rb reads apart (first e loses) =
    subst (λ o. Reads (Then (a or b) K) text (o >>= k)) (sym e)
    (reads-same (Then a K or Then b K) (Then (a or b) K) (either-then a b K) (then-either a b K)
    (reads-either (Then a K) (Then b K) text (x >>= k) (y >>= k) ra rb
    (loses-short K k text goes_on x y lx ly reads apart loses)))
or-reads a b K k text goes_on x y picked lx ly ra rb reads apart (second e loses) =
    subst (λ o. Reads (Then (a or b) K) text (o >>= k)) (sym e)
    (reads-same (Then b K or Then a K) (Then (a or b) K)
    (λ t w h. either-then a b K t w (or-swap (Then b K) (Then a K) t w h))
    (λ t w h. or-swap (Then a K) (Then b K) t w (then-either a b K t w h))
    (reads-either (Then b K) (Then a K) text (y >>= k) (x >>= k) rb ra
    (loses-short K k text goes_on y x ly lx reads apart loses)))

-- either of two forms, where at each text the reading that is picked goes further
pub reader-or : {A V : Type 0} (a b : Form A V) (a_at b_at at : List A → Outcome A V) (goes_on : A
    → Type 0) → Reader a a_at goes_on → Reader b b_at goes_on
    → ((text : List A) → Picks goes_on (a_at text) (b_at text) (at text)) → Reader (a or b) at goes_on
reader-or a b a_at b_at at goes_on ra rb picks = record {
  before = λ W K k text reads apart. or-reads a b K k text goes_on (a_at text) (b_at text) (at text)
      (reads-shorter (reads-of a a_at goes_on ra text)) (reads-shorter (reads-of b b_at goes_on rb text))
      (ra.before W K k text reads apart) (rb.before W K k text reads apart) reads apart (picks text);
}

optional-picks : {A V : Type 0} (table : A → Option V) (none : V) (c : A) (text : List A)
    (found : Option V) → table c ≡ found
    → Picks (IsListed table) (taken found c text) (Ok (none, c ∷ text)) (taken_or none found c text)
optional-picks table none c text (Some v) is = first refl (shorter none c text refl (v, is) (le_refl (length text)))
optional-picks table none c text None is = second refl (fails (c ∷ text) refl (le_refl (length (c ∷ text))))

-- a symbol that the table has, or nothing
pub reader-optional : {A V : Type 0} (table : A → Option V) (none : V) → Listed table
    → Reader (optional table none) (optional_at table none) (IsListed table)
reader-optional {A} {V} table none listed = reader-or (One table) (Spell none) (one_at table)
    (λ text. Ok (none, text)) (optional_at table none) (IsListed table)
    (reader-one table (IsListed table) listed) (reader-spell none (IsListed table)) picks where
      picks : (text : List A) → Picks (IsListed table) (one_at table text) (Ok (none, text))
          (optional_at table none text)
      picks [] = second refl (fails [] refl (le_refl 0))
      picks (c ∷ text) = optional-picks table none c text (table c) refl
