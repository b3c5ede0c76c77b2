-- The cases of choice and of sequence that occur in grammars.
use Rattle.std.proofs.Common.{◌≡◌, inl, inr, ℕ, ◌≤◌, Bool, true, false, if◌then◌else◌, ◌==◌, List, [], ◌∷◌, ◌++◌}
use Rattle.std.proofs.Common.{length, Some, None, Ok, Err, refl, sym, ap, ◌∙◌, subst, eqb-true, eq-eqb}
use Rattle.std.proofs.lemmas.Bool.{cases_lt}
use Rattle.ra_text.specs.Form.{Form, Spell, One, Literal, Then, Viable, ◌or◌}
use Rattle.ra_text.specs.Reading.{Outcome, rest_of, Reads, ◌>>=◌, one_at, choice_at, begins, taken, literal_at}
use Rattle.ra_text.specs.Table.{only}
use Rattle.ra_text.proofs.Steps.{reads-shorter, viable-front}
use Rattle.ra_text.proofs.Readers.{Reader, reader-spell, reader-one, reader-then, reader-same, reader-at, reads-of}
use Rattle.ra_text.proofs.Begins.{Begins, reader-follows, firsts-spell}
use Rattle.ra_text.proofs.Choice.{Picks, first, second, Loses, fails, shorter, reader-or, longer-front}
use Rattle.ra_text.proofs.Spelled.{then-spelled, one-spelled}

-- a reader's value, changed
pub reader-map : {A V W : Type 0} (a : Form A V) (a_at : List A → Outcome A V) (t : A → Type 0)
    (f : V → W) → Reader a a_at t
    → Reader (Then a (λ v. Spell (f v))) (λ text. a_at text >>= λ x. Ok (f x.0, x.1)) t
reader-map a a_at t f ra = reader-follows a (λ v. Spell (f v)) a_at (λ x. Ok (f x.0, x.1)) t
    (λ c. ⊥) t ra (λ v. reader-spell (f v) t) (λ v. firsts-spell (f v) (λ c. ⊥)) (λ c on h. h)
    (λ c on. on)

-- a reading of a text whose front begins some text takes that front
pub reads-takes_front : {A V : Type 0} {form : Form A V} {outcome : Outcome A V}
    (front behind : List A) → Reads form (front ++ behind) outcome → Viable form front
    → length (rest_of outcome) ≤ length behind
reads-takes_front {A} {V} {form} {outcome} front behind r viable =
    elim (cases_lt (length behind) (length (rest_of outcome))) [
      | inl less ↦
          let next : (c : A) × (more : List A) × (after : List A) × (rest_of outcome ≡ c ∷ more)
          × (front ≡ (r.front ++ c ∷ []) ++ after) =
          longer-front r.front (rest_of outcome) front behind (sym r.parts) less in
          absurd (r.halts next.0 next.1 next.3
          (viable-front (r.front ++ next.0 ∷ []) next.2 (subst (λ t. Viable form t) next.4 viable)))
      | inr ge ↦ ge
    ]

-- nothing is read before a symbol that no text of the form begins with, nor at the end, where no text is empty
pub reads-fails : {A V : Type 0} {form : Form A V} {text : List A} {outcome : Outcome A V}
    → Reads form text outcome → ((v : V) → form [] v → ⊥) → ((c : A) (s : List A) → text ≡ c ∷ s
    → (t : List A) (v : V) → form (c ∷ t) v → ⊥) → outcome ≡ Err text
reads-fails {A} {V} {form} {text} {outcome} r not_empty never = cases r.front outcome r.parts r.viable r.spelled where
  cases : (front : List A) (o : Outcome A V) → text ≡ front ++ rest_of o → Viable form front
      → ((v : V) (rest : List A) → o ≡ Ok (v, rest) → form front v) → o ≡ Err text
  cases [] (Ok x) parts viable spelled = absurd (not_empty x.0 (spelled x.0 x.1 refl))
  cases [] (Err rest) parts viable spelled = ap (λ t. Err t) (sym parts)
  cases (c ∷ front) o parts viable spelled =
      absurd (never c (front ++ rest_of o) parts (front ++ viable.more) viable.v viable.whole)

-- nothing is taken before a symbol that no text of the form begins with
pub reads-stays : {A V : Type 0} {form : Form A V} {c : A} {s : List A} {outcome : Outcome A V}
    → Reads form (c ∷ s) outcome → ((t : List A) (v : V) → form (c ∷ t) v → ⊥) → rest_of outcome
    ≡ c ∷ s
reads-stays {A} {V} {form} {c} {s} {outcome} r never = cases r.front r.parts r.viable where
  cases : (front : List A) → c ∷ s ≡ front ++ rest_of outcome → Viable form front → rest_of outcome ≡ c ∷ s
  cases [] parts viable = sym parts
  cases (d ∷ front) parts viable = let same : d ≡ c = cc parts in absurd (never
      (front ++ viable.more) viable.v
      (subst (λ x. form (x ∷ (front ++ viable.more)) viable.v) same viable.whole))

-- The first symbol decides between two forms of which none has the empty text.
pub reader-by_test : {A V : Type 0} (a b : Form A V) (a_at b_at : List A → Outcome A V) (test : A
    → Bool) (u w goes_on : A → Type 0)
    → Reader a a_at goes_on → Reader b b_at goes_on → Begins a u → Begins b w
    → ((c : A) → test c ≡ true → w c → ⊥) → ((c : A) → test c ≡ false → u c → ⊥)
    → Reader (a or b) (choice_at (begins test) a_at b_at) goes_on
reader-by_test {A} {V} a b a_at b_at test u w goes_on ra rb begins_a begins_b not_b not_a =
    reader-or a b a_at b_at (choice_at (begins test) a_at b_at) goes_on ra rb picks where
      picks-at : (c : A) (s : List A) (decision : Bool) → test c ≡ decision → Picks goes_on
          (a_at (c ∷ s)) (b_at (c ∷ s)) (if decision then a_at (c ∷ s) else b_at (c ∷ s))
      picks-at c s true e = first refl (fails (c ∷ s)
          (reads-fails (reads-of b b_at goes_on rb (c ∷ s)) begins_b.not_empty
          (λ d t is t' v h. not_b d (let same : c ≡ d = cc is in subst (λ x. test x ≡ true) same e)
          (begins_b.first d t' v h))) (reads-shorter (reads-of a a_at goes_on ra (c ∷ s))))
      picks-at c s false e = second refl (fails (c ∷ s)
          (reads-fails (reads-of a a_at goes_on ra (c ∷ s)) begins_a.not_empty
          (λ d t is t' v h. not_a d (let same : c ≡ d = cc is in subst (λ x. test x ≡ false) same e)
          (begins_a.first d t' v h))) (reads-shorter (reads-of b b_at goes_on rb (c ∷ s))))

      picks : (text : List A) → Picks goes_on (a_at text) (b_at text) (choice_at (begins test) a_at b_at text)
      picks [] = second refl (fails [] (reads-fails (reads-of a a_at goes_on ra []) begins_a.not_empty
          (λ d t is t' v h. absurd (cc is))) (reads-shorter (reads-of b b_at goes_on rb [])))
      picks (c ∷ s) = picks-at c s (test c) refl

-- The first symbol decides for a form before one that may be empty: then the form goes on with it.
pub reader-or_else : {A V : Type 0} (a b : Form A V) (a_at b_at : List A → Outcome A V) (test : A
    → Bool) (u goes_on : A → Type 0)
    → Reader a a_at goes_on → Reader b b_at goes_on → Begins a u
    → ((c : A) → test c ≡ true → Viable a (c ∷ [])) → ((c : A) → test c ≡ true → goes_on c)
    → ((c : A) (s : List A) (v : V) → test c ≡ true → b (c ∷ s) v → ⊥) → ((c : A) → test c ≡ false → u c → ⊥)
    → Reader (a or b) (choice_at (begins test) a_at b_at) goes_on
reader-or_else {A} {V} a b a_at b_at test u goes_on ra rb begins_a opens on not_b not_a =
    reader-or a b a_at b_at (choice_at (begins test) a_at b_at) goes_on ra rb picks where
      loses : (c : A) (s : List A) → test c ≡ true → (outcome : Outcome A V) → rest_of outcome ≡ c ∷ s
          → Loses goes_on (a_at (c ∷ s)) outcome
      loses c s e (Ok x) stays = shorter x.0 c s (ap (λ t. Ok (x.0, t)) stays) (on c e)
          (reads-takes_front (c ∷ []) s (reads-of a a_at goes_on ra (c ∷ s)) (opens c e))
      loses c s e (Err rest) stays =
          fails (c ∷ s) (ap (λ t. Err t) stays) (reads-shorter (reads-of a a_at goes_on ra (c ∷ s)))

      picks-at : (c : A) (s : List A) (decision : Bool) → test c ≡ decision → Picks goes_on
          (a_at (c ∷ s)) (b_at (c ∷ s)) (if decision then a_at (c ∷ s) else b_at (c ∷ s))
      picks-at c s true e = first refl (loses c s e (b_at (c ∷ s))
          (reads-stays (reads-of b b_at goes_on rb (c ∷ s)) (λ t v h. not_b c t v e h)))
      picks-at c s false e = second refl (fails (c ∷ s)
          (reads-fails (reads-of a a_at goes_on ra (c ∷ s)) begins_a.not_empty
          (λ d t is t' v h. not_a d (let same : c ≡ d = cc is in subst (λ x. test x ≡ false) same e)
          (begins_a.first d t' v h))) (reads-shorter (reads-of b b_at goes_on rb (c ∷ s))))

      picks : (text : List A) → Picks goes_on (a_at text) (b_at text) (choice_at (begins test) a_at b_at text)
      picks [] = second refl (fails [] (reads-fails (reads-of a a_at goes_on ra []) begins_a.not_empty
          (λ d t is t' v h. absurd (cc is))) (reads-shorter (reads-of b b_at goes_on rb [])))
      picks (c ∷ s) = picks-at c s (test c) refl

-- the one byte that a table of one byte has
only-one : (byte c : ℕ) (v : Unit {0}) → only (byte ∷ []) c ≡ Some v → c ≡ byte
only-one byte c v e = cases (c == byte) refl e where
  cases : (same : Bool) → (c == byte) ≡ same → (if same then Some tt else None) ≡ Some v → c ≡ byte
  cases true is e = eqb-true c byte is
  cases false is e = absurd (cc e)

one-only : (byte : ℕ) → only (byte ∷ []) byte ≡ Some tt
one-only byte = rw (eq-eqb byte byte refl)

-- these bytes: the first, and then the others
literal-cons : (byte : ℕ) (others : List ℕ) (t : List ℕ) (v : Unit {0})
    → Then (One (only (byte ∷ []))) (λ x. Literal others) t v → Literal (byte ∷ others) t v
literal-cons byte others t v h = record {
  is = h.parts ∙ ap (λ front. front ++ h.behind) h.of_first.alone
      ∙ ap (λ behind. h.of_first.symbol ∷ behind) h.of_next.is
      ∙ ap (λ c. c ∷ others) (only-one byte h.of_first.symbol h.v h.of_first.listed);
}

cons-literal : (byte : ℕ) (others : List ℕ) (t : List ℕ) (v : Unit {0})
    → Literal (byte ∷ others) t v → Then (One (only (byte ∷ []))) (λ x. Literal others) t v
cons-literal byte others t v h = then-spelled (byte ∷ []) others tt h.is
    (one-spelled byte (one-only byte)) (record { is = refl })

literal-step : (byte : ℕ) (others : List ℕ) (text : List ℕ) → (one_at (only (byte ∷ [])) text
    >>= λ x. literal_at others x.1) ≡ literal_at (byte ∷ others) text
literal-step byte others [] = refl
literal-step byte others (c ∷ rest) = cases (c == byte) where
  mark : Unit {0}
  mark = tt

  cases : (same : Bool) → ◌≡◌ {A = Outcome ℕ (Unit {0})} (taken (if same then Some mark else None) c
      rest >>= λ x. literal_at others x.1) (if same then literal_at others rest else Err (c ∷ rest))
  cases true = refl
  cases false = refl

-- these bytes and no others
pub reader-literal : (bytes : List ℕ) (goes_on : ℕ → Type 0) → Reader (Literal bytes) (literal_at bytes) goes_on
reader-literal [] goes_on = reader-same (Spell tt) (Literal []) (literal_at []) goes_on (λ t v h.
    record { is = h.empty }) (λ t v h. record { empty = h.is; is = refl }) (reader-spell tt goes_on)
reader-literal (byte ∷ others) goes_on =
    reader-same (Then (One (only (byte ∷ []))) (λ x. Literal others)) (Literal (byte ∷ others))
    (literal_at (byte ∷ others)) goes_on (literal-cons byte others) (cons-literal byte others)
    (reader-at (Then (One (only (byte ∷ []))) (λ x. Literal others))
    (λ text. one_at (only (byte ∷ [])) text >>= λ x. literal_at others x.1)
    (literal_at (byte ∷ others)) goes_on (literal-step byte others)
    (reader-then (One (only (byte ∷ []))) (λ x. Literal others) (one_at (only (byte ∷ [])))
    (λ x. literal_at others x.1) (λ c. ⊥) goes_on
    (reader-one (only (byte ∷ [])) (λ c. ⊥) (record { symbol = byte; v = tt; listed = one-only byte }))
    (λ v. reader-literal others goes_on) (λ v c s x h on. on) (λ v x h c on. absurd on)))

pub begins-literal : (byte : ℕ) (others : List ℕ) → Begins (Literal (byte ∷ others)) (λ c. c ≡ byte)
begins-literal byte others = record {
  not_empty = λ v h. absurd (cc h.is);
  first = λ c s v h. cc h.is;
}
