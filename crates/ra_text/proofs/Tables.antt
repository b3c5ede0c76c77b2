-- Tables of bytes, and sets of bytes as lists, whose side conditions compute.
use Rattle.std.proofs.Common.{◌≡◌, ℕ, Bool, true, false, if◌then◌else◌, ◌==◌, not, List, [], ◌∷◌, ◌++◌, Option, Some}
use Rattle.std.proofs.Common.{None, Ok, Err, refl, sym, ap, ◌∙◌, subst, eqb-true, append-nil}
use Rattle.ra_text.specs.Form.{Form, One, Viable}
use Rattle.ra_text.specs.Reading.{Outcome, Reads}
use Rattle.ra_text.specs.Table.{lookup, is_in}
use Rattle.ra_text.proofs.Steps.{viable-front, viable-whole}
use Rattle.ra_text.proofs.Begins.{Begins, IsListed, begins-one, begins-wider}

-- the list has the byte
abbrev pub has : List ℕ → ℕ → Bool
has [] c = false
has (key ∷ keys) c = if c == key then true else has keys c

-- the byte is one of these
abbrev pub In : List ℕ → ℕ → Type 0
In keys c = has keys c ≡ true

-- no byte is in both lists
abbrev pub are_apart : List ℕ → List ℕ → Bool
are_apart [] others = true
are_apart (key ∷ keys) others = if has others key then false else are_apart keys others

-- each byte of the first list is in the second
abbrev pub is_within : List ℕ → List ℕ → Bool
is_within [] others = true
is_within (key ∷ keys) others = if has others key then is_within keys others else false

-- the bytes that a table has
abbrev pub keys_of : {V : Type 0} → List (ℕ × V) → List ℕ
keys_of [] = []
keys_of (entry ∷ table) = entry.0 ∷ keys_of table

-- each byte of the list passes the test
abbrev pub all_pass : (ℕ → Bool) → List ℕ → Bool
all_pass test [] = true
all_pass test (key ∷ keys) = if test key then all_pass test keys else false

-- what holds of a byte of a list that passes a test
pub passes : (test : ℕ → Bool) (keys : List ℕ) → all_pass test keys ≡ true → (c : ℕ) → In keys c → test c ≡ true
passes test [] all c here = absurd (cc here)
passes test (key ∷ keys) all c here =
    cases (λ h others. passes test keys others c h) (c == key) refl here (test key) refl all where
      cases : (has keys c ≡ true → all_pass test keys ≡ true → test c ≡ true) → (same : Bool)
          → (c == key) ≡ same → (if same then true else has keys c) ≡ true → (passed : Bool) → test key
          ≡ passed → (if passed then all_pass test keys else false) ≡ true → test c ≡ true
      cases next true is here true passed all = subst (λ x. test x ≡ true) (sym (eqb-true c key is)) passed
      cases next false is here true passed all = next here all
      cases next same is here false passed all = absurd (cc all)

within-passes : (keys others : List ℕ) → is_within keys others ≡ true → all_pass (has others) keys ≡ true
within-passes [] others all = refl
within-passes (key ∷ keys) others all = cases (within-passes keys others) (has others key) all where
  cases : (is_within keys others ≡ true → all_pass (has others) keys ≡ true) → (passed : Bool)
      → (if passed then is_within keys others else false) ≡ true
      → (if passed then all_pass (has others) keys else false) ≡ true
  cases next true all = next all
  cases next false all = absurd (cc all)

pub in_within : (keys others : List ℕ) → is_within keys others ≡ true → (c : ℕ) → In keys c → In others c
in_within keys others all = passes (has others) keys (within-passes keys others all)

apart-passes : (keys others : List ℕ) → are_apart keys others ≡ true → all_pass (λ c. not (has others c)) keys ≡ true
apart-passes [] others all = refl
apart-passes (key ∷ keys) others all = cases (apart-passes keys others) (has others key) all where
  cases : (are_apart keys others ≡ true → all_pass (λ c. not (has others c)) keys ≡ true)
      → (passed : Bool) → (if passed then false else are_apart keys others) ≡ true
      → (if not passed then all_pass (λ c. not (has others c)) keys else false) ≡ true
  cases next true all = absurd (cc all)
  cases next false all = next all

pub in_apart : (keys others : List ℕ) → are_apart keys others ≡ true → (c : ℕ) → In keys c → In others c → ⊥
in_apart keys others all c here there = let n : not (has others c) ≡ true =
    passes (λ c. not (has others c)) keys (apart-passes keys others all) c here in cc (n, there)

-- what holds of each byte of a list
abbrev pub OfEach : (ℕ → Type 0) → List ℕ → Type 0
OfEach P [] = Unit {0}
OfEach P (key ∷ keys) = P key × OfEach P keys

pub each-in : (P : ℕ → Type 0) (keys : List ℕ) → OfEach P keys → (c : ℕ) → In keys c → P c
each-in P [] all c here = absurd (cc here)
each-in P (key ∷ keys) all c here = cases (each-in P keys all.1 c) (c == key) refl here where
  cases : (has keys c ≡ true → P c) → (same : Bool) → (c == key) ≡ same
      → (if same then true else has keys c) ≡ true → P c
  cases next true is here = subst P (sym (eqb-true c key is)) all.0
  cases next false is here = next here

-- what holds of each value of a table
abbrev pub OfEachValue : {V : Type 0} → (V → Type 0) → List (ℕ × V) → Type 0
OfEachValue P [] = Unit {0}
OfEachValue P (entry ∷ table) = P entry.1 × OfEachValue P table

pub each-listed : {V : Type 0} (P : V → Type 0) (table : List (ℕ × V)) → OfEachValue P table
    → (c : ℕ) (v : V) → lookup table c ≡ Some v → P v
each-listed P [] all c v e = absurd (cc e)
each-listed {V} P (entry ∷ table) all c v e = cases (each-listed P table all.1 c v) (c == entry.0) e where
  cases : (lookup table c ≡ Some v → P v) → (same : Bool)
      → (if same then Some entry.1 else lookup table c) ≡ Some v → P v
  cases next true e = let same : entry.1 ≡ v = cc e in subst P same all.0
  cases next false e = next e

-- each value of a table passes the test
abbrev pub all_values : {V : Type 0} → (V → Bool) → List (ℕ × V) → Bool
all_values test [] = true
all_values test (entry ∷ table) = if test entry.1 then all_values test table else false

passed-first : (b rest : Bool) → (if b then rest else false) ≡ true → (b ≡ true) × (rest ≡ true)
passed-first true rest all = (refl, all)
passed-first false rest all = absurd (cc all)

each-passes : {V : Type 0} (test : V → Bool) (table : List (ℕ × V)) → all_values test table ≡ true
    → OfEachValue (λ v. test v ≡ true) table
each-passes test [] all = tt
each-passes test (entry ∷ table) all = let both : (test entry.1 ≡ true)
    × (all_values test table ≡ true) = passed-first (test entry.1) (all_values test table) all in
    (both.0, each-passes test table both.1)

pub value-passes : {V : Type 0} (test : V → Bool) (table : List (ℕ × V)) → all_values test table
    ≡ true → (c : ℕ) (v : V) → lookup table c ≡ Some v → test v ≡ true
value-passes test table all c v e = each-listed (λ v. test v ≡ true) table (each-passes test table all) c v e

-- a byte of a list that is not its last one is one of the others
pub in_front : (keys : List ℕ) (last c : ℕ) → (c == last) ≡ false → In (keys ++ last ∷ []) c → In keys c
in_front [] last c other here = let no_key : (if c == last then true else false) ≡ false =
    ap (λ b. if b then true else false) other in cc (here, no_key)
in_front (key ∷ keys) last c other here = cases (in_front keys last c other) (c == key) here where
  cases : (has (keys ++ last ∷ []) c ≡ true → has keys c ≡ true) → (same : Bool) → (if same
      then true else has (keys ++ last ∷ []) c) ≡ true → (if same then true else has keys c) ≡ true
  cases next true here = refl
  cases next false here = next here

-- a byte that the table has is one of its keys
pub listed_in : {V : Type 0} (table : List (ℕ × V)) (c : ℕ) → IsListed (lookup table) c → In (keys_of table) c
listed_in [] c h = absurd (cc (h.1))
listed_in {V} (entry ∷ table) c h = cases (λ e. listed_in table c (h.0, e)) (c == entry.0) h.1 where
  cases : (lookup table c ≡ Some h.0 → has (keys_of table) c ≡ true) → (same : Bool)
      → (if same then Some entry.1 else lookup table c) ≡ Some h.0
      → (if same then true else has (keys_of table) c) ≡ true
  cases next true e = refl
  cases next false e = next e

-- a key of a table is a byte that it has
pub in_listed : {V : Type 0} (table : List (ℕ × V)) (c : ℕ) → In (keys_of table) c → IsListed (lookup table) c
in_listed [] c here = absurd (cc here)
in_listed {V} (entry ∷ table) c here = cases (in_listed table c) (c == entry.0) here where
  cases : (has (keys_of table) c ≡ true → (v : V) × (lookup table c ≡ Some v)) → (same : Bool)
      → (if same then true else has (keys_of table) c) ≡ true
      → (v : V) × ((if same then Some entry.1 else lookup table c) ≡ Some v)
  cases next true e = (entry.1, refl)
  cases next false e = next e

-- the test of a table, and whether it has the byte
pub is_in-listed : {V : Type 0} (table : ℕ → Option V) (c : ℕ) → is_in table c ≡ true → IsListed table c
is_in-listed {V} table c e = cases (table c) refl e where
  cases : (found : Option V) → table c ≡ found → elim found [ Some v ↦ true | None ↦ false ] ≡ true
      → (v : V) × (table c ≡ Some v)
  cases (Some v) is e = (v, is)
  cases None is e = absurd (cc e)

pub not_in-listed : {V : Type 0} (table : ℕ → Option V) (c : ℕ) → is_in table c ≡ false → IsListed table c → ⊥
not_in-listed {V} table c e h = let yes_it_is : is_in table c ≡ true =
    ap (λ (found : Option V). elim found [ Some v ↦ true | None ↦ false ]) h.1 in cc (e, yes_it_is)

pub is_in-in : {V : Type 0} (table : List (ℕ × V)) (c : ℕ) → is_in (lookup table) c ≡ true → In (keys_of table) c
is_in-in table c e = listed_in table c (is_in-listed (lookup table) c e)

pub not_in-in : {V : Type 0} (table : List (ℕ × V)) (c : ℕ) → is_in (lookup table) c ≡ false → In (keys_of table) c → ⊥
not_in-in table c e here = not_in-listed (lookup table) c e (in_listed table c here)

-- a form that begins with a byte of a table
pub begins-byte : {V : Type 0} (table : List (ℕ × V)) → Begins (One (lookup table)) (In (keys_of table))
begins-byte table = begins-one-wider where
  begins-one-wider : Begins (One (lookup table)) (In (keys_of table))
  begins-one-wider = begins-wider (One (lookup table)) (IsListed (lookup table))
      (In (keys_of table)) (λ c h. listed_in table c h) (begins-one (lookup table))

-- the whole text was read
abbrev pub is_whole : {V : Type 0} → Outcome ℕ V → Bool
is_whole (Ok (v, [])) = true
is_whole (Ok (v, c ∷ rest)) = false
is_whole (Err rest) = false

-- a text that is read whole begins some text
pub whole-viable : {V : Type 0} (form : Form ℕ V) (text : List ℕ) (outcome : Outcome ℕ V)
    → Reads form text outcome → is_whole outcome ≡ true → Viable form text
whole-viable form text (Ok (v, [])) r e = viable-whole text v
    (subst (λ t. form t v) (sym (r.parts ∙ append-nil r.front)) (r.spelled v [] refl))
whole-viable form text (Ok (v, c ∷ rest)) r e = absurd (cc e)
whole-viable form text (Err rest) r e = absurd (cc e)

-- Each of these bytes begins some text, as the reading of a completion shows.
pub opens-whole : {V : Type 0} (form : Form ℕ V) (at : List ℕ → Outcome ℕ V)
    → ((text : List ℕ) → Reads form text (at text)) → (keys : List ℕ) (completion : ℕ → List ℕ)
    → all_pass (λ c. is_whole (at (c ∷ completion c))) keys ≡ true → (c : ℕ) → In keys c → Viable form (c ∷ [])
opens-whole form at reads keys completion all c here =
    viable-front (c ∷ []) (completion c) (whole-viable form (c ∷ completion c) (at (c ∷ completion
    c)) (reads (c ∷ completion c)) (passes (λ c. is_whole (at (c ∷ completion c))) keys all c here))
