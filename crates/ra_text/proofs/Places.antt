-- From a reading to what calls say of places.
use Rattle.std.proofs.Common.{take_all, le_refl, inl, inr, ◌≡◌, ℕ, ◌+◌, ◌-◌, ◌<◌, ◌≤◌, List, [], ◌∷◌, ◌++◌, length}
use Rattle.std.proofs.Common.{take, drop, Option, Some, None, Ok, Err, refl, sym, ap, ◌∙◌, subst, arith, append-nil}
use Rattle.std.proofs.Common.{length-append, length-drop, take_at, take-append-drop, append_assoc}
use Rattle.std.proofs.lemmas.List.{nil_from_length}
use Rattle.std.proofs.lemmas.Bool.{cases_lt}
use Rattle.ra_text.specs.Form.{Form, Viable}
use Rattle.ra_text.specs.Place.{IsBadPlace, ReadsTo, EndsAt, IsOutside, OneSpelling}
use Rattle.ra_text.specs.Reading.{Outcome, rest_of, Reads}
use Rattle.ra_text.proofs.Steps.{same-ok, reads-shorter, viable-front, viable-whole}
use Rattle.ra_text.proofs.Choice.{reads-past}

-- what a reading answers
abbrev pub value_of : {A V : Type 0} → Outcome A V → Option V
value_of (Ok x) = Some x.0
value_of (Err rest) = None

-- a front of the text is viable as long as it is no longer than what was read
pub read-longest : {A V : Type 0} {form : Form A V} {text : List A} {outcome : Outcome A V}
    → (r : Reads form text outcome) → (m : ℕ) → length r.front < m → m ≤ length text
    → Viable form (take m text) → ⊥
read-longest {A} {V} {form} {text} {outcome} r m more within viable =
    let parts : text ≡ take m text ++ drop m text = sym (take-append-drop m text) in
    let left : length (drop m text) ≡ length text - m = length-drop m text in
    reads-past r (take m text) (drop m text) parts
    (omega (arith, length-append r.front (rest_of outcome), ap length r.parts)) viable

pub read-place : {A V : Type 0} {form : Form A V} {text : List A} {outcome : Outcome A V}
    → (r : Reads form text outcome) → IsBadPlace form text (length r.front)
read-place {A} {V} {form} {text} {outcome} r = record {
  within = omega (arith, length-append r.front (rest_of outcome), ap length r.parts);
  viable = subst (λ t. Viable form t) (sym (ap (λ t. take (length r.front) t) r.parts
      ∙ take_at r.front (rest_of outcome) (length r.front) refl)) r.viable;
  longest = read-longest r;
}

read-front : {A V : Type 0} {form : Form A V} {text : List A} {outcome : Outcome A V}
    → (r : Reads form text outcome) → take (length r.front) text ≡ r.front
read-front {A} {V} {form} {text} {outcome} r = ap (λ t. take (length r.front) t) r.parts
    ∙ take_at r.front (rest_of outcome) (length r.front) refl

spelled-by : {A V : Type 0} {form : Form A V} {text : List A} (outcome : Outcome A V)
    → (r : Reads form text outcome) → (w : V) → value_of outcome ≡ Some w → form r.front w
spelled-by (Ok x) r w e = let same : x.0 ≡ w = cc e in r.spelled w x.1 (ap (λ v. Ok (v, x.1)) same)
spelled-by (Err rest) r w e = absurd (cc e)

only-by : {A V : Type 0} {form : Form A V} {text : List A} (outcome : Outcome A V)
    → (r : Reads form text outcome) → (w : V) → form r.front w → value_of outcome ≡ Some w
only-by outcome r w h = ap value_of (r.only w h)

pub reads-to : {A V : Type 0} {form : Form A V} {text : List A} {outcome : Outcome A V}
    → (r : Reads form text outcome) → ReadsTo form text (length r.front) (value_of outcome)
reads-to {A} {V} {form} {text} {outcome} r = record {
  place = read-place r;
  spelled = λ w e. subst (λ t. form t w) (sym (read-front r)) (spelled-by outcome r w e);
  only = λ w h. only-by outcome r w (subst (λ t. form t w) (read-front r) h);
}

-- a reading from a place on
pub ends-at : {A V : Type 0} {form : Form A V} (text : List A) (at : ℕ) {outcome : Outcome A V}
    → at ≤ length text → Reads form (drop at text) outcome → (place : ℕ) → place
    ≡ length text - length (rest_of outcome) → EndsAt form text at place (value_of outcome)
ends-at {A} {V} {form} text at {outcome} within r place e =
    let whole : length (drop at text) ≡ length r.front + length (rest_of outcome) =
    ap length r.parts ∙ length-append r.front (rest_of outcome) in
    let left : length (drop at text) ≡ length text - at = length-drop at text in
    let n : place - at ≡ length r.front = omega arith in
    record {
      behind = omega arith;
      reads = subst (λ m. ReadsTo form (drop at text) m (value_of outcome)) (sym n) (reads-to r);
    }

-- a text that is read whole spells the value
pub whole-spelled : {A V : Type 0} {form : Form A V} {text : List A} (v : V)
    → Reads form text (Ok (v, [])) → form text v
whole-spelled {A} {V} {form} {text} v r =
    subst (λ t. form t v) (sym (r.parts ∙ append-nil r.front)) (r.spelled v [] refl)

-- a reading that did not end the text, or failed, shows that the text is outside
pub whole-outside : {A V : Type 0} {form : Form A V} {text : List A} (outcome : Outcome A V)
    → (r : Reads form text outcome) → ((v : V) → outcome ≡ Ok (v, []) → ⊥) → (place : ℕ) → place
    ≡ length text - length (rest_of outcome) → IsOutside form text place
whole-outside {A} {V} {form} {text} outcome r not_whole place e =
    let whole : length text ≡ length r.front + length (rest_of outcome) =
    ap length r.parts ∙ length-append r.front (rest_of outcome) in
    let n : place ≡ length r.front = omega arith in
    record {
      place = subst (λ m. IsBadPlace form text m) (sym n) (read-place r);
      outside = outside (rest_of outcome) refl;
    } where
      outside : (rest : List A) → rest_of outcome ≡ rest → (v : V) → form text v → ⊥
      outside [] is v h =
          let all : text ≡ r.front = r.parts ∙ ap (λ t. r.front ++ t) is ∙ append-nil r.front in
          not_whole v (r.only v (subst (λ t. form t v) all h) ∙ ap (λ t. Ok (v, t)) is)
      outside (c ∷ rest) is v h =
          r.halts c rest is (viable-front (r.front ++ c ∷ []) rest
          (subst (λ t. Viable form t) (r.parts ∙ ap (λ t. r.front ++ t) is
          ∙ sym (append_assoc r.front (c ∷ []) rest)) (viable-whole text v h)))

-- a text that is read spells at most one value
pub spelled-once : {A V : Type 0} (form : Form A V) (at : List A → Outcome A V)
    → ((text : List A) → Reads form text (at text)) → OneSpelling form
spelled-once {A} {V} form at reads text v w hv hw = once (reads text) (rest_of (at text)) refl where
  once : (r : Reads form text (at text)) → (rest : List A) → rest_of (at text) ≡ rest → v ≡ w
  once r [] is =
      let all : text ≡ r.front = r.parts ∙ ap (λ t. r.front ++ t) is ∙ append-nil r.front in
      let a : at text ≡ Ok (v, rest_of (at text)) = r.only v (subst (λ t. form t v) all hv) in
      let b : at text ≡ Ok (w, rest_of (at text)) = r.only w (subst (λ t. form t w) all hw) in
      ap (λ p. p.0) (same-ok (v, rest_of (at text)) (w, rest_of (at text)) (sym a ∙ b))
  once r (c ∷ rest) is = absurd (r.halts c rest is (viable-front (r.front ++ c ∷ []) rest
      (subst (λ t. Viable form t) (r.parts ∙ ap (λ t. r.front ++ t) is
      ∙ sym (append_assoc r.front (c ∷ []) rest)) (viable-whole text v hv))))

-- What a call that reads from a place needs: what its reading gave, from where the text starts.
module _ {V : Type 0} (form : Form ℕ V) (at_of : List ℕ → Outcome ℕ V) (reads : (text : List ℕ)
    → Reads form text (at_of text)) (text : List ℕ) (at : ℕ) (start : List ℕ) (starts : start
    ≡ drop at text) where
  -- the rest is no longer than the text
  pub rest_fits : (outcome : Outcome ℕ V) → at_of start ≡ outcome → length (rest_of outcome) ≤ length text
  rest_fits outcome e =
      let shorter : length (rest_of outcome) ≤ length start =
      subst (λ o. length (rest_of o) ≤ length start) e (reads-shorter (reads start)) in
      omega (arith, length-drop at text, ap length starts)

  read-from : (outcome : Outcome ℕ V) → at_of start ≡ outcome → Reads form (drop at text) outcome
  read-from outcome e = subst (λ t. Reads form t outcome) starts (subst (λ o. Reads form start o) e (reads start))

  pub ends_ok : at ≤ length text → (v : V) (rest : List ℕ) → at_of start ≡ Ok (v, rest)
      → (place : ℕ) → place ≡ length text - length rest → EndsAt form text at place (Some v)
  ends_ok within v rest e place is = ends-at text at within (read-from (Ok (v, rest)) e) place is

  pub ends_err : at ≤ length text → (rest : List ℕ) → at_of start ≡ Err rest → (place : ℕ) → place
      ≡ length text - length rest → EndsAt form text at place None
  ends_err within rest e place is = ends-at text at within (read-from (Err rest) e) place is

-- What a call that reads a whole text needs.
module _ {V : Type 0} (form : Form ℕ V) (at_of : List ℕ → Outcome ℕ V) (reads : (text : List ℕ)
    → Reads form text (at_of text)) (text : List ℕ) where
  read-all : (outcome : Outcome ℕ V) → at_of text ≡ outcome → Reads form text outcome
  read-all outcome e = subst (λ o. Reads form text o) e (reads text)

  pub whole_ok : (v : V) (rest : List ℕ) → at_of text ≡ Ok (v, rest) → length rest ≡ 0 → form text v
  whole_ok v rest e none = whole-spelled v (read-all (Ok (v, [])) (e ∙ ap (λ t. Ok (v, t)) (nil_from_length rest none)))

  pub whole_stops : (v : V) (rest : List ℕ) → at_of text ≡ Ok (v, rest) → (length rest ≡ 0 → ⊥)
      → (place : ℕ) → place ≡ length text - length rest → IsOutside form text place
  whole_stops v rest e some place is = whole-outside (Ok (v, rest)) (read-all (Ok (v, rest)) e)
      (λ w ok. some (ap (λ o. length (rest_of o)) ok)) place is

  pub whole_fails : (rest : List ℕ) → at_of text ≡ Err rest → (place : ℕ) → place
      ≡ length text - length rest → IsOutside form text place
  whole_fails rest e place is = whole-outside (Err rest) (read-all (Err rest) e) (λ w ok. absurd (cc ok)) place is

-- What a call that reads a whole text needs, from what reading from its start answers.
module _ {V : Type 0} (form : Form ℕ V) (text : List ℕ) (n : ℕ) where
  from_start : (v : Option V) → EndsAt form text 0 n v → ReadsTo form text n v
  from_start v h = let same : n - 0 ≡ n = omega arith in subst (λ m. ReadsTo form text m v) same h.reads

  all_of : length text ≤ n → take n text ≡ text
  all_of le = take_all n text le

  no_longer : (v : Option V) → ReadsTo form text n v → n < length text → (w : V) → form text w → ⊥
  no_longer v r less w h = r.place.longest (length text) less (le_refl (length text))
      (subst (λ t. Viable form t) (sym (take_all (length text) text (le_refl (length text))))
      (viable-whole text w h))

  pub whole_of : (v : V) → EndsAt form text 0 n (Some v) → length text ≤ n → form text v
  whole_of v h le = subst (λ t. form t v) (all_of le) ((from_start (Some v) h).spelled v refl)

  pub outside_behind : (v : V) → EndsAt form text 0 n (Some v) → n < length text → IsOutside form text n
  outside_behind v h less =
      record { place = (from_start (Some v) h).place; outside = no_longer (Some v) (from_start (Some v) h) less }

  pub outside_of : EndsAt form text 0 n None → IsOutside form text n
  outside_of h = record { place = (from_start None h).place; outside = outside (from_start None h) } where
    outside : ReadsTo form text n None → (w : V) → form text w → ⊥
    outside r w h = elim (cases_lt n (length text)) [
      | inl less ↦ no_longer None r less w h
      | inr ge ↦ let none : None ≡ Some w = r.only w (subst (λ t. form t w) (sym (all_of ge)) h) in cc none
    ]
