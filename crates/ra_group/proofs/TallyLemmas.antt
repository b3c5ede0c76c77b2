-- What a tally says of the places that were visited, in whatever order.
use Rattle.std.proofs.Common.{◌≡◌, ℕ, max, Bool, true, false, not, ◌&&◌, ◌||◌, cond, Option, None, Some, List, [], ◌∷◌}
use Rattle.std.proofs.Common.{◌++◌, slice_index, refl, sym, ap, ◌∙◌, arith}
use Rattle.std.specs.List.{list_any, list_all, filter}
use Rattle.std.proofs.lemmas.List.Folds.{list_any-append, list_all-append}
use Rattle.std.proofs.Math.Bool.{or-false, and-true}
use Rattle.ra_condition.specs.declared.flag.Flag.{Flag}
use Rattle.ra_condition.specs.declared.flag.Flag.TheVariants.{AddSource, SubSource, AddHits, SubHits, AndNext, OrNext}
use Rattle.ra_condition.specs.declared.flag.Flag.TheVariants.{ResetNextIf, AddAddress, Remember}
use Rattle.ra_condition.specs.declared.condition.Condition.{Condition}
use Rattle.ra_condition.specs.Flags.{combines, is_pause, is_reset, is_measured, is_measured_if, is_wanted, is_required}
use Rattle.ra_condition.specs.Contents.{condition_at}
use Rattle.ra_condition.specs.Chains.{places}
use Rattle.ra_condition.proofs.Passes.{any_parts, all_parts}
use Rattle.ra_group.specs.declared.form.Form.{Form}
use Rattle.ra_group.specs.declared.settled.Settled.{Settled}
use Rattle.ra_group.specs.declared.tally.Tally.{Tally}
use Rattle.ra_group.specs.Equations.{Frame, settled_at}
use Rattle.ra_group.specs.Outcome.{some_valid, all_valid, from_total, larger, offer, greatest, outcome_of}
use Rattle.ra_group.specs.Tallies.{noted, outcome_by}

-- what the conditions at the places say together, by the words of the outcome
abbrev pub tally_of : Form → Frame → List ℕ → Tally
tally_of form f js = record {
  paused = some_valid is_pause f js;
  reset = some_valid is_reset f js;
  valid = all_valid is_required f js;
  primed = all_valid is_wanted f js;
  counting = all_valid is_measured_if f js;
  greatest = greatest form f js;
  from_hits = list_any (λ j. is_measured (condition_at f.conditions j).flag
      && from_total form (condition_at f.conditions j)) js;
}

-- the tally of all places comes to the outcome
pub outcome_by-tally_of : (form : Form) (f : Frame)
    → outcome_by (tally_of form f (places f.conditions)) ≡ outcome_of form f
outcome_by-tally_of form f = refl

-- whether some item passes, with one item more
pub any_push : {A : Type 0} (p : A → Bool) (xs : List A) (x : A) → list_any p (xs ++ x ∷ []) ≡ (list_any p xs || p x)
any_push p xs x = list_any-append p xs (x ∷ []) ∙ ap (λ b. list_any p xs || b) (or-false (p x))

-- whether all items pass, with one item more
pub all_push : {A : Type 0} (p : A → Bool) (xs : List A) (x : A) → list_all p (xs ++ x ∷ []) ≡ (list_all p xs && p x)
all_push p xs x = list_all-append p xs (x ∷ []) ∙ ap (λ b. list_all p xs && b) (and-true (p x))

-- none is never the larger
pub larger_none : (a : Option ℕ) → larger a None ≡ a
larger_none None = refl
larger_none (Some a) = refl

-- the larger of three numbers, whichever two come first
pub larger_assoc : (a b c : Option ℕ) → larger (larger a b) c ≡ larger a (larger b c)
larger_assoc None b c = refl
larger_assoc (Some a) None c = refl
larger_assoc (Some a) (Some b) None = refl
larger_assoc (Some a) (Some b) (Some c) = let e : max (max a b) c ≡ max a (max b c) = omega arith in ap Some e

larger_comm : (a b : Option ℕ) → larger a b ≡ larger b a
larger_comm None None = refl
larger_comm None (Some b) = refl
larger_comm (Some a) None = refl
larger_comm (Some a) (Some b) = let e : max a b ≡ max b a = omega arith in ap Some e

pub greatest-append : (form : Form) (f : Frame) (is js : List ℕ) → greatest form f (is ++ js)
    ≡ larger (greatest form f is) (greatest form f js)
greatest-append form f [] js = refl
greatest-append form f (i ∷ is) js =
    ap (larger (offer form f i)) (greatest-append form f is js)
    ∙ sym (larger_assoc (offer form f i) (greatest form f is) (greatest form f js))

greatest_push : (form : Form) (f : Frame) (js : List ℕ) (j : ℕ) → greatest form f (js ++ j ∷ [])
    ≡ larger (greatest form f js) (offer form f j)
greatest_push form f js j = greatest-append form f js (j ∷ [])
    ∙ ap (larger (greatest form f js)) (larger_none (offer form f j))

abbrev tally : (paused reset valid primed counting : Bool) → Option ℕ → Bool → Tally
tally paused reset valid primed counting greatest from_hits =
    record {
      paused = paused;
      reset = reset;
      valid = valid;
      primed = primed;
      counting = counting;
      greatest = greatest;
      from_hits = from_hits;
    }

pub same_tally : {a b c d e h a' b' c' d' e' h' : Bool} {g g' : Option ℕ} → a ≡ a' → b ≡ b' → c ≡ c'
    → d ≡ d' → e ≡ e' → g ≡ g' → h ≡ h' → tally a b c d e g h ≡ tally a' b' c' d' e' g' h'
same_tally p q r s t u v = cc

-- one place more is noted
pub tally_of-push : (form : Form) (f : Frame) (js : List ℕ) (j : ℕ) → tally_of form f (js ++ j ∷ [])
    ≡ noted form (condition_at f.conditions j) (settled_at f j) (slice_index f.lefts j)
    (tally_of form f js)
tally_of-push form f js j =
    same_tally
    (any_push (λ i. is_pause (condition_at f.conditions i).flag && (settled_at f i).valid) js j)
    (any_push (λ i. is_reset (condition_at f.conditions i).flag && (settled_at f i).valid) js j)
    (all_push (λ i. not (is_required (condition_at f.conditions i).flag) || (settled_at f i).valid) js j)
    (all_push (λ i. not (is_wanted (condition_at f.conditions i).flag) || (settled_at f i).valid) js j)
    (all_push (λ i. not (is_measured_if (condition_at f.conditions i).flag) || (settled_at f i).valid) js j)
    (greatest_push form f js j)
    (any_push (λ i. is_measured (condition_at f.conditions i).flag
    && from_total form (condition_at f.conditions i)) js j)

greatest_parts : (form : Form) (f : Frame) (q : ℕ → Bool) (js : List ℕ)
    → greatest form f (filter q js ++ filter (λ j. not (q j)) js) ≡ greatest form f js
greatest_parts form f q js = greatest-append form f (filter q js) (filter (λ j. not (q j)) js) ∙ greatest_both q js
  where
    greatest_step : (j : ℕ) (b : Bool) (is ks : List ℕ)
        → larger (greatest form f (cond b (j ∷ is) is)) (greatest form f (cond (not b) (j ∷ ks) ks))
        ≡ larger (offer form f j) (larger (greatest form f is) (greatest form f ks))
    greatest_step j true is ks = larger_assoc (offer form f j) (greatest form f is) (greatest form f ks)
    greatest_step j false is ks =
        sym (larger_assoc (greatest form f is) (offer form f j) (greatest form f ks))
        ∙ ap (λ a. larger a (greatest form f ks)) (larger_comm (greatest form f is) (offer form f j))
        ∙ larger_assoc (offer form f j) (greatest form f is) (greatest form f ks)

    greatest_both : (q : ℕ → Bool) (js : List ℕ) → larger (greatest form f (filter q js))
        (greatest form f (filter (λ j. not (q j)) js)) ≡ greatest form f js
    greatest_both q [] = refl
    greatest_both q (j ∷ js) = greatest_step j (q j) (filter q js) (filter (λ j. not (q j)) js)
        ∙ ap (larger (offer form f j)) (greatest_both q js)

-- a tally over the places that a test takes, and then over the others, is one over all
pub tally_of-parts : (form : Form) (f : Frame) (q : ℕ → Bool) (js : List ℕ)
    → tally_of form f (filter q js ++ filter (λ j. not (q j)) js) ≡ tally_of form f js
tally_of-parts form f q js =
    same_tally
    (any_parts (λ i. is_pause (condition_at f.conditions i).flag && (settled_at f i).valid) q js)
    (any_parts (λ i. is_reset (condition_at f.conditions i).flag && (settled_at f i).valid) q js)
    (all_parts (λ i. not (is_required (condition_at f.conditions i).flag) || (settled_at f i).valid) q js)
    (all_parts (λ i. not (is_wanted (condition_at f.conditions i).flag) || (settled_at f i).valid) q js)
    (all_parts (λ i. not (is_measured_if (condition_at f.conditions i).flag) || (settled_at f i).valid) q js)
    (greatest_parts form f q js)
    (any_parts (λ i. is_measured (condition_at f.conditions i).flag
    && from_total form (condition_at f.conditions i)) q js)

same_left : (t : Tally)
    → record {
      paused = t.paused || false;
      reset = t.reset || false;
      valid = t.valid && true;
      primed = t.primed && true;
      counting = t.counting && true;
      greatest = larger t.greatest None;
      from_hits = t.from_hits || false;
    } ≡ t
same_left t =
    same_tally (or-false t.paused) (or-false t.reset) (and-true t.valid) (and-true t.primed) (and-true t.counting)
    (larger_none t.greatest) (or-false t.from_hits)

noted_flag : (form : Form) (flag : Flag) (c : Condition) (here : Settled) (left : ℕ) (t : Tally)
    → combines flag ≡ true → noted form (record c { flag = flag }) here left t ≡ t
noted_flag form AddSource c here left t h = same_left t
noted_flag form SubSource c here left t h = same_left t
noted_flag form AddHits c here left t h = same_left t
noted_flag form SubHits c here left t h = same_left t
noted_flag form AndNext c here left t h = same_left t
noted_flag form OrNext c here left t h = same_left t
noted_flag form ResetNextIf c here left t h = same_left t
noted_flag form AddAddress c here left t h = same_left t
noted_flag form Remember c here left t h = same_left t
noted_flag form _ c here left t h = cc

-- a condition that combines changes no tally
pub noted_combining : (form : Form) (c : Condition) (here : Settled) (left : ℕ) (t : Tally)
    → combines c.flag ≡ true → noted form c here left t ≡ t
noted_combining form c here left t h = noted_flag form c.flag c here left t h
