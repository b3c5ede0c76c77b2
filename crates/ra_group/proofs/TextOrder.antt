-- A group without pause chains: its pass order is that of its text, and it is not paused.
use Rattle.std.proofs.Common.{◌≡◌, ℕ, ◌<◌, ◌≤◌, ◌+◌, ◌-◌, ◌^◌, Bool, true, false, not, ◌&&◌, cond, leb, Option, None}
use Rattle.std.proofs.Common.{List, [], ◌∷◌, ◌++◌, length, get_or, set, take, slice_index, slice_index_or, refl, sym}
use Rattle.std.proofs.Common.{ap, ◌∙◌, subst, inl, inr, arith}
use Rattle.std.specs.List.{filter}
use Rattle.std.proofs.lemmas.Bool.{cases_lt}
use Rattle.std.proofs.lemmas.List.{take_all}
use Rattle.std.proofs.lemmas.List.FromFn.{get_or-range_with_len}
use Rattle.ra_condition.specs.declared.condition.Condition.{Condition}
use Rattle.ra_condition.specs.Flags.{hands_on, is_pause}
use Rattle.ra_condition.specs.Contents.{condition_at, flag_at}
use Rattle.ra_condition.specs.Chains.{in_pause_chain, places, pass_order}
use Rattle.ra_condition.proofs.OrderLemmas.{pausing}
use Rattle.ra_group.specs.declared.form.Form.{Form}
use Rattle.ra_group.specs.declared.settled.Settled.{Settled}
use Rattle.ra_group.specs.declared.tally.Tally.{Tally}
use Rattle.ra_group.specs.Along.{pause_count}
use Rattle.ra_group.specs.Equations.{Frame, hits_after, settled}
use Rattle.ra_group.specs.Outcome.{some_valid}
use Rattle.ra_group.specs.Tallies.{IsPlain, no_tally}
use Rattle.ra_group.proofs.AlongLemmas.{length-pass_order}
use Rattle.ra_group.proofs.PassLemmas.{HasPassed}
use Rattle.ra_group.proofs.PlainLemmas.{noted_plain, plain_carries, plain_hits, plain_valid, wanting}
use Rattle.ra_group.proofs.Turns.{paused-places}
use Rattle.ra_group.proofs.TurnLemmas.{IsVisited, each_turn, turn_handed, turn_visited}

none_of_length : (xs : List ℕ) → length xs ≡ 0 → xs ≡ []
none_of_length [] e = refl
none_of_length (x ∷ xs) e = absurd (omega arith)

-- where a test takes none, its opposite takes all
all_others : (q : ℕ → Bool) (xs : List ℕ) → filter q xs ≡ [] → filter (λ j. not (q j)) xs ≡ xs
all_others q [] e = refl
all_others q (x ∷ xs) e = by_test (all_others q xs) (q x) e
  where
    by_test : (filter q xs ≡ [] → filter (λ j. not (q j)) xs ≡ xs) → (b : Bool)
        → cond b (x ∷ filter q xs) (filter q xs) ≡ []
        → cond (not b) (x ∷ filter (λ j. not (q j)) xs) (filter (λ j. not (q j)) xs) ≡ x ∷ xs
    by_test rest true e = cc
    by_test rest false e = ap (λ ys. x ∷ ys) (rest e)

pub pausing_none : (cs : List Condition) → pause_count cs ≡ 0 → pausing cs ≡ []
pausing_none cs e = none_of_length (pausing cs) e

in_text : (cs : List Condition) → pause_count cs ≡ 0 → pass_order cs ≡ places cs
in_text cs e =
    let none : filter (in_pause_chain cs) (places cs) ≡ [] = pausing_none cs e in
    ap (λ js. js ++ filter (λ j. not (in_pause_chain cs j)) (places cs)) none
    ∙ all_others (in_pause_chain cs) (places cs) none

-- the place of each turn is its number
pub turn_in_text : (cs : List Condition) (k : ℕ) → pause_count cs ≡ 0 → k < length cs → get_or (pass_order cs) k 0 ≡ k
turn_in_text cs k e l = ap (λ js. get_or js k 0) (in_text cs e)
    ∙ get_or-range_with_len 0 (length cs) k 0 l ∙ omega arith

-- and nothing pauses it
pub open_in_text : (form : Form) (f : Frame) (k : ℕ) (before : Option Settled) (tally : Tally)
    (hits : List ℕ) → pause_count f.conditions ≡ 0 → k < length f.conditions
    → HasPassed form f (take k (pass_order f.conditions)) before tally hits → false
    ≡ (tally.paused && leb (length (pausing f.conditions)) k)
open_in_text form f k before tally hits e l p =
    let none : some_valid is_pause f (pausing f.conditions) ≡ false =
    ap (some_valid is_pause f) (pausing_none f.conditions e) in
    elim (each_turn form f (pass_order f.conditions) k refl (omega (arith, length-pass_order f.conditions))) [
      | inl early ↦ absurd (omega (arith, early.0, ap length (pausing_none f.conditions e)))
      | inr late ↦
          let paused : tally.paused ≡ false = ap (λ t. t.paused) p.tallied ∙ late.1.known
          ∙ sym (paused-places f) ∙ none in
          sym (ap (λ b. b && leb (length (pausing f.conditions)) k) paused)
    ]

-- the pass has come one place further
pub visited_in_text : (form : Form) (f : Frame) (k : ℕ) (before before' : Option Settled)
    (tally tally' : Tally) (hits hits' : List ℕ) → pause_count f.conditions ≡ 0 → k < length f.conditions
    → length hits ≡ length f.conditions → IsVisited form f k false before before' tally tally' hits hits'
    → HasPassed form f (take k (pass_order f.conditions)) before tally hits
    → HasPassed form f (take (k + 1) (pass_order f.conditions)) before' tally' hits'
visited_in_text form f k before before' tally tally' hits hits' e l long v p =
    let within : k < length (pass_order f.conditions) = omega (arith, length-pass_order f.conditions) in
    turn_visited form f (pass_order f.conditions) k refl within false before before' tally tally' hits
    hits' long (open_in_text form f k before tally hits e l p)
    (subst (λ (i : ℕ). IsVisited form f i false before before' tally tally' hits hits')
    (sym (turn_in_text f.conditions k e l)) v) p

-- and a plain condition with plain ones alone before it was wanted and counted
pub plain_in_text : (form : Form) (f : Frame) (k : ℕ) (held : Bool) (hits : List ℕ)
    → pause_count f.conditions ≡ 0 → k < length f.conditions → length hits ≡ length f.conditions
    → IsPlain (condition_at f.conditions k)
    → HasPassed form f (take k (pass_order f.conditions)) None (wanting no_tally held) hits
    → HasPassed form f (take (k + 1) (pass_order f.conditions)) None
    (wanting no_tally (held && slice_index_or f.truths k false))
    (set hits k (hits_after false (slice_index_or f.truths k false) 0 (slice_index hits k)))
plain_in_text form f k held hits e l long is p =
    let c = condition_at f.conditions k in
    let t = slice_index_or f.truths k false in
    let h = slice_index hits k in
    let valid = plain_valid c t h None is refl in
    visited_in_text form f k None None (wanting no_tally held) (wanting no_tally (held && t)) hits
    (set hits k (hits_after false t 0 h)) e l long (record {
      carries = plain_carries c t h None is refl;
      tallies = sym (noted_plain form c (settled c t h None) (slice_index f.lefts k) (wanting no_tally held)
          is.plain ∙ ap (wanting (wanting no_tally held)) valid);
      writes = ap (set hits k) (plain_hits c t h None is refl);
    }) p

-- one that only hands a value on changes nothing
pub handed_in_text : (form : Form) (f : Frame) (k : ℕ) (held : Bool) (hits : List ℕ)
    → pause_count f.conditions ≡ 0 → k < length f.conditions → hands_on (flag_at f.conditions k) ≡ true
    → HasPassed form f (take k (pass_order f.conditions)) None (wanting no_tally held) hits
    → HasPassed form f (take (k + 1) (pass_order f.conditions)) None (wanting no_tally held) hits
handed_in_text form f k held hits e l handed p =
    let within : k < length (pass_order f.conditions) = omega (arith, length-pass_order f.conditions) in
    turn_handed form f (pass_order f.conditions) k refl within None (wanting no_tally held) hits
    (ap (λ i. hands_on (flag_at f.conditions i)) (turn_in_text f.conditions k e l) ∙ handed) p

-- at the end of the text it is over
pub all_in_text : (form : Form) (f : Frame) (k : ℕ) (before : Option Settled) (tally : Tally) (hits : List ℕ)
    → length f.conditions ≤ k → HasPassed form f (take k (pass_order f.conditions)) before tally hits
    → HasPassed form f (pass_order f.conditions) before tally hits
all_in_text form f k before tally hits l p =
    subst (λ (js : List ℕ). HasPassed form f js before tally hits)
    (take_all k (pass_order f.conditions) (omega (arith, length-pass_order f.conditions))) p

-- it has no more places than are written in an order of words
pub few_in_text : (cs : List Condition) (order : List ℕ) → order ≡ pass_order cs → pause_count cs
    ≡ 0 → ((k : ℕ) → get_or order k 0 < 2 ^ 32) → length cs ≤ 2 ^ 32
few_in_text cs order is e fits =
    elim (cases_lt 0 (length cs)) [
      | inl some ↦
          let last : get_or order (length cs - 1) 0 ≡ length cs - 1 = ap (λ js. get_or js
          (length cs - 1) 0) is ∙ turn_in_text cs (length cs - 1) e (omega arith) in
          omega (arith, fits (length cs - 1))
      | inr none ↦ omega arith
    ]
