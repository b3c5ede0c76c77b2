-- The events of a condition: rising, and the hits that they say.
use Rattle.std.proofs.Common.{◌≡◌, ◌≢◌, ℕ, zero, suc, ◌+◌, ◌<◌, ◌≤◌, ◌==◌, nat_le, Bool, true, false, cond, List, []}
use Rattle.std.proofs.Common.{◌∷◌, ◌++◌, length, map, replicate, refl, sym, ap, ap₂, subst, ◌∙◌, inl, inr, arith}
use Rattle.std.specs.List.{AllByRecursion}
use Rattle.std.proofs.lemmas.Bool.{false≢true, lt-leb, le-leb, cases_lt, eq-eqb, eqb-true}
use Rattle.ra_explain.specs.declared.explanation.Event.{Event}
use Rattle.ra_explain.specs.Explains.{AreRising, said_from}
use Rattle.ra_explain.specs.Replays.{noted_one, noted}
use Rattle.ra_explain.proofs.FollowLemmas.{none_said}

-- the events rise from a row on, below another one, and each changes the hits
abbrev pub RisesBelow : (from bound hits : ℕ) → List Event → Type 0
RisesBelow from bound hits [] = Unit {0}
RisesBelow from bound hits (e ∷ es) =
    (from ≤ e.row) × (e.row < bound) × (e.hits ≢ hits) × RisesBelow (e.row + 1) bound e.hits es

-- the hits of the last event, or these
abbrev pub ends_from : ℕ → List Event → ℕ
ends_from hits [] = hits
ends_from hits (e ∷ es) = ends_from e.hits es

-- one more event at a row behind them
rises_more : (own : List Event) (from bound row hits a : ℕ) → RisesBelow from bound hits own
    → from ≤ row → bound ≤ row → a ≢ ends_from hits own
    → RisesBelow from (row + 1) hits (own ++ record { row = row; hits = a } ∷ [])
rises_more [] from bound row hits a rises first past new = (first, omega arith, new, tt)
rises_more (e ∷ own) from bound row hits a rises first past new = (
  rises.0,
  omega (arith, rises.1, past),
  rises.2,
  rises_more own (e.row + 1) bound row e.hits a rises.3 (omega (arith, rises.1, past)) past new,
)

rises_on : (own : List Event) (from bound next hits : ℕ) → RisesBelow from bound hits own
    → bound ≤ next → RisesBelow from next hits own
rises_on [] from bound next hits rises past = tt
rises_on (e ∷ own) from bound next hits rises past =
    (rises.0, omega (arith, rises.1, past), rises.2, rises_on own (e.row + 1) bound next e.hits rises.3 past)

ends_more : (own : List Event) (row hits a : ℕ) → ends_from hits (own ++ record { row = row; hits = a } ∷ []) ≡ a
ends_more [] row hits a = refl
ends_more (e ∷ own) row hits a = ends_more own row e.hits a

-- behind all events their last hits are said
said_end : (own : List Event) (from bound hits r : ℕ) → RisesBelow from bound hits own
    → bound ≤ r + 1 → said_from hits own r ≡ ends_from hits own
said_end [] from bound hits r rises past = refl
said_end (e ∷ own) from bound hits r rises past =
    ap (λ b. cond b (said_from e.hits own r) (said_from hits own r)) (le-leb e.row r (omega (arith, rises.1, past)))
    ∙ said_end own (e.row + 1) bound e.hits r rises.3 past

-- before an event is reached it says nothing
said_before_more : (own : List Event) (hits row a r : ℕ) → r < row
    → said_from hits (own ++ record { row = row; hits = a } ∷ []) r ≡ said_from hits own r
said_before_more [] hits row a r below = ap (λ b. cond b a hits) (lt-leb row r below)
said_before_more (e ∷ own) hits row a r below = ap₂ (λ x y. cond (nat_le e.row r) x y)
    (said_before_more own e.hits row a r below) (said_before_more own hits row a r below)

-- the events of a condition below a row, and its hits there
pub record HasNoted (since bound : ℕ) (own : List Event) (hits : ℕ) : Type 0 where
  pub rises : RisesBelow since bound 0 own
  pub ends : ends_from 0 own ≡ hits

-- the same of each condition
abbrev pub HaveNoted : (since bound : ℕ) → List (List Event) → List ℕ → Type 0
HaveNoted since bound [] [] = Unit {0}
HaveNoted since bound (own ∷ events) (h ∷ hits) = HasNoted since bound own h × HaveNoted since bound events hits
HaveNoted since bound _ _ = ⊥

one_noted : (since row : ℕ) (own : List Event) (b a : ℕ) → since ≤ row → HasNoted since row own b
    → HasNoted since (row + 1) (noted_one row own b a) a
one_noted since row own b a from has = by_case (a == b) refl
  where
    by_case : (same : Bool) → (a == b) ≡ same
        → HasNoted since (row + 1) (cond same own (own ++ record { row = row; hits = a } ∷ [])) a
    by_case true is =
        record {
          rises = rises_on own since row (row + 1) 0 has.rises (omega arith);
          ends = has.ends ∙ sym (eqb-true a b is);
        }
    by_case false is = record {
      rises = rises_more own since row row 0 a has.rises from (omega arith)
          (λ e. false≢true (sym is ∙ eq-eqb a b (e ∙ has.ends)));
      ends = ends_more own row 0 a;
    }

pub all_noted : (since row : ℕ) (events : List (List Event)) (before after : List ℕ) → since ≤ row
    → length after ≡ length before → HaveNoted since row events before
    → HaveNoted since (row + 1) (noted row events before after) after
all_noted since row [] [] [] from long has = tt
all_noted since row [] [] (a ∷ after) from long has = absurd (omega arith)
all_noted since row [] (b ∷ before) after from long has = absurd has
all_noted since row (own ∷ events) [] after from long has = absurd has
all_noted since row (own ∷ events) (b ∷ before) [] from long has = absurd (omega arith)
all_noted since row (own ∷ events) (b ∷ before) (a ∷ after) from long has =
    (one_noted since row own b a from has.0, all_noted since row events before after from (omega arith) has.1)

-- the hits that are said of all conditions at a row
abbrev pub said_at : List (List Event) → ℕ → List ℕ
said_at events r = map (λ own. said_from 0 own r) events

-- behind the noted rows the hits there are said
pub said_last : (since bound r : ℕ) (events : List (List Event)) (hits : List ℕ) → bound ≤ r + 1
    → HaveNoted since bound events hits → said_at events r ≡ hits
said_last since bound r [] [] past has = refl
said_last since bound r [] (h ∷ hits) past has = absurd has
said_last since bound r (own ∷ events) [] past has = absurd has
said_last since bound r (own ∷ events) (h ∷ hits) past has =
    ap₂ (λ x xs. x ∷ xs) (said_end own since bound 0 r has.0.rises past ∙ has.0.ends)
    (said_last since bound r events hits past has.1)

one_earlier : (row r : ℕ) (own : List Event) (b a : ℕ) → r < row
    → said_from 0 (noted_one row own b a) r ≡ said_from 0 own r
one_earlier row r own b a below = by_case (a == b)
  where
    by_case : (same : Bool) → said_from 0
        (cond same own (own ++ record { row = row; hits = a } ∷ [])) r ≡ said_from 0 own r
    by_case true = refl
    by_case false = said_before_more own 0 row a r below

-- at an earlier row the same is said
pub said_earlier : (row r : ℕ) (events : List (List Event)) (before after : List ℕ) → r < row
    → length before ≡ length events → length after ≡ length events
    → said_at (noted row events before after) r ≡ said_at events r
said_earlier row r [] [] [] below long long_too = refl
said_earlier row r [] [] (a ∷ after) below long long_too = absurd (omega arith)
said_earlier row r [] (b ∷ before) after below long long_too = absurd (omega arith)
said_earlier row r (own ∷ events) [] after below long long_too = absurd (omega arith)
said_earlier row r (own ∷ events) (b ∷ before) [] below long long_too = absurd (omega arith)
said_earlier row r (own ∷ events) (b ∷ before) (a ∷ after) below long long_too =
    ap₂ (λ x xs. x ∷ xs) (one_earlier row r own b a below)
    (said_earlier row r events before after below (omega arith) (omega arith))

pub none_noted : (since n : ℕ) → HaveNoted since since (replicate n []) (replicate n 0)
none_noted since zero = tt
none_noted since (suc n) = (record { rises = tt; ends = refl }, none_noted since n)

-- events below a row rise up to the last
one_rises : (own : List Event) (from last hits : ℕ) → RisesBelow from (last + 1) hits own → AreRising from last hits own
one_rises [] from last hits rises = tt
one_rises (e ∷ own) from last hits rises =
    (rises.0, omega (arith, rises.1), rises.2, one_rises own (e.row + 1) last e.hits rises.3)

pub all_rise : (since last : ℕ) (events : List (List Event)) (hits : List ℕ)
    → HaveNoted since (last + 1) events hits → AllByRecursion (AreRising since last 0) events
all_rise since last [] [] has = tt
all_rise since last [] (h ∷ hits) has = tt
all_rise since last (own ∷ events) [] has = absurd has
all_rise since last (own ∷ events) (h ∷ hits) has =
    (one_rises own since last 0 has.0.rises, all_rise since last events hits has.1)

-- an event says its hits at its row
said_here : (e : Event) (es : List Event) (last hits : ℕ) → AreRising (e.row + 1) last e.hits es
    → said_from hits (e ∷ es) e.row ≡ e.hits
said_here e es last hits rising =
    ap (λ b. cond b (said_from e.hits es e.row) (said_from hits es e.row)) (le-leb e.row e.row (omega arith))
    ∙ none_said es e.hits e.hits (e.row + 1) last e.row rising (omega arith)

-- rising events that say the same are the same
pub same_events : (ds es : List Event) (from last hits : ℕ) → AreRising from last hits ds
    → AreRising from last hits es
    → ((r : ℕ) → from ≤ r → r ≤ last → said_from hits ds r ≡ said_from hits es r) → ds ≡ es
same_events [] [] from last hits first second say = refl
same_events [] (e ∷ es) from last hits first second say =
    absurd (second.2 (sym (said_here e es last hits second.3) ∙ sym (say e.row second.0 second.1)))
same_events (d ∷ ds) [] from last hits first second say =
    absurd (first.2 (sym (said_here d ds last hits first.3) ∙ say d.row first.0 first.1))
same_events (d ∷ ds) (e ∷ es) from last hits first second say = elim (cases_lt d.row e.row) [
  | inl below ↦ absurd (first.2 (sym (said_here d ds last hits first.3) ∙ say d.row first.0 first.1
      ∙ none_said (e ∷ es) hits hits e.row last d.row
      (omega arith, second.1, second.2, second.3) below))
  | inr past ↦ elim (cases_lt e.row d.row) [
    | inl above ↦ absurd (second.2 (sym (said_here e es last hits second.3)
        ∙ sym (say e.row second.0 second.1) ∙ none_said (d ∷ ds) hits hits d.row last e.row
        (omega arith, first.1, first.2, first.3) above))
    | inr other ↦
        let row : d.row ≡ e.row = omega (arith, past, other) in
        let hit : d.hits ≡ e.hits = sym (said_here d ds last hits first.3) ∙ say d.row first.0
        first.1 ∙ ap (said_from hits (e ∷ es)) row ∙ said_here e es last hits second.3 in
        let head : d ≡ e = (λ i. record { row = row i; hits = hit i }) in
        let rest : ds ≡ es = same_events ds es (d.row + 1) last d.hits first.3
        (subst (λ (x : Event). AreRising (x.row + 1) last x.hits es) (sym head) second.3)
        (λ r from_r upto. behind d ds last r from_r ∙ say r (omega (arith, first.0, from_r)) upto
        ∙ sym (behind_as e es last r d.hits (sym hit) (omega (arith, row, from_r)))) in
        ap₂ (λ x xs. x ∷ xs) head rest
  ]
]
  where
    behind : (x : Event) (xs : List Event) (last r : ℕ) → x.row + 1 ≤ r → said_from x.hits xs r
        ≡ said_from hits (x ∷ xs) r
    behind x xs last r past = sym (ap (λ b. cond b (said_from x.hits xs r) (said_from hits xs r))
        (le-leb x.row r (omega (arith, past))))

    behind_as : (x : Event) (xs : List Event) (last r h : ℕ) → x.hits ≡ h → x.row + 1 ≤ r
        → said_from h xs r ≡ said_from hits (x ∷ xs) r
    behind_as x xs last r h is past = ap (λ n. said_from n xs r) (sym is) ∙ behind x xs last r past

-- the same of each condition
pub all_same : (ds es : List (List Event)) (since last : ℕ) → length ds ≡ length es
    → AllByRecursion (AreRising since last 0) ds → AllByRecursion (AreRising since last 0) es
    → ((r : ℕ) → since ≤ r → r ≤ last → said_at ds r ≡ said_at es r) → ds ≡ es
all_same [] [] since last long first second say = refl
all_same [] (e ∷ es) since last long first second say = absurd (omega arith)
all_same (d ∷ ds) [] since last long first second say = absurd (omega arith)
all_same (d ∷ ds) (e ∷ es) since last long first second say =
    ap₂ (λ x xs. x ∷ xs)
    (same_events d e since last 0 first.0 second.0 (λ r from upto. let both = say r from upto in head_of both))
    (all_same ds es since last (omega arith) first.1 second.1 (λ r from upto. let both =
    say r from upto in tail_of both))
  where
    head_of : {x y : ℕ} {xs ys : List ℕ} → x ∷ xs ≡ y ∷ ys → x ≡ y
    head_of is = cc

    tail_of : {x y : ℕ} {xs ys : List ℕ} → x ∷ xs ≡ y ∷ ys → xs ≡ ys
    tail_of is = cc
