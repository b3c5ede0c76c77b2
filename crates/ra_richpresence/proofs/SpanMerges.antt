-- Two rows of spans, gone through side by side.
use Rattle.std.proofs.Common.{◌≡◌, ◌∙◌, ℕ, suc, ◌+◌, ◌-◌, ◌<◌, ◌≤◌, ◌⊎◌, min, nat_le, if◌then◌else◌, Bool, true, false}
use Rattle.std.proofs.Common.{List, [], ◌∷◌, ◌++◌, length, get_or, Option, Some, None, refl, sym, ap, arith, inl, inr}
use Rattle.std.specs.List.Sorted.{IsNonDecreasingBy}
use Rattle.std.specs.Option.{option_or}
use Rattle.std.proofs.lemmas.Grind.{common_steps}
use Rattle.std.proofs.lemmas.List.{get_or_at, length-append}
use Rattle.std.proofs.lemmas.List.Sorted.{IsNonDecreasingBy-push, IsNonDecreasingBy-short}
use Rattle.ra_richpresence.specs.declared.span.Span.{Span}
use Rattle.ra_richpresence.specs.Spans.{line_at, line_passed, left_behind, least_from}

-- the spans begin in order, from a number on
abbrev pub Rises : ℕ → List Span → Type 0
Rises at [] = Unit {0}
Rises at (s ∷ ss) = (at ≤ s.from) × Rises s.from ss

abbrev pub froms : Span → ℕ
froms s = s.from

rises-all : (at : ℕ) (ss : List Span) → IsNonDecreasingBy froms ss
    → ((d : Span) → 0 < length ss → at ≤ (get_or ss 0 d).from) → Rises at ss
rises-all at [] rise above = tt
rises-all at (s ∷ ss) rise above = (
  above s (omega arith),
  rises-all s.from ss (λ i j d low less. rise (suc i) (suc j) d (omega arith) (omega arith))
      (λ d some. rise 0 1 d (omega arith) (omega arith)),
)

pub rises : (ss : List Span) → IsNonDecreasingBy froms ss → Rises 0 ss
rises ss rise = rises-all 0 ss rise (λ d some. omega arith)

rises-from : (low at : ℕ) (ss : List Span) → low ≤ at → Rises at ss → Rises low ss
rises-from low at [] below up = tt
rises-from low at (s ∷ ss) below up = (omega (arith, up.0), up.1)

-- a row behind another
pub line_at-append : (before : Option ℕ) (xs ys : List Span) (n : ℕ) → line_at before (xs ++ ys) n
    ≡ line_at (line_at before xs n) ys n
line_at-append before [] ys n = refl
line_at-append before (x ∷ xs) ys n = line_at-append (if nat_le x.from n then x.line else before) xs ys n

le-true : (m n : ℕ) → m ≤ n → nat_le m n ≡ true
le-true m n h = grind (arith, common_steps)

le-false : (m n : ℕ) → n < m → nat_le m n ≡ false
le-false m n h = grind (arith, common_steps)

true-le : (m n : ℕ) → nat_le m n ≡ true → m ≤ n
true-le m n h = grind (arith, common_steps)

false-lt : (m n : ℕ) → nat_le m n ≡ false → n < m
false-lt m n h = grind (arith, common_steps)

-- a number below all spans
none-yet : (before : Option ℕ) (at : ℕ) (ss : List Span) (n : ℕ) → n < at → Rises at ss → line_at before ss n ≡ before
none-yet before at [] n below up = refl
none-yet before at (s ∷ ss) n below up =
    rw (le-false s.from n (omega (arith, up.0))) (none-yet before s.from ss n (omega (arith, up.0)) up.1)

-- a pass changes nothing for the numbers from there on
pub passed-same : (from : ℕ) (before : Option ℕ) (ss : List Span) (n : ℕ) → from ≤ n → line_at before ss n
    ≡ line_at (line_passed from before ss) (left_behind from ss) n
passed-same from before [] n low = refl
passed-same from before (s ∷ ss) n low = cases (nat_le s.from from) refl where
  cases : (b : Bool) → nat_le s.from from ≡ b → line_at (if nat_le s.from n then s.line else before) ss n
      ≡ line_at (if b then s.line else before) (if b then ss else s ∷ ss) n
  cases true is = rw (le-true s.from n (omega (arith, true-le s.from from is))) refl
  cases false is = refl

pub passed-rises : (from : ℕ) (ss : List Span) → Rises from ss → Rises from (left_behind from ss)
passed-rises from [] up = tt
passed-rises from (s ∷ ss) up = cases (nat_le s.from from) where
  cases : (b : Bool) → Rises from (if b then ss else s ∷ ss)
  cases true = rises-from from s.from ss up.0 up.1
  cases false = up

-- what the next of two rows says of them
pub record Least (at from : ℕ) (os us : List Span) : Type 0 where
  pub above : at ≤ from
  pub over : Rises from os
  pub under : Rises from us
  pub fewer : length (left_behind from os) + length (left_behind from us) < length os + length us

some-from : (x y : ℕ) → Some x ≡ Some y → x ≡ y
some-from x y e = cc

first-fewer : (from : ℕ) (s : Span) (ss : List Span) → s.from ≤ from → length (left_behind from (s ∷ ss)) ≡ length ss
first-fewer from s ss low = rw (le-true s.from from low) refl

no-more : (from : ℕ) (ss : List Span) → length (left_behind from ss) ≤ length ss
no-more from [] = omega arith
no-more from (s ∷ ss) = cases (nat_le s.from from) where
  cases : (b : Bool) → length (if b then ss else s ∷ ss) ≤ suc (length ss)
  cases true = omega arith
  cases false = omega arith

pub least : (at from : ℕ) (os us : List Span) → Rises at os → Rises at us → least_from os us ≡ Some from
    → Least at from os us
least at from [] [] over under is = absurd (cc is)
least at from (o ∷ os) [] over under is = let e : o.from ≡ from = some-from o.from from is in
    record {
      above = omega (arith, over.0);
      over = (omega arith, over.1);
      under = tt;
      fewer = omega (arith, first-fewer from o os (omega arith));
    }
least at from [] (u ∷ us) over under is = let e : u.from ≡ from = some-from u.from from is in
    record {
      above = omega (arith, under.0);
      over = tt;
      under = (omega arith, under.1);
      fewer = omega (arith, first-fewer from u us (omega arith));
    }
least at from (o ∷ os) (u ∷ us) over under is =
    let e : min o.from u.from ≡ from = some-from (min o.from u.from) from is in
    record {
      above = omega (arith, over.0, under.0);
      over = (omega arith, over.1);
      under = (omega arith, under.1);
      fewer = fewer (nat_le o.from from) refl;
    } where
      fewer : (b : Bool) → nat_le o.from from ≡ b
          → length (left_behind from (o ∷ os)) + length (left_behind from (u ∷ us)) < length (o ∷ os) + length (u ∷ us)
      fewer true low = omega (arith, first-fewer from o os (true-le o.from from low), no-more from (u ∷ us))
      fewer false high = let e : min o.from u.from ≡ from = some-from (min o.from u.from) from is in
          let below : u.from ≤ from = omega (arith, false-lt o.from from high) in
          omega (arith, no-more from (o ∷ os), first-fewer from u us below)

-- the spans so far are those of two rows up to a number, with the line there, and what is left of the two rows
pub record Merging (over under spans : List Span) (first second : Option ℕ) (os us : List Span)
    (line : Option ℕ) : Type 0 where
  pub at : ℕ
  pub rise : IsNonDecreasingBy froms spans
  pub ends : (d : Span) → 0 < length spans → (get_or spans (length spans - 1) d).from ≤ at
  pub over_rises : Rises at os
  pub under_rises : Rises at us
  pub line_is : line ≡ option_or first second
  pub below : (n : ℕ) → n < at → line_at None spans n ≡ option_or (line_at None over n) (line_at None under n)
  pub here : (n : ℕ) → at ≤ n → line_at None spans n ≡ line
  pub over_left : (n : ℕ) → at ≤ n → line_at None over n ≡ line_at first os n
  pub under_left : (n : ℕ) → at ≤ n → line_at None under n ≡ line_at second us n

pub merging-start : (over under spans : List Span) → IsNonDecreasingBy froms over → IsNonDecreasingBy froms under
    → spans ≡ [] → Merging over under spans None None over under None
merging-start over under spans o u is = rw is (record {
  at = 0;
  rise = IsNonDecreasingBy-short froms [] (omega arith);
  ends = λ d some. omega arith;
  over_rises = rises over o;
  under_rises = rises under u;
  line_is = refl;
  below = λ n less. absurd (omega arith);
  here = λ n low. refl;
  over_left = λ n low. refl;
  under_left = λ n low. refl;
})

module _ (over under spans new : List Span) (first second : Option ℕ) (os us : List Span) (before : Option ℕ)
    (span : Span) (m : Merging over under spans first second os us before) (is : least_from os us ≡ Some span.from)
    (line : span.line ≡ option_or (line_passed span.from first os) (line_passed span.from second us)) where
  found : Least m.at span.from os us
  found = least m.at span.from os us m.over_rises m.under_rises is

  -- below the span the two rows have the line before it
  gap : (n : ℕ) → m.at ≤ n → n < span.from → before ≡ option_or (line_at None over n) (line_at None under n)
  gap n low less = m.line_is ∙ sym
      (ap (λ l. option_or l (line_at None under n)) (m.over_left n low ∙ none-yet first span.from os n less found.over)
      ∙ ap (option_or first) (m.under_left n low ∙ none-yet second span.from us n less found.under))

  over-left : (n : ℕ) → span.from ≤ n → line_at None over n
      ≡ line_at (line_passed span.from first os) (left_behind span.from os) n
  over-left n low = m.over_left n (omega (arith, found.above)) ∙ passed-same span.from first os n low

  under-left : (n : ℕ) → span.from ≤ n → line_at None under n
      ≡ line_at (line_passed span.from second us) (left_behind span.from us) n
  under-left n low = m.under_left n (omega (arith, found.above)) ∙ passed-same span.from second us n low

  -- below the span the spans so far are right
  so-far : (n : ℕ) → n < span.from → line_at None spans n ≡ option_or (line_at None over n) (line_at None under n)
  so-far n less = cases (nat_le m.at n) refl where
    cases : (b : Bool) → nat_le m.at n ≡ b → line_at None spans n
        ≡ option_or (line_at None over n) (line_at None under n)
    cases true low = m.here n (true-le m.at n low) ∙ gap n (true-le m.at n low) less
    cases false high = m.below n (false-lt m.at n high)

  pushed : Merging over under (spans ++ span ∷ []) (line_passed span.from first os) (line_passed span.from second us)
      (left_behind span.from os) (left_behind span.from us) span.line
  pushed = record {
    at = span.from;
    rise = IsNonDecreasingBy-push froms spans span m.rise (λ d some. omega (arith, m.ends d some, found.above));
    ends = λ d some. last-push d;
    over_rises = passed-rises span.from os found.over;
    under_rises = passed-rises span.from us found.under;
    line_is = line;
    below = λ n less. line_at-append None spans (span ∷ []) n
        ∙ ap (λ b. if b then span.line else line_at None spans n) (le-false span.from n less) ∙ so-far n less;
    here = λ n low. line_at-append None spans (span ∷ []) n
        ∙ ap (λ b. if b then span.line else line_at None spans n) (le-true span.from n low);
    over_left = over-left;
    under_left = under-left;
  } where
    last-push : (d : Span) → (get_or (spans ++ span ∷ []) (length (spans ++ span ∷ []) - 1) d).from ≤ span.from
    last-push d =
        let end : length spans ≡ length (spans ++ span ∷ []) - 1 = omega (arith, length-append spans (span ∷ [])) in
        omega (arith, ap froms (get_or_at spans span [] d (length (spans ++ span ∷ []) - 1) end))

  same : before ≡ span.line → Merging over under spans (line_passed span.from first os)
      (line_passed span.from second us) (left_behind span.from os) (left_behind span.from us) span.line
  same e = record {
    at = span.from;
    rise = m.rise;
    ends = λ d some. omega (arith, m.ends d some, found.above);
    over_rises = passed-rises span.from os found.over;
    under_rises = passed-rises span.from us found.under;
    line_is = line;
    below = so-far;
    here = λ n low. m.here n (omega (arith, found.above)) ∙ e;
    over_left = over-left;
    under_left = under-left;
  }

  pub merging-next : (new ≡ spans ++ span ∷ []) ⊎ ((before ≡ span.line) × (new ≡ spans))
      → Merging over under new (line_passed span.from first os) (line_passed span.from second us)
      (left_behind span.from os) (left_behind span.from us) span.line
  merging-next (inl e) = rw e pushed
  merging-next (inr e) = rw e.1 (same e.0)
