-- The spans of ranges and of keys lines, and what a search in them finds.
use Rattle.std.proofs.Common.{◌≡◌, ◌∙◌, ℕ, zero, suc, ◌+◌, ◌-◌, ◌<◌, ◌≤◌, nat_le, if◌then◌else◌, Bool, true, false}
use Rattle.std.proofs.Common.{List, [], ◌∷◌, ◌++◌, length, map, get_or, Option, Some, None, refl, sym, ap, subst, arith}
use Rattle.std.proofs.Common.{Vec, Global, IfOk, Result, Ok, Err}
use Rattle.std.specs.List.Sorted.{IsNonDecreasingBy}
use Rattle.std.specs.Option.{option_or}
use Rattle.std.proofs.lemmas.Bool.{leb-true, leb-false}
use Rattle.std.proofs.lemmas.List.{get_or_push, get_or_append_left, length-append}
use Rattle.ra_richpresence.specs.Contents.{keys_contents}
use Rattle.ra_richpresence.specs.Lines.{holds, looked_up, other_text}
use Rattle.ra_richpresence.specs.Spans.{AreLaidOut, AreSpans, line_at, line_of}
use Rattle.ra_richpresence.specs.declared.lookup.Keys.{Keys}
use Rattle.ra_richpresence.specs.declared.lookup.Lookup.{Lookup}
use Rattle.ra_richpresence.specs.declared.span.Span.{Span}
use Rattle.ra_richpresence.proofs.SpanMerges.{froms}

-- ---- keys lines in two parts

pub keys-append : (at : ℕ) (xs ys : List Keys) (n : ℕ) → option_or (line_of at xs n) (line_of (at + length xs) ys n)
    ≡ line_of at (xs ++ ys) n
keys-append at [] ys n = let same : at + 0 ≡ at = omega arith in ap (λ k. line_of k ys n) same
keys-append at (x ∷ xs) ys n = cases (holds x.ranges.items n) (keys-append (suc at) xs ys n) where
  behind : at + suc (length xs) ≡ suc at + length xs
  behind = omega arith

  cases : (b : Bool) → option_or (line_of (suc at) xs n) (line_of (suc at + length xs) ys n)
      ≡ line_of (suc at) (xs ++ ys) n
      → option_or (if b then Some at else line_of (suc at) xs n) (line_of (at + suc (length xs)) ys n)
      ≡ (if b then Some at else line_of (suc at) (xs ++ ys) n)
  cases true next = refl
  cases false next = ap (λ k. option_or (line_of (suc at) xs n) (line_of k ys n)) behind ∙ next

-- ---- what a search finds

-- no span begins at a number or below it
pub found-none : (before : Option ℕ) (spans : List Span) (n : ℕ) (d : Span)
    → ((k : ℕ) → k < length spans → nat_le (get_or spans k d).from n ≡ false) → line_at before spans n ≡ before
found-none before [] n d high = refl
found-none before (s ∷ ss) n d high = rw (high 0 (omega arith))
    (found-none before ss n d (λ k less. high (suc k) (omega arith)))

-- the spans up to one of them begin at a number or below it
pub found-last : (before : Option ℕ) (spans : List Span) (i n : ℕ) (d : Span) → i < length spans
    → ((k : ℕ) → k ≤ i → nat_le (get_or spans k d).from n ≡ true)
    → ((k : ℕ) → i < k → k < length spans → nat_le (get_or spans k d).from n ≡ false)
    → line_at before spans n ≡ (get_or spans i d).line
found-last before [] i n d within low high = absurd (omega arith)
found-last before (s ∷ ss) zero n d within low high =
    rw (low 0 (omega arith)) (found-none s.line ss n d (λ k less. high (suc k) (omega arith) (omega arith)))
found-last before (s ∷ ss) (suc i) n d within low high =
    rw (low 0 (omega arith)) (found-last s.line ss i n d (omega arith) (λ k less. low (suc k) (omega arith))
    (λ k above less. high (suc k) (omega arith) (omega arith)))

-- ---- the text of a line

-- a keys line of an index and its text
pub record IsLineOf (keys : List Keys) (rest : Option (List ℕ)) (n : ℕ) (line : ℕ) : Type 0 where
  pub within : line < length keys
  pub text : (d : Keys) → looked_up (map keys_contents keys) rest n ≡ (get_or keys line d).text.items

line-behind : (at : ℕ) (keys : List Keys) (rest : Option (List ℕ)) (n line : ℕ) → line_of at keys n ≡ Some line
    → (at ≤ line) × IsLineOf keys rest n (line - at)
line-behind at [] rest n line is = absurd (cc is)
line-behind at (k ∷ ks) rest n line is = cases (holds k.ranges.items n) refl is
    (line-behind (suc at) ks rest n line) where
      cases : (b : Bool) → holds k.ranges.items n ≡ b → (if b then Some at else line_of (suc at) ks n) ≡ Some line
          → (line_of (suc at) ks n ≡ Some line → (suc at ≤ line) × IsLineOf ks rest n (line - suc at))
          → (at ≤ line) × IsLineOf (k ∷ ks) rest n (line - at)
      cases true h is next = let e : at ≡ line = cc is in
          let none : line - at ≡ 0 = omega arith in
          (omega arith, record { within = omega arith; text = λ d. rw (h, none) refl })
      cases false h is next = let r : (suc at ≤ line) × IsLineOf ks rest n (line - suc at) = next is in
          let low : suc at ≤ line = r.0 in
          let one_more : line - at ≡ suc (line - suc at) = omega arith in
          (omega arith, record { within = omega (arith, r.1.within); text = λ d. rw (h, one_more) (r.1.text d) })

pub line-of : (keys : List Keys) (rest : Option (List ℕ)) (n line : ℕ) → line_of 0 keys n ≡ Some line
    → IsLineOf keys rest n line
line-of keys rest n line is =
    let all : line - 0 ≡ line = omega arith in
    subst (IsLineOf keys rest n) all (line-behind 0 keys rest n line is).1

pub no-line : (at : ℕ) (keys : List Keys) (rest : Option (List ℕ)) (n : ℕ) → line_of at keys n ≡ None
    → looked_up (map keys_contents keys) rest n ≡ other_text rest
no-line at [] rest n is = refl
no-line at (k ∷ ks) rest n is = cases (holds k.ranges.items n) refl is (no-line (suc at) ks rest n) where
  cases : (b : Bool) → holds k.ranges.items n ≡ b → (if b then Some at else line_of (suc at) ks n) ≡ None
      → (line_of (suc at) ks n ≡ None → looked_up (map keys_contents ks) rest n ≡ other_text rest)
      → looked_up (map keys_contents (k ∷ ks)) rest n ≡ other_text rest
  cases true h is next = absurd (cc is)
  cases false h is next = rw h (next is)

-- ---- lookups with their spans

-- keys lines in two parts, with one row of spans for both
pub keys-laid : {E : Type 0} (r : Result (Vec Span Global) E) (at half : ℕ) (xs ys all : List Keys)
    (over under : List Span) → all ≡ xs ++ ys → length xs ≡ half → AreSpans (line_of at xs) over
    → AreSpans (line_of (at + half) ys) under
    → IfOk r (λ spans. IsNonDecreasingBy froms spans.items)
    → IfOk r (λ spans. (n : ℕ) → line_at None spans.items n
    ≡ option_or (line_at None over n) (line_at None under n))
    → IfOk r (λ spans. AreSpans (line_of at all) spans.items)
keys-laid (Err e) at half xs ys all over under parts long o u rise found = tt
keys-laid (Ok spans) at half xs ys all over under parts long o u rise found = record {
  rise = rise;
  found = λ n small. found n ∙ ap (λ l. option_or l (line_at None under n)) (o.found n small)
      ∙ ap (option_or (line_of at xs n)) (u.found n small)
      ∙ ap (λ k. option_or (line_of at xs n) (line_of (at + k) ys n)) (sym long) ∙ keys-append at xs ys n
      ∙ ap (λ ks. line_of at ks n) (sym parts);
}

-- a lookup more
pub laid-more : (lookups more : List Lookup) (spans : List (Vec Span Global)) (lookup : Lookup)
    (row : Vec Span Global) → more ≡ lookups ++ lookup ∷ [] → AreLaidOut lookups spans
    → AreSpans (line_of 0 lookup.keys.items) row.items
    → AreLaidOut more (spans ++ row ∷ [])
laid-more lookups more spans lookup row is laid one = rw is (record {
  count = omega (arith, length-append spans (row ∷ []), length-append lookups (lookup ∷ []), laid.count);
  each = λ i l s less. cases i l s (nat_le (length lookups) i) refl less;
}) where
  cases : (i : ℕ) (l : Lookup) (s : Vec Span Global) (b : Bool) → nat_le (length lookups) i ≡ b
      → i < length (lookups ++ lookup ∷ [])
      → AreSpans (line_of 0 (get_or (lookups ++ lookup ∷ []) i l).keys.items) (get_or (spans ++ row ∷ []) i s).items
  cases i l s true last less =
      let low : length lookups ≤ i = leb-true (length lookups) i last in
      let here : length lookups ≡ i = omega (arith, length-append lookups (lookup ∷ [])) in
      let there : length spans ≡ i = omega (arith, laid.count) in
      rw (get_or_push lookups lookup l i here, get_or_push spans row s i there) one
  cases i l s false earlier less =
      let here : i < length lookups = leb-false (length lookups) i earlier in
      let there : i < length spans = omega (arith, laid.count) in
      rw (get_or_append_left lookups (lookup ∷ []) l i here, get_or_append_left spans (row ∷ []) s i there)
      (laid.each i l s here)

-- the spans of the lookup of an index
pub laid-at : (lookups : List Lookup) (spans : List (Vec Span Global)) (i : ℕ) (l : Lookup) (s : Vec Span Global)
    → AreLaidOut lookups spans → i < length lookups → l ≡ get_or lookups i l → s ≡ get_or spans i s
    → AreSpans (line_of 0 l.keys.items) s.items
laid-at lookups spans i l s laid less lookup row =
    subst (λ (x : Lookup). AreSpans (line_of 0 x.keys.items) s.items) (sym lookup)
    (subst (λ (x : Vec Span Global). AreSpans (line_of 0 (get_or lookups i l).keys.items) x.items) (sym row)
    (laid.each i l s less))
