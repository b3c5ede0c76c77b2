-- The first line of a text, and what is left of it.
use Rattle.std.proofs.Common.{◌≡◌, ◌∙◌, ◌<◌, ◌≤◌, ◌+◌, ◌-◌, ◌==◌, ◌&&◌, ℕ, zero, suc, Bool, true, false, if◌then◌else◌}
use Rattle.std.proofs.Common.{List, [], ◌∷◌, ◌++◌, length, take, drop, refl, sym, ap, subst, arith, append_assoc}
use Rattle.std.proofs.Common.{append-nil, length-append, take-append-drop, take_at, take_all, get_or, subst₂, eqb-true}
use Rattle.std.proofs.lemmas.List.{nil_from_length}
use Rattle.ra_richpresence.specs.Cut.{begun, lines_of, is_end, content_of, begins_comment, uncommented, is_blank}
use Rattle.ra_richpresence.specs.Cut.{is_nothing, before_trimmed, trimmed, left_of, has_no_feed, is_left}
use Rattle.ra_richpresence.specs.Placed.{placed, without_return, IsFeedAt, SplitsLine}
use Rattle.ra_richpresence.proofs.Cuts.{no_feed-cons, cons-no_feed, left-is_left}

-- ---- the first line

pub lines-feed : (line text : List ℕ) → has_no_feed line ≡ true → lines_of (line ++ 10 ∷ text)
    ≡ (line ++ 10 ∷ []) ∷ lines_of text
lines-feed [] text clear = refl
lines-feed (c ∷ line) text clear = rw (no_feed-cons c line clear).0
    (ap (begun c) (lines-feed line text (no_feed-cons c line clear).1))

pub lines-alone : (c : ℕ) (line : List ℕ) → has_no_feed (c ∷ line) ≡ true → lines_of (c ∷ line) ≡ (c ∷ line) ∷ []
lines-alone c [] clear = rw (no_feed-cons c [] clear).0 refl
lines-alone c (d ∷ line) clear = rw (no_feed-cons c (d ∷ line) clear).0
    (ap (begun c) (lines-alone d line (no_feed-cons c (d ∷ line) clear).1))

content-feed : (line : List ℕ) → has_no_feed line ≡ true → content_of (line ++ 10 ∷ []) ≡ without_return line
content-feed [] clear = refl
content-feed (c ∷ []) clear = refl
content-feed (c ∷ d ∷ line) clear =
    cases line (c == 13) (content-feed (d ∷ line) (no_feed-cons c (d ∷ line) clear).1) where
      cases : (line : List ℕ) (return : Bool) → content_of (d ∷ (line ++ 10 ∷ [])) ≡ without_return
          (d ∷ line) → (if is_end (c ∷ d ∷ (line ++ 10 ∷ [])) then [] else c ∷ content_of (d
          ∷ (line ++ 10 ∷ []))) ≡ (if return && false then [] else c ∷ without_return (d ∷ line))
      cases [] true same = ap (λ l. c ∷ l) same
      cases [] false same = ap (λ l. c ∷ l) same
      cases (e ∷ line) true same = ap (λ l. c ∷ l) same
      cases (e ∷ line) false same = ap (λ l. c ∷ l) same

content-alone : (line : List ℕ) → has_no_feed line ≡ true → content_of line ≡ line
content-alone [] clear = refl
content-alone (c ∷ []) clear = rw (no_feed-cons c [] clear).0 refl
content-alone (c ∷ d ∷ []) clear =
    let rest : has_no_feed (d ∷ []) ≡ true = (no_feed-cons c (d ∷ []) clear).1 in
    ap (λ end. if end then [] else c ∷ content_of (d ∷ [])) (no-feed_end (c == 13) (d == 10)
    (no_feed-cons d [] rest).0) ∙ ap (λ l. c ∷ l) (content-alone (d ∷ []) rest) where
      no-feed_end : (return feed : Bool) → feed ≡ false → (return && feed) ≡ false
      no-feed_end true feed e = e
      no-feed_end false feed e = refl
content-alone (c ∷ d ∷ e ∷ line) clear =
    ap (λ l. c ∷ l) (content-alone (d ∷ e ∷ line) (no_feed-cons c (d ∷ e ∷ line) clear).1)

return-clear : (line : List ℕ) → has_no_feed line ≡ true → has_no_feed (without_return line) ≡ true
return-clear [] clear = refl
return-clear (c ∷ line) clear =
    cases (c == 13 && is_nothing line) (return-clear line (no_feed-cons c line clear).1) where
      cases : (end : Bool) → has_no_feed (without_return line) ≡ true
          → has_no_feed (if end then [] else c ∷ without_return line) ≡ true
      cases true f = refl
      cases false f = cons-no_feed c (without_return line) (no_feed-cons c line clear).0 f

-- a line feed stands behind the first line
pub splits-feed : (text : List ℕ) (at byte : ℕ) (behind : List ℕ) → IsFeedAt text at → drop at text
    ≡ byte ∷ behind → SplitsLine text (without_return (take at text)) behind
splits-feed text at byte behind f e =
    let feed : byte ≡ 10 = f.feed behind byte e in
    let whole : text ≡ take at text ++ 10 ∷ behind =
    sym (take-append-drop at text) ∙ ap (λ t. take at text ++ t) (e ∙ ap (λ b. b ∷ behind) feed) in
    record {
      first = take at text ++ 10 ∷ [];
      parts = whole ∙ sym (append_assoc (take at text) (10 ∷ []) behind);
      content = sym (content-feed (take at text) f.clear);
      clear = return-clear (take at text) f.clear;
      lines = λ some. ap lines_of whole ∙ lines-feed (take at text) behind f.clear;
      shorter = λ some. omega (arith, ap length whole, length-append (take at text) (10 ∷ behind));
    }

-- the text is its first line
pub splits-end : (text : List ℕ) (at : ℕ) → IsFeedAt text at → drop at text ≡ [] → SplitsLine text (take at text) []
splits-end text at f e =
    let whole : text ≡ take at text = sym (take-append-drop at text) ∙ ap (λ t. take at text ++ t) e
    ∙ append-nil (take at text) in
    let clear : has_no_feed text ≡ true = subst (λ t. has_no_feed t ≡ true) (sym whole) f.clear in
    record {
      first = text;
      parts = sym (append-nil text);
      content = sym whole ∙ sym (content-alone text clear);
      clear = f.clear;
      lines = λ some. alone text some clear;
      shorter = λ some. longer text some;
    } where
      alone : (text : List ℕ) → (text ≡ [] → ⊥) → has_no_feed text ≡ true → lines_of text ≡ text ∷ []
      alone [] some clear = absurd (some refl)
      alone (c ∷ line) some clear = lines-alone c line clear

      longer : (text : List ℕ) → (text ≡ [] → ⊥) → 0 < length text
      longer [] some = absurd (some refl)
      longer (c ∷ line) some = omega arith

-- ---- the bytes at the end of a line

pub return-last : (front : List ℕ) (last : ℕ) → (last == 13) ≡ true → without_return (front ++ last ∷ []) ≡ front
return-last [] last is = rw is refl
return-last (c ∷ front) last is = cases (c == 13) (some front last) (return-last front last is) where
  some : (front : List ℕ) (last : ℕ) → is_nothing (front ++ last ∷ []) ≡ false
  some [] last = refl
  some (d ∷ front) last = refl

  cases : (return : Bool) → is_nothing (front ++ last ∷ []) ≡ false
      → without_return (front ++ last ∷ []) ≡ front → (if return && is_nothing (front ++ last ∷ [])
      then [] else c ∷ without_return (front ++ last ∷ [])) ≡ c ∷ front
  cases true more same = rw more (ap (λ l. c ∷ l) same)
  cases false more same = ap (λ l. c ∷ l) same

pub no_return-last : (front : List ℕ) (last : ℕ) → (last == 13) ≡ false
    → without_return (front ++ last ∷ []) ≡ front ++ last ∷ []
no_return-last [] last is = rw is refl
no_return-last (c ∷ front) last is = cases (c == 13) (some front last) (no_return-last front last is) where
  some : (front : List ℕ) (last : ℕ) → is_nothing (front ++ last ∷ []) ≡ false
  some [] last = refl
  some (d ∷ front) last = refl

  cases : (return : Bool) → is_nothing (front ++ last ∷ []) ≡ false
      → without_return (front ++ last ∷ []) ≡ front ++ last ∷ [] → (if return && is_nothing (front
      ++ last ∷ []) then [] else c ∷ without_return (front ++ last ∷ [])) ≡ c ∷ (front ++ last ∷ [])
  cases true more same = rw more (ap (λ l. c ∷ l) same)
  cases false more same = ap (λ l. c ∷ l) same

pub trimmed-blank : (front : List ℕ) (last : ℕ) → is_blank last ≡ true → trimmed (front ++ last ∷ []) ≡ trimmed front
trimmed-blank [] last is = rw is refl
trimmed-blank (c ∷ front) last is = ap (before_trimmed c) (trimmed-blank front last is)

pub trimmed-last : (front : List ℕ) (last : ℕ) → is_blank last ≡ false
    → trimmed (front ++ last ∷ []) ≡ front ++ last ∷ []
trimmed-last [] last is = rw is refl
trimmed-last (c ∷ front) last is = ap (before_trimmed c) (trimmed-last front last is)
    ∙ cases (is_blank c) (some front last) where
      some : (front : List ℕ) (last : ℕ) → is_nothing (front ++ last ∷ []) ≡ false
      some [] last = refl
      some (d ∷ front) last = refl

      cases : (blank : Bool) → is_nothing (front ++ last ∷ []) ≡ false → (if blank && is_nothing
          (front ++ last ∷ []) then [] else c ∷ (front ++ last ∷ [])) ≡ c ∷ (front ++ last ∷ [])
      cases true more = rw more refl
      cases false more = refl

-- ---- the bytes before a comment

-- what stands before the rest is kept
pub record CutSoFar (line rest : List ℕ) : Type 0 where
  pub front : List ℕ
  pub parts : line ≡ front ++ rest
  pub same : uncommented line ≡ front ++ uncommented rest

pub cut-more : (line : List ℕ) (byte : ℕ) (rest : List ℕ) → begins_comment (byte ∷ rest) ≡ false
    → CutSoFar line (byte ∷ rest) → CutSoFar line rest
cut-more line byte rest none l = record {
  front = l.front ++ byte ∷ [];
  parts = l.parts ∙ sym (append_assoc l.front (byte ∷ []) rest);
  same = l.same ∙ ap (λ comment. l.front ++ (if comment then [] else byte ∷ uncommented rest)) none
      ∙ sym (append_assoc l.front (byte ∷ []) (uncommented rest));
}

-- ---- the lines of a text

-- the lines so far, and the rest of the text
pub record LinesSoFar (text : List ℕ) (lines : List (ℕ × List ℕ)) (rest : List ℕ) : Type 0 where
  pub within : length rest ≤ length text
  pub same : placed 0 (lines_of text) ≡ lines ++ placed (length text - length rest) (lines_of rest)

pub lines-start : (text : List ℕ) → LinesSoFar text [] text
lines-start text =
    record {
      within = omega arith;
      same = ap (λ at. placed at (lines_of text)) (let none : 0 ≡ length text - length text = omega arith in none);
    }

-- ---- the first and the last of a list

-- a list is its first element and the others
pub split-first : {X : Type 0} (xs : List X) (d : X) → 1 ≤ length xs → xs
    ≡ get_or xs 0 d ∷ take (length xs - 1) (drop 1 xs)
split-first [] d some = absurd (omega arith)
split-first (x ∷ xs) d some = ap (λ t. x ∷ t) (sym (take_all (length (x ∷ xs) - 1) xs (omega arith)))

split-at_last : {X : Type 0} (xs : List X) (d : X) (n : ℕ) → length xs ≡ suc n → xs ≡ take n xs ++ get_or xs n d ∷ []
split-at_last [] d n e = absurd (omega (arith, e))
split-at_last (x ∷ []) d zero e = refl
split-at_last (x ∷ y ∷ xs) d zero e = absurd (omega (arith, e))
split-at_last (x ∷ xs) d (suc n) e = ap (λ t. x ∷ t) (split-at_last xs d n (omega (arith, e)))

-- a list is the others and its last element
pub split-last : {X : Type 0} (xs : List X) (d : X) → 1 ≤ length xs → xs
    ≡ take (length xs - 1) xs ++ get_or xs (length xs - 1) d ∷ []
split-last xs d some = split-at_last xs d (length xs - 1) (omega arith)

pub return-front : (line : List ℕ) → 1 ≤ length line → get_or line (length line - 1) 0 ≡ 13
    → take (length line - 1) line ≡ without_return line
return-front line some is = sym (ap without_return (split-last line 0 some)
    ∙ return-last (take (length line - 1) line) (get_or line (length line - 1) 0)
    (subst (λ c. (c == 13) ≡ true) (sym is) refl))

no_test : (n m : ℕ) → (n ≡ m → ⊥) → (n == m) ≡ false
no_test n m not_same = cases (n == m) refl where
  cases : (same : Bool) → (n == m) ≡ same → same ≡ false
  cases true is = absurd (not_same (eqb-true n m is))
  cases false is = refl

pub no_return-front : (line : List ℕ) → 1 ≤ length line → (get_or line (length line - 1) 0 ≡ 13 → ⊥)
    → line ≡ without_return line
no_return-front line some not_return = let whole : line ≡ take (length line - 1) line
    ++ get_or line (length line - 1) 0 ∷ [] = split-last line 0 some in
    whole ∙ sym (ap without_return whole ∙ no_return-last (take (length line - 1) line)
    (get_or line (length line - 1) 0) (no_test (get_or line (length line - 1) 0) 13 not_return))

pub trimmed-more : (line rest : List ℕ) → 1 ≤ length rest → is_blank (get_or rest (length rest - 1)
    0) ≡ true → trimmed line ≡ trimmed rest → trimmed line ≡ trimmed (take (length rest - 1) rest)
trimmed-more line rest some blank l = l ∙ ap trimmed (split-last rest 0 some)
    ∙ trimmed-blank (take (length rest - 1) rest) (get_or rest (length rest - 1) 0) blank

pub trimmed-ends : (line rest : List ℕ) → 1 ≤ length rest → is_blank
    (get_or rest (length rest - 1) 0) ≡ false → trimmed line ≡ trimmed rest → rest ≡ trimmed line
trimmed-ends line rest some blank l = let whole : rest ≡ take (length rest - 1) rest
    ++ get_or rest (length rest - 1) 0 ∷ [] = split-last rest 0 some in
    sym (l ∙ ap trimmed whole ∙ trimmed-last (take (length rest - 1) rest)
    (get_or rest (length rest - 1) 0) blank ∙ sym whole)

pub cut-turn : (line rest : List ℕ) → 1 ≤ length rest → begins_comment rest ≡ false
    → CutSoFar line rest → CutSoFar line (take (length rest - 1) (drop 1 rest))
cut-turn line rest some none l = cut-more line (get_or rest 0 0)
    (take (length rest - 1) (drop 1 rest)) (subst (λ t. begins_comment t ≡ false)
    (split-first rest 0 some) none) (subst (CutSoFar line) (split-first rest 0 some) l)

pub splits-turn : (text : List ℕ) (at : ℕ) (line back : List ℕ) → IsFeedAt text at → back
    ≡ drop at text → 1 ≤ length back → line ≡ without_return (take at text)
    → SplitsLine text line (take (length back - 1) (drop 1 back))
splits-turn text at line back f e some is = subst
    (λ l. SplitsLine text l (take (length back - 1) (drop 1 back))) (sym is) (splits-feed text at
    (get_or back 0 0) (take (length back - 1) (drop 1 back)) f (sym e ∙ split-first back 0 some))

pub splits-whole : (text : List ℕ) (at : ℕ) (line back : List ℕ) → IsFeedAt text at → back
    ≡ drop at text → length back < 1 → line ≡ take at text → SplitsLine text line back
splits-whole text at line back f e none is = let nothing : back ≡ [] = nil_from_length back (omega arith) in
    subst₂ (λ l b. SplitsLine text l b) (sym is) (sym nothing) (splits-end text at f (sym e ∙ nothing))

-- something is left of a line
pub something-left : (line bytes : List ℕ) → has_no_feed line ≡ true → bytes ≡ left_of line → false
    ≡ (length bytes == 0) → is_left bytes ≡ true
something-left line bytes clear is some = subst (λ b. is_left b ≡ true) (sym is)
    (left-is_left line clear (something (left_of line) (some ∙ ap (λ b. length b == 0) is))) where
      something : (bytes : List ℕ) → false ≡ (length bytes == 0) → is_nothing bytes ≡ false
      something [] e = absurd (cc e)
      something (c ∷ bytes) e = refl
