-- What is left of lines, and texts that are made of lines.
use Rattle.std.proofs.Common.{◌≡◌, ◌∙◌, ℕ, ◌==◌, ◌&&◌, Bool, true, false, not, if◌then◌else◌, List, [], ◌∷◌, ◌++◌, map}
use Rattle.std.proofs.Common.{refl, sym, ap, append_assoc}
use Rattle.std.specs.List.{filter, flat_map, AllByRecursion}
use Rattle.std.specs.Str.{bytes_eq}
use Rattle.std.proofs.lemmas.List.{map-append}
use Rattle.std.proofs.lemmas.List.Elements.{filter-append}
use Rattle.std.proofs.lemmas.Slice.Eq.{bytes_eq-Decides}
use Rattle.ra_richpresence.specs.Cut.{begun, lines_of, is_end, content_of, contents_of, begins_comment, uncommented}
use Rattle.ra_richpresence.specs.Cut.{is_blank, is_nothing, before_trimmed, trimmed, left_of, kept_of, has_no_feed}
use Rattle.ra_richpresence.specs.Cut.{is_left}
use Rattle.ra_text.specs.Reading.{begins}

-- ---- nothing more is cut from what is left

-- the rest of a line is cut away, or begins with the same byte
begins-uncommented : (line : List ℕ) → begins (λ next. next == 47) line ≡ false
    → begins (λ next. next == 47) (uncommented line) ≡ false
begins-uncommented [] e = refl
begins-uncommented (c ∷ line) e = cases (begins_comment (c ∷ line)) where
  cases : (comment : Bool) → begins (λ next. next == 47) (if comment then [] else c ∷ uncommented line) ≡ false
  cases true = refl
  cases false = e

begins-trimmed : (line : List ℕ) → begins (λ next. next == 47) line ≡ false
    → begins (λ next. next == 47) (trimmed line) ≡ false
begins-trimmed [] e = refl
begins-trimmed (c ∷ line) e = cases (is_blank c && is_nothing (trimmed line)) where
  cases : (blank : Bool) → begins (λ next. next == 47) (if blank then [] else c ∷ trimmed line) ≡ false
  cases true = refl
  cases false = e

-- no comment begins before other bytes that no slash begins
no-comment : (c : ℕ) (line other : List ℕ) → (begins (λ next. next == 47) line ≡ false
    → begins (λ next. next == 47) other ≡ false) → begins_comment (c ∷ line) ≡ false
    → begins_comment (c ∷ other) ≡ false
no-comment c line other keeps e = cases (c == 47) e where
  cases : (slash : Bool) → (slash && begins (λ next. next == 47) line) ≡ false
      → (slash && begins (λ next. next == 47) other) ≡ false
  cases true e = keeps e
  cases false e = refl

uncommented-twice : (line : List ℕ) → uncommented (uncommented line) ≡ uncommented line
uncommented-twice [] = refl
uncommented-twice (c ∷ line) = cases (begins_comment (c ∷ line)) refl (uncommented-twice line) where
  cases : (comment : Bool) → begins_comment (c ∷ line) ≡ comment → uncommented (uncommented line)
      ≡ uncommented line → uncommented (if comment then [] else c ∷ uncommented line)
      ≡ (if comment then [] else c ∷ uncommented line)
  cases true is twice = refl
  cases false is twice = ap (λ comment. if comment then [] else c ∷ uncommented (uncommented line))
      (no-comment c line (uncommented line) (begins-uncommented line) is) ∙ ap (λ t. c ∷ t) twice

-- what stands before a comment has none
pub data Uncommented (c : ℕ) (line : List ℕ) : Type 0 where
  none : begins_comment (c ∷ line) ≡ false → uncommented line ≡ line → Uncommented c line

is-uncommented : (c : ℕ) (line : List ℕ) → uncommented (c ∷ line) ≡ c ∷ line → Uncommented c line
is-uncommented c line e = cases (begins_comment (c ∷ line)) refl e where
  cases : (comment : Bool) → begins_comment (c ∷ line) ≡ comment
      → (if comment then [] else c ∷ uncommented line) ≡ c ∷ line → Uncommented c line
  cases true is e = absurd (cc e)
  cases false is e = none is (cc e)

trimmed-uncommented : (line : List ℕ) → uncommented line ≡ line → uncommented (trimmed line) ≡ trimmed line
trimmed-uncommented [] e = refl
trimmed-uncommented (c ∷ line) e = cases (is_blank c && is_nothing (trimmed line))
    (is-uncommented c line e) (λ f. trimmed-uncommented line f) where
      cases : (blank : Bool) → Uncommented c line → (uncommented line ≡ line
          → uncommented (trimmed line) ≡ trimmed line) → uncommented
          (if blank then [] else c ∷ trimmed line) ≡ (if blank then [] else c ∷ trimmed line)
      cases true u same = refl
      cases false (none is f) same = ap (λ comment. if comment then [] else c ∷ uncommented (trimmed
          line)) (no-comment c line (trimmed line) (begins-trimmed line) is) ∙ ap (λ t. c ∷ t) (same f)

trimmed-twice : (line : List ℕ) → trimmed (trimmed line) ≡ trimmed line
trimmed-twice [] = refl
trimmed-twice (c ∷ line) = cases (is_blank c && is_nothing (trimmed line)) refl (trimmed-twice line) where
  cases : (blank : Bool) → (is_blank c && is_nothing (trimmed line)) ≡ blank
      → trimmed (trimmed line) ≡ trimmed line → trimmed (if blank then [] else c ∷ trimmed line)
      ≡ (if blank then [] else c ∷ trimmed line)
  cases true is twice = refl
  cases false is twice = ap (before_trimmed c) twice ∙ ap (λ blank. if blank then [] else c ∷ trimmed line) is

left-twice : (line : List ℕ) → left_of (left_of line) ≡ left_of line
left-twice line = ap trimmed (trimmed-uncommented (uncommented line) (uncommented-twice line))
    ∙ trimmed-twice (uncommented line)

-- ---- no line feed

pub no_feed-cons : (c : ℕ) (line : List ℕ) → has_no_feed (c ∷ line) ≡ true → ((c == 10) ≡ false)
    × (has_no_feed line ≡ true)
no_feed-cons c line e = cases (c == 10) refl e where
  cases : (feed : Bool) → (c == 10) ≡ feed → has_no_feed (c ∷ line) ≡ true → ((c == 10) ≡ false)
      × (has_no_feed line ≡ true)
  cases true is e = absurd (let no : has_no_feed (c ∷ line) ≡ false = rw is refl in cc (no, e))
  cases false is e = (is, (let same : has_no_feed (c ∷ line) ≡ has_no_feed line = rw is refl in sym same ∙ e))

pub cons-no_feed : (c : ℕ) (line : List ℕ) → (c == 10) ≡ false → has_no_feed line ≡ true → has_no_feed (c ∷ line) ≡ true
cons-no_feed c line is e = rw is e

uncommented-no_feed : (line : List ℕ) → has_no_feed line ≡ true → has_no_feed (uncommented line) ≡ true
uncommented-no_feed [] e = refl
uncommented-no_feed (c ∷ line) e =
    cases (begins_comment (c ∷ line)) (uncommented-no_feed line (no_feed-cons c line e).1) where
      cases : (comment : Bool) → has_no_feed (uncommented line) ≡ true
          → has_no_feed (if comment then [] else c ∷ uncommented line) ≡ true
      cases true f = refl
      cases false f = cons-no_feed c (uncommented line) (no_feed-cons c line e).0 f

trimmed-no_feed : (line : List ℕ) → has_no_feed line ≡ true → has_no_feed (trimmed line) ≡ true
trimmed-no_feed [] e = refl
trimmed-no_feed (c ∷ line) e = cases (is_blank c && is_nothing (trimmed line))
    (trimmed-no_feed line (no_feed-cons c line e).1) where
      cases : (blank : Bool) → has_no_feed (trimmed line) ≡ true
          → has_no_feed (if blank then [] else c ∷ trimmed line) ≡ true
      cases true f = refl
      cases false f = cons-no_feed c (trimmed line) (no_feed-cons c line e).0 f

-- what is left of a line without a line feed may be left
pub left-is_left : (line : List ℕ) → has_no_feed line ≡ true → is_nothing (left_of line) ≡ false
    → is_left (left_of line) ≡ true
left-is_left line feed some =
    rw (some, trimmed-no_feed (uncommented line) (uncommented-no_feed line feed))
    ((bytes_eq-Decides (left_of (left_of line)) (left_of line)).1 (left-twice line))

-- a line that may be left is one without a line feed, from which nothing is cut
pub record Left (line : List ℕ) : Type 0 where
  pub some : is_nothing line ≡ false
  pub feed : has_no_feed line ≡ true
  pub same : left_of line ≡ line

pub is-left : (line : List ℕ) → is_left line ≡ true → Left line
is-left line e = cases (is_nothing line) refl (has_no_feed line) refl (bytes_eq (left_of line) line) refl e where
  cases : (nothing : Bool) → is_nothing line ≡ nothing → (clear : Bool) → has_no_feed line ≡ clear
      → (same : Bool) → bytes_eq (left_of line) line ≡ same → (not nothing && (clear && same))
      ≡ true → Left line
  cases false some true feed true same e =
      record { some = some; feed = feed; same = (bytes_eq-Decides (left_of line) line).0 same }
  cases true some clear feed same is e = absurd (cc e)
  cases false some false feed same is e = absurd (cc e)
  cases false some true feed false same e = absurd (cc e)

-- ---- the lines of a text have no line feed but at their end

-- a line feed stands at the end alone
abbrev pub EndsWithFeed : List ℕ → Type 0
EndsWithFeed [] = Unit {0}
EndsWithFeed (c ∷ line) = ((c == 10) ≡ true → line ≡ []) × EndsWithFeed line

begun-ends : (c : ℕ) (lines : List (List ℕ)) → (c == 10) ≡ false → AllByRecursion EndsWithFeed lines
    → AllByRecursion EndsWithFeed (begun c lines)
begun-ends c [] is all = ((λ yes. absurd (cc (yes, is)), tt), tt)
begun-ends c (line ∷ lines) is all = ((λ yes. absurd (cc (yes, is)), all.0), all.1)

pub lines-end : (text : List ℕ) → AllByRecursion EndsWithFeed (lines_of text)
lines-end [] = tt
lines-end (c ∷ text) = cases (c == 10) refl (lines-end text) where
  cases : (feed : Bool) → (c == 10) ≡ feed → AllByRecursion EndsWithFeed (lines_of text)
      → AllByRecursion EndsWithFeed (if feed then (10 ∷ []) ∷ lines_of text
      else begun c (lines_of text))
  cases true is all = ((λ yes. refl, tt), all)
  cases false is all = begun-ends c (lines_of text) is all

content-no_feed : (line : List ℕ) → EndsWithFeed line → has_no_feed (content_of line) ≡ true
content-no_feed [] all = refl
content-no_feed (c ∷ line) all = cases (is_end (c ∷ line)) refl (c == 10) refl (content-no_feed line all.1) where
  cases : (end : Bool) → is_end (c ∷ line) ≡ end → (feed : Bool) → (c == 10) ≡ feed → has_no_feed
      (content_of line) ≡ true → has_no_feed (if end then [] else c ∷ content_of line) ≡ true
  cases true is feed f e = refl
  cases false is true f e = absurd (let last : line ≡ [] = all.0 f in
      let yes : is_end (c ∷ line) ≡ true = ap (λ l. is_end (c ∷ l)) last ∙ f in cc (yes, is))
  cases false is false f e = cons-no_feed c (content_of line) f e

contents-clear : (lines : List (List ℕ)) → AllByRecursion EndsWithFeed lines
    → AllByRecursion (λ line. has_no_feed line ≡ true) (map content_of lines)
contents-clear [] all = tt
contents-clear (line ∷ lines) all = (content-no_feed line all.0, contents-clear lines all.1)

-- no line of a text has a line feed in its content
pub contents-no_feed : (text : List ℕ) → AllByRecursion (λ line. has_no_feed line ≡ true) (contents_of text)
contents-no_feed text = contents-clear (lines_of text) (lines-end text)

-- ---- texts that are made of lines

-- lines with their ends
abbrev pub ended : List ℕ → List ℕ
ended line = line ++ 13 ∷ 10 ∷ []

-- a line before a text
lines-ended : (line text : List ℕ) → has_no_feed line ≡ true → lines_of (line ++ 13 ∷ 10 ∷ text)
    ≡ ended line ∷ lines_of text
lines-ended [] text clear = refl
lines-ended (c ∷ line) text clear = rw (no_feed-cons c line clear).0
    (ap (begun c) (lines-ended line text (no_feed-cons c line clear).1))

content-ended : (line : List ℕ) → has_no_feed line ≡ true → content_of (ended line) ≡ line
content-ended [] clear = refl
content-ended (c ∷ line) clear =
    rw (long line) (ap (λ l. c ∷ l) (content-ended line (no_feed-cons c line clear).1)) where
      long : (line : List ℕ) → is_end (c ∷ ended line) ≡ false
      long [] = refl
      long (d ∷ []) = refl
      long (d ∷ e ∷ line) = refl

-- the text of these lines
abbrev pub text_of : List (List ℕ) → List ℕ
text_of lines = flat_map ended lines

pub contents-text : (lines : List (List ℕ)) → AllByRecursion (λ line. has_no_feed line ≡ true) lines
    → contents_of (text_of lines) ≡ lines
contents-text [] all = refl
contents-text (line ∷ lines) all =
    ap contents_of (append_assoc line (13 ∷ 10 ∷ []) (text_of lines))
    ∙ ap (map content_of) (lines-ended line (text_of lines) all.0)
    ∙ ap (λ l. l ∷ contents_of (text_of lines)) (content-ended line all.0)
    ∙ ap (λ ls. line ∷ ls) (contents-text lines all.1)

-- ---- what is kept of lines

pub kept-append : (lines others : List (List ℕ)) → kept_of (lines ++ others) ≡ kept_of lines ++ kept_of others
kept-append lines others = ap (filter (λ line. not (is_nothing line))) (map-append left_of lines
    others) ∙ filter-append (λ line. not (is_nothing line)) (map left_of lines) (map left_of others)

-- lines that may be left are kept as they are
pub kept-left : (lines : List (List ℕ)) → AllByRecursion (λ line. is_left line ≡ true) lines → kept_of lines ≡ lines
kept-left [] all = refl
kept-left (line ∷ lines) all =
    let l : Left line = is-left line all.0 in
    let some : not (is_nothing (left_of line)) ≡ true = ap (λ t. not (is_nothing t)) l.same ∙ ap not l.some in
    rw some (ap (λ t. t ∷ kept_of lines) l.same ∙ ap (λ ls. line ∷ ls) (kept-left lines all.1))
