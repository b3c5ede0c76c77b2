-- Lines of a script that are gone over, and where its first bad line stands.
use Rattle.std.proofs.Common.{◌≡◌, ◌∙◌, ℕ, zero, suc, ◌+◌, ◌≤◌, ◌==◌, Bool, true, false, ◌&&◌, if◌then◌else◌, List, []}
use Rattle.std.proofs.Common.{◌∷◌, ◌++◌, length, map, take, drop, get_or, refl, sym, ap, subst, arith, codes, bytes_eq}
use Rattle.std.proofs.Common.{append-nil, length-append, length-take, eqb-true}
use Rattle.std.specs.List.{flat_map}
use Rattle.std.proofs.lemmas.List.{take-map}
use Rattle.ra_text.specs.Reading.{begins}
use Rattle.ra_text.specs.Table.{is_in, only}
use Rattle.ra_richpresence.specs.Cut.{begun, content_of, contents_of, is_nothing, left_of, lines_of}
use Rattle.ra_richpresence.specs.Placed.{SplitsLine}
use Rattle.ra_richpresence.specs.Places.{IsOutside, line_start}
use Rattle.ra_review.specs.declared.entries.Entries.{Entries}
use Rattle.ra_review.specs.declared.script.Display.{Display}
use Rattle.ra_review.specs.declared.script.Display.TheVariants as opening
use Rattle.ra_review.specs.declared.script.Walked.{Walked}
use Rattle.ra_review.specs.Judging.{display_after, opens, Walks, IsPlaceAfter, RefusesScript}
use Rattle.ra_review.specs.Reporting.{AreEntries}
use Rattle.ra_review.specs.Scripts.{IsPlaceIn, is_open, is_open_after}
use Rattle.ra_review.specs.Shown.{refusal}

-- ---- the display

-- one line more
opens_next : (d : Display) (left : List ℕ) (lines : List (List ℕ)) → opens d (left ∷ lines)
    ≡ opens (display_after d left) lines
opens_next opening.Before left lines = by_head (bytes_eq (codes "Display:") left)
  where
    by_head : (head : Bool) → is_open_after head lines ≡ opens (if head then opening.Open else opening.Before) lines
    by_head true = refl
    by_head false = refl
opens_next opening.Open left lines = by_line (is_nothing left) (begins (is_in (only (codes "?"))) left)
  where
    by_line : (none test : Bool) → (if none then is_open_after true lines else test && is_open_after true lines)
        ≡ opens (if none then opening.Open else if test then opening.Open else opening.Closed) lines
    by_line true test = refl
    by_line false true = refl
    by_line false false = refl
opens_next opening.Closed left lines = refl

-- the lines so far were gone over
pub record WalkSoFar (text rest : List ℕ) (walked : Walked) : Type 0 where
  pub lines : length (lines_of text) ≡ walked.lines + length (lines_of rest)
  pub display : opens walked.display (map left_of (contents_of rest))
      ≡ is_open_after false (map left_of (contents_of text))

pub walk_next : (text rest content behind : List ℕ) (old : Walked) (lines : ℕ) (d : Display)
    → SplitsLine rest content behind → (rest ≡ [] → ⊥)
    → lines ≡ old.lines + 1 → d ≡ display_after old.display (left_of content)
    → WalkSoFar text rest old → WalkSoFar text behind (record { lines = lines; display = d })
walk_next text rest content behind old lines d s some more is h = record {
  lines = omega (arith, h.lines, more, ap length (s.lines some));
  display =
      ap (λ o. opens o (map left_of (contents_of behind))) is
      ∙ sym (opens_next old.display (left_of content) (map left_of (contents_of behind)))
      ∙ ap (λ t. opens old.display (left_of t ∷ map left_of (contents_of behind))) s.content
      ∙ ap (λ ls. opens old.display (map left_of (map content_of ls))) (sym (s.lines some))
      ∙ h.display;
}

pub walk_ends : (text rest : List ℕ) (walked : Walked) → rest ≡ [] → WalkSoFar text rest walked → Walks text walked
walk_ends text rest walked none h = record {
  lines = (let all = ap (λ t. length (lines_of t)) none in omega (arith, h.lines, all));
  display = ap (λ t. opens walked.display (map left_of (contents_of t))) (sym none) ∙ h.display;
}

-- ---- where a line starts

-- a text begins with its first line, behind which others stand as they do
pub record FirstOf (text l : List ℕ) (ls : List (List ℕ)) : Type 0 where
  pub behind : List ℕ
  pub parts : text ≡ l ++ behind
  pub others : lines_of behind ≡ ls
  pub again : (t : List ℕ) → (ls ≡ [] → ⊥) → lines_of (l ++ t) ≡ l ∷ lines_of t

some_lines : (c : ℕ) (text : List ℕ) → lines_of (c ∷ text) ≡ [] → ⊥
some_lines c text e = by_feed (c == 10) (lines_of text) e
  where
    by_feed : (feed : Bool) (lines : List (List ℕ)) → (if feed then (10 ∷ []) ∷ lines else begun c lines) ≡ [] → ⊥
    by_feed true lines e = cc e
    by_feed false [] e = cc e
    by_feed false (m ∷ ms) e = cc e

pub no_lines : (text : List ℕ) → lines_of text ≡ [] → text ≡ []
no_lines [] e = refl
no_lines (c ∷ text) e = absurd (some_lines c text e)

pub first_of : (text l : List ℕ) (ls : List (List ℕ)) → lines_of text ≡ l ∷ ls → FirstOf text l ls
first_of [] l ls e = absurd (cc e)
first_of (c ∷ text) l ls e = by_feed (c == 10) refl e (lines_of text) refl (first_of text)
  where
    by_feed : (feed : Bool) → (c == 10) ≡ feed
        → (if feed then (10 ∷ []) ∷ lines_of text else begun c (lines_of text)) ≡ l ∷ ls
        → (lines : List (List ℕ)) → lines_of text ≡ lines → ((l : List ℕ) (ls : List (List ℕ))
        → lines_of text ≡ l ∷ ls → FirstOf text l ls) → FirstOf (c ∷ text) l ls
    by_feed true is e lines is_lines next =
        let first : 10 ∷ [] ≡ l = cc e in
        let left : lines_of text ≡ ls = cc e in
        let ten : c ≡ 10 = eqb-true c 10 is in
        record {
          behind = text;
          parts = ap (λ b. b ∷ text) ten ∙ ap (λ f. f ++ text) first;
          others = left;
          again = λ t some. ap (λ f. lines_of (f ++ t)) (sym first) ∙ ap (λ f. f ∷ lines_of t) first;
        }
    by_feed false is e [] is_lines next =
        let lines : (c ∷ []) ∷ [] ≡ l ∷ ls = ap (begun c) (sym is_lines) ∙ e in
        let first : c ∷ [] ≡ l = cc lines in
        let none : [] ≡ ls = cc lines in
        record {
          behind = [];
          parts = ap (λ t. c ∷ t) (no_lines text is_lines) ∙ ap (λ f. f ++ []) first;
          others = none;
          again = λ t some. absurd (some (sym none));
        }
    by_feed false is e (m ∷ ms) is_lines next =
        let lines : (c ∷ m) ∷ ms ≡ l ∷ ls = ap (begun c) (sym is_lines) ∙ e in
        let first : c ∷ m ≡ l = cc lines in
        let left : ms ≡ ls = cc lines in
        let f = next m ms is_lines in
        record {
          behind = f.behind;
          parts = ap (λ t. c ∷ t) f.parts ∙ ap (λ x. x ++ f.behind) first;
          others = f.others ∙ left;
          again = λ t some. ap (λ x. lines_of (x ++ t)) (sym first)
              ∙ ap (λ feed. if feed then (10 ∷ []) ∷ lines_of (m ++ t) else begun c (lines_of (m ++ t))) is
              ∙ ap (begun c) (f.again t (λ none. some (sym left ∙ none))) ∙ ap (λ x. x ∷ lines_of t) first;
        }

take_past : (xs ys : List ℕ) (k : ℕ) → take (length xs + k) (xs ++ ys) ≡ xs ++ take k ys
take_past [] ys k = let e : 0 + k ≡ k = omega arith in ap (λ n. take n ys) e
take_past (x ∷ xs) ys k =
    let e : length (x ∷ xs) + k ≡ suc (length xs + k) = omega arith in
    ap (λ n. take n (x ∷ (xs ++ ys))) e ∙ ap (λ t. x ∷ t) (take_past xs ys k)

drop_past : (xs ys : List ℕ) (k : ℕ) → drop (length xs + k) (xs ++ ys) ≡ drop k ys
drop_past [] ys k = let e : 0 + k ≡ k = omega arith in ap (λ n. drop n ys) e
drop_past (x ∷ xs) ys k =
    let e : length (x ∷ xs) + k ≡ suc (length xs + k) = omega arith in
    ap (λ n. drop n (x ∷ (xs ++ ys))) e ∙ drop_past xs ys k

take_none : (n : ℕ) → take {A = List ℕ} n [] ≡ []
take_none zero = refl
take_none (suc n) = refl

-- the first line before others that were cut
one_more : (text l : List ℕ) (ls : List (List ℕ)) (index : ℕ) → lines_of text ≡ l ∷ ls
    → (f : FirstOf text l ls) → (t : List ℕ) → lines_of t ≡ take index (lines_of f.behind)
    → lines_of (l ++ t) ≡ l ∷ take index ls
one_more text l [] index is f t e =
    let none : t ≡ [] = no_lines t (e ∙ ap (take index) f.others ∙ take_none index) in
    let whole : text ≡ l = f.parts ∙ ap (λ b. l ++ b) (no_lines f.behind f.others) ∙ append-nil l in
    ap (λ t. lines_of (l ++ t)) none ∙ ap lines_of (append-nil l ∙ sym whole) ∙ is
    ∙ ap (λ ls. l ∷ ls) (sym (take_none index))
one_more text l (m ∷ ms) index is f t e = f.again t (λ none. cc none) ∙ ap (λ ls. l ∷ ls) (e ∙ ap (take index) f.others)

-- a text cut where a line starts
record CutAt (text : List ℕ) (index start : ℕ) : Type 0 where
  before : lines_of (take start text) ≡ take index (lines_of text)
  behind : lines_of (drop start text) ≡ drop index (lines_of text)

cut_at : (index : ℕ) (text : List ℕ) → index ≤ length (lines_of text) → CutAt text index (line_start text index)
cut_at zero text within = record { before = refl; behind = refl }
cut_at (suc index) text within = by_lines (lines_of text) refl (cut_at index)
  where
    by_lines : (lines : List (List ℕ)) → lines_of text ≡ lines
        → ((t : List ℕ) → index ≤ length (lines_of t) → CutAt t index (line_start t index))
        → CutAt text (suc index) (line_start text (suc index))
    by_lines [] is next = absurd (omega (arith, within, ap length is))
    by_lines (l ∷ ls) is next =
        let f = first_of text l ls is in
        let n = next f.behind (omega (arith, within, ap length is, ap length f.others)) in
        let start : line_start text (suc index) ≡ length l + line_start f.behind index =
        ap (λ ls. length (flat_map (λ line. line) (take (suc index) ls))) is
        ∙ length-append l (flat_map (λ line. line) (take index ls))
        ∙ ap (λ ls. length l + length (flat_map (λ line. line) (take index ls))) (sym f.others) in
        record {
          before =
              ap (λ k. lines_of (take k text)) start
              ∙ ap (λ t. lines_of (take (length l + line_start f.behind index) t)) f.parts
              ∙ ap lines_of (take_past l f.behind (line_start f.behind index))
              ∙ one_more text l ls index is f (take (line_start f.behind index) f.behind) n.before
              ∙ ap (take (suc index)) (sym is);
          behind =
              ap (λ k. lines_of (drop k text)) start
              ∙ ap (λ t. lines_of (drop (length l + line_start f.behind index) t)) f.parts
              ∙ ap lines_of (drop_past l f.behind (line_start f.behind index))
              ∙ n.behind ∙ ap (drop index) f.others ∙ ap (drop (suc index)) (sym is);
        }

-- ---- the first bad line

-- the content of the first of lines, and nothing behind the last
abbrev head_content : List (List ℕ) → List ℕ
head_content [] = []
head_content (l ∷ ls) = content_of l

content_at : (lines : List (List ℕ)) (index : ℕ) (ls : List (List ℕ)) → drop index lines ≡ ls
    → get_or (map content_of lines) index [] ≡ head_content ls
content_at [] zero ls e = ap head_content e
content_at [] (suc index) ls e = ap head_content e
content_at (l ∷ lines) zero ls e = ap head_content e
content_at (l ∷ lines) (suc index) ls e = content_at lines index ls e

content_first : (behind content rest : List ℕ) → SplitsLine behind content rest → content
    ≡ head_content (lines_of behind)
content_first [] content rest s = by_first s.first s.parts s.content
  where
    by_first : (first : List ℕ) → [] ≡ first ++ rest → content ≡ content_of first → content ≡ []
    by_first [] parts is = is
    by_first (c ∷ first) parts is = absurd (cc parts)
content_first (c ∷ behind) content rest s = s.content ∙ ap head_content (sym (s.lines (λ e. cc e)))

placed_in : (d : Display) (content : List ℕ) (place : ℕ) → IsPlaceAfter d (left_of content) place
    → IsPlaceIn (opens d []) content place
placed_in opening.Before content place h = h
placed_in opening.Open content place h = h
placed_in opening.Closed content place h = h

pub refuses_script : (number : ℕ) (text before behind content rest : List ℕ) (start line place : ℕ)
    (walked : Walked) (old new : Entries)
    → IsOutside text start → before ≡ take start text → behind ≡ drop start text
    → Walks before walked → SplitsLine behind content rest
    → IsPlaceAfter walked.display (left_of content) place → line ≡ number + walked.lines
    → ((entries : List (List ℕ)) → AreEntries old entries → AreEntries new (entries ++ refusal line place content ∷ []))
    → RefusesScript number text old new
refuses_script number text before behind content rest start line place walked old new o is_before
    is_behind walks s placed is_line added =
    let index = o.first_bad.index in
    let cut = cut_at index text o.first_bad.within in
    let front : lines_of before ≡ take index (lines_of text) =
    ap lines_of is_before ∙ ap (λ k. lines_of (take k text)) o.first_bad.is ∙ cut.before in
    let back : lines_of behind ≡ drop index (lines_of text) =
    ap lines_of is_behind ∙ ap (λ k. lines_of (drop k text)) o.first_bad.is ∙ cut.behind in
    let count : line ≡ number + index =
    omega (arith, is_line, walks.lines, ap length front, length-take index (lines_of text), o.first_bad.within) in
    let content_is : content ≡ get_or (contents_of text) index [] =
    content_first behind content rest s ∙ ap head_content back
    ∙ sym (content_at (lines_of text) index (drop index (lines_of text)) refl) in
    let opened : opens walked.display [] ≡ is_open (take index (contents_of text)) =
    walks.display ∙ ap (λ ls. is_open_after false (map left_of (map content_of ls))) front
    ∙ ap (λ cs. is_open_after false (map left_of cs)) (sym (take-map content_of index (lines_of text))) in
    record {
      index = index;
      place = place;
      bad = record {
        start = start;
        outside = o;
        line = refl;
        place_in = subst (λ b. IsPlaceIn b (get_or (contents_of text) index []) place) opened
            (subst (λ t. IsPlaceIn (opens walked.display []) t place) content_is
            (placed_in walked.display content place placed));
      };
      added = λ entries are. subst (λ e. AreEntries new (entries ++ e ∷ []))
          (λ i. refusal (count i) place (content_is i)) (added entries are);
    }
