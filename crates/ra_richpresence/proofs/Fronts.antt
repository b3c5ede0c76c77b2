-- The first lines of scripts, and the first bad line of a text.
use Rattle.std.proofs.Common.{◌≡◌, ◌∙◌, ◌<◌, ◌+◌, ◌-◌, ℕ, zero, suc, Bool, true, false, not, if◌then◌else◌, List, []}
use Rattle.std.proofs.Common.{◌∷◌, ◌++◌, length, map, take, drop, Ok, inl, inr, refl, sym, ap, subst, arith, append-nil}
use Rattle.std.proofs.Common.{length-append, length-drop, take-append-drop, eqb-true, ◌==◌, take_all, le_refl}
use Rattle.std.specs.List.{flat_map, AllByRecursion}
use Rattle.std.proofs.lemmas.List.{length-map, map-append}
use Rattle.ra_richpresence.specs.Contents.{ScriptContents}
use Rattle.ra_richpresence.specs.Cut.{lines_of, begun, content_of, contents_of, is_nothing, left_of, kept_of}
use Rattle.ra_richpresence.specs.Cut.{left_lines, has_no_feed, is_left}
use Rattle.ra_richpresence.specs.Grammar.{LineOf, many, lookup_head, format_head, format_type, entry, display_head}
use Rattle.ra_richpresence.specs.Grammar.{tested_line, last_line, section, display, ScriptParts, script_of}
use Rattle.ra_richpresence.specs.Grammar.{script_lines, script_parts, script}
use Rattle.ra_richpresence.specs.Placed.{placed, first_place}
use Rattle.ra_richpresence.specs.Places.{IsFront, IsFirstBad, IsOutside}
use Rattle.ra_richpresence.specs.Reading.{script_at}
use Rattle.ra_richpresence.proofs.Cuts.{contents-no_feed, contents-text, text_of, kept-append, kept-left, is-left}
use Rattle.ra_richpresence.proofs.Exact.{reads-whole}
use Rattle.ra_richpresence.proofs.ScriptReaders.{reads-script}
use Rattle.ra_text.specs.Form.{Form, Viable}
use Rattle.ra_text.specs.Reading.{Outcome, Reads, rest_of}
use Rattle.ra_text.proofs.Choice.{same-front}
use Rattle.ra_text.proofs.Places.{whole-spelled}
use Rattle.ra_text.proofs.Spelled.{viable-by}

-- ---- the lines of a script may be left so

abbrev pub AllLeft : List (List ℕ) → Type 0
AllLeft = AllByRecursion (λ line. is_left line ≡ true)

-- each text of the form is of such lines
abbrev pub OfLeft : {V : Type 0} → Form (List ℕ) V → Type 0
OfLeft {V} form = (t : List (List ℕ)) (v : V) → form t v → AllLeft t

left-append : (t u : List (List ℕ)) → AllLeft t → AllLeft u → AllLeft (t ++ u)
left-append [] u a b = b
left-append (line ∷ t) u a b = (a.0, left-append t u a.1 b)

append-left : (t u : List (List ℕ)) → AllLeft (t ++ u) → AllLeft u
append-left [] u a = a
append-left (line ∷ t) u a = append-left t u a.1

line-left : {V : Type 0} (form : Form ℕ V) → OfLeft (LineOf form)
line-left form t v h = subst AllLeft (sym h.alone) (h.left, tt)

many-left : {V : Type 0} (item : Form (List ℕ) V) → OfLeft item → OfLeft (many item)
many-left item left t [] h = subst AllLeft (sym h) tt
many-left item left t (v ∷ vs) h = subst AllLeft (sym h.parts) (left-append h.front h.behind
    (left h.front v h.of_item) (many-left item left h.behind vs h.of_others))

-- lines of one form before lines of another
parts-left : (t front behind : List (List ℕ)) → t ≡ front ++ behind → AllLeft front → AllLeft behind → AllLeft t
parts-left t front behind parts a b = subst AllLeft (sym parts) (left-append front behind a b)

nothing-left : (t : List (List ℕ)) → t ≡ [] → AllLeft t
nothing-left t e = subst AllLeft (sym e) tt

section-left : OfLeft section
section-left t v (inl h) = parts-left t h.front h.behind h.parts (line-left lookup_head h.front h.v h.of_first)
    (parts-left h.behind h.of_next.front h.of_next.behind h.of_next.parts
    (many-left (LineOf entry) (line-left entry) h.of_next.front h.of_next.v h.of_next.of_first)
    (nothing-left h.of_next.behind h.of_next.of_next.empty))
section-left t v (inr h) = parts-left t h.front h.behind h.parts (line-left format_head h.front h.v h.of_first)
    (parts-left h.behind h.of_next.front h.of_next.behind h.of_next.parts
    (line-left format_type h.of_next.front h.of_next.v h.of_next.of_first)
    (nothing-left h.of_next.behind h.of_next.of_next.empty))

display-left : OfLeft display
display-left t v h = parts-left t h.front h.behind h.parts (line-left display_head h.front h.v h.of_first)
    (parts-left h.behind h.of_next.front h.of_next.behind h.of_next.parts (many-left
    (LineOf tested_line) (line-left tested_line) h.of_next.front h.of_next.v h.of_next.of_first)
    (parts-left h.of_next.behind h.of_next.of_next.front h.of_next.of_next.behind
    h.of_next.of_next.parts (line-left last_line h.of_next.of_next.front h.of_next.of_next.v
    h.of_next.of_next.of_first)
    (nothing-left h.of_next.of_next.behind h.of_next.of_next.of_next.empty)))

script-left : OfLeft script_lines
script-left t v h = parts-left t h.front h.behind h.parts (many-left section section-left h.front h.v h.of_first)
    (parts-left h.behind h.of_next.front h.of_next.behind h.of_next.parts
    (display-left h.of_next.front h.of_next.v h.of_next.of_first)
    (parts-left h.of_next.behind h.of_next.of_next.front h.of_next.of_next.behind
    h.of_next.of_next.parts (many-left section section-left h.of_next.of_next.front
    h.of_next.of_next.v h.of_next.of_next.of_first)
    (nothing-left h.of_next.of_next.behind h.of_next.of_next.of_next.empty)))

-- ---- the first lines of scripts

abbrev pub AllClear : List (List ℕ) → Type 0
AllClear = AllByRecursion (λ line. has_no_feed line ≡ true)

clear-append : (t u : List (List ℕ)) → AllClear t → AllClear u → AllClear (t ++ u)
clear-append [] u a b = b
clear-append (line ∷ t) u a b = (a.0, clear-append t u a.1 b)

left-clear : (t : List (List ℕ)) → AllLeft t → AllClear t
left-clear [] a = tt
left-clear (line ∷ t) a = ((is-left line a.0).feed, left-clear t a.1)

take-clear : (n : ℕ) (t : List (List ℕ)) → AllClear t → AllClear (take n t)
take-clear zero t a = tt
take-clear (suc n) [] a = tt
take-clear (suc n) (line ∷ t) a = (a.0, take-clear n t a.1)

-- what is kept of lines goes on to a script where a script begins with the lines
pub front-viable : (lines : List (List ℕ)) → IsFront lines → Viable script_lines (kept_of lines)
front-viable lines f = viable-by (kept_of f.more) f.whole.parts (subst (λ t. script_lines t
    f.whole.parts) (ap kept_of f.begins ∙ kept-append lines f.more) f.whole.spelled)

-- and the other way
pub viable-front : (lines : List (List ℕ)) → AllClear lines → Viable script_lines (kept_of lines) → IsFront lines
viable-front lines clear viable =
    let left : AllLeft viable.more = append-left (kept_of lines) viable.more
    (script-left (kept_of lines ++ viable.more) viable.v viable.whole) in
    let contents : contents_of (text_of (lines ++ viable.more)) ≡ lines ++ viable.more =
    contents-text (lines ++ viable.more)
    (clear-append lines viable.more clear (left-clear viable.more left)) in
    record {
      text = text_of (lines ++ viable.more);
      v = script_of viable.v;
      whole = record {
        parts = viable.v;
        spelled = subst (λ t. script_lines t viable.v) (sym (ap kept_of contents ∙ kept-append lines
            viable.more ∙ ap (λ t. kept_of lines ++ t) (kept-left viable.more left))) viable.whole;
        made = refl;
      };
      more = viable.more;
      begins = contents;
    }

-- ---- the lines with their places

begun-whole : (c : ℕ) (lines : List (List ℕ)) → flat_map (λ line. line) (begun c lines)
    ≡ c ∷ flat_map (λ line. line) lines
begun-whole c [] = refl
begun-whole c (line ∷ lines) = refl

-- the lines of a text are the text
pub lines-whole : (text : List ℕ) → flat_map (λ line. line) (lines_of text) ≡ text
lines-whole [] = refl
lines-whole (c ∷ text) = cases (c == 10) refl (lines-whole text) where
  cases : (feed : Bool) → (c == 10) ≡ feed → flat_map (λ line. line) (lines_of text) ≡ text
      → flat_map (λ line. line) (if feed then (10 ∷ []) ∷ lines_of text
      else begun c (lines_of text)) ≡ c ∷ text
  cases true is same = ap (λ t. 10 ∷ t) same ∙ ap (λ x. x ∷ text) (sym (eqb-true c 10 is))
  cases false is same = begun-whole c (lines_of text) ∙ ap (λ t. c ∷ t) same

-- the lines that are placed are those that are kept
pub placed-kept : (at : ℕ) (lines : List (List ℕ)) → map (λ line. line.1) (placed at lines)
    ≡ kept_of (map content_of lines)
placed-kept at [] = refl
placed-kept at (line ∷ lines) =
    cases (is_nothing (left_of (content_of line))) (placed-kept (at + length line) lines) where
      cases : (nothing : Bool) → map (λ line. line.1) (placed (at + length line) lines) ≡ kept_of (map content_of lines)
          → map (λ line. line.1) (if nothing then placed (at + length line) lines
          else (at, left_of (content_of line)) ∷ placed (at + length line) lines)
          ≡ (if not nothing then left_of (content_of line) ∷ kept_of (map content_of lines)
          else kept_of (map content_of lines))
      cases true same = same
      cases false same = ap (λ ls. left_of (content_of line) ∷ ls) same

first-of : (a b : ℕ × List ℕ) (xs ys : List (ℕ × List ℕ)) → a ∷ xs ≡ b ∷ ys → a ≡ b
first-of a b xs ys e = cc e

-- the line that is placed behind others
pub record Position (at : ℕ) (lines : List (List ℕ)) (before : List (ℕ × List ℕ)) (place : ℕ)
    (line : List ℕ) : Type 0 where
  pub index : ℕ
  pub within : index < length lines
  pub front : kept_of (take index (map content_of lines)) ≡ map (λ line. line.1) before
  pub next : kept_of (take (suc index) (map content_of lines)) ≡ map (λ line. line.1) before ++ line ∷ []
  pub start : place ≡ at + length (flat_map (λ line. line) (take index lines))

pub position : (at : ℕ) (lines : List (List ℕ)) (before : List (ℕ × List ℕ)) (place : ℕ)
    (line : List ℕ) (behind : List (ℕ × List ℕ)) → placed at lines
    ≡ before ++ (place, line) ∷ behind → Position at lines before place line
position at [] [] place line behind e = absurd (cc e)
position at [] (first ∷ before) place line behind e = absurd (cc e)
position at (raw ∷ lines) before place line behind e = cases (is_nothing (left_of (content_of raw)))
    refl before e (λ b f. position (at + length raw) lines b place line behind f) where
      later : (b : List (ℕ × List ℕ)) (p : Position (at + length raw) lines b place line) → place
          ≡ at + length (raw ++ flat_map (λ line. line) (take p.index lines))
      later b p = omega (arith, p.start, length-append raw (flat_map (λ line. line) (take p.index lines)))

      cases : (nothing : Bool) → is_nothing (left_of (content_of raw)) ≡ nothing → (before : List (ℕ
          × List ℕ)) → (if nothing then placed (at + length raw) lines else (
            at,
            left_of
                (content_of raw),
          ) ∷ placed (at + length raw) lines) ≡ before ++ (place, line) ∷ behind
          → ((b : List (ℕ × List ℕ)) → placed (at + length raw) lines ≡ b ++ (place, line) ∷ behind
          → Position (at + length raw) lines b place line) → Position at (raw ∷ lines) before place line
      cases true is before e next =
          let p : Position (at + length raw) lines before place line = next before e in
          record {
            index = suc p.index;
            within = (let w : p.index < length lines = p.within in omega arith);
            front = rw is p.front;
            next = rw is p.next;
            start = later before p;
          }
      cases false is [] e next =
          let pair : ◌≡◌ {A = ℕ × List ℕ} (at, left_of (content_of raw)) (place, line) = first-of
          (at, left_of (content_of raw)) (place, line) (placed (at + length raw) lines) behind e in
          let same : left_of (content_of raw) ≡ line = ap (λ x. x.1) pair in
          let here : at ≡ place = ap (λ x. x.0) pair in
          record {
            index = 0;
            within = omega arith;
            front = refl;
            next = rw is (ap (λ l. l ∷ []) same);
            start = omega (arith, here);
          }
      cases false is (first ∷ before) e next =
          let p : Position (at + length raw) lines before place line = next before (cc e) in
          let same : left_of (content_of raw) ≡ first.1 = ap (λ x. x.1)
          (first-of (at, left_of (content_of raw)) first (placed (at + length raw) lines)
          (before ++ (place, line) ∷ behind) e) in
          record {
            index = suc p.index;
            within = (let w : p.index < length lines = p.within in omega arith);
            front = rw is (ap (λ l. l ∷ kept_of (take p.index (map content_of lines))) same
                ∙ ap (λ ls. first.1 ∷ ls) p.front);
            next = rw is (ap (λ l. l ∷ kept_of (take (suc p.index) (map content_of lines))) same
                ∙ ap (λ ls. first.1 ∷ ls) p.next);
            start = later before p;
          }

-- two fronts of one list that are one leave one rest
same-rest : {A : Type 0} (front rest left : List A) → front ++ rest ≡ front ++ left → rest ≡ left
same-rest [] rest left e = e
same-rest (a ∷ front) rest left e = same-rest front rest left (cc e)

-- ---- the first bad line

-- the lines of a text with their places
abbrev pub lines_in : List ℕ → List (ℕ × List ℕ)
lines_in text = placed 0 (lines_of text)

-- how many of them a reading took
abbrev pub taken_of : List ℕ → Outcome (List ℕ) ScriptParts → ℕ
taken_of text outcome = length (lines_in text) - length (rest_of outcome)

-- of two lists that are one, cut where as much is left, both parts are one
cut-front : (lines : List (ℕ × List ℕ)) (front rest : List (List ℕ)) → map (λ line. line.1) lines
    ≡ front ++ rest → front ≡ map (λ line. line.1) (take (length lines - length rest) lines)
cut-front lines front rest e =
    let parts : front ++ rest ≡ map (λ line. line.1) (take (length lines - length rest) lines)
    ++ map (λ line. line.1) (drop (length lines - length rest) lines) =
    sym e ∙ ap (map (λ line. line.1)) (sym (take-append-drop (length lines - length rest) lines))
    ∙ map-append (λ line. line.1) (take (length lines - length rest) lines)
    (drop (length lines - length rest) lines) in
    same-front front rest (map (λ line. line.1) (take (length lines - length rest) lines))
    (map (λ line. line.1) (drop (length lines - length rest) lines)) parts
    (omega (
      arith,
      length-map (drop (length lines - length rest) lines) (λ (line : ℕ × List ℕ). line.1),
      length-drop (length lines - length rest) lines,
      ap length e,
      length-map lines (λ (line : ℕ × List ℕ). line.1),
      length-append front rest,
    ))

cut-rest : (lines : List (ℕ × List ℕ)) (front rest : List (List ℕ)) → map (λ line. line.1) lines
    ≡ front ++ rest → rest ≡ map (λ line. line.1) (drop (length lines - length rest) lines)
cut-rest lines front rest e =
    same-rest front rest (map (λ line. line.1) (drop (length lines - length rest) lines))
    (sym e ∙ ap (map (λ line. line.1)) (sym (take-append-drop (length lines - length rest) lines))
    ∙ map-append (λ line. line.1) (take (length lines - length rest) lines)
    (drop (length lines - length rest) lines)
    ∙ ap (λ t. t ++ map (λ line. line.1) (drop (length lines - length rest) lines))
    (sym (cut-front lines front rest e)))

module _ (text : List ℕ) (outcome : Outcome (List ℕ) ScriptParts) (is : script_at (left_lines text) ≡ outcome) where
  reading : Reads script_lines (left_lines text) outcome
  reading = subst (λ o. Reads script_lines (left_lines text) o) is (reads-script (left_lines text))

  all-lines : map (λ line. line.1) (lines_in text) ≡ reading.front ++ rest_of outcome
  all-lines = placed-kept 0 (lines_of text) ∙ reading.parts

  -- a text whose lines are all read spells the parts that were read
  pub whole-parts : (v : ScriptParts) → outcome ≡ Ok (v, []) → script_parts text v
  whole-parts v e = whole-spelled v (subst (λ o. Reads script_lines (left_lines text) o) e reading)

  -- the lines of the text are those that were read, and those that are left
  front-read : reading.front ≡ map (λ line. line.1) (take (taken_of text outcome) (lines_in text))
  front-read = cut-front (lines_in text) reading.front (rest_of outcome) all-lines

  rest-read : rest_of outcome ≡ map (λ line. line.1) (drop (taken_of text outcome) (lines_in text))
  rest-read = cut-rest (lines_in text) reading.front (rest_of outcome) all-lines

  no-script : ((v : ScriptParts) → outcome ≡ Ok (v, []) → ⊥) → (v : ScriptContents) → script text v → ⊥
  no-script not_whole v h = not_whole h.parts (reads-whole reading h.parts h.spelled)

  -- all lines were read
  bad-end : (place : ℕ) → place ≡ length text → drop (taken_of text outcome) (lines_in text) ≡ []
      → IsFirstBad text place
  bad-end place at none =
      let all : take (length (lines_of text)) (contents_of text) ≡ contents_of text =
      take_all (length (lines_of text)) (contents_of text)
      (omega (arith, length-map (lines_of text) content_of)) in
      let front : left_lines text ≡ reading.front = reading.parts ∙ ap (λ t. reading.front ++ t)
      (rest-read ∙ ap (map (λ line. line.1)) none) ∙ append-nil reading.front in
      record {
        index = length (lines_of text);
        within = le_refl (length (lines_of text));
        good = viable-front (take (length (lines_of text)) (contents_of text))
            (take-clear (length (lines_of text)) (contents_of text) (contents-no_feed text))
            (subst (λ t. Viable script_lines t) (sym (ap kept_of all ∙ front)) reading.viable);
        bad = λ less. absurd (omega arith);
        is = at ∙ sym (ap length (ap (flat_map (λ line. line)) (take_all (length (lines_of text))
            (lines_of text) (le_refl (length (lines_of text)))) ∙ lines-whole text));
      }

  -- a line was not read
  bad-line : (place : ℕ) (line : List ℕ) (behind : List (ℕ × List ℕ)) → drop (taken_of text outcome)
      (lines_in text) ≡ (place, line) ∷ behind → IsFirstBad text place
  bad-line place line behind next =
      let parts : placed 0 (lines_of text) ≡ take (taken_of text outcome) (lines_in text)
      ++ (place, line) ∷ behind = sym (take-append-drop (taken_of text outcome) (lines_in text))
      ∙ ap (λ t. take (taken_of text outcome) (lines_in text) ++ t) next in
      let p : Position 0 (lines_of text) (take (taken_of text outcome) (lines_in text)) place line =
      position 0 (lines_of text)
      (take (taken_of text outcome) (lines_in text)) place line behind parts in
      record {
        index = p.index;
        within = (let w : p.index < length (lines_of text) = p.within in omega arith);
        good = viable-front (take p.index (contents_of text))
            (take-clear p.index (contents_of text) (contents-no_feed text))
            (subst (λ t. Viable script_lines t) (front-read ∙ sym p.front) reading.viable);
        bad = λ less front. reading.halts line (map (λ line. line.1) behind) (rest-read
            ∙ ap (map (λ line. line.1)) next)
            (subst (λ t. Viable script_lines t) (p.next ∙ ap (λ t. t ++ line ∷ []) (sym front-read))
            (front-viable (take (suc p.index) (contents_of text)) front));
        is = omega (arith, p.start);
      }

  first-bad : (place : ℕ) (left : List (ℕ × List ℕ)) → drop (taken_of text outcome) (lines_in text)
      ≡ left → place ≡ first_place left (length text) → IsFirstBad text place
  first-bad place [] e at = bad-end place at e
  first-bad place (line ∷ behind) e at = bad-line place line.1 behind (e ∙ ap (λ n. (n, line.1) ∷ behind) (sym at))

  pub outside-script : ((v : ScriptParts) → outcome ≡ Ok (v, []) → ⊥) → (place : ℕ) → place
      ≡ first_place (drop (taken_of text outcome) (lines_in text)) (length text)
      → IsOutside text place
  outside-script not_whole place at =
      record {
        first_bad = first-bad place (drop (taken_of text outcome) (lines_in text)) refl at;
        outside = no-script not_whole;
      }
