-- The lines of a file before its script, judged one after the other.
use Rattle.std.proofs.Common.{◌≡◌, ◌∙◌, ℕ, suc, ◌+◌, ◌-◌, ◌==◌, Bool, true, false, if◌then◌else◌, List, [], ◌∷◌, ◌++◌}
use Rattle.std.proofs.Common.{length, take, None, Some, refl, sym, ap, subst, arith, append_assoc, length-append}
use Rattle.std.proofs.Common.{take_at, eqb-true}
use Rattle.ra_richpresence.specs.Cut.{begun, content_of, lines_of}
use Rattle.ra_richpresence.specs.Placed.{SplitsLine}
use Rattle.ra_set.specs.Alone.{IsOneLine}
use Rattle.ra_set.specs.Grammar.{Line}
use Rattle.ra_review.specs.declared.report.Report.{Report}
use Rattle.ra_review.specs.Lines.{opens_script, front_lines, script_lines, row_of, Findings, nothing, then_more}
use Rattle.ra_review.specs.Lines.{line_findings, FindsIn}
use Rattle.ra_review.specs.Reporting.{Reports, AddsLine, ReportsFront}
use Rattle.ra_review.proofs.ReportLemmas.{then_nothing}

-- ---- one line

-- the first line of a text is one line
pub first_alone : (text l : List ℕ) (ls : List (List ℕ)) → lines_of text ≡ l ∷ ls → IsOneLine l
first_alone [] l ls e = absurd (cc e)
first_alone (c ∷ text) l ls e = by_feed (c == 10) refl e (lines_of text) refl (first_alone text)
  where
    by_feed : (feed : Bool) → (c == 10) ≡ feed
        → (if feed then (10 ∷ []) ∷ lines_of text else begun c (lines_of text)) ≡ l ∷ ls
        → (lines : List (List ℕ)) → lines_of text ≡ lines
        → ((l : List ℕ) (ls : List (List ℕ)) → lines_of text ≡ l ∷ ls → IsOneLine l) → IsOneLine l
    by_feed true is e lines is_lines next = let first : 10 ∷ [] ≡ l = cc e in subst IsOneLine first refl
    by_feed false is e [] is_lines next =
        let lines : (c ∷ []) ∷ [] ≡ l ∷ ls = ap (begun c) (sym is_lines) ∙ e in
        let first : c ∷ [] ≡ l = cc lines in
        subst IsOneLine first (ap (λ feed. if feed then (10 ∷ []) ∷ [] else (c ∷ []) ∷ []) is)
    by_feed false is e (m ∷ ms) is_lines next =
        let lines : (c ∷ m) ∷ ms ≡ l ∷ ls = ap (begun c) (sym is_lines) ∙ e in
        let first : c ∷ m ≡ l = cc lines in
        subst IsOneLine first (ap (λ feed. if feed then (10 ∷ []) ∷ lines_of m
        else begun c (lines_of m)) is ∙ ap (begun c) (next m ms is_lines))

-- the line with its end is what stands before the text behind it
pub line_is : (rest first line behind : List ℕ) → rest ≡ first ++ behind → line
    ≡ take (length rest - length behind) rest → line ≡ first
line_is rest first line behind parts is =
    let n : length rest - length behind ≡ length first = omega (arith, ap length parts, length-append first behind) in
    is ∙ ap (λ k. take k rest) n ∙ ap (take (length first)) parts ∙ take_at first behind (length first) refl

pub one_line : (rest content behind : List ℕ) (line : List ℕ) → (s : SplitsLine rest content behind)
    → (rest ≡ [] → ⊥) → line ≡ s.first → IsOneLine line
one_line rest content behind line s some is =
    subst IsOneLine (sym is) (first_alone rest s.first (lines_of behind) (s.lines some))

pub not_empty : (text : List ℕ) → (length text == 0) ≡ false → text ≡ [] → ⊥
not_empty text e none = let no : (length {A = ℕ} [] == 0) ≡ false = subst (λ t. (length t == 0) ≡ false) none e in cc no

pub is_nothing_left : (text : List ℕ) → (length text == 0) ≡ true → text ≡ []
is_nothing_left [] e = refl
is_nothing_left (byte ∷ text) e = let none : length (byte ∷ text) ≡ 0 =
    eqb-true (length (byte ∷ text)) 0 e in absurd (omega (arith, none))

-- ---- the lines so far

-- the lines so far were judged, and what is left of the text gives the rest
pub record FrontSoFar (file rest : List ℕ) (report : Report) : Type 0 where
  pub rows : List Line
  pub found : Findings
  pub reports : Reports report rows found
  pub goes_on : (others : Findings) → FindsIn (suc (length rows)) rows (front_lines (lines_of rest))
      others → FindsIn 1 [] (front_lines (lines_of file)) (then_more found others)
  pub many : length (front_lines (lines_of file)) ≡ length rows + length (front_lines (lines_of rest))
  pub behind : script_lines (lines_of file) ≡ script_lines (lines_of rest)

then_assoc : (f g h : Findings) → then_more (then_more f g) h ≡ then_more f (then_more g h)
then_assoc f g h = (λ i. record {
  refusals = append_assoc f.refusals g.refusals h.refusals i;
  notices = append_assoc f.notices g.notices h.notices i;
  items = append_assoc f.items g.items h.items i;
})

module _ (file rest content behind line : List ℕ) (old new : Report)
    (s : SplitsLine rest content behind) (some : rest ≡ [] → ⊥) (is : line ≡ s.first)
    (so_far : FrontSoFar file rest old) (added : (rows : List Line) (found : Findings)
    → Reports old rows found → AddsLine line rows found new) where
  adds : AddsLine line so_far.rows so_far.found new
  adds = added so_far.rows so_far.found so_far.reports

  many_more : length (so_far.rows ++ row_of adds.verdict ∷ []) ≡ suc (length so_far.rows)
  many_more = omega (arith, length-append so_far.rows (row_of adds.verdict ∷ []))

  content_is : content ≡ content_of line
  content_is = s.content ∙ ap content_of (sym is)

  lines_are : lines_of rest ≡ line ∷ lines_of behind
  lines_are = s.lines some ∙ ap (λ l. l ∷ lines_of behind) (sym is)

  -- the line and what comes behind it
  finds_line : (lines : List (List ℕ)) (others : Findings) → FindsIn (suc (length (so_far.rows
      ++ row_of adds.verdict ∷ []))) (so_far.rows ++ row_of adds.verdict ∷ []) lines others
      → FindsIn (suc (length so_far.rows)) so_far.rows (line ∷ lines)
      (then_more (line_findings (suc (length so_far.rows)) so_far.rows line adds.verdict) others)
  finds_line lines others finds = (
    adds.verdict,
    adds.is,
    others,
    subst (λ n. FindsIn (suc n) (so_far.rows ++ row_of adds.verdict ∷ []) lines others) many_more finds,
    refl,
  )

  module _ (other : opens_script content ≡ false) where
    front_is : front_lines (lines_of rest) ≡ line ∷ front_lines (lines_of behind)
    front_is = ap front_lines lines_are ∙ ap (λ o. if o then line ∷ []
        else line ∷ front_lines (lines_of behind)) (ap opens_script (sym content_is) ∙ other)

    pub front_next : FrontSoFar file behind new
    front_next = record {
      rows = so_far.rows ++ row_of adds.verdict ∷ [];
      found = then_more so_far.found (line_findings (suc (length so_far.rows)) so_far.rows line adds.verdict);
      reports = adds.reports;
      goes_on = λ others finds. subst (FindsIn 1 [] (front_lines (lines_of file)))
          (sym (then_assoc so_far.found
          (line_findings (suc (length so_far.rows)) so_far.rows line adds.verdict) others))
          (so_far.goes_on (then_more (line_findings (suc (length so_far.rows)) so_far.rows line adds.verdict) others)
          (subst (λ ls. FindsIn (suc (length so_far.rows)) so_far.rows ls (then_more (line_findings
          (suc (length so_far.rows)) so_far.rows line adds.verdict) others)) (sym front_is)
          (finds_line (front_lines (lines_of behind)) others finds)));
      many = omega (arith, so_far.many, ap length front_is, many_more);
      behind = so_far.behind ∙ ap script_lines lines_are
          ∙ ap (λ o. if o then Some (lines_of behind) else script_lines (lines_of behind))
          (ap opens_script (sym content_is) ∙ other);
    }

  module _ (opens : opens_script content ≡ true) where
    front_last : front_lines (lines_of rest) ≡ line ∷ []
    front_last = ap front_lines lines_are ∙ ap (λ o. if o then line ∷ []
        else line ∷ front_lines (lines_of behind)) (ap opens_script (sym content_is) ∙ opens)

    -- the line P ends them
    pub front_opens : ReportsFront file new (Some behind)
    front_opens = record {
      rows = so_far.rows ++ row_of adds.verdict ∷ [];
      found = then_more so_far.found (line_findings (suc (length so_far.rows)) so_far.rows line adds.verdict);
      finds = so_far.goes_on (line_findings (suc (length so_far.rows)) so_far.rows line adds.verdict)
          (subst (λ ls. FindsIn (suc (length so_far.rows)) so_far.rows ls
          (line_findings (suc (length so_far.rows)) so_far.rows line adds.verdict)) (sym front_last)
          (subst (FindsIn (suc (length so_far.rows)) so_far.rows (line ∷ []))
          (then_nothing (line_findings (suc (length so_far.rows)) so_far.rows line adds.verdict))
          (finds_line [] nothing refl)));
      reports = adds.reports;
      many = omega (arith, so_far.many, ap length front_last, many_more);
      behind = so_far.behind ∙ ap script_lines lines_are
          ∙ ap (λ o. if o then Some (lines_of behind) else script_lines (lines_of behind))
          (ap opens_script (sym content_is) ∙ opens);
    }

-- no line is left
pub front_ends : (file rest : List ℕ) (report : Report) → rest ≡ [] → FrontSoFar file rest report
    → ReportsFront file report None
front_ends file rest report none so_far = record {
  rows = so_far.rows;
  found = so_far.found;
  finds = subst (FindsIn 1 [] (front_lines (lines_of file))) (then_nothing so_far.found)
      (so_far.goes_on nothing (subst (λ t. FindsIn (suc (length so_far.rows)) so_far.rows
      (front_lines (lines_of t)) nothing) (sym none) refl));
  reports = so_far.reports;
  many = omega (arith, so_far.many, ap (λ t. length (front_lines (lines_of t))) none);
  behind = so_far.behind ∙ ap (λ t. script_lines (lines_of t)) none;
}
