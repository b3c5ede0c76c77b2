-- A review of a whole file.
use Rattle.std.proofs.Common.{◌≡◌, ◌∙◌, ℕ, zero, suc, ◌+◌, ◌*◌, ◌<◌, ◌≤◌, ◌==◌, Bool, true, false, if◌then◌else◌, List}
use Rattle.std.proofs.Common.{[], ◌∷◌, ◌++◌, length, map, sum_by, Option, None, Some, refl, sym, ap, subst, arith}
use Rattle.std.proofs.Common.{append-nil, length-append}
use Rattle.std.specs.List.{flat_map}
use Rattle.ra_richpresence.specs.Cut.{begun, content_of, lines_of}
use Rattle.ra_richpresence.specs.Grammar.{ScriptParts, script_parts}
use Rattle.ra_richpresence.specs.Contents.{script_contents}
use Rattle.ra_richpresence.specs.Texts.{IsRead}
use Rattle.ra_richpresence.specs.declared.read.ReadScript.{ReadScript}
use Rattle.ra_richpresence.proofs.Fronts.{lines-whole}
use Rattle.ra_set.specs.Contents.{ItemContents, item_contents}
use Rattle.ra_set.specs.Limits.{item_conditions}
use Rattle.ra_set.specs.ScriptLimits.{IsReadOf}
use Rattle.ra_set.proofs.ScriptCounts.{script-conditions}
use Rattle.ra_review.specs.declared.entries.Entries.{Entries}
use Rattle.ra_review.specs.declared.report.Report.{Report}
use Rattle.ra_review.specs.declared.reviewed.Reviewed.{Reviewed}
use Rattle.ra_review.specs.Judging.{RefusesScript}
use Rattle.ra_review.specs.Lines.{front_lines, opens_script, script_lines}
use Rattle.ra_review.specs.Reporting.{AreEntries, Judges, ReportsFront, ReviewsScript, said_by}
use Rattle.ra_review.specs.Reviews.{IsLimit, IsReviewOf, limit_text}
use Rattle.ra_review.specs.Scripts.{Missing, Whole, BadAt, IsBadLine, IsScriptVerdict, display_numbers, macro_notices}
use Rattle.ra_review.specs.Scripts.{script_refusals, script_notices, parts_in}
use Rattle.ra_review.specs.Shown.{last_line}

-- ---- a script

nothing_more : (entries : Entries) (lines : List (List ℕ)) → AreEntries entries lines → AreEntries entries (lines ++ [])
nothing_more entries lines h = subst (AreEntries entries) (sym (append-nil lines)) h

pub reviews_whole : (number : ℕ) (text : List ℕ) (old new : Report) (n : ℕ) (read : ReadScript) → n
    ≡ number → IsRead text 1024 read
    → ((entries : List (List ℕ)) → AreEntries old.notices entries → AreEntries new.notices
    (entries ++ macro_notices (script_contents read.script)
    (display_numbers n (map content_of (lines_of text))) (script_contents read.script).lines))
    → new.refusals ≡ old.refusals → new.items ≡ old.items → new.lines ≡ old.lines
    → ReviewsScript number text old new (Some read)
reviews_whole number text old new n read is h added r i l = record {
  verdict = Whole h.parts;
  judged = subst (λ t. script_parts t h.parts) (sym (lines-whole text)) h.spelled;
  refusals = λ entries are. nothing_more new.refusals entries (subst (λ e. AreEntries e entries) (sym r) are);
  notices = λ entries are. subst (AreEntries new.notices)
      (λ j. entries ++ macro_notices (h.is.made j) (display_numbers (is j)
      (map content_of (lines_of text))) (h.is.made j).lines) (added entries are);
  items = i;
  lines = l;
  read_is = h.is;
  few = script-conditions text (script_contents read.script)
      (record { parts = h.parts; spelled = h.spelled; made = h.is.made });
}

pub reviews_bad : (number : ℕ) (text : List ℕ) (old new : Report) (n : ℕ) → n ≡ number
    → RefusesScript n text old.refusals new.refusals
    → new.notices ≡ old.notices → new.items ≡ old.items → new.lines ≡ old.lines → ReviewsScript number text old new None
reviews_bad number text old new n is h n_is i l = record {
  verdict = BadAt h.index h.place;
  judged = subst (λ t. IsBadLine t h.index h.place) (sym (lines-whole text)) h.bad;
  refusals = λ entries are. subst (λ k. AreEntries new.refusals (entries ++ script_refusals k
      (Some (lines_of text)) (BadAt h.index h.place))) is (h.added entries are);
  notices = λ entries are. nothing_more new.notices entries (subst (λ e. AreEntries e entries) (sym n_is) are);
  items = i;
  lines = l;
  read_is = tt;
  few = omega arith;
}

-- ---- how many

lines_few : (text : List ℕ) → length (lines_of text) ≤ length text
lines_few [] = omega arith
lines_few (c ∷ text) = by_feed (c == 10) (lines_of text) (lines_few text)
  where
    by_feed : (feed : Bool) (lines : List (List ℕ)) → length lines ≤ length text
        → length (if feed then (10 ∷ []) ∷ lines else begun c lines) ≤ suc (length text)
    by_feed true lines h = omega (arith, h)
    by_feed false [] h = omega (arith, h)
    by_feed false (m ∷ ms) h = omega (arith, h)

front_few : (lines : List (List ℕ)) → length (front_lines lines) ≤ length lines
front_few [] = omega arith
front_few (line ∷ lines) = by_opens (opens_script (content_of line)) (front_few lines)
  where
    by_opens : (b : Bool) → length (front_lines lines) ≤ length lines
        → length (if b then line ∷ [] else line ∷ front_lines lines) ≤ suc (length lines)
    by_opens true h = omega arith
    by_opens false h = omega (arith, h)

-- the conditions of the items that are kept
pub few_items : (file : List ℕ) (report : Report) (script : Option (List ℕ)) → length file ≤ 4194304
    → ReportsFront file report script
    → sum_by item_conditions (map item_contents report.items.items) ≤ 178956970 * 4194304
few_items file report script size h =
    let lines = lines_few file in
    let front = front_few (lines_of file) in
    omega (arith, size, h.reports.few, h.many, lines, front, ap (sum_by item_conditions) h.reports.items)

-- what stands behind the line P is no longer than all
script_within : (lines others : List (List ℕ)) → script_lines lines ≡ Some others
    → length (flat_map (λ line. line) others) ≤ length (flat_map (λ line. line) lines)
script_within [] others e = absurd (cc e)
script_within (line ∷ lines) others e = by_opens (opens_script (content_of line)) e (script_within lines others)
  where
    by_opens : (b : Bool) → (if b then Some lines else script_lines lines) ≡ Some others
        → (script_lines lines ≡ Some others
        → length (flat_map (λ line. line) others) ≤ length (flat_map (λ line. line) lines))
        → length (flat_map (λ line. line) others) ≤ length (line ++ flat_map (λ line. line) lines)
    by_opens true e next = let same : lines ≡ others = cc e in
        omega (
          arith,
          ap (λ ls. length (flat_map (λ line. line) ls)) same,
          length-append line (flat_map (λ line. line) lines),
        )
    by_opens false e next = let n = next e in omega (arith, n, length-append line (flat_map (λ line. line) lines))

pub text_within : (file text : List ℕ) (report : Report) → ReportsFront file report (Some text)
    → length text ≤ length file
text_within file text report h =
    let within = script_within (lines_of file) (lines_of text) h.behind in
    omega (arith, within, ap length (lines-whole file), ap length (lines-whole text))

-- a line P and what stands behind it
script_front : (lines others : List (List ℕ)) → script_lines lines ≡ Some others
    → length (front_lines lines) + length others ≡ length lines
script_front [] others e = absurd (cc e)
script_front (line ∷ lines) others e = by_opens (opens_script (content_of line)) e (script_front lines others)
  where
    by_opens : (b : Bool) → (if b then Some lines else script_lines lines) ≡ Some others
        → (script_lines lines ≡ Some others → length (front_lines lines) + length others ≡ length lines)
        → length (if b then line ∷ [] else line ∷ front_lines lines) + length others ≡ suc (length lines)
    by_opens true e next = let same : lines ≡ others = cc e in omega (arith, ap length same)
    by_opens false e next = let n = next e in omega (arith, n)

front_all : (lines : List (List ℕ)) → script_lines lines ≡ None → length (front_lines lines) ≡ length lines
front_all [] e = refl
front_all (line ∷ lines) e = by_opens (opens_script (content_of line)) e (front_all lines)
  where
    by_opens : (b : Bool) → (if b then Some lines else script_lines lines) ≡ None
        → (script_lines lines ≡ None → length (front_lines lines) ≡ length lines)
        → length (if b then line ∷ [] else line ∷ front_lines lines) ≡ suc (length lines)
    by_opens true e next = absurd (cc e)
    by_opens false e next = ap suc (next e)

-- ---- all lines

pub judges_script : (file text : List ℕ) (old new : Report) (read : Option ReadScript)
    (number lines : ℕ) → number ≡ old.lines + 1 → lines ≡ length (lines_of text)
    → ReportsFront file old (Some text) → ReviewsScript number text old new read → Judges file new read lines
judges_script file text old new read number lines is many h s =
    let behind : Some (lines_of text) ≡ script_lines (lines_of file) = sym h.behind in
    let n : number ≡ suc (length (front_lines (lines_of file))) = omega (arith, is, h.reports.lines, h.many) in
    record {
      front = h.found;
      found = h.finds;
      verdict = s.verdict;
      judged = subst (λ o. IsScriptVerdict o s.verdict) behind s.judged;
      refusals = subst (AreEntries new.refusals) (λ i. h.found.refusals ++ script_refusals (n i)
          (behind i) s.verdict) (s.refusals h.found.refusals h.reports.refusals);
      notices = subst (AreEntries new.notices) (λ i. h.found.notices ++ script_notices (n i)
          (behind i) s.verdict) (s.notices h.found.notices h.reports.notices);
      items = ap (λ xs. map item_contents xs.items) s.items ∙ h.reports.items;
      read_is = s.read_is;
      count = (let all = script_front (lines_of file) (lines_of text) h.behind in
          omega (arith, s.lines, h.reports.lines, h.many, many, all));
    }

pub judges_none : (file : List ℕ) (report : Report) → ReportsFront file report None → Judges file report None 0
judges_none file report h =
    let number = suc (length (front_lines (lines_of file))) in
    record {
      front = h.found;
      found = h.finds;
      verdict = Missing;
      judged = subst (λ o. IsScriptVerdict o Missing) (sym h.behind) tt;
      refusals = subst (λ o. AreEntries report.refusals
          (h.found.refusals ++ script_refusals number o Missing)) (sym h.behind)
          (nothing_more report.refusals h.found.refusals h.reports.refusals);
      notices = subst (λ o. AreEntries report.notices (h.found.notices ++ script_notices number o
          Missing)) (sym h.behind) (nothing_more report.notices h.found.notices h.reports.notices);
      items = h.reports.items;
      read_is = tt;
      count = (let all = front_all (lines_of file) h.behind in omega (arith, h.reports.lines, h.many, all));
    }

-- ---- the end

pub finishes : (file : List ℕ) (report : Report) (read : Option ReadScript) (script lines : ℕ)
    (review : Reviewed) (refusals notices : List ℕ)
    → Judges file report read script → lines ≡ report.lines + script
    → ((parts : Option ScriptParts) → IsReadOf parts read
    → IsLimit report.refusals.count (map item_contents report.items.items) parts review.limit)
    → review.refused ≡ report.refusals.count
    → review.text.items ≡ report.refusals.text.items ++ report.notices.text.items
    ++ limit_text review.limit ++ last_line lines report.refusals.count report.notices.count
    → IsReviewOf file (said_by review)
finishes file report read script lines review x y j many limit refused text = record {
  front = j.front;
  found = j.found;
  verdict = j.verdict;
  judged = j.judged;
  refusals = j.front.refusals ++ script_refusals (suc (length (front_lines (lines_of file))))
      (script_lines (lines_of file)) j.verdict;
  all_refusals = refl;
  notices = j.front.notices ++ script_notices (suc (length (front_lines (lines_of file))))
      (script_lines (lines_of file)) j.verdict;
  all_notices = refl;
  refused = refused ∙ j.refusals.count;
  limit = subst (λ n. IsLimit n j.front.items (parts_in j.verdict) review.limit) (sym refused)
      (subst (λ items. IsLimit report.refusals.count items (parts_in j.verdict) review.limit)
      j.items (limit (parts_in j.verdict) j.read_is));
  text = text ∙ (λ i. j.refusals.text i ++ j.notices.text i ++ limit_text review.limit
      ++ last_line ((many ∙ j.count) i) (j.refusals.count i) (j.notices.count i));
}
