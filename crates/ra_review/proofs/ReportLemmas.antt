-- What a review keeps of the lines so far, and of one more.
use Rattle.std.proofs.Common.{◌≡◌, ◌∙◌, ℕ, suc, ◌+◌, ◌≤◌, ◌==◌, sum_by, Bool, true, false, if◌then◌else◌, List, [], ◌∷◌}
use Rattle.std.proofs.Common.{◌++◌, length, map, Option, None, Some, unwrap_or, refl, sym, ap, subst, arith, append-nil}
use Rattle.std.proofs.Common.{length-append, eqb-true, Result, Ok, Err, OnOk}
use Rattle.std.proofs.lemmas.List.Sums.{sum_by_push}
use Rattle.ra_text.specs.declared.refusals.OutOfMemory.{OutOfMemory}
use Rattle.ra_richpresence.specs.Cut.{content_of}
use Rattle.ra_set.specs.Alone.{is_script_line}
use Rattle.ra_set.specs.Limits.{item_conditions}
use Rattle.ra_set.specs.Places.{IsFileOutside}
use Rattle.ra_set.specs.Refusals.{id_of}
use Rattle.ra_set.specs.Accepted.{repeats}
use Rattle.ra_set.specs.Contents.{ItemContents, Unlocks, Ranks, item_contents}
use Rattle.ra_set.specs.Grammar.{Line}
use Rattle.ra_review.specs.declared.report.Report.{Report}
use Rattle.ra_review.specs.Lines.{Refuses, first_with, Findings, nothing, then_more, refused, item_lines, item_findings}
use Rattle.ra_review.specs.Reporting.{AreEntries, first_by, Reports, ReportsBefore, ReportsNoted, AddsItem, AddsLine}
use Rattle.ra_review.specs.Shown.{again, refusal}

-- ---- first lines

-- the first of two, of which either may be missing
abbrev pub or_else : Option ℕ → Option ℕ → Option ℕ
or_else (Some n) other = Some n
or_else None other = other

or_none : (o : Option ℕ) → or_else o None ≡ o
or_none (Some n) = refl
or_none None = refl

-- one row more
first_more : (y : ItemContents) (n : ℕ) (rows : List Line) (row : Line)
    → first_with y n (rows ++ row ∷ []) ≡ or_else (first_with y n rows) (first_with y (n + length rows) (row ∷ []))
first_more y n [] row = let e : n ≡ n + 0 = omega arith in ap (λ k. first_with y k (row ∷ [])) e
first_more y n (None ∷ rows) row =
    let e : suc n + length rows ≡ n + suc (length rows) = omega arith in
    first_more y (suc n) rows row ∙ ap (λ k. or_else (first_with y (suc n) rows) (first_with y k (row ∷ []))) e
first_more y n (Some z ∷ rows) row = by_repeat (repeats z y) (first_more y (suc n) rows row)
  where
    by_repeat : (same : Bool) → first_with y (suc n) (rows ++ row ∷ [])
        ≡ or_else (first_with y (suc n) rows) (first_with y (suc n + length rows) (row ∷ []))
        → (if same then Some n else first_with y (suc n) (rows ++ row ∷ []))
        ≡ or_else (if same then Some n else first_with y (suc n) rows) (first_with y (n + suc (length rows)) (row ∷ []))
    by_repeat true next = refl
    by_repeat false next =
        let e : suc n + length rows ≡ n + suc (length rows) = omega arith in
        next ∙ ap (λ k. or_else (first_with y (suc n) rows) (first_with y k (row ∷ []))) e

-- items of one letter and one id are repeated by the same items
same_repeats : (x y z : ItemContents) → repeats x y ≡ true → repeats z y ≡ repeats z x
same_repeats (Unlocks i t) (Unlocks j u) (Unlocks k v) e = let same : i ≡ j = eqb-true i j e in
    ap (λ n. k == n) (sym same)
same_repeats (Unlocks i t) (Unlocks j u) (Ranks k f b) e = refl
same_repeats (Ranks i f b) (Ranks j g c) (Ranks k h d) e = let same : i ≡ j = eqb-true i j e in
    ap (λ n. k == n) (sym same)
same_repeats (Ranks i f b) (Ranks j g c) (Unlocks k v) e = refl
same_repeats (Unlocks i t) (Ranks j g c) z e = absurd (cc e)
same_repeats (Ranks i f b) (Unlocks j u) z e = absurd (cc e)

same_first : (x y : ItemContents) → repeats x y ≡ true → (n : ℕ) (rows : List Line)
    → first_with y n rows ≡ first_with x n rows
same_first x y e n [] = refl
same_first x y e n (None ∷ rows) = same_first x y e (suc n) rows
same_first x y e n (Some z ∷ rows) = (λ i. if same_repeats x y z e i then Some n else same_first x y e (suc n) rows i)

-- a row without an item
first_none : (y : ItemContents) (rows : List Line) → first_with y 1 (rows ++ None ∷ []) ≡ first_with y 1 rows
first_none y rows = first_more y 1 rows None ∙ or_none (first_with y 1 rows)

-- a row whose item repeats one
first_again : (x y : ItemContents) (rows : List Line) (first : ℕ) → first_with x 1 rows ≡ Some first
    → first_with y 1 (rows ++ Some x ∷ []) ≡ first_with y 1 rows
first_again x y rows first is = first_more y 1 rows (Some x) ∙ by_repeat (repeats x y) refl
  where
    by_repeat : (same : Bool) → repeats x y ≡ same → or_else (first_with y 1 rows)
        (if same then Some (1 + length rows) else None) ≡ first_with y 1 rows
    by_repeat true e =
        let found : first_with y 1 rows ≡ Some first = same_first x y e 1 rows ∙ is in
        ap (λ o. or_else o (Some (1 + length rows))) found ∙ sym found
    by_repeat false e = or_none (first_with y 1 rows)

-- a row whose item is new
first_new : (x y : ItemContents) (rows : List Line) (number : ℕ) (old : Option ℕ) → number
    ≡ suc (length rows) → first_with x 1 rows ≡ None → old ≡ first_with y 1 rows
    → (if repeats x y then Some number else old) ≡ first_with y 1 (rows ++ Some x ∷ [])
first_new x y rows number old is none was = by_repeat (repeats x y) refl ∙ sym (first_more y 1 rows (Some x))
  where
    by_repeat : (same : Bool) → repeats x y ≡ same → (if same then Some number else old)
        ≡ or_else (first_with y 1 rows) (if same then Some (1 + length rows) else None)
    by_repeat true e =
        let missing : first_with y 1 rows ≡ None = same_first x y e 1 rows ∙ none in
        let n : number ≡ 1 + length rows = omega (arith, is) in
        ap (λ k. Some k) n ∙ sym (ap (λ o. or_else o (Some (1 + length rows))) missing)
    by_repeat false e = was ∙ sym (or_none (first_with y 1 rows))

-- ---- what is kept

pub then_nothing : (found : Findings) → then_more found nothing ≡ found
then_nothing found = (λ i. record {
  refusals = append-nil found.refusals i;
  notices = append-nil found.notices i;
  items = append-nil found.items i;
})

-- one line more is counted
pub counted : (old new : Report) (rows : List Line) (found : Findings) → new.refusals ≡ old.refusals
    → new.notices ≡ old.notices
    → new.items ≡ old.items → new.firsts ≡ old.firsts → new.lines ≡ old.lines + 1
    → Reports old rows found → ReportsBefore new rows found
counted old new rows found r n i f l h = record {
  refusals = subst (λ e. AreEntries e found.refusals) (sym r) h.refusals;
  notices = subst (λ e. AreEntries e found.notices) (sym n) h.notices;
  items = ap (λ xs. map item_contents xs.items) i ∙ h.items;
  firsts = λ x. ap (λ fs. first_by fs x) f ∙ h.firsts x;
  lines = omega (arith, l, h.lines);
  few = h.few;
}

one_longer : (rows : List Line) (row : Line) (n : ℕ) → n ≡ suc (length rows) → n ≡ length (rows ++ row ∷ [])
one_longer rows row n is = omega (arith, is, length-append rows (row ∷ []))

-- the line has no item
pub adds_none : (report : Report) (rows : List Line) (found : Findings)
    → ReportsBefore report rows found → Reports report (rows ++ None ∷ []) (then_more found nothing)
adds_none report rows found h = subst (Reports report (rows ++ None ∷ [])) (sym (then_nothing found)) (record {
  refusals = h.refusals;
  notices = h.notices;
  items = h.items;
  firsts = λ x. h.firsts x ∙ sym (first_none x rows);
  lines = one_longer rows None report.lines h.lines;
  few = omega (arith, h.few, length-append rows (None ∷ []));
})

-- a line was refused
pub adds_refusal : (old new : Report) (rows : List Line) (row : Line) (found : Findings) (text : List ℕ)
    → ((x : ItemContents) → first_with x 1 (rows ++ row ∷ []) ≡ first_with x 1 rows)
    → ((entries : List (List ℕ)) → AreEntries old.refusals entries → AreEntries new.refusals (entries ++ text ∷ []))
    → new.notices ≡ old.notices → new.items ≡ old.items → new.firsts ≡ old.firsts → new.lines ≡ old.lines
    → ReportsBefore old rows found → Reports new (rows ++ row ∷ []) (then_more found (refused text))
adds_refusal old new rows row found text firsts more n i f l h = record {
  refusals = more found.refusals h.refusals;
  notices = subst (AreEntries new.notices) (sym (append-nil found.notices))
      (subst (λ e. AreEntries e found.notices) (sym n) h.notices);
  items = ap (λ xs. map item_contents xs.items) i ∙ h.items ∙ sym (append-nil found.items);
  firsts = λ x. ap (λ fs. first_by fs x) f ∙ h.firsts x ∙ sym (firsts x);
  lines = one_longer rows row new.lines (l ∙ h.lines);
  few = omega (arith, h.few, length-append rows (row ∷ []), ap (sum_by item_conditions) (append-nil found.items));
}

pub refused_row : (rows : List Line) (x : ItemContents) → first_with x 1 (rows ++ None ∷ []) ≡ first_with x 1 rows
refused_row rows x = first_none x rows

-- the line of an accepted item is noted where none was
pub noted : (old new : Report) (x : ItemContents) (rows : List Line) (found : Findings) (first : Option ℕ)
    → first ≡ first_by old.firsts x
    → ((y : ItemContents) → first_by new.firsts y
    ≡ (if repeats x y then Some (unwrap_or first old.lines) else first_by old.firsts y))
    → new.refusals ≡ old.refusals → new.notices ≡ old.notices → new.items ≡ old.items → new.lines ≡ old.lines
    → ReportsBefore old rows found → ReportsNoted new x rows found
noted old new x rows found first is_first notes r n i l h = record {
  refusals = subst (λ e. AreEntries e found.refusals) (sym r) h.refusals;
  notices = subst (λ e. AreEntries e found.notices) (sym n) h.notices;
  items = ap (λ xs. map item_contents xs.items) i ∙ h.items;
  firsts = λ y. notes y ∙ by_first first (is_first ∙ h.firsts x) y;
  lines = l ∙ h.lines;
  few = h.few;
}
  where
    again : (f : ℕ) (y : ItemContents) → first_with x 1 rows ≡ Some f → (same : Bool) → repeats x y ≡ same
        → (if same then Some f else first_by old.firsts y) ≡ first_with y 1 (rows ++ Some x ∷ [])
    again f y is true e = sym (first_again x y rows f is ∙ same_first x y e 1 rows ∙ is)
    again f y is false e = h.firsts y ∙ sym (first_again x y rows f is)

    by_first : (o : Option ℕ) → o ≡ first_with x 1 rows → (y : ItemContents)
        → (if repeats x y then Some (unwrap_or o old.lines) else first_by old.firsts y)
        ≡ first_with y 1 (rows ++ Some x ∷ [])
    by_first None is y = first_new x y rows old.lines (first_by old.firsts y) h.lines (sym is) (h.firsts y)
    by_first (Some f) is y = again f y (sym is) (repeats x y) refl

-- an item was kept
pub adds_kept : (old new : Report) (line : List ℕ) (x : ItemContents) (rows : List Line) (found : Findings)
    → item_conditions x ≤ 178956970 → first_with x 1 rows ≡ None
    → ((entries : List (List ℕ)) → AreEntries old.notices entries
    → AreEntries new.notices (entries ++ item_lines line x))
    → map item_contents new.items.items ≡ map item_contents old.items.items ++ x ∷ []
    → new.refusals ≡ old.refusals → new.firsts ≡ old.firsts → new.lines ≡ old.lines
    → ReportsNoted old x rows found → AddsItem line x rows found new
adds_kept old new line x rows found weight none notices items r f l h =
    subst (λ o. Reports new (rows ++ Some x ∷ [])
    (then_more found (item_findings (suc (length rows)) line x o))) (sym none) (record {
      refusals = subst (AreEntries new.refusals) (sym (append-nil found.refusals))
          (subst (λ e. AreEntries e found.refusals) (sym r) h.refusals);
      notices = notices found.notices h.notices;
      items = items ∙ ap (λ xs. xs ++ x ∷ []) h.items;
      firsts = λ y. ap (λ fs. first_by fs y) f ∙ h.firsts y;
      lines = one_longer rows (Some x) new.lines (l ∙ h.lines);
      few = omega (arith, h.few, length-append rows (Some x ∷ []), sum_by_push item_conditions found.items x, weight);
    })

-- an item repeats an id
pub adds_again : (old new : Report) (line : List ℕ) (x : ItemContents) (rows : List Line)
    (found : Findings) (number id first : ℕ)
    → number ≡ old.lines → id ≡ id_of x → first_with x 1 rows ≡ Some first
    → ((entries : List (List ℕ)) → AreEntries old.refusals entries
    → AreEntries new.refusals (entries ++ again number id first ∷ []))
    → new.notices ≡ old.notices → new.items ≡ old.items → new.firsts ≡ old.firsts → new.lines ≡ old.lines
    → ReportsNoted old x rows found → AddsItem line x rows found new
adds_again old new line x rows found number id first is_number is_id is more n i f l h =
    subst (λ o. Reports new (rows ++ Some x ∷ [])
    (then_more found (item_findings (suc (length rows)) line x o))) (sym is)
    (subst (λ text. Reports new (rows ++ Some x ∷ []) (then_more found (refused text)))
    (λ j. again ((is_number ∙ h.lines) j) (is_id j) first)
    (record {
      refusals = more found.refusals h.refusals;
      notices = subst (AreEntries new.notices) (sym (append-nil found.notices))
          (subst (λ e. AreEntries e found.notices) (sym n) h.notices);
      items = ap (λ xs. map item_contents xs.items) i ∙ h.items ∙ sym (append-nil found.items);
      firsts = λ y. ap (λ fs. first_by fs y) f ∙ h.firsts y;
      lines = one_longer rows (Some x) new.lines (l ∙ h.lines);
      few = omega
          (arith, h.few, length-append rows (Some x ∷ []), ap (sum_by item_conditions) (append-nil found.items));
    }))

-- a line was judged, whose refusal stands behind the others
pub refuses_line : (old new : Report) (rows : List Line) (found : Findings) (number place : ℕ) (line content : List ℕ)
    → number ≡ old.lines → content ≡ content_of line
    → ((entries : List (List ℕ)) → AreEntries old.refusals entries
    → AreEntries new.refusals (entries ++ refusal number place content ∷ []))
    → new.notices ≡ old.notices → new.items ≡ old.items → new.firsts ≡ old.firsts → new.lines ≡ old.lines
    → is_script_line line ≡ false → IsFileOutside line place → ReportsBefore old rows found
    → AddsLine line rows found new
refuses_line old new rows found number place line content is_number is_content more n i f l other outside h = record {
  verdict = Refuses place;
  is = (other, outside);
  reports = subst (λ text. Reports new (rows ++ None ∷ []) (then_more found (refused text)))
      (λ j. refusal ((is_number ∙ h.lines) j) place (is_content j))
      (adds_refusal old new rows None found (refusal number place content) (refused_row rows) more n i f l h);
}

-- what a call that adds something says, further on
pub on_ok : (result : Result (Unit {0}) OutOfMemory) (P Q : Type 0) → (P → Q) → OnOk result P → OnOk result Q
on_ok (Ok done) P Q goes h = goes h
on_ok (Err e) P Q goes h = tt
