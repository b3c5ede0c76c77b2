-- Notices on the macros of a display, line by line.
use Rattle.std.proofs.Common.{◌≡◌, ◌∙◌, ℕ, suc, ◌+◌, ◌<◌, ◌≤◌, ◌==◌, Bool, true, false, not, if◌then◌else◌, List, []}
use Rattle.std.proofs.Common.{◌∷◌, ◌++◌, length, map, take, drop, get_or, refl, sym, ap, subst, arith, codes, bytes_eq}
use Rattle.std.proofs.Common.{append-nil, append_assoc, eqb-true}
use Rattle.std.specs.List.{flat_map}
use Rattle.std.proofs.Math.ListN.{drop_of_length-le}
use Rattle.std.proofs.lemmas.List.{drop_more, get_or-map}
use Rattle.ra_richpresence.specs.declared.line.Line.{Line}
use Rattle.ra_richpresence.specs.declared.piece.Piece.{Piece}
use Rattle.ra_richpresence.specs.declared.script.Script.{Script}
use Rattle.ra_richpresence.specs.Contents.{LineContents, line_contents, piece_contents, PieceContents, ScriptContents}
use Rattle.ra_richpresence.specs.Contents.{script_contents}
use Rattle.ra_richpresence.specs.Cut.{content_of, contents_of, is_nothing, left_of}
use Rattle.ra_richpresence.specs.Lines.{no_line}
use Rattle.ra_richpresence.specs.Placed.{SplitsLine}
use Rattle.ra_member.proofs.GrowthLemmas.{taken_next}
use Rattle.ra_member.proofs.PlanLemmas.{one_more}
use Rattle.ra_review.specs.declared.entries.Entries.{Entries}
use Rattle.ra_review.specs.declared.macros.Passed.{Passed}
use Rattle.ra_review.specs.Judging.{PassesLine, line_macros, notices_left, numbers_left}
use Rattle.ra_review.specs.Reporting.{AreEntries}
use Rattle.ra_review.specs.Scripts.{display_numbers, kept_numbers, macro_notices, piece_notices}

-- nothing is left of a text exactly where it has no byte
nothing_is : (text : List ℕ) → is_nothing text ≡ (length text == 0)
nothing_is [] = refl
nothing_is (byte ∷ text) = by_length (length (byte ∷ text) == 0) refl
  where
    by_length : (b : Bool) → (length (byte ∷ text) == 0) ≡ b → false ≡ b
    by_length true is = absurd (let none : length (byte ∷ text) ≡ 0 =
        eqb-true (length (byte ∷ text)) 0 is in omega (arith, none))
    by_length false is = refl

pub not_false : (b : Bool) → not b ≡ false → b ≡ true
not_false true e = refl
not_false false e = absurd (cc e)

-- without lines there are no notices
none_left : (script : ScriptContents) (numbers : List ℕ) → macro_notices script numbers [] ≡ []
none_left script [] = refl
none_left script (n ∷ ns) = refl

nothing_added : (entries : Entries) (lines : List (List ℕ)) → AreEntries entries lines
    → AreEntries entries (lines ++ [])
nothing_added entries lines h = subst (AreEntries entries) (sym (append-nil lines)) h

-- a line of which nothing remains, or one behind the display
pub passes_over : (script : ScriptContents) (number : ℕ) (content : List ℕ) (passed : Passed)
    (entries : Entries) → passed.shown ≡ true
    → (length (left_of content) == 0) ≡ true → PassesLine script number content passed entries passed entries
passes_over script number content passed entries shown empty = record {
  given = [];
  added = λ lines h. nothing_added entries lines h;
  rest = λ contents. ap (λ b. macro_notices script (numbers_left b number (content ∷ contents))
      (drop passed.lines script.lines)) shown
      ∙ ap (λ b. macro_notices script (if b then kept_numbers (suc number) contents
      else number ∷ kept_numbers (suc number) contents) (drop passed.lines script.lines))
      (nothing_is (left_of content) ∙ empty)
      ∙ ap (λ b. macro_notices script (numbers_left b (suc number) contents)
      (drop passed.lines script.lines)) (sym shown);
}

pub passes_past : (script : ScriptContents) (number : ℕ) (content : List ℕ) (passed : Passed)
    (entries : Entries) → length script.lines ≤ passed.lines
    → PassesLine script number content passed entries passed entries
passes_past script number content passed entries past = record {
  given = [];
  added = λ lines h. nothing_added entries lines h;
  rest = λ contents. ap (macro_notices script (numbers_left passed.shown number (content
      ∷ contents))) none ∙ none_left script (numbers_left passed.shown number (content ∷ contents))
      ∙ sym (ap (macro_notices script (numbers_left passed.shown (suc number) contents)) none
      ∙ none_left script (numbers_left passed.shown (suc number) contents));
}
  where
    none : drop passed.lines script.lines ≡ []
    none = drop_of_length-le script.lines past

-- a line of the display
pub passes_shown : (script : ScriptContents) (number : ℕ) (content : List ℕ) (passed next : Passed)
    (old new : Entries) → passed.shown ≡ true
    → (length (left_of content) == 0) ≡ false → passed.lines < length script.lines → next.shown
    ≡ true → next.lines ≡ passed.lines + 1
    → ((entries : List (List ℕ)) → AreEntries old entries
    → AreEntries new (entries ++ line_macros script number passed.lines))
    → PassesLine script number content passed old next new
passes_shown script number content passed next old new shown some within next_shown next_lines added = record {
  given = line_macros script number passed.lines;
  added = added;
  rest = λ contents. ap (λ b. macro_notices script (numbers_left b number (content ∷ contents))
      (drop passed.lines script.lines)) shown
      ∙ ap (λ b. macro_notices script (if b then kept_numbers (suc number) contents
      else number ∷ kept_numbers (suc number) contents) (drop passed.lines script.lines))
      (nothing_is (left_of content) ∙ some)
      ∙ ap (macro_notices script (number ∷ kept_numbers (suc number) contents))
      (drop_more script.lines passed.lines no_line within)
      ∙ (λ i. line_macros script number passed.lines ++ macro_notices script (numbers_left
      (sym next_shown i) (suc number) contents) (drop (sym next_lines i) script.lines));
}

-- ---- all lines

-- the notices so far, and those on what is left
pub record MacrosLeft (script : ScriptContents) (all : List (List ℕ)) (start now : Entries)
    (passed : Passed) (number : ℕ) (rest : List ℕ) : Type 0 where
  pub given : List (List ℕ)
  pub added : (entries : List (List ℕ)) → AreEntries start entries → AreEntries now (entries ++ given)
  pub left : all ≡ given ++ notices_left script passed number (contents_of rest)

pub macros_next : (script : ScriptContents) (all : List (List ℕ)) (start old new : Entries)
    (passed next : Passed) (number at : ℕ) (rest content behind : List ℕ)
    → SplitsLine rest content behind → (rest ≡ [] → ⊥) → at ≡ number + 1
    → PassesLine script number content passed old next new
    → MacrosLeft script all start old passed number rest → MacrosLeft script all start new next at behind
macros_next script all start old new passed next number at rest content behind s some is p h = record {
  given = h.given ++ p.given;
  added = λ entries are. subst (AreEntries new) (append_assoc entries h.given p.given)
      (p.added (entries ++ h.given) (h.added entries are));
  left = h.left ∙ ap (λ cs. h.given ++ notices_left script passed number cs) contents_are
      ∙ ap (λ ns. h.given ++ ns) (p.rest (contents_of behind))
      ∙ sym (append_assoc h.given p.given (notices_left script next (suc number) (contents_of behind)))
      ∙ (let e : suc number ≡ at = omega (arith, is) in
      ap (λ n. (h.given ++ p.given) ++ notices_left script next n (contents_of behind)) e);
}
  where
    contents_are : contents_of rest ≡ content ∷ contents_of behind
    contents_are = ap (map content_of) (s.lines some) ∙ ap (λ c. c ∷ contents_of behind) (sym s.content)

no_numbers : (script : ScriptContents) (shown : Bool) (number : ℕ) (lines : List LineContents)
    → macro_notices script (numbers_left shown number []) lines ≡ []
no_numbers script true number lines = refl
no_numbers script false number lines = refl

pub macros_end : (script : ScriptContents) (all : List (List ℕ)) (start now : Entries)
    (passed : Passed) (number : ℕ) (rest : List ℕ) → rest ≡ []
    → MacrosLeft script all start now passed number rest → (entries : List (List ℕ))
    → AreEntries start entries → AreEntries now (entries ++ all)
macros_end script all start now passed number rest none h entries are =
    subst (λ ns. AreEntries now (entries ++ ns))
    (sym (h.left ∙ ap (λ t. h.given ++ notices_left script passed number (contents_of t)) none
    ∙ ap (λ ns. h.given ++ ns) (no_numbers script passed.shown number
    (drop passed.lines script.lines)) ∙ append-nil h.given)) (h.added entries are)

-- ---- pieces

pub pieces_more : (notices : PieceContents → List (List ℕ)) (pieces : List Piece) (k : ℕ)
    (piece : Piece) → k < length pieces → piece ≡ get_or pieces k piece
    → (start old new : Entries) → ((entries : List (List ℕ)) → AreEntries start entries
    → AreEntries old (entries ++ flat_map notices (map piece_contents (take k pieces))))
    → ((entries : List (List ℕ)) → AreEntries old entries → AreEntries new (entries ++ notices (piece_contents piece)))
    → (entries : List (List ℕ)) → AreEntries start entries
    → AreEntries new (entries ++ flat_map notices (map piece_contents (take (k + 1) pieces)))
pieces_more notices pieces k piece within is start old new so_far more entries are =
    let before = flat_map notices (map piece_contents (take k pieces)) in
    subst (AreEntries new) (append_assoc entries before (notices (piece_contents piece))
    ∙ ap (λ ns. entries ++ ns) (sym (ap (flat_map notices) (taken_next piece_contents pieces k piece
    within is) ∙ one_more notices (map piece_contents (take k pieces)) (piece_contents piece))))
    (more (entries ++ before) (so_far entries are))

-- the notices on the line of an index
pub line_is_at : (script : Script) (number index : ℕ) (line : Line)
    → index < length script.lines.items → line ≡ get_or script.lines.items index line
    → flat_map (piece_notices (script_contents script) number)
    (map piece_contents line.pieces.items) ≡ line_macros (script_contents script) number index
line_is_at script number index line within is =
    sym (ap (λ (l : LineContents). flat_map (piece_notices (script_contents script) number) l.pieces)
    (get_or-map line_contents script.lines.items index line no_line within ∙ ap line_contents (sym is)))
