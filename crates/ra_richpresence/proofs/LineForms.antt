-- Each form of a line, and how it is told from the others by its first byte.
use Rattle.std.proofs.Common.{◌≡◌, ◌∙◌, inl, inr, ℕ, Bool, true, false, if◌then◌else◌, List, [], ◌∷◌, Option, Some}
use Rattle.std.proofs.Common.{None, option_map, Ok, refl, sym, ap, subst, codes}
use Rattle.ra_condition.specs.Grammar.{trigger}
use Rattle.ra_richpresence.specs.Contents.{LineContents}
use Rattle.ra_richpresence.specs.Cut.{is_left}
use Rattle.ra_richpresence.specs.Grammar.{name, lookup_head, lookup_text, EntryContents, Keyed, Other, keys}
use Rattle.ra_richpresence.specs.Grammar.{keyed_entry, other_entry, entry, format_head, format_type, display_head, test}
use Rattle.ra_richpresence.specs.Grammar.{tested_line, untested_line, last_line, pieces, LineOf, many}
use Rattle.ra_richpresence.specs.Reading.{name_byte, name_at, whole, keys_at, test_at, lookup_text_of, pieces_of}
use Rattle.ra_richpresence.specs.Reading.{lookup_head_of, format_head_of, format_type_of, display_head_of}
use Rattle.ra_richpresence.specs.Reading.{keyed_entry_of, other_entry_of, entry_of, tested_line_of, untested_with}
use Rattle.ra_richpresence.specs.Reading.{last_line_of, left_only, run_at, HeadContents, OpensLookup, OpensFormat}
use Rattle.ra_richpresence.specs.Reading.{head_or, section_head_of}
use Rattle.ra_richpresence.proofs.Exact.{Exact, Closed, closed-reader, exact-whole, exact-behind, exact-map}
use Rattle.ra_richpresence.proofs.Parts.{reader-name, closed-keys, begins-keys, closed-test, one_byte}
use Rattle.ra_richpresence.proofs.Repeats.{reader-many}
use Rattle.ra_richpresence.proofs.Texts.{exact-lookup_text, exact-pieces}
use Rattle.ra_text.specs.Form.{Form, Spell, One, Literal, Then, ◌or◌}
use Rattle.ra_text.specs.Reading.{literal_at, one_at, begins}
use Rattle.ra_text.specs.Table.{is_in, only, marks}
use Rattle.ra_text.proofs.Begins.{Begins, IsListed, begins-then, begins-or, begins-wider}
use Rattle.ra_text.proofs.Either.{reader-literal, begins-literal}
use Rattle.ra_text.proofs.Readers.{Reader, Listed, reader-one, reader-same, reader-spell, reads-of}
use Rattle.ra_text.proofs.Tables.{In, in_apart, in_within, begins-byte, is_in-in}
use Rattle.ra_value_format.specs.Formats.{format_of_name}
use Rattle.ra_text.proofs.Spelled.{none-spelled}

-- ---- what the lines spell

closed-literal : (bytes : List ℕ) → Closed (Literal bytes) (literal_at bytes)
closed-literal bytes = closed-reader (Literal bytes) (literal_at bytes) (reader-literal bytes (λ c. ⊥))

exact-name : Exact name (λ line. whole (name_at line))
exact-name = exact-whole name name_at (reads-of name name_at (IsListed name_byte) reader-name)

pub exact-lookup_head : Exact lookup_head lookup_head_of
unfolding lookup_head_of
exact-lookup_head = exact-behind (Literal (codes "Lookup:")) (literal_at (codes "Lookup:"))
    (λ word. name) (λ word rest. whole (name_at rest)) (closed-literal (codes "Lookup:"))
    (λ word. exact-name)

pub exact-format_head : Exact format_head format_head_of
unfolding format_head_of
exact-format_head = exact-behind (Literal (codes "Format:")) (literal_at (codes "Format:"))
    (λ word. name) (λ word rest. whole (name_at rest)) (closed-literal (codes "Format:"))
    (λ word. exact-name)

pub exact-format_type : Exact format_type format_type_of
unfolding format_type_of
exact-format_type = exact-behind (Literal (codes "FormatType=")) (literal_at (codes "FormatType="))
    (λ word. Then name (λ n. Spell (format_of_name n))) (λ word rest. option_map format_of_name
    (whole (name_at rest))) (closed-literal (codes "FormatType="))
    (λ word. exact-map name (λ line. whole (name_at line)) format_of_name exact-name)

pub exact-display_head : Exact display_head display_head_of
unfolding display_head_of
exact-display_head = exact-whole (Literal (codes "Display:")) (literal_at (codes "Display:"))
    (reads-of (Literal (codes "Display:")) (literal_at (codes "Display:")) (λ c. ⊥)
    (reader-literal (codes "Display:") (λ c. ⊥)))

exact-keyed_entry : Exact keyed_entry keyed_entry_of
unfolding keyed_entry_of
exact-keyed_entry = exact-behind keys keys_at (λ ranges. Then lookup_text (λ text. Spell
    (Keyed (record { ranges = ranges; text = text })))) (λ ranges text. option_map (λ shown. Keyed
    (record { ranges = ranges; text = shown })) (lookup_text_of text)) closed-keys
    (λ ranges. exact-map lookup_text lookup_text_of
    (λ text. Keyed (record { ranges = ranges; text = text })) exact-lookup_text)

exact-other_entry : Exact other_entry other_entry_of
unfolding other_entry_of
exact-other_entry = exact-behind (Literal (codes "*=")) (literal_at (codes "*="))
    (λ star. Then lookup_text (λ text. Spell (Other text)))
    (λ star text. option_map Other (lookup_text_of text)) (closed-literal (codes "*="))
    (λ star. exact-map lookup_text lookup_text_of Other exact-lookup_text)

-- either of two forms that a test tells apart
exact-or : {V : Type 0} (a b : Form ℕ V) (a_of b_of : List ℕ → Option V) (test : List ℕ → Bool)
    → Exact a a_of → Exact b b_of → ((line : List ℕ) (v : V) → a line v → test line ≡ false)
    → ((line : List ℕ) (v : V) → b line v → test line ≡ true)
    → Exact (a or b) (λ line. if test line then b_of line else a_of line)
exact-or {V} a b a_of b_of test exact_a exact_b off on = record {
  reads = λ line v h. elim h [
    | inl x ↦ rw (off line v x) (exact_a.reads line v x)
    | inr y ↦ rw (on line v y) (exact_b.reads line v y)
  ];
  spells = λ line v e. cases line v (test line) e;
} where
  cases : (line : List ℕ) (v : V) (decision : Bool) → (if decision then b_of line else a_of line)
      ≡ Some v → (a or b) line v
  cases line v true e = inr (exact_b.spells line v e)
  cases line v false e = inl (exact_a.spells line v e)

begins-keyed_entry : Begins keyed_entry (In (codes "0123456789"))
begins-keyed_entry = begins-then keys (λ ranges. Then lookup_text (λ text. Spell
    (Keyed (record { ranges = ranges; text = text })))) (In (codes "0123456789")) begins-keys

begins-other_entry : Begins other_entry (λ c. c ≡ 42)
begins-other_entry = begins-then (Literal (codes "*=")) (λ star. Then lookup_text
    (λ text. Spell (Other text))) (λ c. c ≡ 42) (begins-literal 42 (codes "="))

pub exact-entry : Exact entry entry_of
unfolding entry_of
exact-entry = exact-or keyed_entry other_entry keyed_entry_of other_entry_of
    (begins (is_in (only (codes "*")))) exact-keyed_entry exact-other_entry off on where
      off : (line : List ℕ) (v : EntryContents) → keyed_entry line v → begins (is_in (only (codes "*"))) line ≡ false
      off [] v h = refl
      off (c ∷ line) v h = not_star (is_in (only (codes "*")) c) refl where
        not_star : (star : Bool) → is_in (only (codes "*")) c ≡ star → is_in (only (codes "*")) c ≡ false
        not_star true is = absurd (in_apart (codes "*") (codes "0123456789") refl c
            (is_in-in (marks (codes "*")) c is) (begins-keyed_entry.first c line v h))
        not_star false is = is

      on : (line : List ℕ) (v : EntryContents) → other_entry line v → begins (is_in (only (codes "*"))) line ≡ true
      on [] v h = absurd (begins-other_entry.not_empty v h)
      on (c ∷ line) v h = subst (λ x. is_in (only (codes "*")) x ≡ true)
          (sym (begins-other_entry.first c line v h)) refl

pub exact-tested_line : Exact tested_line tested_line_of
unfolding tested_line_of
exact-tested_line = exact-behind test test_at (λ found. Then pieces (λ shown. Spell (record
    { test = Some found; pieces = shown }))) (λ found text. option_map (λ shown. record
    { test = Some found; pieces = shown }) (pieces_of text)) closed-test
    (λ found. exact-map pieces pieces_of (λ shown. record { test = Some found; pieces = shown }) exact-pieces)

exact-untested_line : Exact untested_line (λ line. option_map untested_with (pieces_of line))
exact-untested_line = exact-map pieces pieces_of untested_with exact-pieces

pub exact-last_line : Exact last_line last_line_of
unfolding last_line_of
exact-last_line = record {
  reads = λ line v h. rw h.0 (exact-untested_line.reads line v h.1);
  spells = λ line v e. cases line v (begins (is_in (only (codes "?"))) line) refl e;
} where
  cases : (line : List ℕ) (v : LineContents) (mark : Bool) → begins (is_in (only (codes "?"))) line
      ≡ mark → (if mark then None else option_map untested_with (pieces_of line)) ≡ Some v
      → last_line line v
  cases line v true is e = absurd (cc e)
  cases line v false is e = (is, exact-untested_line.spells line v e)

-- ---- the first bytes of lines

-- the line begins so
abbrev pub FirstIs : (ℕ → Type 0) → List ℕ → Type 0
FirstIs u line = (c : ℕ) × (rest : List ℕ) × (line ≡ c ∷ rest) × u c

first-of : {V : Type 0} (form : Form ℕ V) (u : ℕ → Type 0) → Begins form u → (line : List ℕ) (v : V)
    → form line v → FirstIs u line
first-of form u b [] v h = absurd (b.not_empty v h)
first-of form u b (c ∷ line) v h = (c, line, refl, b.first c line v h)

-- lines that begin apart are not one
first-apart : (t u : ℕ → Type 0) → ((c : ℕ) → t c → u c → ⊥) → (line : List ℕ) → FirstIs t line → FirstIs u line → ⊥
first-apart t u apart line a b = let same : a.0 ≡ b.0 =
    (let e : a.0 ∷ a.1 ≡ b.0 ∷ b.1 = sym a.2 ∙ b.2 in cc e) in apart b.0 (subst t same a.3) b.3

-- a line that the table has spells its form
left-spells : {V : Type 0} (form : Form ℕ V) (of : List ℕ → Option V) → Exact form
    of → (line : List ℕ) (v : V) → left_only of line ≡ Some v → (is_left line ≡ true) × form line v
left-spells {V} form of exact line v e = cases (is_left line) refl e where
  cases : (left : Bool) → is_left line ≡ left → (if left then of line else None) ≡ Some v
      → (is_left line ≡ true) × form line v
  cases true is e = (is, exact.spells line v e)
  cases false is e = absurd (cc e)

left-reads : {V : Type 0} (form : Form ℕ V) (of : List ℕ → Option V) → Exact form
    of → (line : List ℕ) (v : V) → is_left line ≡ true → form line v → left_only of line ≡ Some v
left-reads form of exact line v is h = rw is (exact.reads line v h)

-- ---- one line

line-one : {V : Type 0} (form : Form ℕ V) (of : List ℕ → Option V)
    → Exact form of → (t : List (List ℕ)) (v : V) → LineOf form t v → One (left_only of) t v
line-one form of exact t v h =
    record { symbol = h.line; alone = h.alone; listed = left-reads form of exact h.line v h.left h.of_form }

one-line : {V : Type 0} (form : Form ℕ V) (of : List ℕ → Option V)
    → Exact form of → (t : List (List ℕ)) (v : V) → One (left_only of) t v → LineOf form t v
one-line {V} form of exact t v h = let p : (is_left h.symbol ≡ true) × form h.symbol v =
    left-spells form of exact h.symbol v h.listed in
    record { line = h.symbol; alone = h.alone; left = p.0; of_form = p.1 }

-- one line of a form
pub reader-line : {V : Type 0} (form : Form ℕ V) (of : List ℕ → Option V)
    → Exact form of → (goes_on : List ℕ → Type 0) → Listed (left_only of)
    → Reader (LineOf form) (one_at (left_only of)) goes_on
reader-line form of exact goes_on listed = reader-same (One (left_only of)) (LineOf form)
    (one_at (left_only of)) goes_on (one-line form of exact) (line-one form of exact)
    (reader-one (left_only of) goes_on listed)

-- a line of the form begins a text of lines
pub begins-line : {V : Type 0} (form : Form ℕ V) (of : List ℕ → Option V)
    → Exact form of → Begins (LineOf form) (IsListed (left_only of))
begins-line form of exact = record {
  not_empty = λ v h. absurd (cc h.alone);
  first = λ c s v h. (
    v,
    (let same : c ≡ h.line = cc h.alone in ap (left_only of) same ∙ left-reads form of exact h.line v h.left h.of_form),
  );
}

-- any number of lines of a form
pub reader-lines : {V : Type 0} (form : Form ℕ V) (of : List ℕ → Option V)
    → Exact form of → Reader (many (LineOf form)) (run_at (left_only of)) (IsListed (left_only of))
reader-lines form of exact = reader-many (LineOf form) (left_only of) (λ tag. Spell tag)
    (λ t v h. record {
      symbol = h.line;
      tag = v;
      behind = [];
      is = h.alone;
      listed = left-reads form of exact h.line v h.left h.of_form;
      of_rest = none-spelled;
    })
    (λ t v h. let p : (is_left h.symbol ≡ true) × form h.symbol h.tag =
    left-spells form of exact h.symbol h.tag h.listed in
    subst (λ x. LineOf form t x) (sym h.of_rest.is)
    (record { line = h.symbol; alone = h.is ∙ ap (λ b. h.symbol ∷ b) h.of_rest.empty; left = p.0; of_form = p.1 }))
    (λ tag rest. Ok (tag, rest)) (IsListed (left_only of)) (λ c. ⊥)
    (λ tag. reader-spell tag (λ c. ⊥)) (λ c h on. on) (λ c on. absurd on) (λ c h. h)

-- ---- the lines apart

-- a form behind a word
begins-word : {V : Type 0} (byte : ℕ) (others : List ℕ) (next : Form ℕ V) → In (byte ∷ []) byte
    → Begins (Then (Literal (byte ∷ others)) (λ word. next)) (In (byte ∷ []))
begins-word byte others next here = begins-then (Literal (byte ∷ others)) (λ word. next)
    (In (byte ∷ [])) (begins-wider (Literal (byte ∷ others)) (λ c. c ≡ byte) (In (byte ∷ []))
    (λ c is. subst (In (byte ∷ [])) (sym is) here) (begins-literal byte others))

pub lookup-first : (line : List ℕ) (v : List ℕ) → lookup_head line v → FirstIs (In (codes "L")) line
lookup-first = first-of lookup_head (In (codes "L")) (begins-word 76 (codes "ookup:") name refl)

pub format-first : (line : List ℕ) (v : List ℕ) → format_head line v → FirstIs (In (codes "F")) line
format-first = first-of format_head (In (codes "F")) (begins-word 70 (codes "ormat:") name refl)

pub display-first : (line : List ℕ) (v : Unit {0}) → display_head line v → FirstIs (In (codes "D")) line
display-first = first-of display_head (In (codes "D"))
    (begins-wider (Literal (codes "Display:")) (λ c. c ≡ 68) (In (codes "D"))
    (λ c is. subst (In (codes "D")) (sym is) refl) (begins-literal 68 (codes "isplay:")))

pub entry-first : (line : List ℕ) (v : EntryContents) → entry line v → FirstIs (In (codes "*0123456789")) line
entry-first = first-of entry (In (codes "*0123456789")) (begins-or keyed_entry other_entry (In (codes "*0123456789"))
    (begins-wider keyed_entry (In (codes "0123456789")) (In (codes "*0123456789"))
    (in_within (codes "0123456789") (codes "*0123456789") refl) begins-keyed_entry)
    (begins-wider other_entry (λ c. c ≡ 42) (In (codes "*0123456789"))
    (λ c is. subst (In (codes "*0123456789")) (sym is) refl) begins-other_entry))

begins-test : Begins test (In (codes "?"))
begins-test = begins-then (One (only (codes "?"))) (λ opening. Then trigger (λ found. Then
    (One (only (codes "?"))) (λ closing. Spell found))) (In (codes "?"))
    (begins-byte (marks (codes "?")))

pub tested-first : (line : List ℕ) (v : LineContents) → tested_line line v → FirstIs (In (codes "?")) line
tested-first = first-of tested_line (In (codes "?")) (begins-then test (λ found. Then pieces
    (λ shown. Spell (record { test = Some found; pieces = shown }))) (In (codes "?")) begins-test)

-- no line of the display is its last line and has a test
tested-not_last : (line : List ℕ) (v w : LineContents) → tested_line line v → last_line line w → ⊥
tested-not_last line v w h last =
    let first : FirstIs (In (codes "?")) line = tested-first line v h in
    let mark : first.0 ≡ 63 = one_byte 63 first.0 first.3 in
    let yes : begins (is_in (only (codes "?"))) line ≡ true = subst (λ t. begins
    (is_in (only (codes "?"))) t ≡ true) (sym (first.2 ∙ ap (λ c. c ∷ first.1) mark)) refl in
    cc (yes, last.0)

-- lines of tables whose forms begin apart
tables-apart : {V W : Type 0} (a : Form ℕ V) (a_of : List ℕ → Option V) (b : Form ℕ W)
    (b_of : List ℕ → Option W) → Exact a a_of → Exact b b_of
    → ((line : List ℕ) (v : V) (w : W) → a line v → b line w → ⊥)
    → (line : List ℕ) → IsListed (left_only a_of) line → IsListed (left_only b_of) line → ⊥
tables-apart a a_of b b_of exact_a exact_b apart line x y = apart line x.0 y.0
    (left-spells a a_of exact_a line x.0 x.1).1 (left-spells b b_of exact_b line y.0 y.1).1

pub tested-apart-last : (line : List ℕ) → IsListed (left_only tested_line_of) line
    → IsListed (left_only last_line_of) line → ⊥
tested-apart-last = tables-apart tested_line tested_line_of last_line last_line_of exact-tested_line
    exact-last_line tested-not_last

pub entry-apart-display : (line : List ℕ) → IsListed (left_only entry_of) line
    → IsListed (left_only display_head_of) line → ⊥
entry-apart-display = tables-apart entry entry_of display_head display_head_of exact-entry exact-display_head
    (λ line v w a b. first-apart (In (codes "*0123456789")) (In (codes "D")) (in_apart
    (codes "*0123456789") (codes "D") refl) line (entry-first line v a) (display-first line w b))

-- ---- the first lines of sections

-- the first line of a section, by its tag
abbrev pub section_head : HeadContents → List ℕ → Type 0
section_head (OpensLookup lookup_name) line = lookup_head line lookup_name
section_head (OpensFormat format_name) line = format_head line format_name

lookup-not_format : (line v w : List ℕ) → lookup_head line v → format_head line w → ⊥
lookup-not_format line v w a b = first-apart (In (codes "L")) (In (codes "F"))
    (in_apart (codes "L") (codes "F") refl) line (lookup-first line v a) (format-first line w b)

-- a line that opens a section is read so
head-reads : (line : List ℕ) (tag : HeadContents) → section_head tag line → section_head_of line ≡ Some tag
unfolding section_head_of
head-reads line (OpensLookup n) h = ap (λ found. head_or found (format_head_of line)) (exact-lookup_head.reads line n h)
head-reads line (OpensFormat n) h = cases (lookup_head_of line) refl where
  cases : (found : Option (List ℕ)) → lookup_head_of line ≡ found
      → head_or found (format_head_of line) ≡ Some (OpensFormat n)
  cases (Some other) is = absurd (lookup-not_format line other n (exact-lookup_head.spells line other is) h)
  cases None is = ap (option_map OpensFormat) (exact-format_head.reads line n h)

head-spells : (line : List ℕ) (tag : HeadContents) → section_head_of line ≡ Some tag → section_head tag line
unfolding section_head_of
head-spells line tag e = cases (lookup_head_of line) refl (format_head_of line) refl e where
  cases : (found : Option (List ℕ)) → lookup_head_of line ≡ found → (other : Option (List ℕ))
      → format_head_of line ≡ other → head_or found other ≡ Some tag → section_head tag line
  cases (Some n) is other is_other e = subst (λ t. section_head t line) (let same : OpensLookup n
      ≡ tag = cc e in same) (exact-lookup_head.spells line n is)
  cases None is (Some n) is_other e = subst (λ t. section_head t line) (let same : OpensFormat n
      ≡ tag = cc e in same) (exact-format_head.spells line n is_other)
  cases None is None is_other e = absurd (cc e)

pub left-head-reads : (line : List ℕ) (tag : HeadContents) → is_left line ≡ true
    → section_head tag line → left_only section_head_of line ≡ Some tag
left-head-reads line tag is h = rw is (head-reads line tag h)

pub left-head-spells : (line : List ℕ) (tag : HeadContents) → left_only section_head_of line
    ≡ Some tag → (is_left line ≡ true) × section_head tag line
left-head-spells line tag e = cases (is_left line) refl e where
  cases : (left : Bool) → is_left line ≡ left → (if left then section_head_of line else None)
      ≡ Some tag → (is_left line ≡ true) × section_head tag line
  cases true is e = (is, head-spells line tag e)
  cases false is e = absurd (cc e)

-- the first byte of the first line of a section
head-first : (line : List ℕ) (tag : HeadContents) → section_head tag line → FirstIs (In (codes "LF")) line
head-first line (OpensLookup n) h = let f : FirstIs (In (codes "L")) line = lookup-first line n h in
    (f.0, f.1, f.2, in_within (codes "L") (codes "LF") refl f.0 f.3)
head-first line (OpensFormat n) h = let f : FirstIs (In (codes "F")) line = format-first line n h in
    (f.0, f.1, f.2, in_within (codes "F") (codes "LF") refl f.0 f.3)

pub head-apart-entry : (line : List ℕ) → IsListed (left_only section_head_of) line
    → IsListed (left_only entry_of) line → ⊥
head-apart-entry line x y = first-apart (In (codes "LF")) (In (codes "*0123456789"))
    (in_apart (codes "LF") (codes "*0123456789") refl) line
    (head-first line x.0 (left-head-spells line x.0 x.1).1)
    (entry-first line y.0 (left-spells entry entry_of exact-entry line y.0 y.1).1)

pub head-apart-display : (line : List ℕ) → IsListed (left_only section_head_of) line
    → IsListed (left_only display_head_of) line → ⊥
head-apart-display line x y =
    first-apart (In (codes "LF")) (In (codes "D")) (in_apart (codes "LF") (codes "D") refl) line
    (head-first line x.0 (left-head-spells line x.0 x.1).1) (display-first line y.0
    (left-spells display_head display_head_of exact-display_head line y.0 y.1).1)
