-- The readers of sections, of the display and of a script, line by line.
use Rattle.std.proofs.Common.{◌≡◌, ◌∙◌, ◌⊎◌, ◌≤◌, inl, inr, true, ℕ, List, [], ◌∷◌, ◌++◌, length, Ok, refl, ap, codes}
use Rattle.ra_richpresence.specs.Contents.{LineContents}
use Rattle.ra_richpresence.specs.Cut.{is_left}
use Rattle.ra_richpresence.specs.Grammar.{LineOf, many, format_type, entry, display_head, tested_line, last_line}
use Rattle.ra_richpresence.specs.Grammar.{SectionContents, Looks, Formats, section, display, ScriptParts, script_lines}
use Rattle.ra_richpresence.specs.Reading.{HeadContents, OpensLookup, OpensFormat, entries_at, entry_of, format_type_of}
use Rattle.ra_richpresence.specs.Reading.{section_head_of, section_behind_at, sections_at, display_head_of}
use Rattle.ra_richpresence.specs.Reading.{tested_line_of, tested_lines_at, last_line_of, display_at, script_at}
use Rattle.ra_richpresence.specs.Reading.{left_only, name_at, pieces_of, run_at}
use Rattle.ra_richpresence.proofs.LineForms.{exact-entry, exact-format_type, exact-display_head, exact-tested_line}
use Rattle.ra_richpresence.proofs.LineForms.{exact-last_line, section_head, left-head-reads, left-head-spells}
use Rattle.ra_richpresence.proofs.LineForms.{head-apart-entry, head-apart-display, entry-apart-display}
use Rattle.ra_richpresence.proofs.LineForms.{tested-apart-last, reader-line, reader-lines, begins-line}
use Rattle.ra_richpresence.proofs.Repeats.{Headed, reader-many}
use Rattle.ra_text.specs.Form.{Form, Spell, Then}
use Rattle.ra_text.specs.Reading.{Reads, rest_of, ◌>>=◌, one_at}
use Rattle.ra_text.proofs.Begins.{Begins, IsListed, begins-then, reader-behind}
use Rattle.ra_text.proofs.Either.{reader-map}
use Rattle.ra_text.proofs.Readers.{Reader, Listed, reader-then, reads-of}
use Rattle.ra_text.proofs.Steps.{reads-shorter}
use Rattle.ra_text.proofs.Spelled.{then-spelled}

-- what stands behind the first line of a section
abbrev pub section_behind : HeadContents → Form (List ℕ) SectionContents
section_behind (OpensLookup lookup_name) = Then (many (LineOf entry)) (λ entries. Spell (Looks lookup_name entries))
section_behind (OpensFormat format_name) = Then (LineOf format_type) (λ format. Spell (Formats format_name format))

head-section : (t : List (List ℕ)) (v : SectionContents) → section t v
    → Headed (left_only section_head_of) section_behind t v
head-section t v (inl h) = record {
  symbol = h.of_first.line;
  tag = OpensLookup h.v;
  behind = h.behind;
  is = h.parts ∙ ap (λ f. f ++ h.behind) h.of_first.alone;
  listed = left-head-reads h.of_first.line (OpensLookup h.v) h.of_first.left h.of_first.of_form;
  of_rest = h.of_next;
}
head-section t v (inr h) = record {
  symbol = h.of_first.line;
  tag = OpensFormat h.v;
  behind = h.behind;
  is = h.parts ∙ ap (λ f. f ++ h.behind) h.of_first.alone;
  listed = left-head-reads h.of_first.line (OpensFormat h.v) h.of_first.left h.of_first.of_form;
  of_rest = h.of_next;
}

section-head : (t : List (List ℕ)) (v : SectionContents)
    → Headed (left_only section_head_of) section_behind t v → section t v
section-head t v h = cases h.tag (left-head-spells h.symbol h.tag h.listed) h.of_rest where
  cases : (tag : HeadContents) → (is_left h.symbol ≡ true) × section_head tag h.symbol
      → section_behind tag h.behind v → section t v
  cases (OpensLookup n) p rest = inl (then-spelled (h.symbol ∷ []) h.behind n h.is
      (record { line = h.symbol; alone = refl; left = p.0; of_form = p.1 }) rest)
  cases (OpensFormat n) p rest = inr (then-spelled (h.symbol ∷ []) h.behind n h.is
      (record { line = h.symbol; alone = refl; left = p.0; of_form = p.1 }) rest)

-- the lines that go on with sections
abbrev pub section_on : List ℕ → Type 0
section_on line = IsListed (left_only section_head_of) line ⊎ IsListed (left_only entry_of) line

format_type-listed : Listed (left_only format_type_of)
unfolding format_type_of name_at
format_type-listed = record { symbol = codes "FormatType=A"; v = _; listed = refl }

reader-section_behind : (tag : HeadContents)
    → Reader (section_behind tag) (section_behind_at tag) (IsListed (left_only entry_of))
unfolding section_behind_at entries_at
reader-section_behind (OpensLookup n) = reader-map (many (LineOf entry))
    (run_at (left_only entry_of)) (IsListed (left_only entry_of)) (λ entries. Looks n entries)
    (reader-lines entry entry_of exact-entry)
reader-section_behind (OpensFormat n) = reader-map (LineOf format_type) (one_at (left_only
    format_type_of)) (IsListed (left_only entry_of)) (λ format. Formats n format) (reader-line
    format_type format_type_of exact-format_type (IsListed (left_only entry_of)) format_type-listed)

pub reader-sections : Reader (many section) sections_at section_on
unfolding sections_at
reader-sections = reader-many section (left_only section_head_of) section_behind head-section
    section-head section_behind_at section_on (IsListed (left_only entry_of)) reader-section_behind
    head-apart-entry (λ c on. inr on) (λ c h. inl h)

-- ---- the display

display_head-listed : Listed (left_only display_head_of)
unfolding display_head_of
display_head-listed = record { symbol = codes "Display:"; v = tt; listed = refl }

last_line-listed : Listed (left_only last_line_of)
unfolding last_line_of pieces_of
last_line-listed = record { symbol = codes "x"; v = _; listed = refl }

-- the lines behind the first of a display
abbrev display_lines : Form (List ℕ) (List LineContents)
display_lines = Then (many (LineOf tested_line))
    (λ tested. Then (LineOf last_line) (λ last. Spell (tested ++ last ∷ [])))

reader-display_lines : Reader display_lines (λ lines. tested_lines_at lines >>= λ tested. one_at
    (left_only last_line_of) tested.1 >>= λ last. Ok (tested.0 ++ last.0 ∷ [], last.1)) (λ line. ⊥)
unfolding tested_lines_at
reader-display_lines = reader-behind (many (LineOf tested_line)) (λ tested. Then (LineOf last_line)
    (λ last. Spell (tested ++ last ∷ []))) (run_at (left_only tested_line_of)) (λ tested. one_at
    (left_only last_line_of) tested.1 >>= λ last. Ok (tested.0 ++ last.0 ∷ [], last.1))
    (IsListed (left_only tested_line_of)) (IsListed (left_only last_line_of)) (λ line. ⊥)
    (reader-lines tested_line tested_line_of exact-tested_line)
    (λ tested. reader-map (LineOf last_line) (one_at (left_only last_line_of)) (λ line. ⊥)
    (λ last. tested ++ last ∷ [])
    (reader-line last_line last_line_of exact-last_line (λ line. ⊥) last_line-listed))
    (λ tested. begins-then (LineOf last_line) (λ last. Spell (tested ++ last ∷ []))
    (IsListed (left_only last_line_of)) (begins-line last_line last_line_of exact-last_line))
    tested-apart-last

pub reader-display : Reader display display_at (λ line. ⊥)
unfolding display_at
reader-display = reader-then (LineOf display_head) (λ head. display_lines) (one_at (left_only
    display_head_of)) (λ head. tested_lines_at head.1 >>= λ tested. one_at (left_only last_line_of)
    tested.1 >>= λ last. Ok (tested.0 ++ last.0 ∷ [], last.1)) (λ line. ⊥) (λ line. ⊥)
    (reader-line display_head display_head_of exact-display_head (λ line. ⊥) display_head-listed)
    (λ head. reader-display_lines) (λ head c s v h on. on) (λ head v h c on. on)

begins-display : Begins display (IsListed (left_only display_head_of))
begins-display = begins-then (LineOf display_head) (λ head. display_lines) (IsListed
    (left_only display_head_of)) (begins-line display_head display_head_of exact-display_head)

-- ---- the script

-- a display does not go on with sections
section-apart-display : (line : List ℕ) → section_on line → IsListed (left_only display_head_of) line → ⊥
section-apart-display line (inl head) h = head-apart-display line head h
section-apart-display line (inr found) h = entry-apart-display line found h

-- the sections behind a display
abbrev last_sections : List SectionContents → List LineContents → Form (List ℕ) ScriptParts
last_sections before lines =
    Then (many section) (λ behind. Spell (record { sections = before ++ behind; lines = lines }))

pub reader-script : Reader script_lines script_at section_on
unfolding script_at
reader-script = reader-behind (many section) (λ before. Then display (last_sections before))
    sections_at (λ before. display_at before.1 >>= λ shown. sections_at shown.1
    >>= λ rest. Ok (record { sections = before.0 ++ rest.0; lines = shown.0 }, rest.1))
    section_on (IsListed (left_only display_head_of)) section_on reader-sections
    (λ before. reader-then display (last_sections before) display_at
    (λ shown. sections_at shown.1 >>= λ rest. Ok
    (record { sections = before ++ rest.0; lines = shown.0 }, rest.1)) (λ line. ⊥) section_on
    reader-display (λ lines. reader-map (many section) sections_at section_on
    (λ behind. record { sections = before ++ behind; lines = lines }) reader-sections)
    (λ lines c s v h on. on) (λ lines v h c on. absurd on))
    (λ before. begins-then display (last_sections before) (IsListed (left_only display_head_of)) begins-display)
    section-apart-display

pub reads-script : (lines : List (List ℕ)) → Reads script_lines lines (script_at lines)
reads-script = reads-of script_lines script_at section_on reader-script

pub section_behind-shorter : (tag : HeadContents) (lines : List (List ℕ))
    → length (rest_of (section_behind_at tag lines)) ≤ length lines
section_behind-shorter tag lines = reads-shorter (reads-of (section_behind tag)
    (section_behind_at tag) (IsListed (left_only entry_of)) (reader-section_behind tag) lines)
