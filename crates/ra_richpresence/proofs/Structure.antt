-- The structure of what scripts spell.
use Rattle.std.proofs.Common.{◌≡◌, inl, inr, ℕ, Bool, true, false, if◌then◌else◌, List, [], ◌∷◌, ◌++◌, Some}
use Rattle.std.proofs.Common.{None, refl, sym, subst}
use Rattle.std.specs.List.{AllByRecursion, filter_map}
use Rattle.std.specs.Prelude.{All}
use Rattle.std.proofs.lemmas.List.Elements.{All-from_recursion}
use Rattle.ra_condition.specs.Spelled.{IsTrigger}
use Rattle.ra_condition.proofs.Structure.{trigger-structure, value-structure}
use Rattle.ra_richpresence.specs.Contents.{PieceContents, Bytes, Shows, LineContents}
use Rattle.ra_richpresence.specs.Grammar.{many, shown_character, macro, text_before, joined_texts, pieces, tested_line}
use Rattle.ra_richpresence.specs.Grammar.{last_line, LineOf, SectionContents, Looks, Formats, name_of, is_taken}
use Rattle.ra_richpresence.specs.Grammar.{first_named, format_in, section, display, ScriptParts, script_of}
use Rattle.ra_richpresence.specs.Grammar.{script_lines}
use Rattle.ra_richpresence.specs.Spelled.{IsPiece, IsTested, IsUntested, IsDisplay, IsScript}
use Rattle.ra_text.specs.Form.{Form, optional, ◌or◌}
use Rattle.ra_text.specs.Table.{lookup, bytes_for}
use Rattle.ra_value_format.specs.declared.format.Format.{Format}
use Rattle.ra_value_format.specs.Formats.{HasDigits}
use Rattle.ra_value_format.proofs.FormatDigits.{format-digits}

-- what holds of each item that is spelled holds of each in a list of them
each-many : {A V : Type 0} (item : Form A V) (P : V → Type 0) → ((t : List A) (v : V) → item t v
    → P v) → (t : List A) (vs : List V) → many item t vs → AllByRecursion P vs
each-many item P holds t [] h = tt
each-many item P holds t (v ∷ vs) h = (holds h.front v h.of_item, each-many item P holds h.behind vs h.of_others)

each-append : {V : Type 0} (P : V → Type 0) (xs ys : List V) → AllByRecursion P xs
    → AllByRecursion P ys → AllByRecursion P (xs ++ ys)
each-append P [] ys a b = b
each-append P (x ∷ xs) ys a b = (a.0, each-append P xs ys a.1 b)

-- ---- pieces

-- what holds of the text before pieces, and of those
text_before-each : (text : List ℕ) (found : List PieceContents) → (text ≡ [] → ⊥)
    → AllByRecursion IsPiece found → AllByRecursion IsPiece (text_before text found)
text_before-each text [] some all = (some, tt)
text_before-each text (Bytes next ∷ found) some all = (longer text next some, all.1) where
  longer : (text next : List ℕ) → (text ≡ [] → ⊥) → text ++ next ≡ [] → ⊥
  longer [] next some e = some refl
  longer (c ∷ text) next some e = cc e
text_before-each text (Shows n v ∷ found) some all = (some, all)

joined-each : (found : List PieceContents) → AllByRecursion IsPiece found → AllByRecursion IsPiece (joined_texts found)
joined-each [] all = tt
joined-each (Bytes text ∷ found) all = text_before-each text (joined_texts found) all.0 (joined-each found all.1)
joined-each (Shows n v ∷ found) all = (all.0, joined-each found all.1)

-- a text of one byte is not empty
one-byte : (byte : ℕ) (text : List ℕ) → text ≡ byte ∷ [] → text ≡ [] → ⊥
one-byte byte text is none = cc (is, none)

piece-structure : (t : List ℕ) (v : PieceContents) → (shown_character or macro) t v → IsPiece v
piece-structure t v (inl h) = subst IsPiece (sym h.of_next.is) (λ none. cc none)
piece-structure t v (inr h) = subst IsPiece (sym h.of_next.of_next.of_next.of_next.of_next.is)
    (value-structure h.of_next.of_next.of_next.front h.of_next.of_next.of_next.v
    h.of_next.of_next.of_next.of_first)

-- the lone backslash at the end, if there is one
last-structure : (t : List ℕ) (last : List PieceContents) → optional
    (lookup (bytes_for (92 ∷ []) (Bytes (92 ∷ []) ∷ []))) [] t last → AllByRecursion IsPiece last
last-structure t last (inl h) = cases (Rattle.std.specs.Bool.◌==◌ h.symbol 92) h.listed where
  cases : (same : Bool) → (if same then Some (Bytes (92 ∷ []) ∷ []) else None) ≡ Some last → AllByRecursion IsPiece last
  cases true e = subst (AllByRecursion IsPiece) (let is : Bytes (92 ∷ []) ∷ [] ≡ last = cc e in
      is) ((λ none. cc none), tt)
  cases false e = absurd (cc e)
last-structure t last (inr h) = subst (AllByRecursion IsPiece) (sym h.is) tt

pieces-structure : (t : List ℕ) (v : List PieceContents) → pieces t v → All IsPiece v
pieces-structure t v h = All-from_recursion IsPiece v (subst (AllByRecursion IsPiece) (sym h.of_next.is)
    (joined-each h.v (subst (AllByRecursion IsPiece) (sym h.of_first.of_next.of_next.is)
    (each-append IsPiece h.of_first.v h.of_first.of_next.v (each-many (shown_character or macro)
    IsPiece piece-structure h.of_first.front h.of_first.v h.of_first.of_first) (last-structure
    h.of_first.of_next.front h.of_first.of_next.v h.of_first.of_next.of_first)))))

-- ---- lines

tested-structure : (t : List ℕ) (v : LineContents) → tested_line t v → IsTested v
tested-structure t v h = subst IsTested (sym h.of_next.of_next.is) (record {
  test = h.v;
  tested = refl;
  spelled = subst IsTrigger (sym h.of_first.of_next.of_next.of_next.is)
      (trigger-structure h.of_first.of_next.front h.of_first.of_next.v h.of_first.of_next.of_first);
  pieces = pieces-structure h.of_next.front h.of_next.v h.of_next.of_first;
})

last_line-structure : (t : List ℕ) (v : LineContents) → last_line t v → IsUntested v
last_line-structure t v h = subst IsUntested (sym h.1.of_next.is)
    (record { untested = refl; pieces = pieces-structure h.1.front h.1.v h.1.of_first })

display-structure : (t : List (List ℕ)) (v : List LineContents) → display t v → IsDisplay v
display-structure t v h = record {
  front = h.of_next.v;
  last = h.of_next.of_next.v;
  parts = h.of_next.of_next.of_next.is;
  tested = All-from_recursion IsTested h.of_next.v (each-many (LineOf tested_line) IsTested (λ t v
      h. tested-structure h.line v h.of_form) h.of_next.front h.of_next.v h.of_next.of_first);
  untested = last_line-structure h.of_next.of_next.of_first.line h.of_next.of_next.v h.of_next.of_next.of_first.of_form;
}

-- ---- formats

-- the format of a section is one that a name has
abbrev SectionDigits : SectionContents → Type 0
SectionDigits (Looks n entries) = Unit {0}
SectionDigits (Formats n format) = HasDigits format

section-digits : (t : List (List ℕ)) (v : SectionContents) → section t v → SectionDigits v
section-digits t v (inl h) = subst SectionDigits (sym h.of_next.of_next.is) tt
section-digits t v (inr h) = subst SectionDigits (sym h.of_next.of_next.is)
    (subst HasDigits (sym h.of_next.of_first.of_form.of_next.of_next.is)
    (format-digits h.of_next.of_first.of_form.of_next.v))

first-each : (P : SectionContents → Type 0) (names : List (List ℕ)) (sections : List
    SectionContents) → AllByRecursion P sections → AllByRecursion P (first_named names sections)
first-each P names [] all = tt
first-each P names (s ∷ sections) all = cases (is_taken names (name_of s))
    (first-each P names sections all.1) (first-each P (name_of s ∷ names) sections all.1) where
      cases : (taken : Bool) → AllByRecursion P (first_named names sections)
          → AllByRecursion P (first_named (name_of s ∷ names) sections) → AllByRecursion P
          (if taken then first_named names sections else s ∷ first_named (name_of s ∷ names) sections)
      cases true same fresh = same
      cases false same fresh = (all.0, fresh)

formats-each : (sections : List SectionContents) → AllByRecursion SectionDigits sections
    → AllByRecursion (λ format. HasDigits format.1) (filter_map format_in sections)
formats-each [] all = tt
formats-each (Looks n entries ∷ sections) all = formats-each sections all.1
formats-each (Formats n format ∷ sections) all = (all.0, formats-each sections all.1)

-- ---- scripts

pub script-structure : (t : List (List ℕ)) (v : ScriptParts) → script_lines t v → IsScript (script_of v)
script-structure t v h = subst (λ parts. IsScript (script_of parts)) (sym h.of_next.of_next.of_next.is) (record {
  formats = All-from_recursion (λ (format : List ℕ × Format). HasDigits format.1)
      (script_of (record { sections = h.v ++ h.of_next.of_next.v; lines = h.of_next.v })).formats
      (formats-each (first_named [] (h.v ++ h.of_next.of_next.v)) (first-each SectionDigits []
      (h.v ++ h.of_next.of_next.v) (each-append SectionDigits h.v h.of_next.of_next.v
      (each-many section SectionDigits section-digits h.front h.v h.of_first)
      (each-many section SectionDigits section-digits h.of_next.of_next.front h.of_next.of_next.v
      h.of_next.of_next.of_first))));
  lines = display-structure h.of_next.front h.of_next.v h.of_next.of_first;
})
