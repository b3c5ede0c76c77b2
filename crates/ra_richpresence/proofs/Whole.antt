-- From the lines that were read to the script of a text, and to its first bad place.
use Rattle.std.proofs.Common.{◌≡◌, ◌∙◌, ◌≤◌, ◌-◌, ◌==◌, ℕ, true, false, List, [], ◌∷◌, ◌++◌, length, map, drop, Vec}
use Rattle.std.proofs.Common.{Global, Ok, Err, refl, sym, ap, subst, arith, eqb-true}
use Rattle.std.proofs.lemmas.List.{length-map, nil_from_length}
use Rattle.ra_condition.specs.declared.fault.Fault.{Fault}
use Rattle.ra_condition.specs.declared.fault.Fault.TheVariants.{Stop, Memory}
use Rattle.ra_richpresence.specs.Contents.{LineContents, line_contents}
use Rattle.ra_richpresence.specs.Cut.{lines_of, left_lines}
use Rattle.ra_richpresence.specs.Following.{MovesAsUnlessFull, MovesUnlessFull, bytes_of, view_of}
use Rattle.ra_richpresence.specs.Grammar.{SectionContents, ScriptParts, script_parts}
use Rattle.ra_richpresence.specs.Kept.{Keeps, KeepsUnlessFull}
use Rattle.ra_richpresence.specs.Placed.{placed, first_place}
use Rattle.ra_richpresence.specs.Places.{IsOutside}
use Rattle.ra_richpresence.specs.Reading.{sections_at, display_at, script_at}
use Rattle.ra_richpresence.specs.Texts.{IsScriptOf}
use Rattle.ra_richpresence.specs.declared.script.Script.{Script}
use Rattle.ra_richpresence.specs.declared.kept.Kept.{Kept}
use Rattle.ra_richpresence.specs.declared.line.Line.{Line}
use Rattle.ra_richpresence.specs.declared.script_line.ScriptLine.{ScriptLine}
use Rattle.ra_richpresence.proofs.Fronts.{lines_in, taken_of, placed-kept, whole-parts, outside-script}
use Rattle.ra_richpresence.proofs.ScriptReaders.{reads-script}
use Rattle.ra_text.specs.Reading.{Outcome, rest_of, ◌>>=◌}
use Rattle.ra_text.proofs.Steps.{reads-shorter}

-- ---- the parts of a script

-- the parts of these sections and these lines
abbrev pub parts_with : List SectionContents → List LineContents → ScriptParts
parts_with sections lines = record { sections = sections; lines = lines }

-- lookups and formats before the display
pub script-starts : (lines rest : List (List ℕ)) (before : List SectionContents) → sections_at lines
    ≡ Ok (before, rest) → script_at lines ≡ (display_at rest >>= λ shown. sections_at shown.1
    >>= λ behind. Ok (parts_with (before ++ behind.0) shown.0, behind.1))
unfolding script_at
script-starts lines rest before read = ap (λ o. o >>= λ before. display_at before.1 >>= λ shown.
    sections_at shown.1 >>= λ behind. Ok (parts_with (before.0 ++ behind.0) shown.0, behind.1)) read

pub script-none : (lines rest : List (List ℕ)) → sections_at lines ≡ Err rest → script_at lines ≡ Err rest
unfolding script_at
script-none lines rest fails = ap (λ o. o >>= λ before. display_at before.1 >>= λ shown. sections_at
    shown.1 >>= λ behind. Ok (parts_with (before.0 ++ behind.0) shown.0, behind.1)) fails

-- no display
pub script-no_display : (lines rest left : List (List ℕ)) (before : List SectionContents) →
    sections_at lines ≡ Ok (before, rest) → display_at rest ≡ Err left → script_at lines ≡ Err left
script-no_display lines rest left before read fails =
    script-starts lines rest before read ∙ ap (λ o. o >>= λ shown. sections_at shown.1
    >>= λ behind. Ok (parts_with (before ++ behind.0) shown.0, behind.1)) fails

pub script-shows : (lines rest left : List (List ℕ)) (before : List SectionContents)
    (shown : List LineContents) → sections_at lines ≡ Ok (before, rest) → display_at rest
    ≡ Ok (shown, left) → script_at lines
    ≡ (sections_at left >>= λ behind. Ok (parts_with (before ++ behind.0) shown, behind.1))
script-shows lines rest left before shown read display =
    script-starts lines rest before read ∙ ap (λ o. o >>= λ shown. sections_at shown.1
    >>= λ behind. Ok (parts_with (before ++ behind.0) shown.0, behind.1)) display

-- ---- the lines of a text

bytes-view : (lines : List ScriptLine) → map (λ line. line.1) (map view_of lines) ≡ bytes_of lines
bytes-view [] = refl
bytes-view (line ∷ lines) = ap (λ t. line.bytes.now ∷ t) (bytes-view lines)

-- no lines have no bytes
no-lines : (rest : List ScriptLine) → true ≡ (length rest == 0) → bytes_of rest ≡ []
no-lines rest e = ap bytes_of (nil_from_length rest (eqb-true (length rest) 0 (sym e)))

module _ (text : List ℕ) (all : List ScriptLine) (cut : map view_of all ≡ placed 0 (lines_of text)) where
  lines-left : bytes_of all ≡ left_lines text
  lines-left = sym (bytes-view all) ∙ ap (map (λ line. line.1)) cut ∙ placed-kept 0 (lines_of text)

  pub spells-parts : (v : ScriptParts) (rest : List ScriptLine) → script_at (bytes_of all)
      ≡ Ok (v, bytes_of rest) → true ≡ (length rest == 0) → script_parts text v
  spells-parts v rest read none =
      let nothing : bytes_of rest ≡ [] = no-lines rest none in
      whole-parts text (Ok (v, bytes_of rest)) (ap script_at (sym lines-left) ∙ read) v (ap (λ t. Ok (v, t)) nothing)

  -- the lines that are left are some of all
  pub left-fits : (outcome : Outcome (List ℕ) ScriptParts) (rest : List ScriptLine) → script_at
      (bytes_of all) ≡ outcome → rest_of outcome ≡ bytes_of rest → length rest ≤ length all
  left-fits outcome rest read left =
      let shorter : length (rest_of outcome) ≤ length (bytes_of all) = subst (λ o. length
      (rest_of o) ≤ length (bytes_of all)) read (reads-shorter (reads-script (bytes_of all))) in
      omega (
        arith,
        ap length left,
        length-map rest (λ (line : ScriptLine). line.bytes.now),
        length-map all (λ (line : ScriptLine). line.bytes.now),
      )

  pub refuses-script : (outcome : Outcome (List ℕ) ScriptParts) (rest : List ScriptLine)
      → script_at (bytes_of all) ≡ outcome → rest_of outcome ≡ bytes_of rest
      → ((v : ScriptParts) → outcome ≡ Ok (v, []) → ⊥)
      → (place : ℕ) → place ≡ first_place (drop (length all - length rest) (map view_of all))
      (length text) → IsOutside text place
  refuses-script outcome rest read left not_whole place at =
      let index : length all - length rest ≡ taken_of text outcome =
      omega (
        arith,
        length-map all view_of,
        ap length cut,
        ap length left,
        length-map rest (λ (line : ScriptLine). line.bytes.now),
      ) in
      outside-script text outcome (ap script_at (sym lines-left) ∙ read) not_whole place (at
      ∙ ap (λ lines. first_place (drop (length all - length rest) lines) (length text)) cut
      ∙ ap (λ n. first_place (drop n (lines_in text)) (length text)) index)

-- what was read where lines are left is no whole script
pub lines-left_over : (v : ScriptParts) (rest : List ScriptLine) → (length rest == 0) ≡ false → (w
    : ScriptParts) → ◌≡◌ {A = Outcome (List ℕ) ScriptParts} (Ok (v, bytes_of rest)) (Ok (w, [])) → ⊥
lines-left_over v [] some w e = cc some
lines-left_over v (line ∷ rest) some w e =
    absurd (let no_lines : bytes_of (line ∷ rest) ≡ [] = ap rest_of e in cc no_lines)

-- the sections behind the display end the script
pub script-ends : (lines rest left last : List (List ℕ)) (before behind : List SectionContents)
    (shown : List LineContents) → sections_at lines ≡ Ok (before, rest) → display_at rest
    ≡ Ok (shown, left) → sections_at left ≡ Ok (behind, last) → script_at lines
    ≡ Ok (parts_with (before ++ behind) shown, last)
script-ends lines rest left last before behind shown read display others =
    script-shows lines rest left before shown read display
    ∙ ap (λ o. o >>= λ behind. Ok (parts_with (before ++ behind.0) shown, behind.1)) others

pub script-last : (lines rest left last : List (List ℕ)) (before : List SectionContents)
    (shown : List LineContents) → sections_at lines ≡ Ok (before, rest) → display_at rest
    ≡ Ok (shown, left) → sections_at left ≡ Err last → script_at lines ≡ Err last
script-last lines rest left last before shown read display fails =
    script-shows lines rest left before shown read display
    ∙ ap (λ o. o >>= λ behind. Ok (parts_with (before ++ behind.0) shown, behind.1)) fails

-- what is kept of the sections is the script
pub script-kept : (most : ℕ) (sections : List SectionContents) (kept : Kept)
    (shown : Vec Line Global) (script : Script) → Keeps most sections kept → script.lookups
    ≡ kept.lookups → script.formats ≡ kept.formats → script.lines ≡ shown
    → IsScriptOf most (parts_with sections (map line_contents shown.items))
    (record { script = script; long = kept.long })
script-kept most sections kept shown script keeps lookups formats lines =
    record { made = cc (lookups, formats, lines, keeps.lookups, keeps.formats); long = keeps.long }

-- ---- faults that are handed on

pub sections-fault : {X V : Type 0} (stands : X → V → Type 0) (most : ℕ)
    (before : List SectionContents) (fault : Fault) (kept : Kept) (rest : List ScriptLine)
    (outcome : Outcome (List ℕ) (List SectionContents)) (whole : Outcome (List ℕ) V)
    → (outcome ≡ Err (bytes_of rest) → whole ≡ Err (bytes_of rest))
    → KeepsUnlessFull most before (Err fault) kept rest outcome → MovesAsUnlessFull stands (Err fault) rest whole
sections-fault stands most before Stop kept rest outcome whole stops h = stops h
sections-fault stands most before Memory kept rest outcome whole stops h = tt

pub display-fault : {X Y V W : Type 0} (view : X → V) (stands : Y → W → Type 0) (fault : Fault)
    (rest : List ScriptLine) (outcome : Outcome (List ℕ) V) (whole : Outcome (List ℕ) W)
    → (outcome ≡ Err (bytes_of rest) → whole ≡ Err (bytes_of rest)) → MovesUnlessFull view
    (Err fault) rest outcome → MovesAsUnlessFull stands (Err fault) rest whole
display-fault view stands Stop rest outcome whole stops h = stops h
display-fault view stands Memory rest outcome whole stops h = tt
