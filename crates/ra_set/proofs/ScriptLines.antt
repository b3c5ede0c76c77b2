-- The lines of a script, and the first bad place of one, are within its text.
use Rattle.std.proofs.Common.{◌≡◌, ◌∙◌, ℕ, ◌+◌, ◌<◌, ◌≤◌, ◌^◌, true, List, [], ◌∷◌, length, take, drop, sym, ap, arith}
use Rattle.std.proofs.Common.{length-append, append-nil, take-append-drop}
use Rattle.std.specs.List.{flat_map}
use Rattle.ra_richpresence.specs.Contents.{LineContents, script_contents}
use Rattle.ra_richpresence.specs.Cut.{lines_of, is_left, left_lines}
use Rattle.ra_richpresence.specs.Grammar.{LineOf, many, display, ScriptParts, script_lines, script_parts}
use Rattle.ra_richpresence.specs.Places.{IsFirstBad}
use Rattle.ra_richpresence.specs.Texts.{IsRead}
use Rattle.ra_richpresence.specs.declared.read.ReadScript.{ReadScript}
use Rattle.ra_richpresence.proofs.Fronts.{lines-whole}
use Rattle.ra_richpresence.proofs.Lengths.{bytes_in, left_lines-shorter}
use Rattle.ra_set.proofs.ScriptCounts.{bytes-join}
use Rattle.ra_text.specs.Form.{Form}

-- a line that is left has a byte
left-some : (line : List ℕ) → is_left line ≡ true → 1 ≤ length line
left-some [] e = absurd (cc e)
left-some (byte ∷ line) e = omega arith

line-some : {V : Type 0} (form : Form ℕ V) (t : List (List ℕ)) (v : V) → LineOf form t v → 1 ≤ bytes_in t
line-some form t v h = let some = left-some h.line h.left in
    omega (arith, some, ap bytes_in h.alone, ap length (append-nil h.line))

many-some : {V : Type 0} (form : Form ℕ V) (t : List (List ℕ)) (vs : List V)
    → many (LineOf form) t vs → length vs ≤ bytes_in t
many-some form t [] h = omega arith
many-some form t (v ∷ vs) h =
    let first = line-some form h.front v h.of_item in
    let others = many-some form h.behind vs h.of_others in
    omega (arith, first, others, ap bytes_in h.parts, bytes-join h.front h.behind)

display-some : (t : List (List ℕ)) (lines : List LineContents) → display t lines
    → (length lines ≤ bytes_in t) × (1 ≤ bytes_in t)
display-some t lines h =
    let head = line-some _ h.front h.v h.of_first in
    let tested = h.of_next in
    let others = many-some _ tested.front tested.v tested.of_first in
    let last = line-some _ tested.of_next.front tested.of_next.v tested.of_next.of_first in
    let count : length lines ≡ length tested.v + 1 =
    ap length tested.of_next.of_next.is ∙ length-append tested.v (tested.of_next.v ∷ []) in
    let bytes : bytes_in t ≡ bytes_in h.front
    + (bytes_in tested.front + (bytes_in tested.of_next.front + bytes_in tested.of_next.behind)) =
    omega (
      arith,
      ap bytes_in h.parts,
      bytes-join h.front h.behind,
      ap bytes_in tested.parts,
      bytes-join tested.front tested.behind,
      ap bytes_in tested.of_next.parts,
      bytes-join tested.of_next.front tested.of_next.behind,
    ) in
    (omega (arith, head, others, last, count, bytes), omega (arith, head, bytes))

parts-some : (t : List (List ℕ)) (parts : ScriptParts) → script_lines t parts
    → (length parts.lines ≤ bytes_in t) × (1 ≤ bytes_in t)
parts-some t parts h =
    let shown = h.of_next in
    let some = display-some shown.front shown.v shown.of_first in
    let lines : length parts.lines ≡ length shown.v = ap (λ p. length p.lines) shown.of_next.of_next.is in
    let bytes : bytes_in t ≡ bytes_in h.front + (bytes_in shown.front + bytes_in shown.behind) =
    omega (
      arith,
      ap bytes_in h.parts,
      bytes-join h.front h.behind,
      ap bytes_in shown.parts,
      bytes-join shown.front shown.behind,
    ) in
    (omega (arith, some.0, lines, bytes), omega (arith, some.1, bytes))

-- a script has no more lines than its text has bytes
pub parts-lines : (text : List ℕ) (parts : ScriptParts) → script_parts text parts → length parts.lines ≤ length text
parts-lines text parts h = let some = parts-some (left_lines text) parts h in
    let shorter = left_lines-shorter text in omega (arith, some.0, shorter)

-- no script is empty
pub no-empty_script : (parts : ScriptParts) → script_parts [] parts → ⊥
no-empty_script parts h = let some = parts-some (left_lines []) parts h in
    let shorter = left_lines-shorter [] in omega (arith, some.1, shorter)

-- what was read of a text within the bytes of a set has few lines
pub read-lines : (text : List ℕ) (read : ReadScript) → length text ≤ 4194304 → IsRead text 1024 read
    → length (script_contents read.script).lines < 2 ^ 32
read-lines text read within h = let few = parts-lines text h.parts h.spelled in
    omega (arith, few, ap (λ s. length s.lines) h.is.made)

-- the first bad place is no further than the text
pub bad-within : (text : List ℕ) (place : ℕ) → IsFirstBad text place → place ≤ length text
bad-within text place h =
    let whole : length text ≡ length (flat_map (λ line. line) (take h.index (lines_of text)))
    + length (flat_map (λ line. line) (drop h.index (lines_of text))) =
    ap length (sym (lines-whole text)) ∙ ap bytes_in (sym (take-append-drop h.index
    (lines_of text))) ∙ bytes-join (take h.index (lines_of text)) (drop h.index (lines_of text)) in
    omega (arith, whole, h.is)
