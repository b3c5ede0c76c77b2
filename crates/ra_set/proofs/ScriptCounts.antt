-- A script has no more conditions than its text has bytes.
use Rattle.std.proofs.Common.{◌≡◌, ◌∙◌, ℕ, ◌+◌, ◌≤◌, ◌==◌, Bool, true, false, if◌then◌else◌, List, [], ◌∷◌, ◌++◌}
use Rattle.std.proofs.Common.{length, Some, None, refl, sym, ap, subst, arith, append-nil, length-append, inl, inr}
use Rattle.std.specs.List.{sum_by, flat_map}
use Rattle.std.proofs.lemmas.Grind.{flat_map-append}
use Rattle.std.proofs.lemmas.List.Sums.{sum_by-cons, sum_by-append}
use Rattle.ra_condition.specs.Contents.{TriggerContents}
use Rattle.ra_richpresence.specs.Contents.{PieceContents, Bytes, Shows, LineContents, ScriptContents}
use Rattle.ra_richpresence.specs.Cut.{left_lines}
use Rattle.ra_richpresence.specs.Grammar.{many, shown_character, macro, text_before, joined_texts, pieces, test}
use Rattle.ra_richpresence.specs.Grammar.{tested_line, untested_line, last_line, LineOf, display, ScriptParts}
use Rattle.ra_richpresence.specs.Grammar.{script_lines, script_parts, script}
use Rattle.ra_richpresence.proofs.Lengths.{bytes_in, left_lines-shorter}
use Rattle.ra_set.specs.Counting.{piece_conditions}
use Rattle.ra_set.specs.Limits.{optional_trigger, line_conditions, script_conditions}
use Rattle.ra_set.proofs.CountLemmas.{pieces_sum}
use Rattle.ra_set.proofs.TextCounts.{trigger-count, value-count}
use Rattle.ra_text.specs.Form.{Form, optional, ◌or◌}
use Rattle.ra_text.specs.Table.{lookup, bytes_for}

-- a list of items has no more than its text has, where each item has no more than its own
many-sum : {A V : Type 0} (long : List A → ℕ) (joins : (t u : List A) → long (t ++ u)
    ≡ long t + long u) (item : Form A V) (size : V → ℕ) (small : (t : List A) (v : V) → item t v
    → size v ≤ long t)
    → (t : List A) (vs : List V) → many item t vs → sum_by size vs ≤ long t
many-sum long joins item size small t [] h = omega arith
many-sum long joins item size small t (v ∷ vs) h =
    let first = small h.front v h.of_item in
    let more = many-sum long joins item size small h.behind vs h.of_others in
    omega (arith, first, more, ap long h.parts, joins h.front h.behind, sum_by-cons size v vs)

-- ---- pieces

macro-count : (t : List ℕ) (p : PieceContents) → macro t p → piece_conditions p ≤ length t
macro-count t p h =
    let name = h.of_next in
    let opening = name.of_next in
    let shown = opening.of_next in
    let count = value-count shown.front shown.v shown.of_first in
    omega (
      arith,
      count,
      ap piece_conditions shown.of_next.of_next.is,
      ap length h.parts,
      length-append h.front h.behind,
      ap length name.parts,
      length-append name.front name.behind,
      ap length opening.parts,
      length-append opening.front opening.behind,
      ap length shown.parts,
      length-append shown.front shown.behind,
    )

piece-count : (t : List ℕ) (p : PieceContents) → (shown_character or macro) t p → piece_conditions p ≤ length t
piece-count t p (inl h) = omega (arith, ap piece_conditions h.of_next.is)
piece-count t p (inr h) = macro-count t p h

-- a text before pieces has no conditions
before-sum : (text : List ℕ) (found : List PieceContents)
    → sum_by piece_conditions (text_before text found) ≡ sum_by piece_conditions found
before-sum text [] = sum_by-cons piece_conditions (Bytes text) []
before-sum text (Bytes next ∷ found) = sum_by-cons piece_conditions (Bytes (text ++ next)) found
    ∙ sym (sum_by-cons piece_conditions (Bytes next) found)
before-sum text (Shows name value ∷ found) =
    omega (arith, sum_by-cons piece_conditions (Bytes text) (Shows name value ∷ found))

joined-sum : (found : List PieceContents) → sum_by piece_conditions (joined_texts found) ≡ sum_by piece_conditions found
joined-sum [] = refl
joined-sum (Bytes text ∷ found) =
    omega (
      arith,
      before-sum text (joined_texts found),
      joined-sum found,
      sum_by-cons piece_conditions (Bytes text) found,
    )
joined-sum (Shows name value ∷ found) =
    omega (
      arith,
      joined-sum found,
      sum_by-cons piece_conditions (Shows name value) found,
      sum_by-cons piece_conditions (Shows name value) (joined_texts found),
    )

-- the lone backslash at the end, if there is one, has no conditions
last-sum : (t : List ℕ) (last : List PieceContents) → optional (lookup
    (bytes_for (92 ∷ []) (Bytes (92 ∷ []) ∷ []))) [] t last → sum_by piece_conditions last ≡ 0
last-sum t last (inl h) = cases (h.symbol == 92) h.listed where
  cases : (same : Bool) → (if same then Some (Bytes (92 ∷ []) ∷ []) else None) ≡ Some last
      → sum_by piece_conditions last ≡ 0
  cases true e = subst (λ l. sum_by piece_conditions l ≡ 0) (let is : Bytes (92 ∷ []) ∷ [] ≡ last =
      cc e in is) (sum_by-cons piece_conditions (Bytes (92 ∷ [])) [])
  cases false e = absurd (cc e)
last-sum t last (inr h) = ap (sum_by piece_conditions) h.is

pieces-count : (t : List ℕ) (ps : List PieceContents) → pieces t ps → sum_by piece_conditions ps ≤ length t
pieces-count t ps h =
    let line = h.of_first in
    let items = many-sum length length-append
    (shown_character or macro) piece_conditions piece-count line.front line.v line.of_first in
    omega (
      arith,
      items,
      ap (sum_by piece_conditions) h.of_next.is,
      joined-sum h.v,
      ap (sum_by piece_conditions) line.of_next.of_next.is,
      sum_by-append piece_conditions line.v line.of_next.v,
      last-sum line.of_next.front line.of_next.v line.of_next.of_first,
      ap length h.parts,
      length-append h.front h.behind,
      ap length line.parts,
      length-append line.front line.behind,
    )

-- ---- lines

test-count : (t : List ℕ) (v : TriggerContents) → test t v → optional_trigger (Some v) ≤ length t
test-count t v h =
    let found = h.of_next in
    let count = trigger-count found.front found.v found.of_first in
    omega (
      arith,
      count,
      ap (λ w. optional_trigger (Some w)) found.of_next.of_next.is,
      ap length h.parts,
      length-append h.front h.behind,
      ap length found.parts,
      length-append found.front found.behind,
    )

tested-count : (t : List ℕ) (v : LineContents) → tested_line t v → line_conditions v ≤ length t
tested-count t v h =
    let found = test-count h.front h.v h.of_first in
    let shown = pieces-count h.of_next.front h.of_next.v h.of_next.of_first in
    omega (
      arith,
      found,
      shown,
      pieces_sum h.of_next.v,
      ap line_conditions h.of_next.of_next.is,
      ap length h.parts,
      length-append h.front h.behind,
      ap length h.of_next.parts,
      length-append h.of_next.front h.of_next.behind,
    )

untested-count : (t : List ℕ) (v : LineContents) → untested_line t v → line_conditions v ≤ length t
untested-count t v h =
    let shown = pieces-count h.front h.v h.of_first in
    omega (
      arith,
      shown,
      pieces_sum h.v,
      ap line_conditions h.of_next.is,
      ap length h.parts,
      length-append h.front h.behind,
    )

-- ---- the script

-- the bytes of lines that are joined
pub bytes-join : (t u : List (List ℕ)) → bytes_in (t ++ u) ≡ bytes_in t + bytes_in u
bytes-join t u = ap length (flat_map-append (λ line. line) t u)
    ∙ length-append (flat_map (λ line. line) t) (flat_map (λ line. line) u)

-- a line of a form, among the lines
line-count : (form : Form ℕ LineContents) → ((t : List ℕ) (v : LineContents) → form t v
    → line_conditions v ≤ length t) → (t : List (List ℕ)) (v : LineContents) → LineOf form t v
    → line_conditions v ≤ bytes_in t
line-count form small t v h =
    omega (arith, small h.line v h.of_form, ap bytes_in h.alone, ap length (append-nil h.line))

display-count : (t : List (List ℕ)) (lines : List LineContents) → display t lines
    → sum_by line_conditions lines ≤ bytes_in t
display-count t lines h =
    let tested = h.of_next in
    let last = tested.of_next in
    let others = many-sum bytes_in bytes-join (LineOf tested_line) line_conditions
    (line-count tested_line tested-count) tested.front tested.v tested.of_first in
    let final = line-count last_line (λ t v l. untested-count t v l.1) last.front last.v last.of_first in
    omega (
      arith,
      others,
      final,
      ap (sum_by line_conditions) last.of_next.is,
      sum_by-append line_conditions tested.v (last.v ∷ []),
      sum_by-cons line_conditions last.v [],
      ap bytes_in h.parts,
      bytes-join h.front h.behind,
      ap bytes_in tested.parts,
      bytes-join tested.front tested.behind,
      ap bytes_in last.parts,
      bytes-join last.front last.behind,
    )

lines-count : (t : List (List ℕ)) (parts : ScriptParts) → script_lines t parts
    → sum_by line_conditions parts.lines ≤ bytes_in t
lines-count t parts h =
    let shown = h.of_next in
    let count = display-count shown.front shown.v shown.of_first in
    omega (
      arith,
      count,
      ap (λ p. sum_by line_conditions p.lines) shown.of_next.of_next.is,
      ap bytes_in h.parts,
      bytes-join h.front h.behind,
      ap bytes_in shown.parts,
      bytes-join shown.front shown.behind,
    )

-- the conditions of a script are no more than the bytes of its text
pub script-count : (text : List ℕ) (parts : ScriptParts) → script_parts text parts
    → sum_by line_conditions parts.lines ≤ length text
script-count text parts h = let count = lines-count (left_lines text) parts h in
    let shorter = left_lines-shorter text in omega (arith, count, shorter)

-- the same of the script that a text spells
pub script-conditions : (text : List ℕ) (v : ScriptContents) → script text v → script_conditions (Some v) ≤ length text
script-conditions text v h = let count = script-count text h.parts h.spelled in
    omega (arith, count, ap (λ s. script_conditions (Some s)) h.made)
