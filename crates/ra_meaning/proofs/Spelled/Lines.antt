-- The lines of a display are ones that some text spells, and a test has as many conditions as its member.
use Rattle.std.proofs.Common.{◌≡◌, Option, None, Some, List, [], ◌∷◌, get_or, sum_by, All, IfSome, refl, sym, subst}
use Rattle.std.proofs.Common.{arith}
use Rattle.std.proofs.lemmas.List.Elements.{All-append, All-cons, All-nil}
use Rattle.ra_condition.specs.Contents.{TriggerContents, trigger_hits}
use Rattle.ra_condition.specs.Spelled.{IsTrigger}
use Rattle.ra_richpresence.specs.Contents.{LineContents}
use Rattle.ra_richpresence.specs.Spelled.{IsTested, IsUntested, IsDisplay}
use Rattle.ra_set.specs.Limits.{optional_trigger}
use Rattle.ra_meaning.specs.LineMembers.{tests_in}
use Rattle.ra_meaning.specs.ShownLines.{IsShownLine}

-- a line's test has as many conditions as its member
pub test_conditions : (test : Option TriggerContents) → sum_by trigger_hits (tests_in test) ≡ optional_trigger test
test_conditions None = refl
test_conditions (Some t) = omega arith

-- the lines of a display are ones that some text spells
tested_shown : (line : LineContents) → IsTested line → IsShownLine line
tested_shown line is = record { test = subst (λ t. IfSome t IsTrigger) (sym is.tested) is.spelled; pieces = is.pieces }

untested_shown : (line : LineContents) → IsUntested line → IsShownLine line
untested_shown line is = record { test = subst (λ t. IfSome t IsTrigger) (sym is.untested) tt; pieces = is.pieces }

pub shown_lines : (lines : List LineContents) → IsDisplay lines → All IsShownLine lines
shown_lines lines is =
    let front : All IsShownLine is.front = λ k d within. tested_shown (get_or is.front k d) (is.tested k d within) in
    let last : All IsShownLine (is.last ∷ []) =
    All-cons IsShownLine is.last [] (untested_shown is.last is.untested) (All-nil IsShownLine) in
    subst (All IsShownLine) (sym is.parts) (All-append IsShownLine is.front (is.last ∷ []) front last)
