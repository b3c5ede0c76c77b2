-- A script that some text spells has operands of 32 bits, and its last line has no test.
use Rattle.std.proofs.Common.{◌≡◌, ◌<◌, ◌^◌, inl, inr, Option, None, Some, unwrap_or, List, [], ◌∷◌, ◌++◌, length, sym}
use Rattle.std.proofs.Common.{ap, subst}
use Rattle.std.specs.List.{AllByRecursion, filter_map}
use Rattle.std.proofs.lemmas.Option.{none-some}
use Rattle.std.proofs.lemmas.List.Elements.{recursion_from_All}
use Rattle.ra_condition.specs.Contents.{TriggerContents}
use Rattle.ra_condition.specs.Spelled.{IsTrigger}
use Rattle.ra_richpresence.specs.Contents.{PieceContents, Bytes, Shows, value_in, LineContents, ScriptContents}
use Rattle.ra_richpresence.specs.Spelled.{IsPiece, IsTested, IsUntested, IsDisplay, IsScript}
use Rattle.ra_set.specs.Spelled.{OptionalScript}
use Rattle.ra_meaning.specs.Order.{tests_in}
use Rattle.ra_meaning.proofs.Each.{each_append}
use Rattle.ra_meaning.proofs.Words.Members.{FitsTrigger, FitsValue}
use Rattle.ra_meaning.proofs.Words.Presence.{FitsLine, HasUntested, FitsScript}
use Rattle.ra_meaning.proofs.Spelled.Sets.{weaker, spelled_trigger, spelled_value}

spelled_pieces : (pieces : List PieceContents) → AllByRecursion IsPiece pieces
    → AllByRecursion FitsValue (filter_map value_in pieces)
spelled_pieces [] are = tt
spelled_pieces (Bytes text ∷ pieces) are = spelled_pieces pieces are.1
spelled_pieces (Shows name value ∷ pieces) are =
    (spelled_value value are.0, spelled_pieces pieces are.1)

spelled_test : (test : Option TriggerContents) (t : TriggerContents) → test ≡ Some t → IsTrigger t
    → AllByRecursion FitsTrigger (tests_in test)
spelled_test None t is spelled = tt
spelled_test (Some s) t is spelled =
    let same : s ≡ t = ap (λ (x : Option TriggerContents). unwrap_or x t) is in
    (subst FitsTrigger (sym same) (spelled_trigger t spelled), tt)

no_test : (test : Option TriggerContents) → test ≡ None → AllByRecursion FitsTrigger (tests_in test)
no_test None none = tt
no_test (Some t) none = absurd (none-some t (sym none))

tested_line : (line : LineContents) → IsTested line → FitsLine line
tested_line line is = record {
  tests = spelled_test line.test is.test is.tested is.spelled;
  values = spelled_pieces line.pieces (recursion_from_All IsPiece line.pieces is.pieces);
}

untested_line : (line : LineContents) → IsUntested line → FitsLine line
untested_line line is = record {
  tests = no_test line.test is.untested;
  values = spelled_pieces line.pieces (recursion_from_All IsPiece line.pieces is.pieces);
}

display_lines : (lines : List LineContents) → IsDisplay lines → AllByRecursion FitsLine lines
display_lines lines is =
    subst (AllByRecursion FitsLine) (sym is.parts)
    (each_append FitsLine is.front (is.last ∷ []) (weaker IsTested FitsLine tested_line is.front
    is.tested) (untested_line is.last is.untested, tt))

last_untested : (front : List LineContents) (last : LineContents) → last.test ≡ None → HasUntested (front ++ last ∷ [])
last_untested [] last none = inl none
last_untested (line ∷ front) last none = inr (last_untested front last none)

-- a script that some text spells
pub spelled_script : (script : ScriptContents) → IsScript script → FitsScript script
spelled_script script is = record {
  lines = display_lines script.lines is.lines;
  untested = subst HasUntested (sym is.lines.parts)
      (last_untested is.lines.front is.lines.last is.lines.untested.untested);
}

-- the script of a set, if there is one
pub script_in : (found : Option ScriptContents) → OptionalScript found → (script : ScriptContents)
    → found ≡ Some script → IsScript script × (length script.lines < 2 ^ 32)
script_in None is script some = absurd (none-some script some)
script_in (Some s) is script some =
    let same : s ≡ script = ap (λ (x : Option ScriptContents). unwrap_or x script) some in
    subst (λ (x : ScriptContents). IsScript x × (length x.lines < 2 ^ 32)) same is
