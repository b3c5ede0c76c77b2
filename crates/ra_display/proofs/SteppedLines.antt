-- The values of a line, stepped one after the other.
use Rattle.std.proofs.Common.{◌≡◌, ℕ, ◌+◌, ◌<◌, ◌≤◌, List, [], ◌∷◌, ◌++◌, length, map, take, drop, get_or, refl, sym}
use Rattle.std.proofs.Common.{◌∙◌, ap, subst, Vec, Global}
use Rattle.std.specs.List.{cons_option, filter_map}
use Rattle.std.proofs.lemmas.List.{append-nil, drop_all, take_all}
use Rattle.std.proofs.lemmas.List.Elements.{filter_map-append}
use Rattle.ra_condition.specs.declared.value_text.ValueText.{ValueText}
use Rattle.ra_condition.specs.Contents.{PartContents, value_contents}
use Rattle.ra_memref.specs.Table.{TableSeen}
use Rattle.ra_richpresence.specs.declared.piece.Piece.{Piece}
use Rattle.ra_richpresence.specs.declared.piece.Piece.TheVariants.{Text, Macro}
use Rattle.ra_richpresence.specs.Contents.{piece_contents, value_in}
use Rattle.ra_member.specs.declared.member.Member.{Member}
use Rattle.ra_member.specs.Beside.{AreBeside}
use Rattle.ra_member.specs.MemberRuns.{HasValue, StepsValueAt, StepsValues}
use Rattle.ra_member.proofs.Stepping.{AreValuesStepped, values_begin, value_here, value_on, values_end}
use Rattle.ra_member.specs.Runs.{IsValueRun}
use Rattle.ra_member.proofs.GrowthLemmas.{taken_next, dropped_next}

-- the values of the macros among some pieces
abbrev pub macros_in : List Piece → List (List PartContents)
macros_in pieces = filter_map value_in (map piece_contents pieces)

-- so many pieces are gone through, and the values in front of a place are stepped; the tests stay
pub record AreMacrosStepped (table : TableSeen) (pieces : List Piece) (k : ℕ) (old member : Member)
    (place : ℕ) : Type 0 where
  pub far : AreValuesStepped table (macros_in (take k pieces))
      (macros_in (drop k pieces)) old.values.items member.values.items place
  pub tests : member.tests ≡ old.tests

module _ (table : TableSeen) (pieces : List Piece) (old : Member) where
  pub macros_begin : AreBeside (IsValueRun table.nodes) (macros_in pieces) old.values.items
      → AreMacrosStepped table pieces 0 old old 0
  macros_begin are = record { far = values_begin table old.values.items (macros_in pieces) are; tests = refl }

  pub macros_end : (k : ℕ) (member : Member) (place : ℕ) → length pieces ≤ k → AreMacrosStepped
      table pieces k old member place → StepsValues table (macros_in pieces) old member
  macros_end k member place all is =
      let none : drop k pieces ≡ [] = drop_all k pieces all in
      let whole : take k pieces ≡ pieces = take_all k pieces all in
      let far : AreValuesStepped table (macros_in pieces) [] old.values.items member.values.items
      place = rw (whole, none) at is.far in
      let ends = values_end table old.values.items (macros_in pieces) member.values.items place far in
      record { values_too = ends.runs_too; kept = ends.kept; tests = is.tests }

  module _ (k : ℕ) (piece : Piece) (within : k < length pieces) (is : piece ≡ get_or pieces k piece)
      (member : Member) (place : ℕ) (come : AreMacrosStepped table pieces k old member place) where
    before : macros_in (take (k + 1) pieces)
        ≡ macros_in (take k pieces) ++ filter_map value_in (piece_contents piece ∷ [])
    before =
        ap (filter_map value_in) (taken_next piece_contents pieces k piece within is)
        ∙ filter_map-append value_in (map piece_contents (take k pieces)) (piece_contents piece ∷ [])

    behind : macros_in (drop k pieces) ≡ cons_option (value_in (piece_contents piece)) (macros_in (drop (k + 1) pieces))
    behind = ap (filter_map value_in) (dropped_next piece_contents pieces k piece within is)

    -- text has no value
    pub text_on : (text : Vec ℕ Global) → piece ≡ Text text → AreMacrosStepped table pieces (k + 1) old member place
    text_on text is_text =
        let left : List (List PartContents) = macros_in (drop (k + 1) pieces) in
        let here = behind ∙ ap (λ p. cons_option (value_in (piece_contents p)) left) is_text in
        let more : macros_in (take (k + 1) pieces) ≡ macros_in (take k pieces) =
        before ∙ ap (λ p. macros_in (take k pieces) ++ filter_map value_in (piece_contents p ∷ []))
        is_text ∙ append-nil (macros_in (take k pieces)) in
        record {
          far = subst (λ ds. AreValuesStepped table ds left old.values.items member.values.items
              place) (sym more) (subst (λ ls. AreValuesStepped table (macros_in (take k pieces)) ls
              old.values.items member.values.items place) here come.far);
          tests = come.tests;
        }

    module _ (name : Vec ℕ Global) (value : ValueText) (is_macro : piece ≡ Macro name value) where
      abbrev parts : List PartContents
      parts = value_contents value

      abbrev done : List (List PartContents)
      done = macros_in (take k pieces)

      abbrev left : List (List PartContents)
      left = macros_in (drop (k + 1) pieces)

      next : AreValuesStepped table done (parts ∷ left) old.values.items member.values.items place
      next =
          subst (λ ls. AreValuesStepped table done ls old.values.items member.values.items place)
          (behind ∙ ap (λ p. cons_option (value_in (piece_contents p)) left) is_macro) come.far

      pub macro_here : HasValue table.nodes parts place member
      macro_here = value_here table old.values.items done left parts member place next

      -- a macro's value is stepped
      pub macro_on : (new : Member) → StepsValueAt table parts place member new
          → AreMacrosStepped table pieces (k + 1) old new (place + 1)
      macro_on new steps =
          let more : macros_in (take (k + 1) pieces) ≡ done ++ parts ∷ [] =
          before ∙ ap (λ p. done ++ filter_map value_in (piece_contents p ∷ [])) is_macro in
          record {
            far = subst (λ ds. AreValuesStepped table ds left old.values.items new.values.items
                (place + 1)) (sym more)
                (value_on table old.values.items done left parts member new place next steps);
            tests = steps.tests ∙ come.tests;
          }
