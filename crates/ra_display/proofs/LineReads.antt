-- What a line reads: its test, and the values of its macros one after the other.
use Rattle.std.proofs.Common.{◌≡◌, ℕ, ◌+◌, ◌<◌, List, [], ◌∷◌, ◌++◌, length, take, drop, get_or, sym, ◌∙◌, ap, subst}
use Rattle.std.proofs.Common.{arith, Vec, Global}
use Rattle.std.specs.List.{cons_option}
use Rattle.ra_condition.specs.declared.value_text.ValueText.{ValueText}
use Rattle.ra_condition.specs.Contents.{PartContents, value_contents}
use Rattle.ra_richpresence.specs.declared.piece.Piece.{Piece}
use Rattle.ra_richpresence.specs.declared.piece.Piece.TheVariants.{Macro}
use Rattle.ra_richpresence.specs.Contents.{piece_contents, value_in}
use Rattle.ra_member.specs.declared.value_run.ValueRun.{ValueRun}
use Rattle.ra_member.specs.Runs.{IsValueRun}
use Rattle.ra_display.proofs.Macros.{macros_behind, macros_split}
use Rattle.ra_display.proofs.SteppedLines.{macros_in}
use Rattle.ra_indirect.specs.declared.node.Node.{Node}
use Rattle.ra_member.specs.Beside.{AreBeside}
use Rattle.ra_schedule.specs.Inputs.{Instant, ValueSeesSame, ValuesSeeSame}

-- what stands beside the one behind some others
pub beside_seam : {X Y : Type 0} (has : X → Y → Type 0) (done : List X) (x : X) (left : List X)
    (ys : List Y) → AreBeside has (done ++ x ∷ left) ys
    → (length done < length ys) × ((d : Y) → has x (get_or ys (length done) d))
beside_seam has [] x left [] are = absurd are
beside_seam has [] x left (y ∷ ys) are = (omega arith, λ d. are.0)
beside_seam has (a ∷ done) x left [] are = absurd are
beside_seam has (a ∷ done) x left (y ∷ ys) are =
    let one = beside_seam has done x left ys are.1 in (omega (arith, one.0), one.1)

-- one value more sees the same
pub values_see_more : (now later : Instant) (done : List (List PartContents))
    (parts : List PartContents) → ValuesSeeSame now later done → ValueSeesSame now later parts
    → ValuesSeeSame now later (done ++ parts ∷ [])
values_see_more now later [] parts see one = (one, tt)
values_see_more now later (first ∷ done) parts see one = (see.0, values_see_more now later done parts see.1 one)

-- the value of a macro, among those of a line
pub macro_run : (nodes : List Node) (pieces : List Piece) (k place : ℕ) (piece : Piece)
    (name : Vec ℕ Global) (value : ValueText) (values : List ValueRun) → k < length pieces → piece
    ≡ get_or pieces k piece → piece ≡ Macro name value
    → place ≡ length (macros_in (take k pieces))
    → AreBeside (IsValueRun nodes) (macros_in pieces) values → (place < length values)
    × ((d : ValueRun) → IsValueRun nodes (value_contents value) (get_or values place d))
macro_run nodes pieces k place piece name value values within is is_macro at are =
    let left = macros_in (drop (k + 1) pieces) in
    let behind : macros_in (drop k pieces) ≡ value_contents value ∷ left = macros_behind pieces k
    piece within is ∙ ap (λ p. cons_option (value_in (piece_contents p)) left) is_macro in
    let whole = macros_split pieces k ∙ ap (λ xs. macros_in (take k pieces) ++ xs) behind in
    subst (λ n. (n < length values)
    × ((d : ValueRun) → IsValueRun nodes (value_contents value) (get_or values n d))) (sym at)
    (beside_seam (IsValueRun nodes) (macros_in (take k pieces)) (value_contents value) left values
    (subst (λ vs. AreBeside (IsValueRun nodes) vs values) whole are))
