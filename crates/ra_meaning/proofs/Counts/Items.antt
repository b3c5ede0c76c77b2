-- What items and display lines keep, and how many conditions they have.
use Rattle.std.proofs.Common.{◌≡◌, ℕ, Option, None, Some, List, sum_by, refl, arith, suc, ◌≤◌, [], ◌∷◌, length, map}
use Rattle.std.proofs.Common.{sum, All, IfSome}
use Rattle.std.proofs.lemmas.List.Sums.{sum_by-cons}
use Rattle.ra_condition.specs.Contents.{PartContents, trigger_hits, value_hits}
use Rattle.ra_leaderboard.specs.Contents.{BoardContents}
use Rattle.ra_set.specs.Contents.{Ranks}
use Rattle.ra_set.specs.Limits.{value_conditions, optional_value, item_conditions, line_conditions}
use Rattle.ra_value_format.specs.declared.format.Format.{Format}
use Rattle.ra_member.specs.Members.{member_conditions, member_hits, member_numbers}
use Rattle.ra_meaning.specs.Order.{board_member, progress_in, line_member}
use Rattle.ra_condition.specs.Spelled.{IsValue}
use Rattle.ra_leaderboard.specs.Spelled.{IsBoard}
use Rattle.ra_richpresence.specs.Contents.{LineContents}
use Rattle.ra_meaning.specs.ShownLines.{IsShownLine}
use Rattle.ra_meaning.proofs.Counts.Lines.{hits_within, parts_within, line_few}

-- a progress has the conditions that its parts have
pub progress_conditions : (progress : Option (List PartContents))
    → sum_by value_conditions (progress_in progress) ≡ optional_value progress
progress_conditions None = refl
progress_conditions (Some parts) = omega arith

-- a board has as many conditions as its member
pub board_conditions : (b : BoardContents) (id : ℕ) (format : Format)
    → member_conditions (board_member b) ≡ item_conditions (Ranks id format b)
board_conditions b id format =
    omega (arith, progress_conditions b.progress, sum_by-cons value_conditions b.value (progress_in b.progress))

-- a progress keeps at most a hit and a number for each of its conditions
progress_within : (progress : Option (List PartContents)) → IfSome progress IsValue
    → (sum (map value_hits (progress_in progress)) ≤ optional_value progress)
    × (sum (map length (progress_in progress)) ≤ optional_value progress)
progress_within None is = (omega arith, omega arith)
progress_within (Some parts) is = (omega (arith, hits_within parts), omega (arith, parts_within parts is.each))

-- a board keeps at most a hit and a number for each of its conditions
pub board_within : (id : ℕ) (format : Format) (b : BoardContents) → IsBoard b
    → (member_hits (board_member b) ≤ item_conditions (Ranks id format b))
    × (member_numbers (board_member b) ≤ item_conditions (Ranks id format b))
board_within id format b is =
    let progress = progress_within b.progress is.progress in
    let own = λ (x : ℕ). x in
    let a = trigger_hits b.start in
    let c = trigger_hits b.cancel in
    let s = trigger_hits b.submit in
    let v = value_hits b.value in
    let p = map value_hits (progress_in b.progress) in
    let ps = map length (progress_in b.progress) in (
      omega (
        arith,
        hits_within b.value,
        progress.0,
        sum_by-cons own a (c ∷ s ∷ v ∷ p),
        sum_by-cons own c (s ∷ v ∷ p),
        sum_by-cons own s (v ∷ p),
        sum_by-cons own v p,
      ),
      omega (arith, parts_within b.value is.value.each, progress.1, sum_by-cons own (length b.value) ps),
    )

-- lines keep at most a hit and a number for each of their conditions
pub lines_within : (lines : List LineContents) → All IsShownLine lines
    → (sum (map member_hits (map line_member lines)) ≤ sum_by line_conditions lines)
    × (sum (map member_numbers (map line_member lines)) ≤ sum_by line_conditions lines)
lines_within [] each = (omega arith, omega arith)
lines_within (line ∷ lines) each =
    let one = line_few line (each 0 line (omega arith)) in
    let rest = lines_within lines (λ k d within. each (suc k) d (omega arith)) in
    let all = sum_by-cons line_conditions line lines in
    let own = λ (n : ℕ). n in (
      omega (
        arith,
        one.0,
        rest.0,
        all,
        sum_by-cons own (member_hits (line_member line)) (map member_hits (map line_member lines)),
      ),
      omega (
        arith,
        one.1,
        rest.1,
        all,
        sum_by-cons own (member_numbers (line_member line)) (map member_numbers (map line_member lines)),
      ),
    )
