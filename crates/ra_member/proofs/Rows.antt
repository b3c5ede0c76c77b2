-- Rows that are laid out are cut again, and rows that are cut are laid out again.
use Rattle.std.proofs.Common.{◌≡◌, ℕ, ◌+◌, List, [], ◌∷◌, ◌++◌, length, map, take, drop, sum, refl, ◌∙◌, ap, ap₂, arith}
use Rattle.std.proofs.Common.{append_assoc, take-append-drop}
use Rattle.std.specs.List.{concat}
use Rattle.std.proofs.lemmas.List.{take_at, drop_at, length-take-le, length-drop}
use Rattle.std.proofs.lemmas.List.Sums.{sum_by-cons}
use Rattle.ra_member.specs.Rows.{rows_by}

-- rows laid out one behind the other, with more behind them, are cut again
pub rows_laid : (rows : List (List ℕ)) (rest : List ℕ) → rows_by (map length rows) (concat rows ++ rest) ≡ rows
rows_laid [] rest = refl
rows_laid (row ∷ rows) rest =
    let more : List ℕ = concat rows ++ rest in
    let whole : row ++ concat rows ++ rest ≡ row ++ (concat rows ++ rest) = append_assoc row (concat rows) rest in
    let first : take (length row) (row ++ more) ≡ row = take_at row more (length row) refl in
    let behind : drop (length row) (row ++ more) ≡ more = drop_at row more (length row) refl in
    ap (rows_by (length row ∷ map length rows)) whole
    ∙ ap₂ (λ x xs. x ∷ rows_by (map length rows) xs) first behind
    ∙ ap (λ xs. row ∷ xs) (rows_laid rows rest)

-- the pieces of a row have their lengths, and are the whole of it
pub record IsCut (lengths row : List ℕ) : Type 0 where
  pub as_long : map length (rows_by lengths row) ≡ lengths
  pub whole : concat (rows_by lengths row) ≡ row

-- a row as long as all lengths together is cut into pieces of these
pub rows_cut : (lengths row : List ℕ) → length row ≡ sum lengths → IsCut lengths row
rows_cut [] [] long = record { as_long = refl; whole = refl }
rows_cut [] (x ∷ row) long = absurd (omega arith)
rows_cut (n ∷ lengths) row long =
    let more : length row ≡ n + sum lengths = long ∙ sum_by-cons (λ (x : ℕ). x) n lengths in
    let rest : length (drop n row) ≡ sum lengths = omega (arith, length-drop n row) in
    let cut : IsCut lengths (drop n row) = rows_cut lengths (drop n row) rest in
    record {
      as_long = ap₂ (λ m ms. m ∷ ms) (length-take-le n row (omega arith)) cut.as_long;
      whole = ap (λ xs. take n row ++ xs) cut.whole ∙ take-append-drop n row;
    }
