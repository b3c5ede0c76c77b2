-- Truths, and which of them flipped: docs/INTERNALS.md, "Truths of comparisons".
use Rattle.std.specs.Prelude.{ℕ, Bool, true, false, not, if◌then◌else◌, List, [], ◌∷◌, ◌++◌, slice_index_or, slice_set}

-- the truths, and the places of those that flipped
pub record KeptSeen : Type 0 where
  pub truths : List Bool
  pub flipped : List ℕ

-- two truths are not the same
abbrev pub differ : Bool → Bool → Bool
differ true b = not b
differ false b = b

-- a truth is set, and its place is listed last where it is another than before
abbrev pub put_in : KeptSeen → ℕ → Bool → KeptSeen
put_in kept place truth =
    if differ (slice_index_or kept.truths place false) truth
    then record { truths = slice_set kept.truths place truth; flipped = kept.flipped ++ place ∷ [] }
    else kept
