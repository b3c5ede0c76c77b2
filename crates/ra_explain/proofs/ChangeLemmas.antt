-- The changes of a condition's hits, one row after the other.
use Rattle.std.proofs.Common.{◌≡◌, ◌+◌, List, [], ◌∷◌, ◌++◌, length, refl, arith}
use Rattle.ra_explain.specs.declared.hit_change.HitChange.{HitChange}
use Rattle.ra_explain.specs.HitChanges.{ChangesSeen, with_row, hits_by, changed_by}

-- one change more
pub changed_more : (own : ChangesSeen) (changes : List HitChange) (change : HitChange)
    → changed_by own (changes ++ change ∷ []) ≡ with_row (changed_by own changes)
    (hits_by change (changed_by own changes).hits)
changed_more own [] change = refl
changed_more own (first ∷ changes) change = changed_more (with_row own (hits_by first own.hits)) changes change

-- the row that comes next
pub changed_row : (own : ChangesSeen) (changes : List HitChange)
    → (changed_by own changes).row ≡ own.row + length changes
changed_row own [] = omega arith
changed_row own (first ∷ changes) = let rest = changed_row (with_row own (hits_by first own.hits)) changes in omega
    (arith, rest)
