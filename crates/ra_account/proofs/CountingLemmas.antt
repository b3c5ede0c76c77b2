-- How many frames something was so at is at most how many there are.
use Rattle.std.proofs.Common.{◌≤◌, Bool, true, false, List, [], ◌∷◌, length, arith}
use Rattle.ra_account.specs.Counting.{count_of}

-- at most as many as there are
pub count_of-le : (held : List Bool) → count_of held ≤ length held
count_of-le [] = omega arith
count_of-le (true ∷ earlier) = omega (arith, count_of-le earlier)
count_of-le (false ∷ earlier) = omega (arith, count_of-le earlier)
