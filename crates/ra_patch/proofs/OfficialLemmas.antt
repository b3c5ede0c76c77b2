-- What is looked at of a list of achievements, and how many are unofficial.
use Rattle.std.proofs.Common.{◌≡◌, ℕ, ◌≤◌, List, [], length, refl, arith}
use Rattle.std.proofs.lemmas.List.Sums.{count_by-le-length, length-filter}
use Rattle.serde_json.specs.Data.{Data}
use Rattle.ra_patch.specs.declared.scope.Scope.{Scope}
use Rattle.ra_patch.specs.declared.scope.Scope.TheVariants.{All, Official}
use Rattle.ra_patch.specs.Official.{is_unofficial, is_wanted, unofficial_among, wanted}

pub wanted-nil : (scope : Scope) → wanted scope [] ≡ []
wanted-nil All = refl
wanted-nil Official = refl

pub wanted-fits : (scope : Scope) (xs : List Data) → length (wanted scope xs) ≤ length xs
wanted-fits All xs = omega arith
wanted-fits Official xs =
    let few = count_by-le-length (is_wanted Official) xs in
    let same = length-filter (is_wanted Official) xs in omega (arith, few, same)

pub among-fits : (ds : List Data) → unofficial_among ds ≤ length ds
among-fits ds = count_by-le-length is_unofficial ds
