-- Lists that stand side by side: docs/DEFINITIONS.md, "Members".
use Rattle.std.specs.Prelude.{List, [], ◌∷◌}

-- each of a list has this with what stands at its place in another list, and neither list is longer
abbrev pub AreBeside : {X Y : Type 0} → (X → Y → Type 0) → List X → List Y → Type 0
AreBeside has [] [] = Unit {0}
AreBeside has (x ∷ xs) (y ∷ ys) = has x y × AreBeside has xs ys
AreBeside has _ _ = ⊥
