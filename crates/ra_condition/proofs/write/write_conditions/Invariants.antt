use Rattle.std.proofs.Common.{◌≡◌, ◌++◌, ◌∷◌, string_bytes, take}
use Rattle.std.specs.List.{flat_map}
use Rattle.ra_condition.specs.Canonical.{condition_text}
use Rattle.ra_condition.proofs.write.write_conditions.Given as goal

abbrev pub invariant-loop-other : goal.invariant-loop-other
invariant-loop-other l = string_bytes l.text ≡ string_bytes l.initial.text
    ++ flat_map (λ y. 95 ∷ condition_text y) (take l.other-index l.others)
