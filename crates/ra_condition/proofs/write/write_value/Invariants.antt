use Rattle.std.proofs.Common.{◌≡◌, ◌++◌, ◌∷◌, string_bytes, take}
use Rattle.std.specs.List.{flat_map}
use Rattle.ra_condition.specs.Canonical.{part_text}
use Rattle.ra_condition.specs.Contents.{part_contents}
use Rattle.ra_condition.proofs.write.write_value.Given as goal

abbrev pub invariant-loop-other : goal.invariant-loop-other
invariant-loop-other l = string_bytes l.text ≡ string_bytes l.initial.text
    ++ flat_map (λ y. 36 ∷ part_text (part_contents y)) (take l.other-index l.others)
