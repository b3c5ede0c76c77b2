use Rattle.std.proofs.Common.{◌≡◌, ◌++◌, ◌∷◌, string_bytes, take}
use Rattle.std.specs.List.{flat_map}
use Rattle.ra_condition.specs.Canonical.{group_text}
use Rattle.ra_condition.specs.Contents.{group_contents}
use Rattle.ra_condition.proofs.write.write_trigger.Given as goal

abbrev pub invariant-loop-alt : goal.invariant-loop-alt
invariant-loop-alt l = string_bytes l.text ≡ string_bytes l.initial.text
    ++ flat_map (λ y. 83 ∷ group_text (group_contents y)) (take l.alt-index l.trigger.alts.items)
