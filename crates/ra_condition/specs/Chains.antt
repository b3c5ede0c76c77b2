-- Chains of conditions, and the order in which a group's conditions pass: docs/DEFINITIONS.md, "Chains and pass order".
use Rattle.std.specs.Prelude.{ℕ, Bool, false, if◌then◌else◌, not, List, [], ◌∷◌, ◌++◌, length, drop, filter}
use Rattle.std.specs.List.{range_with_len}
use Rattle.ra_condition.specs.declared.condition.Condition.{Condition}
use Rattle.ra_condition.specs.Flags.{combines, is_pause}

-- the chain that goes on with these conditions ends in a PauseIf; a chain may have no end
abbrev pub ends_in_pause : List Condition → Bool
ends_in_pause [] = false
ends_in_pause (c ∷ cs) = if combines c.flag then ends_in_pause cs else is_pause c.flag

-- the condition at the place stands in a pause chain
abbrev pub in_pause_chain : List Condition → ℕ → Bool
in_pause_chain cs j = ends_in_pause (drop j cs)

-- the places of a group's conditions, in text order
abbrev pub places : List Condition → List ℕ
places cs = range_with_len 0 (length cs)

-- the places of the conditions of pause chains in text order, then all others in text order
abbrev pub pass_order : List Condition → List ℕ
pass_order cs =
    filter (in_pause_chain cs) (places cs) ++ filter (λ j. not (in_pause_chain cs j)) (places cs)
