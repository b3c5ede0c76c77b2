-- How far the hits that a chain adds or takes away may go: docs/DEFINITIONS.md, "Equations of a condition".
use Rattle.std.specs.Prelude.{ℕ, pos, ◌+ℤ◌, ◌≤ℤ◌, Option, None, Some}
use Rattle.ra_group.specs.declared.settled.Settled.{Settled}

-- what the chain has added up to here lies so far from 0 at most
abbrev pub AddWithin : ℕ → Option Settled → Type 0
AddWithin most None = Unit {0}
AddWithin most (Some before) = (pos 0 ≤ℤ (before.add +ℤ pos most)) × (before.add ≤ℤ pos most)
