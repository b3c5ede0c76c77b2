-- How a caller is given what is told: docs/DEFINITIONS.md, "Calls from C".
use Rattle.std.specs.Prelude.{◌≡◌, ◌⊎◌, ℕ, ◌<◌, Option, None, Some, List, ◌++◌, length, drop}
use Rattle.ra_judge.specs.Codes.{done, no_room, out_of_range}

-- the whole count is told, and where there is room the whole stands in front of it
pub record Gives {A : Type 0} (told before after : List A) (count code : ℕ) : Type 0 where
  pub counted : count ≡ length told
  pub given : ((code ≡ done) × (after ≡ told ++ drop (length told) before))
      ⊎ ((code ≡ no_room) × (length before < length told))

-- a text is given where there is one, and is out of range where there is none
abbrev pub GivesText : Option (List ℕ) → (before after : List ℕ) → (count code : ℕ) → Type 0
GivesText None before after count code = code ≡ out_of_range
GivesText (Some text) before after count code = Gives text before after count code
