-- What a last line adds, and the status after it: docs/DEFINITIONS.md, "Statuses".
use Rattle.std.specs.Prelude.{◌≡◌, ◌⊎◌, ℕ, Option, List}
use Rattle.ra_io.specs.Sink.{grown}
use Rattle.ra_jobs.specs.Writing.{GrewByPart}

-- a line was written whole, and the status is its own; or a write wanted memory or failed after a front of it
abbrev pub Closes : (own : ℕ) → (line : List ℕ) → (old new : Option (List ℕ)) → (sink : Type 0) → (status : ℕ) → Type 0
Closes own line old new sink status =
    ((status ≡ own) × (new ≡ grown old line))
    ⊎ (((status ≡ 1) × GrewByPart old new line) ⊎ ((status ≡ 5) × sink × GrewByPart old new line))
