-- What is kept after a history, stepped at each of its frames: docs/DEFINITIONS.md, "After a history".
use Rattle.std.specs.Prelude.{[], ◌∷◌}
use Rattle.ra_memory.specs.Image.{History}

-- what is kept after a history, from what was kept before it; a step sees the history up to its own frame
abbrev pub after : {K : Type 0} → (History → K → K) → K → History → K
after step kept [] = kept
after step kept (image ∷ earlier) = step (image ∷ earlier) (after step kept earlier)
