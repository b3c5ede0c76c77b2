-- How each condition of a group stands at a frame: docs/DEFINITIONS.md, "Equations of a condition".
use Rattle.std.specs.Prelude.{ℕ, false, slice_index_or}
use Rattle.ra_group.specs.declared.standing.Standing.{Standing}
use Rattle.ra_group.specs.Equations.{Frame, met, prev_of, settled_at}

-- what is taken for a condition past the end of a group, where no clause looks
abbrev pub no_standing : Standing
no_standing = record { met = false; reset = false; total = 0; valid = false }

-- how the condition at j stands by the equations
abbrev pub standing_at : Frame → ℕ → Standing
standing_at f j = record {
  met = met (prev_of f j) (slice_index_or f.truths j false);
  reset = (settled_at f j).reset;
  total = (settled_at f j).total;
  valid = (settled_at f j).valid;
}
