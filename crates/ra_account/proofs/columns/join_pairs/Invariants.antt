use Rattle.std.proofs.Common.{◌≡◌, ℕ, ◌+◌, ◌*◌, ◌<◌, ◌≤◌, get_or}
use Rattle.ra_account.specs.declared.mark.Mark.TheVariants.{Never}
use Rattle.ra_account.specs.Marks.{joined}
use Rattle.ra_account.proofs.columns.join_pairs.Given as goal

-- the columns so far are joined, and the others stand
abbrev pub invariant-loop-column : goal.invariant-loop-column
invariant-loop-column l = record {
  done : (k : ℕ) → k < l.column → get_or l.marks k Never
      ≡ joined (get_or l.initial.marks (k * 2) Never) (get_or l.initial.marks (k * 2 + 1) Never);
  rest : (k : ℕ) → l.column ≤ k → get_or l.marks k Never ≡ get_or l.initial.marks k Never;
}
