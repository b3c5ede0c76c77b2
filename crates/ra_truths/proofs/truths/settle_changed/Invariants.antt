use Rattle.std.proofs.Common.{◌≡◌, ℕ, ◌<◌, false, get_or}
use Rattle.ra_memref.specs.Table.{IsListed}
use Rattle.ra_truths.specs.Comparisons.{truths_by}
use Rattle.ra_links.specs.Rows.{row_at}
use Rattle.ra_truths.specs.Settling.{Settles}
use Rattle.ra_truths.proofs.truths.settle_changed.Given as goal

-- the comparisons of the first so many nodes have their wanted truths
abbrev pub invariant-loop-node : goal.invariant-loop-node
invariant-loop-node l = record {
  settles : Settles (truths_by l.table.values l.comparisons) l.fn.kept l.kept;
  done : (p k : ℕ) → p < l.node-index → IsListed k (row_at l.rows (get_or l.node-items p 0))
      → get_or l.kept.truths k false ≡ get_or (truths_by l.table.values l.comparisons) k false;
}

-- and the first so many of the next node
abbrev pub invariant-loop-number : goal.invariant-loop-number
invariant-loop-number l = record {
  settles : Settles (truths_by l.table.values l.comparisons) l.fn.kept l.kept;
  kept : (k : ℕ) → get_or l.initial.kept.truths k false ≡ get_or (truths_by l.table.values l.comparisons) k false
      → get_or l.kept.truths k false ≡ get_or (truths_by l.table.values l.comparisons) k false;
  done : (q : ℕ) → q < l.number-index
      → get_or l.kept.truths (get_or l.number-items q 0) false
      ≡ get_or (truths_by l.table.values l.comparisons) (get_or l.number-items q 0) false;
}
