-- The entries of comparisons, on the rows of their nodes.
use Rattle.std.proofs.Common.{ℕ, ◌+◌, ◌<◌, inl, inr, List, [], ◌∷◌, ◌++◌, length, refl, sym, subst, arith}
use Rattle.ra_links.specs.declared.entry.Entry.{Entry}
use Rattle.ra_links.specs.FlatRows.{AreOnRows, IsListed, entry_at, numbers_on, rows_by}
use Rattle.ra_links.proofs.Cuts.{length-rows_by, on_row, row-rows_by}
use Rattle.ra_links.proofs.Listed.{each_both, each_one, listed_here, listed_new, listed_old, number_of_one}
use Rattle.ra_indirect.proofs.PoolLemmas.{below_or_last}
use Rattle.ra_truths.specs.declared.comparison.Comparison.{Comparison}
use Rattle.ra_truths.specs.Comparisons.{AreWithin, comparison_at}
use Rattle.ra_truths.specs.Uses.{AreUses}

-- the first so many comparisons stand on the rows of their nodes, and each entry is of comparisons and of nodes
pub record AreUsing (comparisons : List Comparison) (nodes count : ℕ) (entries : List Entry) : Type 0 where
  pub rows : AreOnRows nodes entries
  pub numbers : (k : ℕ) → k < length entries → (entry_at entries k).number < length comparisons
  pub left : (k : ℕ) → k < count → IsListed k (numbers_on (comparison_at comparisons k).left entries)
  pub right : (k : ℕ) → k < count → IsListed k (numbers_on (comparison_at comparisons k).right entries)

pub using_none : (comparisons : List Comparison) (nodes : ℕ) → AreUsing comparisons nodes 0 []
using_none comparisons nodes = record {
  rows = λ k below. absurd (omega (arith, below));
  numbers = λ k below. absurd (omega (arith, below));
  left = λ k below. absurd (omega (arith, below));
  right = λ k below. absurd (omega (arith, below));
}

module _ (comparisons : List Comparison) (nodes : ℕ) (within : AreWithin nodes comparisons) (entries : List Entry) where
  module _ (n : ℕ) (below : n < length comparisons) (using : AreUsing comparisons nodes n entries) where
    abbrev l : Entry
    l = record { row = (comparison_at comparisons n).left; number = n }

    abbrev r : Entry
    r = record { row = (comparison_at comparisons n).right; number = n }

    pub using_more : AreUsing comparisons nodes (n + 1) ((entries ++ l ∷ []) ++ r ∷ [])
    using_more = record {
      rows = each_both (λ e. e.row < nodes) (entries ++ l ∷ []) (r ∷ [])
          (each_both (λ e. e.row < nodes) entries (l ∷ []) using.rows
          (each_one (λ e. e.row < nodes) l (within n below).left))
          (each_one (λ e. e.row < nodes) r (within n below).right);
      numbers = each_both (λ e. e.number < length comparisons) (entries ++ l ∷ []) (r ∷ [])
          (each_both (λ e. e.number < length comparisons) entries (l ∷ []) using.numbers
          (each_one (λ e. e.number < length comparisons) l below))
          (each_one (λ e. e.number < length comparisons) r below);
      left = λ k less. listed_old (entries ++ l ∷ []) (r ∷ []) k (comparison_at comparisons k).left
          (elim (below_or_last k n less) [
            | inl before ↦ listed_old entries (l ∷ []) k (comparison_at comparisons k).left (using.left k before)
            | inr last ↦
                subst (λ m. IsListed m (numbers_on (comparison_at comparisons m).left (entries ++ l ∷ []))) (sym last)
                (listed_new entries (l ∷ []) n l.row (listed_here l l.row refl))
          ]);
      right = λ k less. elim (below_or_last k n less) [
        | inl before ↦ listed_old (entries ++ l ∷ []) (r ∷ []) k (comparison_at comparisons k).right
            (listed_old entries (l ∷ []) k (comparison_at comparisons k).right (using.right k before))
        | inr last ↦
            subst (λ m. IsListed m (numbers_on (comparison_at comparisons m).right ((entries ++ l ∷ []) ++ r ∷ [])))
            (sym last) (listed_new (entries ++ l ∷ []) (r ∷ []) n r.row (listed_here r r.row refl))
      ];
    }

  pub uses_by : AreUsing comparisons nodes (length comparisons) entries
      → AreUses comparisons nodes (rows_by nodes entries)
  uses_by using = record {
    rows_too = length-rows_by nodes entries;
    left = λ k below.
        let here = row-rows_by nodes entries (comparison_at comparisons k).left (within k below).left in
        subst (IsListed k) (sym here) (using.left k below);
    right = λ k below.
        let here = row-rows_by nodes entries (comparison_at comparisons k).right (within k below).right in
        subst (IsListed k) (sym here) (using.right k below);
    within = λ node k is.
        number_of_one (λ m. m < length comparisons) entries using.numbers k node (on_row nodes entries k node is);
  }
