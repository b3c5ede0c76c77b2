-- The widths of the cells of the first so many nodes.
use Rattle.std.proofs.Common.{◌≡◌, ℕ, ◌+◌, ◌<◌, ◌≤◌, ◌⊎◌, inl, inr, List, [], ◌∷◌, ◌++◌, length, map, get_or, sym}
use Rattle.std.proofs.Common.{arith, subst, slice_index, length-append}
use Rattle.std.proofs.lemmas.List.{get_or_append_left}
use Rattle.std.proofs.Math.Seq.{get_or-append_seam}
use Rattle.std.proofs.lemmas.Bool.{cases_lt}
use Rattle.ra_memory.specs.Image.{IsReadWidth}
use Rattle.ra_indirect.specs.declared.node.Node.{Node}
use Rattle.ra_indirect.specs.declared.node.Node.TheVariants.{Cell as CellNode}
use Rattle.ra_indirect.specs.Pools.{spelled_by, node_at, MayFollow}
use Rattle.ra_indirect.specs.Interned.{IsPool}
use Rattle.ra_indirect.proofs.SpelledLemmas.{may_follow}
use Rattle.ra_memref.specs.Layout.{cells_before}
use Rattle.ra_memref.proofs.CellsAlong.{along_cell, along_same}

pub record AreWidths (nodes : List Node) (widths : List ℕ) (k : ℕ) : Type 0 where
  pub are : widths ≡ map (λ c. c.width) (cells_before (spelled_by nodes) k)
  pub wide : (i : ℕ) → i < length widths → IsReadWidth (slice_index widths i)

module _ (nodes : List Node) (pool : IsPool nodes) (widths : List ℕ) (k : ℕ) (within : k < length nodes)
    (are : AreWidths nodes widths k) where
  wide_by : (width : ℕ) → IsReadWidth width → (i : ℕ) → i < length (widths ++ width ∷ [])
      → (i < length widths) ⊎ (length widths ≤ i) → IsReadWidth (get_or (widths ++ width ∷ []) i 0)
  wide_by width is i below (inl left) =
      subst IsReadWidth (sym (get_or_append_left widths (width ∷ []) 0 i left)) (are.wide i left)
  wide_by width is i below (inr last) =
      let e : i ≡ length widths = omega (arith, below, last, length-append widths (width ∷ [])) in
      rw (e, get_or-append_seam widths width [] 0) is

  pub widths_cell : (pointer offset width : ℕ) → node_at nodes k ≡ CellNode width pointer offset
      → AreWidths nodes (widths ++ width ∷ []) (k + 1)
  widths_cell pointer offset width same =
      let may = subst (MayFollow nodes) same (may_follow nodes pool k within) in
      record {
        are = along_cell nodes pool ℕ (λ c. c.width) widths k within are.are pointer offset width same;
        wide = λ i below. wide_by width may.2 i below (cases_lt i (length widths));
      }

  pub widths_same : (node : Node) → node_at nodes k ≡ node
      → ((pointer offset width : ℕ) → node ≡ CellNode width pointer offset → ⊥) → AreWidths nodes widths (k + 1)
  widths_same node same other = record {
    are = along_same nodes pool ℕ (λ c. c.width) widths k within are.are node same other;
    wide = are.wide;
  }
