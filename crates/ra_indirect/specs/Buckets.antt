-- The buckets in which the nodes of a pool are looked up: docs/INTERNALS.md, "Nodes are looked up in buckets".
use Rattle.std.specs.Prelude.{◌≡◌, ℕ, ◌+◌, ◌-◌, ◌*◌, ◌/◌, ◌%◌, ◌^◌, ◌<◌, ◌≤◌, List, length}
use Rattle.std.specs.Prelude.{slice_index, bit_and}
use Rattle.ra_operand.specs.Same.{number_of_op}
use Rattle.ra_indirect.specs.declared.node.Node.{Node}
use Rattle.ra_indirect.specs.declared.node.Node.TheVariants.{Const, Cell as CellNode, View, Arith}
use Rattle.ra_indirect.specs.declared.buckets.Buckets.{Buckets}
use Rattle.ra_indirect.specs.Pools.{node_at}

-- three numbers mixed into 32 bits
unfoldable pub mixed_of : ℕ → ℕ → ℕ → ℕ
mixed_of low high kinds =
    ((low * 11400714819323198485 % 2 ^ 64 + high * 15111065706836454659 % 2 ^ 64) % 2 ^ 64
    + kinds * 12605985483714917081 % 2 ^ 64) % 2 ^ 64 / 2 ^ 32

-- the bucket of a node, where this many are for views, behind as many for all else
unfoldable pub bucket_of : ℕ → Node → ℕ
bucket_of half (Const n) = bit_and (mixed_of n 0 0) (half - 1)
bucket_of half (CellNode width pointer offset) = bit_and (mixed_of pointer offset width) (half - 1)
bucket_of half (View kind size c) = half + bit_and c (half - 1)
bucket_of half (Arith op left right) = bit_and (mixed_of left right (8 + number_of_op op)) (half - 1)

-- the place is that of the latest of the first so many nodes that is in the bucket; it is 0 where none is
pub record IsLatest (half : ℕ) (nodes : List Node) (count bucket place : ℕ) : Type 0 where
  pub within : place ≤ count
  pub there : (k : ℕ) → place ≡ k + 1 → bucket_of half (node_at nodes k) ≡ bucket
  pub latest : (k : ℕ) → k < count → bucket_of half (node_at nodes k) ≡ bucket → k < place

-- each bucket has the place of its latest node, and each node that of the one before it in its bucket;
-- no bucket has room for more than two nodes on average
pub record AreChained (half : ℕ) (nodes : List Node) (latest earlier : List ℕ) : Type 0 where
  pub as_many : length latest ≡ 2 * half
  pub small : half ≤ 2 ^ 32
  pub spread : length earlier ≤ 4 * half
  pub fits : length nodes ≤ length earlier
  pub heads : (b : ℕ) → b < 2 * half → IsLatest half nodes (length nodes) b (slice_index latest b)
  pub chains : (k : ℕ) → k < length nodes
      → IsLatest half nodes k (bucket_of half (node_at nodes k)) (slice_index earlier k)

-- the nodes are in the buckets
abbrev pub AreFiled : List Node → Buckets → Type 0
AreFiled nodes buckets = AreChained buckets.half nodes buckets.latest.items buckets.earlier.items
