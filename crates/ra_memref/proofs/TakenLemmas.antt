-- What stands when the nodes below a number are taken; a node that is not due is taken by leaving it.
use Rattle.std.proofs.Common.{◌≡◌, ℕ, zero, suc, ◌+◌, ◌-◌, ◌<◌, ◌≤◌, List, Bool, false, true, length, get_or, refl, ap}
use Rattle.std.proofs.Common.{subst, ◌∙◌, arith}
use Rattle.ra_memory.specs.Image.{History}
use Rattle.ra_indirect.specs.declared.node.Node.{Node}
use Rattle.ra_indirect.specs.Pools.{node_at, cells_of}
use Rattle.ra_indirect.specs.Interned.{IsPool}
use Rattle.ra_memref.specs.Numbers.{NumbersSeen}
use Rattle.ra_memref.specs.Values.{Start}
use Rattle.ra_memref.specs.Table.{AreKept}
use Rattle.ra_memref.specs.Layout.{IsLaid}
use Rattle.ra_memref.specs.Marks.{reads_of}
use Rattle.ra_memref.specs.Pass.{after_node, reads_at, IsAgreed, IsAgreedAt, IsSizedFor, TakesFrame}
use Rattle.ra_memref.specs.Flags.{NoneSet}
use Rattle.ra_memref.specs.Due.{IsQuiet, IsUnmarked, AreIdle}
use Rattle.ra_memref.proofs.LaidLemmas.{cells_all}
use Rattle.ra_memref.proofs.Passed.{IsPassed, TakesNode, takes_node, cell_count}
use Rattle.ra_memref.proofs.PassEnds.{passed_none, sized_more, kept_all, values_all, places_all}
use Rattle.ra_memref.proofs.PassLemmas.{passed_more}
use Rattle.ra_memref.proofs.Visited.{IsVisited, visited_none, visited_node, agreed_there, unmarked_all, agreed_all}
use Rattle.ra_memref.proofs.Visited.{counted_all}
use Rattle.ra_memref.proofs.QuietLemmas.{idle_takes, idle_reads}

-- the nodes below k are taken
pub record IsTaken (nodes : List Node) (image : List ℕ) (old now : NumbersSeen) (k reads : ℕ) : Type 0 where
  pub passed : (start : Start) (history : History) → AreKept start history nodes old.cells old.priors
      → IsPassed nodes start history image k now
  pub sized : IsSizedFor nodes now
  pub visited : IsVisited image old now (cell_count nodes k) reads
  pub size : now.watches.size ≡ old.watches.size

pub taken_none : (nodes : List Node) (image : List ℕ) (old : NumbersSeen) → IsSizedFor nodes old
    → IsTaken nodes image old old 0 0
taken_none nodes image old sized = record {
  passed = λ start history kept. passed_none nodes start history image old kept;
  sized = sized;
  visited = visited_none image old;
  size = refl;
}

module _ (nodes : List Node) (pool : IsPool nodes) (slots : List ℕ) (laid : IsLaid nodes slots) (image : List ℕ)
    (old : NumbersSeen) (old_sized : IsSizedFor nodes old) where
  module _ (k : ℕ) (within : k < length nodes) (now : NumbersSeen) (reads : ℕ)
      (taken : IsTaken nodes image old now k reads) where
    pub taken_more : (new : NumbersSeen) → TakesNode (node_at nodes k) slots image k now new
        → new.watches.size ≡ now.watches.size
        → IsTaken nodes image old new (suc k) (reads + reads_at (node_at nodes k) now (get_or slots k 0))
    taken_more new takes size = record {
      passed = λ start history kept. passed_more nodes pool slots laid k within now taken.sized start history image
          (taken.passed start history kept) new (node_at nodes k) refl takes;
      sized = sized_more nodes (node_at nodes k) slots image k now new taken.sized takes;
      visited = visited_node nodes pool slots laid k within image old now old_sized taken.sized reads taken.visited
          new (node_at nodes k) refl takes;
      size = size ∙ taken.size;
    }

    -- by the equation of the node, and what was read of the image at the start, before the node and behind it
    pub taken_by : (bytes : List ℕ) → bytes ≡ image → (new : NumbersSeen)
        → new ≡ after_node (node_at nodes k) now bytes slots k → (begun was is : ℕ) → begun ≤ was → reads ≡ was - begun
        → is ≡ was + reads_at (node_at nodes k) now (get_or slots k 0)
        → IsTaken nodes image old new (k + 1) (is - begun)
    taken_by bytes same new e begun was is risen counts more =
        let there = takes_node (node_at nodes k) slots bytes k now new e in
        let takes = subst (λ bs. TakesNode (node_at nodes k) slots bs k now new) same there in
        let next : suc k ≡ k + 1 = omega arith in
        let all : reads + reads_at (node_at nodes k) now (get_or slots k 0)
        ≡ is - begun = omega (arith, risen, counts, more) in
        subst (IsTaken nodes image old new (k + 1)) all
        (subst (λ n. IsTaken nodes image old new n (reads + reads_at (node_at nodes k) now (get_or slots k 0))) next
        (taken_more new takes (ap (λ (n : NumbersSeen). n.watches.size) e)))

    pub agreed_node : IsAgreed old image → IsAgreedAt (node_at nodes k) now image (get_or slots k 0)
    agreed_node agrees = agreed_there nodes pool slots laid k within image old now old_sized taken.sized reads
        taken.visited (node_at nodes k) refl agrees

    taken_idle : IsAgreed old image → IsQuiet (node_at nodes k) now slots k
        → IsUnmarked (node_at nodes k) now (get_or slots k 0) → IsTaken nodes image old now (suc k) reads
    taken_idle agrees quiet unmarked =
        let none : reads + reads_at (node_at nodes k) now (get_or slots k 0)
        ≡ reads = omega (arith, idle_reads slots image k now (node_at nodes k) quiet unmarked) in
        subst (IsTaken nodes image old now (suc k)) none
        (taken_more now (idle_takes slots image k now (node_at nodes k) quiet unmarked (agreed_node agrees)) refl)

  module _ (agrees : IsAgreed old image) (now : NumbersSeen) (reads : ℕ) (due : List Bool)
      (idle : AreIdle nodes due now slots) where
    taken_past : (more k : ℕ) → k + more ≤ length nodes → NoneSet due k (k + more)
        → IsTaken nodes image old now k reads → IsTaken nodes image old now (k + more) reads
    taken_past zero k within none taken =
        let e : k ≡ k + 0 = omega arith in
        subst (λ n. IsTaken nodes image old now n reads) e taken
    taken_past (suc more) k within none taken =
        let e : suc k + more ≡ k + suc more = omega arith in
        let here : k < length nodes = omega (arith, within) in
        let still : get_or due k true ≡ false = none k (omega arith) (omega arith) in
        subst (λ n. IsTaken nodes image old now n reads) e
        (taken_past more (suc k) (omega (arith, within))
        (λ j from to. none j (omega (arith, from)) (omega (arith, to)))
        (taken_idle k here now reads taken agrees (idle.quiet k here still) (idle.unmarked k here still)))

    -- where none is due up to another number, the nodes below that are taken
    pub taken_to : (from to : ℕ) → from ≤ to → to ≤ length nodes → NoneSet due from to
        → IsTaken nodes image old now from reads → IsTaken nodes image old now to reads
    taken_to from to less within none taken =
        let e : from + (to - from) ≡ to = omega (arith, less) in
        subst (λ n. IsTaken nodes image old now n reads) e
        (taken_past (to - from) from (omega (arith, e, within))
        (λ j low high. none j low (omega (arith, high, e))) taken)

  module _ (now : NumbersSeen) (reads : ℕ) (taken : IsTaken nodes image old now (length nodes) reads) where
    all_visited : IsVisited image old now (length (cells_of nodes)) reads
    all_visited = subst (λ n. IsVisited image old now n reads) (ap length (cells_all nodes)) taken.visited

    -- once all are taken, the frame is
    pub takes_frame : TakesFrame nodes old now image
    takes_frame = record {
      kept = λ start history kept. kept_all nodes start history image now taken.sized
          (taken.passed start history kept);
      values = λ start history kept. values_all nodes start history image now taken.sized
          (taken.passed start history kept);
      places = λ start history kept. places_all nodes start history image now taken.sized
          (taken.passed start history kept);
      sized = taken.sized;
      size = taken.size;
      unmarked = unmarked_all nodes image old now old_sized taken.sized reads all_visited;
      agreed = agreed_all nodes image old now old_sized taken.sized reads all_visited;
    }

    pub counted : reads ≡ reads_of old.watches.marked old.watches.places now.watches.places
    counted = counted_all nodes image old now old_sized taken.sized reads all_visited
