-- What a pass leaves of the marks and the places, and how many cells it reads.
use Rattle.std.proofs.Common.{◌≡◌, ◌≢◌, ℕ, zero, suc, ◌+◌, ◌<◌, ◌≤◌, ◌==◌, ◌⊎◌, inl, inr, Bool, true, false, not, ◌||◌}
use Rattle.std.proofs.Common.{if◌then◌else◌, List, [], ◌∷◌, ◌++◌, length, take, get_or, set, replicate, refl, ap, ap₂}
use Rattle.std.proofs.Common.{sym, subst, ◌∙◌, arith}
use Rattle.std.proofs.lemmas.List.{get_or-map, get_or-set_same, get_or-set_other, get_or-replicate, length-replicate}
use Rattle.std.proofs.lemmas.List.{length-take-le, take_all, ext_get_or}
use Rattle.std.proofs.Math.Seq.{take-suc, take-suc-set}
use Rattle.std.proofs.lemmas.Bool.{cases_eq}
use Rattle.ra_memory.specs.Image.{raw}
use Rattle.ra_indirect.specs.declared.node.Node.{Node}
use Rattle.ra_indirect.specs.declared.node.Node.TheVariants.{Const, Cell as CellNode, View, Arith}
use Rattle.ra_indirect.specs.Pools.{cell_in, spelled_with, spelled_by, node_at, cells_of}
use Rattle.ra_indirect.specs.Interned.{IsPool}
use Rattle.ra_indirect.proofs.Spelling.{spelled_of}
use Rattle.ra_memref.specs.Numbers.{NumbersSeen}
use Rattle.ra_memref.specs.Table.{no_cell}
use Rattle.ra_memref.specs.Layout.{IsLaid}
use Rattle.ra_memref.specs.Marks.{reads_of}
use Rattle.ra_memref.specs.Pass.{place_in, reads_at, IsAgreedAt, IsAgreed, IsSizedFor}
use Rattle.ra_memref.proofs.LaidLemmas.{cells_all, cells_grow}
use Rattle.ra_memref.proofs.Passed.{cell_count, TakesNode}
use Rattle.ra_memref.proofs.PassLemmas.{cell_node_slot, counts_same}

-- the first n cells were visited: they are unmarked, and have the image's number at their place; the rest is as it was
pub record IsVisited (image : List ℕ) (old now : NumbersSeen) (n reads : ℕ) : Type 0 where
  pub cells_left : (i : ℕ) → n ≤ i → get_or now.cells i 0 ≡ get_or old.cells i 0
  pub places_left : (i : ℕ) → n ≤ i → get_or now.watches.places i 0 ≡ get_or old.watches.places i 0
  pub marked_left : (i : ℕ) → n ≤ i → get_or now.watches.marked i true ≡ get_or old.watches.marked i true
  pub unmarked : (i : ℕ) → i < n → get_or now.watches.marked i true ≡ false
  pub agreed : (i : ℕ) → i < n → get_or now.cells i 0
      ≡ raw (get_or now.watches.widths i 0) image (get_or now.watches.places i 0)
  pub counted : reads ≡ reads_of (take n old.watches.marked) (take n old.watches.places) (take n now.watches.places)

pub visited_none : (image : List ℕ) (old : NumbersSeen) → IsVisited image old old 0 0
visited_none image old = record {
  cells_left = λ i above. refl;
  places_left = λ i above. refl;
  marked_left = λ i above. refl;
  unmarked = λ i below. absurd (omega (arith, below));
  agreed = λ i below. absurd (omega (arith, below));
  counted = refl;
}

-- one cell more is counted
reads_of-append : (ms : List Bool) (ps qs : List ℕ) (m : Bool) (p q n : ℕ) → length ms ≡ n
    → length ps ≡ n → length qs ≡ n → reads_of (ms ++ m ∷ []) (ps ++ p ∷ []) (qs ++ q ∷ [])
    ≡ reads_of ms ps qs + (if m || not (p == q) then 1 else 0)
reads_of-append [] [] [] m p q n l1 l2 l3 = omega arith
reads_of-append (x ∷ ms) (y ∷ ps) (z ∷ qs) m p q zero l1 l2 l3 = absurd (omega (arith, l1))
reads_of-append (x ∷ ms) (y ∷ ps) (z ∷ qs) m p q (suc n) l1 l2 l3 =
    ap (λ r. (if x || not (y == z) then 1 else 0) + r)
    (reads_of-append ms ps qs m p q n (omega (arith, l1)) (omega (arith, l2)) (omega (arith, l3)))
    ∙ assoc (if x || not (y == z) then 1 else 0) (reads_of ms ps qs) (if m || not (p == q) then 1 else 0)
  where
    assoc : (a b c : ℕ) → a + (b + c) ≡ a + b + c
    assoc a b c = omega arith
reads_of-append [] (y ∷ ps) qs m p q n l1 l2 l3 = absurd (omega (arith, l1, l2))
reads_of-append [] [] (z ∷ qs) m p q n l1 l2 l3 = absurd (omega (arith, l1, l3))
reads_of-append (x ∷ ms) [] qs m p q n l1 l2 l3 = absurd (omega (arith, l1, l2))
reads_of-append (x ∷ ms) (y ∷ ps) [] m p q n l1 l2 l3 = absurd (omega (arith, l1, l3))

-- the cell in a slot is visited
pub record VisitsCell (image : List ℕ) (now new : NumbersSeen) (slot place width : ℕ) : Type 0 where
  pub cells : new.cells ≡ set now.cells slot (raw width image place)
  pub places : new.watches.places ≡ set now.watches.places slot place
  pub marked : new.watches.marked ≡ set now.watches.marked slot false
  pub widths : new.watches.widths ≡ now.watches.widths

module _ (image : List ℕ) (old now new : NumbersSeen) (n reads place width : ℕ) (visited : IsVisited
    image old now n reads) (visits : VisitsCell image now new n place width) (cells_in : n
    < length now.cells) (places_in : n < length now.watches.places) (marked_in : n < length
    now.watches.marked) (old_places_in : n < length old.watches.places) (old_marked_in : n
    < length old.watches.marked) (wide : get_or now.watches.widths n 0 ≡ width) where
  left : {A : Type 0} (news nows olds : List A) (v d : A) → news ≡ set nows n v → ((i : ℕ) → n ≤ i
      → get_or nows i d ≡ get_or olds i d) → (i : ℕ) → suc n ≤ i → get_or news i d ≡ get_or olds i d
  left news nows olds v d is before i above =
      let apart : i ≢ n = λ e. absurd (omega (arith, e, above)) in
      ap (λ xs. get_or xs i d) is ∙ get_or-set_other nows n i v d apart ∙ before i (omega (arith, above))

  unmarked_more : (i : ℕ) → i < suc n → (i ≡ n) ⊎ (i ≡ n → ⊥) → get_or new.watches.marked i true ≡ false
  unmarked_more i below (inl e) = ap₂ (λ xs j. get_or xs j true) visits.marked e
      ∙ get_or-set_same now.watches.marked n false true marked_in
  unmarked_more i below (inr apart) = ap (λ xs. get_or xs i true) visits.marked ∙ get_or-set_other
      now.watches.marked n i false true apart ∙ visited.unmarked i (omega (arith, below, apart))

  agreed_more : (i : ℕ) → i < suc n → (i ≡ n) ⊎ (i ≡ n → ⊥) → get_or new.cells i 0
      ≡ raw (get_or new.watches.widths i 0) image (get_or new.watches.places i 0)
  agreed_more i below (inl e) =
      let here : get_or new.watches.places i 0 ≡ place = ap₂ (λ xs j. get_or xs j 0) visits.places e
      ∙ get_or-set_same now.watches.places n place 0 places_in in
      let width_here : get_or new.watches.widths i 0 ≡ width = ap₂ (λ xs j. get_or xs j 0) visits.widths e ∙ wide in
      ap₂ (λ xs j. get_or xs j 0) visits.cells e ∙ get_or-set_same now.cells n (raw width image place) 0 cells_in
      ∙ sym (ap₂ (λ w p. raw w image p) width_here here)
  agreed_more i below (inr apart) =
      let here : get_or new.watches.places i 0 ≡ get_or now.watches.places i 0 = ap
      (λ xs. get_or xs i 0) visits.places ∙ get_or-set_other now.watches.places n i place 0 apart in
      let width_here : get_or new.watches.widths i 0 ≡ get_or now.watches.widths i 0 =
      ap (λ xs. get_or xs i 0) visits.widths in
      ap (λ xs. get_or xs i 0) visits.cells ∙ get_or-set_other now.cells n i (raw width image place) 0 apart
      ∙ visited.agreed i (omega (arith, below, apart))
      ∙ sym (ap₂ (λ w p. raw w image p) width_here here)

  counted_more : reads + (if get_or now.watches.marked n true
      || not (get_or now.watches.places n 0 == place) then 1 else 0) ≡ reads_of (take (suc n)
      old.watches.marked) (take (suc n) old.watches.places) (take (suc n) new.watches.places)
  counted_more =
      ap₂ (λ m p. reads + (if m || not (p == place) then 1 else 0))
      (visited.marked_left n (omega arith)) (visited.places_left n (omega arith))
      ∙ ap (λ r. r + (if get_or old.watches.marked n true
      || not (get_or old.watches.places n 0 == place) then 1 else 0)) visited.counted
      ∙ sym (reads_of-append (take n old.watches.marked) (take n old.watches.places)
      (take n now.watches.places) (get_or old.watches.marked n true)
      (get_or old.watches.places n 0) place n (length-take-le n old.watches.marked
      (omega (arith, old_marked_in))) (length-take-le n old.watches.places (omega
      (arith, old_places_in))) (length-take-le n now.watches.places (omega (arith, places_in))))
      ∙ ap₂ (λ ms ps. reads_of ms ps (take n now.watches.places ++ place ∷ []))
      (sym (take-suc old.watches.marked n true old_marked_in))
      (sym (take-suc old.watches.places n 0 old_places_in))
      ∙ ap (reads_of (take (suc n) old.watches.marked) (take (suc n) old.watches.places))
      (sym (ap (take (suc n)) visits.places ∙ take-suc-set now.watches.places n place places_in))

  pub visited_more : IsVisited image old new (suc n) (reads + (if get_or now.watches.marked n true
      || not (get_or now.watches.places n 0 == place) then 1 else 0))
  visited_more = record {
    cells_left = left new.cells now.cells old.cells (raw width image place) 0 visits.cells visited.cells_left;
    places_left = left new.watches.places now.watches.places old.watches.places place 0
        visits.places visited.places_left;
    marked_left = left new.watches.marked now.watches.marked old.watches.marked false true
        visits.marked visited.marked_left;
    unmarked = λ i below. unmarked_more i below (cases_eq i n);
    agreed = λ i below. agreed_more i below (cases_eq i n);
    counted = counted_more;
  }

pub visited_same : (image : List ℕ) (old now new : NumbersSeen) (n reads : ℕ)
    → IsVisited image old now n reads → new.cells ≡ now.cells → new.watches.places
    ≡ now.watches.places → new.watches.marked ≡ now.watches.marked → new.watches.widths
    ≡ now.watches.widths → IsVisited image old new n reads
visited_same image old now new n reads visited cells places marked widths = record {
  cells_left = λ i above. ap (λ xs. get_or xs i 0) cells ∙ visited.cells_left i above;
  places_left = λ i above. ap (λ xs. get_or xs i 0) places ∙ visited.places_left i above;
  marked_left = λ i above. ap (λ xs. get_or xs i true) marked ∙ visited.marked_left i above;
  unmarked = λ i below. ap (λ xs. get_or xs i true) marked ∙ visited.unmarked i below;
  agreed = λ i below. ap (λ xs. get_or xs i 0) cells ∙ visited.agreed i below ∙ sym (ap₂
      (λ w p. raw w image p) (ap (λ xs. get_or xs i 0) widths) (ap (λ xs. get_or xs i 0) places));
  counted = visited.counted ∙ ap (λ ps. reads_of (take n old.watches.marked)
      (take n old.watches.places) (take n ps)) (sym places);
}

module _ (nodes : List Node) (pool : IsPool nodes) (slots : List ℕ) (laid : IsLaid nodes slots)
    (k : ℕ) (within : k < length nodes) (image : List ℕ) (old now : NumbersSeen)
    (old_sized : IsSizedFor nodes old) (sized : IsSizedFor nodes now) (reads : ℕ)
    (visited : IsVisited image old now (cell_count nodes k) reads) where
  -- the width of the cell in its slot
  width_there : (pointer offset width : ℕ) → node_at nodes k ≡ CellNode width pointer offset
      → (get_or now.watches.widths (cell_count nodes k) 0 ≡ width)
      × (cell_count nodes k < length (cells_of nodes))
  width_there pointer offset width same =
      let facts = cell_node_slot nodes pool slots laid k within pointer offset width same in
      let below : cell_count nodes k < length (cells_of nodes) = below_all (facts.1) in (
        ap (λ ws. get_or ws (cell_count nodes k) 0) sized.widths
            ∙ get_or-map (λ c. c.width) (cells_of nodes) (cell_count nodes k) no_cell 0 below ∙ ap
            (λ i. (get_or (cells_of nodes) i no_cell).width) (sym facts.0) ∙ ap (λ c. c.width) facts.2,
        below,
      )
    where
      below_all : cell_count nodes (suc k) ≡ suc (cell_count nodes k) → cell_count nodes k < length (cells_of nodes)
      below_all one =
          omega (
            arith,
            one,
            cells_grow (spelled_by nodes) (suc k) (length nodes) (omega (arith, within)),
            ap length (cells_all nodes),
          )

  agreed_by : (node : Node) → node_at nodes k ≡ node → IsAgreed old image → IsAgreedAt node now image (get_or slots k 0)
  agreed_by (Const n) same agrees = tt
  agreed_by (View kind size c) same agrees = tt
  agreed_by (Arith op left right) same agrees = tt
  agreed_by (CellNode width pointer offset) same agrees = λ unmarked.
      let facts = cell_node_slot nodes pool slots laid k within pointer offset width same in
      let there = width_there pointer offset width same in
      let n : ℕ = cell_count nodes k in
      let still : get_or old.watches.marked n true ≡ false = sym (visited.marked_left n
      (omega arith)) ∙ ap (λ i. get_or now.watches.marked i true) (sym facts.0) ∙ unmarked in
      let widths : get_or old.watches.widths n 0 ≡ width =
      ap (λ ws. get_or ws n 0) (old_sized.widths ∙ sym sized.widths) ∙ there.0 in
      ap (λ i. get_or now.cells i 0) facts.0 ∙ visited.cells_left n (omega arith)
      ∙ agrees n (omega (arith, there.1, old_sized.cells)) still
      ∙ ap₂ (λ w p. raw w image p) widths (sym (visited.places_left n (omega arith))
      ∙ ap (λ i. get_or now.watches.places i 0) (sym facts.0))

  -- what `take_node` asks of the cell of a node
  pub agreed_there : (node : Node) → node ≡ node_at nodes k → IsAgreed old image
      → IsAgreedAt node now image (get_or slots k 0)
  agreed_there node same agrees = agreed_by node (sym same) agrees

  module _ (new : NumbersSeen) where
    stays : (node : Node) → node_at nodes k ≡ node → cell_in (spelled_with (spelled_by nodes) node)
        ≡ [] → new.cells ≡ now.cells → new.watches.places ≡ now.watches.places → new.watches.marked
        ≡ now.watches.marked → new.watches.widths ≡ now.watches.widths
        → IsVisited image old new (cell_count nodes (suc k)) (reads + 0)
    stays node same none cells places marked widths =
        let is = spelled_of nodes pool k within ∙ ap (spelled_with (spelled_by nodes)) same in
        let count : cell_count nodes k ≡ cell_count nodes (suc k) = sym (counts_same nodes pool
        slots laid k within (spelled_with (spelled_by nodes) node) is none) in
        let as_many : reads ≡ reads + 0 = omega arith in
        subst (λ r. IsVisited image old new (cell_count nodes (suc k)) r) as_many
        (subst (λ n. IsVisited image old new n reads) count (visited_same image old now new
        (cell_count nodes k) reads visited cells places marked widths))

    visited_by : (node : Node) → node_at nodes k ≡ node → TakesNode node slots image k now new
        → IsVisited image old new (cell_count nodes (suc k))
        (reads + reads_at node now (get_or slots k 0))
    visited_by (Const n) same takes = stays (Const n) same refl takes.cells takes.places takes.marked takes.widths
    visited_by (View kind size c) same takes =
        stays (View kind size c) same refl takes.cells takes.places takes.marked takes.widths
    visited_by (Arith op left right) same takes =
        stays (Arith op left right) same refl takes.cells takes.places takes.marked takes.widths
    visited_by (CellNode width pointer offset) same takes =
        let facts = cell_node_slot nodes pool slots laid k within pointer offset width same in
        let there = width_there pointer offset width same in
        let n : ℕ = cell_count nodes k in
        let place : ℕ = place_in now pointer offset in
        let visits : VisitsCell image now new n place width = record {
          cells = takes.cells ∙ ap (λ i. set now.cells i (raw width image place)) facts.0;
          places = takes.places ∙ ap (λ i. set now.watches.places i place) facts.0;
          marked = takes.marked ∙ ap (λ i. set now.watches.marked i false) facts.0;
          widths = takes.widths;
        } in
        let more = visited_more image old now new n reads place width visited visits
        (omega (arith, there.1, sized.cells)) (omega (arith, there.1, sized.places))
        (omega (arith, there.1, sized.marked)) (omega (arith, there.1, old_sized.places))
        (omega (arith, there.1, old_sized.marked)) there.0 in
        subst (λ i. IsVisited image old new (cell_count nodes (suc k))
        (reads + (if get_or now.watches.marked i true
        || not (get_or now.watches.places i 0 == place) then 1 else 0))) (sym facts.0)
        (subst (λ m. IsVisited image old new m (reads + (if get_or now.watches.marked n true
        || not (get_or now.watches.places n 0 == place) then 1 else 0))) (sym facts.1) more)

    -- the node is visited
    pub visited_node : (node : Node) → node ≡ node_at nodes k → TakesNode node slots image k now new
        → IsVisited image old new (cell_count nodes (suc k))
        (reads + reads_at node now (get_or slots k 0))
    visited_node node same takes = visited_by node (sym same) takes

-- all cells are visited at the end
module _ (nodes : List Node) (image : List ℕ) (old now : NumbersSeen)
    (old_sized : IsSizedFor nodes old) (sized : IsSizedFor nodes now) (reads : ℕ)
    (visited : IsVisited image old now (length (cells_of nodes)) reads) where
  pub unmarked_all : now.watches.marked ≡ replicate (length (cells_of nodes)) false
  unmarked_all =
      let long : length (replicate (length (cells_of nodes)) false) ≡ length (cells_of nodes) =
      length-replicate (length (cells_of nodes)) false in
      ext_get_or true now.watches.marked (replicate (length (cells_of nodes)) false) (sized.marked ∙ sym long)
      (λ i below. visited.unmarked i (omega (arith, below, sized.marked)) ∙ sym (get_or-replicate
      (length (cells_of nodes)) i false true (omega (arith, below, sized.marked))))

  pub agreed_all : IsAgreed now image
  agreed_all = λ i below unmarked. visited.agreed i (omega (arith, below, sized.cells))

  pub counted_all : reads ≡ reads_of old.watches.marked old.watches.places now.watches.places
  counted_all =
      visited.counted
      ∙ ap₂ (λ ms ps. reads_of ms ps (take (length (cells_of nodes)) now.watches.places))
      (take_all (length (cells_of nodes)) old.watches.marked (omega (arith, old_sized.marked)))
      (take_all (length (cells_of nodes)) old.watches.places (omega (arith, old_sized.places)))
      ∙ ap (reads_of old.watches.marked old.watches.places)
      (take_all (length (cells_of nodes)) now.watches.places (omega (arith, sized.places)))
