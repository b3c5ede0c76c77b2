-- What a write leaves of the agreement of a table with an image, and what stands when a table is made.
use Rattle.std.proofs.Common.{◌≡◌, ℕ, zero, suc, ◌+◌, ◌-◌, ◌*◌, ◌<◌, ◌≤◌, inl, inr, Bool, true, false, ◌&&◌, ◌||◌, List}
use Rattle.std.proofs.Common.{[], ◌∷◌, length, map, get_or, replicate, refl, ap, ap₂, sym, ◌∙◌, arith}
use Rattle.std.specs.Prelude.{nat_lt, nat_le}
use Rattle.std.specs.List.{flat_map}
use Rattle.std.proofs.lemmas.List.{get_or-take, get_or-drop, get_or_past, get_or-map, length-map, ext_get_or}
use Rattle.std.proofs.lemmas.List.{length-replicate}
use Rattle.std.proofs.lemmas.Bool.{cases_lt, or_parts, and_from, lt-ltb, le-leb, false≢true}
use Rattle.ra_memory.specs.Image.{raw}
use Rattle.ra_indirect.specs.declared.node.Node.{Node}
use Rattle.ra_indirect.specs.Trees.{Cell}
use Rattle.ra_indirect.specs.Pools.{Spelled, IsTree, IsCell, cell_in, cells_of, tracked_of, spelled_by}
use Rattle.ra_indirect.proofs.Spelling.{length-spelled_by}
use Rattle.ra_memref.specs.declared.table.Table.TheInside.{Inside}
use Rattle.ra_memref.specs.Numbers.{NumbersSeen}
use Rattle.ra_memref.specs.Marks.{page_of, touches, is_watched, marks_after}
use Rattle.ra_memref.specs.Watches.{WatchesSeen, MarksWatchers}
use Rattle.ra_memref.specs.Pass.{IsSizedFor}
use Rattle.ra_memref.specs.Table.{IsFresh, IsTold, DifferWithin, Agrees, no_cell}
use Rattle.ra_memref.specs.Seen.{table_seen, IsTable}
use Rattle.ra_memref.proofs.AgreeLemmas.{Agrees-marked}
use Rattle.ra_memref.proofs.Pages.{in_range_found}

-- the mark of each cell after a write
marks_after-at : (size : ℕ) (cells : List Cell) (places : List ℕ) (at count : ℕ) (marks : List Bool)
    (n : ℕ) → length cells ≡ n → length places ≡ n → length marks ≡ n
    → (length (marks_after size cells places at count marks) ≡ n)
    × ((k : ℕ) → k < n → get_or (marks_after size cells places at count marks) k true ≡ (get_or
    marks k true || is_watched size (get_or places k 0) (get_or cells k no_cell).width at count))
marks_after-at size [] [] at count [] zero l1 l2 l3 = (refl, λ k below. absurd (omega (arith, below)))
marks_after-at size (c ∷ cells) (p ∷ places) at count (m ∷ marks) (suc n) l1 l2 l3 =
    let rest = marks_after-at size cells places at count marks n (omega (arith, l1))
    (omega (arith, l2)) (omega (arith, l3)) in
    (ap suc rest.0, λ k below. at_place size c cells p places at count m marks n rest.1 k below)
  where
    at_place : (size : ℕ) (c : Cell) (cells : List Cell) (p : ℕ) (places : List ℕ) (at count : ℕ)
        (m : Bool) (marks : List Bool) (n : ℕ) → ((k : ℕ) → k < n → get_or (marks_after size cells
        places at count marks) k true ≡ (get_or marks k true || is_watched size (get_or places k 0)
        (get_or cells k no_cell).width at count)) → (k : ℕ) → k < suc n → get_or (marks_after size
        (c ∷ cells) (p ∷ places) at count (m ∷ marks)) k true ≡ (get_or (m ∷ marks) k true
        || is_watched size (get_or (p ∷ places) k 0) (get_or (c ∷ cells) k no_cell).width at count)
    at_place size c cells p places at count m marks n more zero below = refl
    at_place size c cells p places at count m marks n more (suc k) below = more k (omega (arith, below))
marks_after-at size [] (p ∷ places) at count marks n l1 l2 l3 = absurd (omega (arith, l1, l2))
marks_after-at size [] [] at count (m ∷ marks) n l1 l2 l3 = absurd (omega (arith, l1, l3))
marks_after-at size (c ∷ cells) [] at count marks n l1 l2 l3 = absurd (omega (arith, l1, l2))
marks_after-at size (c ∷ cells) (p ∷ places) at count [] n l1 l2 l3 = absurd (omega (arith, l1, l3))
marks_after-at size (c ∷ cells) (p ∷ places) at count (m ∷ marks) zero l1 l2 l3 = absurd (omega (arith, l1))
marks_after-at size [] [] at count [] (suc n) l1 l2 l3 = absurd (omega (arith, l1))

-- bytes outside those that are told are the same
module _ (at count : ℕ) (image image' : List ℕ) (differ : DifferWithin at count image image') where
  same_below : (j : ℕ) → j < at → get_or image j 0 ≡ get_or image' j 0
  same_below j below =
      sym (get_or-take at image j 0 below) ∙ ap (λ xs. get_or xs j 0) (sym differ.below)
      ∙ get_or-take at image' j 0 below

  same_above : (j : ℕ) → at + count ≤ j → get_or image j 0 ≡ get_or image' j 0
  same_above j above =
      let e : j ≡ at + count + (j - (at + count)) = omega (arith, above) in
      ap (λ i. get_or image i 0) e ∙ sym (get_or-drop (at + count) image (j - (at + count)) 0)
      ∙ ap (λ xs. get_or xs (j - (at + count)) 0) (sym differ.above)
      ∙ get_or-drop (at + count) image' (j - (at + count)) 0 ∙ ap (λ i. get_or image' i 0) (sym e)

  -- a cell that watches no told page reads the same
  module _ (size place width : ℕ) (long : length image ≡ size)
      (unwatched : is_watched size place width at count ≡ false) where
    abbrev watches : ℕ → Bool
    watches k = nat_lt k size && touches at count (page_of k)

    touched : (j : ℕ) → place ≤ j → j < place + width → j < size → at ≤ j → j < at + count → ⊥
    touched j low high below from to =
        let some : 0 < count = omega (arith, from, to) in
        let first : page_of at ≤ page_of j = omega (arith, from) in
        let last : page_of j ≤ page_of (at + count - 1) = omega (arith, to) in
        let told : watches j ≡ true = and_from (nat_lt j size) (touches at count (page_of j))
        (lt-ltb j size below) (and_from (nat_lt 0 count)
        (nat_le (page_of at) (page_of j) && nat_le (page_of j) (page_of (at + count - 1)))
        (lt-ltb 0 count some) (and_from (nat_le (page_of at) (page_of j))
        (nat_le (page_of j) (page_of (at + count - 1))) (le-leb (page_of at) (page_of j) first)
        (le-leb (page_of j) (page_of (at + count - 1)) last))) in
        false≢true (sym unwatched ∙ in_range_found watches place width j low high told)

    same_byte : (j : ℕ) → place ≤ j → j < place + width → get_or image j 0 ≡ get_or image' j 0
    same_byte j low high = elim (cases_lt j at) [
      | inl below ↦ same_below j below
      | inr from ↦ elim (cases_lt j (at + count)) [
        | inr above ↦ same_above j above
        | inl to ↦ elim (cases_lt j size) [
          | inl inside ↦ absurd (touched j low high inside from to)
          | inr past ↦ get_or_past image j 0 (omega (arith, past, long))
              ∙ sym (get_or_past image' j 0 (omega (arith, past, long, differ.size)))
        ]
      ]
    ]

    raw_from : (more from : ℕ) → place ≤ from → from + more ≤ place + width → raw more image from ≡ raw more image' from
    raw_from zero from low high = refl
    raw_from (suc more) from low high =
        ap₂ (λ b r. b + 256 * r) (same_byte from low (omega (arith, high)))
        (raw_from more (suc from) (omega (arith, low)) (omega (arith, high)))

    pub raw_same : raw width image place ≡ raw width image' place
    raw_same = raw_from width place (omega arith) (omega arith)

-- a table with other numbers, and with other watches
abbrev pub with_numbers : Inside → NumbersSeen → Inside
with_numbers t n = record {
  nodes = t.nodes;
  slots = t.slots;
  numbers = n;
  agenda = t.agenda;
  changes = t.changes;
  sampled = t.sampled;
}

abbrev pub with_watches : Inside → WatchesSeen → Inside
with_watches t w = with_numbers t (record t.numbers { watches = w })

module _ (t : Inside) (is : IsTable t) (new : WatchesSeen) (at count : ℕ)
    (marks : MarksWatchers t.numbers.watches new at count) where
  width_of_cell : (k : ℕ) → k < length t.numbers.watches.places
      → get_or t.numbers.watches.widths k 0 ≡ (get_or (cells_of t.nodes.items) k no_cell).width
  width_of_cell k below =
      ap (λ ws. get_or ws k 0) is.sized.widths ∙ get_or-map (λ c. c.width)
      (cells_of t.nodes.items) k no_cell 0 (omega (arith, below, is.sized.places))

  marked_at : (k : ℕ) → k < length t.numbers.watches.places → get_or new.marked k true
      ≡ (get_or t.numbers.watches.marked k true || is_watched t.numbers.watches.size (get_or
      t.numbers.watches.places k 0) (get_or (cells_of t.nodes.items) k no_cell).width at count)
  marked_at k below =
      marks.marked k below ∙ ap (λ w. get_or t.numbers.watches.marked k true
      || is_watched t.numbers.watches.size (get_or t.numbers.watches.places k 0) w at count)
      (width_of_cell k below)

  same_marks : new.marked ≡ marks_after t.numbers.watches.size
      (cells_of t.nodes.items) t.numbers.watches.places at count t.numbers.watches.marked
  same_marks =
      let there = marks_after-at t.numbers.watches.size
      (cells_of t.nodes.items) t.numbers.watches.places at count t.numbers.watches.marked
      (length (cells_of t.nodes.items)) refl is.sized.places is.sized.marked in
      ext_get_or true new.marked (marks_after t.numbers.watches.size
      (cells_of t.nodes.items) t.numbers.watches.places at count t.numbers.watches.marked)
      (marks.long ∙ is.sized.marked ∙ sym there.0)
      (λ k below. marked_at k (omega (arith, below, marks.long, is.sized.marked, is.sized.places))
      ∙ sym (there.1 k (omega (arith, below, marks.long, is.sized.marked))))

  still_agrees : (image image' : List ℕ) → length image ≡ t.numbers.watches.size
      → DifferWithin at count image image' → Agrees (table_seen t) image
      → Agrees (table_seen (with_watches t new)) image'
  still_agrees image image' long differ agrees k below unmarked =
      let within : k < length t.numbers.watches.places = omega (arith, below, is.sized.cells, is.sized.places) in
      let both = or_parts (get_or t.numbers.watches.marked k true)
      (is_watched t.numbers.watches.size (get_or t.numbers.watches.places k 0) (get_or
      (cells_of t.nodes.items) k no_cell).width at count) (sym (marked_at k within) ∙ unmarked) in
      let places : new.places ≡ t.numbers.watches.places = ap (λ (w : WatchesSeen). w.places) marks.rest in
      agrees k below both.0
      ∙ raw_same at count image image' differ t.numbers.watches.size (get_or
      t.numbers.watches.places k 0) (get_or (cells_of t.nodes.items) k no_cell).width long both.1
      ∙ ap (λ ps. raw (get_or (cells_of t.nodes.items) k no_cell).width image' (get_or ps k 0)) (sym places)

  pub told_by : IsTold (table_seen t) (table_seen (with_watches t new)) at count
  told_by = record {
    rest = ap (λ (w : WatchesSeen). table_seen (with_watches t w)) marks.rest;
    marked = same_marks;
    agrees = still_agrees;
  }

-- a pool has no more cells than nodes
few_in : (spelled : List Spelled) → length (flat_map cell_in spelled) ≤ length spelled
few_in [] = omega arith
few_in (IsTree x ∷ spelled) = omega (arith, few_in spelled)
few_in (IsCell c ∷ spelled) = omega (arith, few_in spelled)

pub few_cells : (nodes : List Node) → length (cells_of nodes) ≤ length nodes
few_cells nodes = omega (arith, few_in (spelled_by nodes), length-spelled_by nodes)

-- what a made table stands for
pub made_sized : (nodes : List Node) (size masks : ℕ) (places widths : List ℕ)
    (watches : WatchesSeen) (numbers : NumbersSeen) → places ≡ map (λ c. c.address) (cells_of nodes)
    → widths ≡ map (λ c. c.width) (cells_of nodes) → masks ≡ length (tracked_of nodes) → watches
    ≡ record {
      size = size;
      widths = widths;
      places = places;
      marked = replicate (length places) true;
    } → numbers.cells ≡ replicate (length watches.places) 0 → numbers.earlier
    ≡ replicate (length watches.places) 0 → numbers.watches ≡ watches → numbers.priors
    ≡ replicate masks 0 → numbers.values ≡ replicate (length nodes) 0 → IsSizedFor nodes numbers
made_sized nodes size masks places widths watches numbers places_are widths_are masks_are
    watches_are cells earlier same priors values =
    let count : length watches.places ≡ length (cells_of nodes) = ap (λ (w : WatchesSeen). length
    w.places) watches_are ∙ ap length places_are ∙ length-map (cells_of nodes) (λ c. c.address) in
    record {
      cells = ap length cells ∙ length-replicate (length watches.places) 0 ∙ count;
      earlier = ap length earlier ∙ length-replicate (length watches.places) 0 ∙ count;
      places = ap (λ (w : WatchesSeen). length w.places) same ∙ count;
      marked = ap (λ (w : WatchesSeen). length w.marked) (same ∙ watches_are)
          ∙ length-replicate (length places) true ∙ ap length places_are
          ∙ length-map (cells_of nodes) (λ c. c.address);
      widths = ap (λ (w : WatchesSeen). w.widths) (same ∙ watches_are) ∙ widths_are;
      priors = ap length priors ∙ length-replicate masks 0 ∙ masks_are;
      values = ap length values ∙ length-replicate (length nodes) 0;
    }

pub made_fresh : (nodes : List Node) (size masks : ℕ) (places widths : List ℕ)
    (watches : WatchesSeen) (t : Inside) → t.nodes.items ≡ nodes → t.sampled ≡ false → places
    ≡ map (λ c. c.address) (cells_of nodes) → masks ≡ length (tracked_of nodes) → watches
    ≡ record {
      size = size;
      widths = widths;
      places = places;
      marked = replicate (length places) true;
    } → t.numbers.cells ≡ replicate (length watches.places) 0 → t.numbers.watches ≡ watches
    → t.numbers.priors ≡ replicate masks 0 → IsFresh nodes size (table_seen t)
made_fresh nodes size masks places widths watches t nodes_are sampled places_are masks_are
    watches_are cells same priors =
    let count : length places ≡ length (cells_of nodes) =
    ap length places_are ∙ length-map (cells_of nodes) (λ c. c.address) in
    record {
      pool = nodes_are;
      size_too = ap (λ (w : WatchesSeen). w.size) (same ∙ watches_are);
      cells = cells ∙ ap (λ n. replicate n 0) (ap (λ (w : WatchesSeen). length w.places) watches_are ∙ count);
      priors = priors ∙ ap (λ n. replicate n 0) masks_are;
      not_sampled = sampled;
      marked = ap (λ (w : WatchesSeen). w.marked) (same ∙ watches_are) ∙ ap (λ n. replicate n true) count;
      places = ap (λ (w : WatchesSeen). w.places) (same ∙ watches_are) ∙ places_are;
      agrees = λ image long. Agrees-marked (table_seen t) image (length places)
          (ap (λ (w : WatchesSeen). w.marked) (same ∙ watches_are));
    }
