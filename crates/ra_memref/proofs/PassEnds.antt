-- A pass at its start and at its end, and the lengths that it keeps.
use Rattle.std.proofs.Common.{◌≡◌, ℕ, List, ◌∷◌, length, map, get_or, refl, ap, sym, subst, ◌∙◌, arith, false}
use Rattle.std.proofs.lemmas.List.{get_or-map, length-map}
use Rattle.std.proofs.Math.ListN.{length-set}
use Rattle.std.proofs.lemmas.Grind.{same_number_lists}
use Rattle.ra_operand.specs.declared.kind.Kind.TheVariants.{Mem, Delta, Prior, Bcd, Inverted}
use Rattle.ra_operand.specs.Views.{mask_of}
use Rattle.ra_memory.specs.Image.{History}
use Rattle.ra_indirect.specs.declared.node.Node.{Node}
use Rattle.ra_indirect.specs.declared.node.Node.TheVariants.{Const, Cell as CellNode, View, Arith}
use Rattle.ra_indirect.specs.Trees.{constant}
use Rattle.ra_indirect.specs.Pools.{IsTree, spelled_by, cells_of, tracked_of}
use Rattle.ra_indirect.proofs.Spelling.{length-spelled_by}
use Rattle.ra_memref.specs.Numbers.{NumbersSeen}
use Rattle.ra_memref.specs.Values.{Start, cell_number, cell_place, tracked_number}
use Rattle.ra_memref.specs.Table.{AreKept, spelled_value}
use Rattle.ra_memref.specs.Pass.{place_in, number_in, prior_in, value_after, cells_after, earlier_after, places_after}
use Rattle.ra_memref.specs.Pass.{marked_after, priors_after, IsSizedFor}
use Rattle.ra_memref.proofs.Halfway.{IsDone, IsHalfway, done_none, halfway_none, done_all, halfway_all}
use Rattle.ra_memref.proofs.LaidLemmas.{cells_all, tracked_all}
use Rattle.ra_memref.proofs.Passed.{numbers_after, kept_priors, places_at, IsPassed, TakesNode}

-- the lists keep their lengths
pub sized_more : (nodes : List Node) (node : Node) (slots image : List ℕ) (k : ℕ) (old
    new : NumbersSeen) → IsSizedFor nodes old → TakesNode node slots image k old new
    → IsSizedFor nodes new
sized_more nodes node slots image k old new sized takes = record {
  cells = ap length takes.cells ∙ cells_length node ∙ sized.cells;
  earlier = ap length takes.earlier ∙ earlier_length node ∙ sized.earlier;
  places = ap length takes.places ∙ places_length node ∙ sized.places;
  marked = ap length takes.marked ∙ marked_length node ∙ sized.marked;
  widths = takes.widths ∙ sized.widths;
  priors = ap length takes.priors ∙ priors_length node ∙ sized.priors;
  values = ap length takes.values ∙ length-set old.values k (value_after node old image slots k) ∙ sized.values;
}
  where
    cells_length : (node : Node) → length (cells_after node old image (get_or slots k 0)) ≡ length old.cells
    cells_length (Const n) = refl
    cells_length (CellNode width pointer offset) =
        length-set old.cells (get_or slots k 0) (number_in old image pointer offset width)
    cells_length (View kind size c) = refl
    cells_length (Arith op left right) = refl

    earlier_length : (node : Node) → length (earlier_after node old (get_or slots k 0)) ≡ length old.earlier
    earlier_length (Const n) = refl
    earlier_length (CellNode width pointer offset) =
        length-set old.earlier (get_or slots k 0) (get_or old.cells (get_or slots k 0) 0)
    earlier_length (View kind size c) = refl
    earlier_length (Arith op left right) = refl

    places_length : (node : Node) → length (places_after node old (get_or slots k 0)) ≡ length old.watches.places
    places_length (Const n) = refl
    places_length (CellNode width pointer offset) =
        length-set old.watches.places (get_or slots k 0) (place_in old pointer offset)
    places_length (View kind size c) = refl
    places_length (Arith op left right) = refl

    marked_length : (node : Node) → length (marked_after node old (get_or slots k 0)) ≡ length old.watches.marked
    marked_length (Const n) = refl
    marked_length (CellNode width pointer offset) = length-set old.watches.marked (get_or slots k 0) false
    marked_length (View kind size c) = refl
    marked_length (Arith op left right) = refl

    priors_length : (node : Node) → length (priors_after node old slots k) ≡ length old.priors
    priors_length (Const n) = refl
    priors_length (CellNode width pointer offset) = refl
    priors_length (View Prior size c) = length-set old.priors (get_or slots k 0)
        (prior_in old (mask_of size) (get_or slots k 0) (get_or slots c 0) c)
    priors_length (View Mem size c) = refl
    priors_length (View Delta size c) = refl
    priors_length (View Bcd size c) = refl
    priors_length (View Inverted size c) = refl
    priors_length (Arith op left right) = refl

-- no node is done at the start
pub passed_none : (nodes : List Node) (start : Start) (history : History) (image : List ℕ)
    (numbers : NumbersSeen) → AreKept start history nodes numbers.cells numbers.priors
    → IsPassed nodes start history image 0 numbers
passed_none nodes start history image numbers kept = record {
  cells = subst (IsHalfway (numbers_after nodes start history)
      (numbers_after nodes start (image ∷ history)) 0) (sym kept.numbers) (halfway_none
      (numbers_after nodes start history) (numbers_after nodes start (image ∷ history)));
  earlier = done_none (numbers_after nodes start history) numbers.earlier;
  places = done_none (places_at nodes start (image ∷ history)) numbers.watches.places;
  priors = subst (IsHalfway (kept_priors nodes start history)
      (kept_priors nodes start (image ∷ history)) 0) (sym kept.priors_too)
      (halfway_none (kept_priors nodes start history) (kept_priors nodes start (image ∷ history)));
  values = λ n below. absurd (omega arith);
}

module _ (nodes : List Node) (start : Start) (history : History) (image : List ℕ)
    (numbers : NumbersSeen) (sized : IsSizedFor nodes numbers)
    (passed : IsPassed nodes start history image (length nodes) numbers) where
  -- all nodes are done at the end
  pub kept_all : AreKept start (image ∷ history) nodes numbers.cells numbers.priors
  kept_all =
      let cells : length (numbers_after nodes start (image ∷ history)) ≡ length (cells_of nodes) =
      length-map (cells_of nodes) (λ c. cell_number start c (image ∷ history)) in
      let priors : length (kept_priors nodes start (image ∷ history)) ≡ length (tracked_of nodes) =
      length-map (tracked_of nodes) (λ t. tracked_number start t (image ∷ history)) in
      record {
        numbers = halfway_all (numbers_after nodes start history) (numbers_after nodes start (image
            ∷ history)) numbers.cells (omega (arith, cells, sized.cells)) (subst (λ j. IsHalfway
            (numbers_after nodes start history) (numbers_after nodes start (image ∷ history)) j
            numbers.cells) (ap length (cells_all nodes) ∙ sym cells) passed.cells);
        priors_too = halfway_all (kept_priors nodes start history) (kept_priors nodes start (image
            ∷ history)) numbers.priors (omega (arith, priors, sized.priors)) (subst (λ j. IsHalfway
            (kept_priors nodes start history) (kept_priors nodes start (image ∷ history)) j
            numbers.priors) (ap length (tracked_all nodes) ∙ sym priors) passed.priors);
      }

  pub values_all : numbers.values ≡ map (spelled_value start (image ∷ history)) (spelled_by nodes)
  values_all =
      let all : length (map (spelled_value start (image ∷ history)) (spelled_by nodes))
      ≡ length nodes = length-map (spelled_by nodes) (spelled_value start (image ∷ history))
      ∙ length-spelled_by nodes in
      same_number_lists numbers.values (map (spelled_value start (image ∷ history))
      (spelled_by nodes)) (omega (arith, all, sized.values))
      (λ n below. passed.values n (omega (arith, sized.values))
      ∙ sym (get_or-map (spelled_value start (image ∷ history)) (spelled_by nodes) n
      (IsTree (constant 0)) 0 (omega (arith, sized.values, length-spelled_by nodes))))

  pub places_all : numbers.watches.places ≡ map (λ c. cell_place start c (image ∷ history)) (cells_of nodes)
  places_all =
      let places : length (places_at nodes start (image ∷ history)) ≡ length (cells_of nodes) =
      length-map (cells_of nodes) (λ c. cell_place start c (image ∷ history)) in
      done_all (places_at nodes start (image ∷ history)) numbers.watches.places
      (omega (arith, places, sized.places)) (subst (λ j. IsDone (places_at nodes start (image ∷
      history)) j numbers.watches.places) (ap length (cells_all nodes) ∙ sym places) passed.places)
