-- A table of which the marks are those after a look: it agrees with the image that was looked at.
use Rattle.std.proofs.Common.{◌≡◌, ℕ, zero, suc, ◌<◌, Bool, true, false, ◌||◌, List, [], ◌∷◌, length, get_or, refl, ap}
use Rattle.std.proofs.Common.{sym, ◌∙◌, arith, rules}
use Rattle.std.proofs.lemmas.List.{get_or-map, ext_get_or}
use Rattle.std.proofs.lemmas.Bool.{or_parts}
use Rattle.ra_memory.specs.Image.{raw}
use Rattle.ra_indirect.specs.Trees.{Cell}
use Rattle.ra_indirect.specs.Pools.{cells_of}
use Rattle.ra_memref.specs.declared.table.Table.TheInside.{Inside}
use Rattle.ra_memref.specs.Marking.{is_other}
use Rattle.ra_memref.specs.Marks.{marks_seen}
use Rattle.ra_memref.specs.Watches.{WatchesSeen, MarksOthers}
use Rattle.ra_memref.specs.Table.{IsLooked, Agrees, no_cell}
use Rattle.ra_memref.specs.Seen.{table_seen, IsTable}
use Rattle.ra_memref.proofs.TableLemmas.{with_watches}

-- the mark of each cell after a look
pub record AreMarksSeen (image : List ℕ) (cells : List Cell) (places numbers : List ℕ)
    (marks seen : List Bool) (n : ℕ) : Type 0 where
  pub long : length seen ≡ n
  pub each : (k : ℕ) → k < n → get_or seen k true ≡ (get_or marks k true
      || is_other image (get_or cells k no_cell).width (get_or places k 0) (get_or numbers k 0))

marks_seen-at : (image : List ℕ) (cells : List Cell) (places numbers : List ℕ) (marks : List Bool)
    (n : ℕ) → length cells ≡ n → length places ≡ n → length numbers ≡ n → length marks ≡ n
    → AreMarksSeen image cells places numbers marks (marks_seen image cells places numbers marks) n
marks_seen-at image (c ∷ cells) (p ∷ places) (m ∷ numbers) (mark ∷ marks) zero l1 l2 l3 l4 = absurd (omega (arith, l1))
marks_seen-at image (c ∷ cells) (p ∷ places) (m ∷ numbers) (mark ∷ marks) (suc n) l1 l2 l3 l4 =
    let rest = marks_seen-at image cells places numbers marks n (omega (arith, l1))
    (omega (arith, l2)) (omega (arith, l3)) (omega (arith, l4)) in
    record { long = ap suc rest.long; each = at_place rest }
  where
    at_place : AreMarksSeen image cells places numbers marks (marks_seen image cells places numbers
        marks) n → (k : ℕ) → k < suc n → get_or (marks_seen image (c ∷ cells) (p ∷ places)
        (m ∷ numbers) (mark ∷ marks)) k true ≡ (get_or (mark ∷ marks) k true || is_other image
        (get_or (c ∷ cells) k no_cell).width (get_or (p ∷ places) k 0) (get_or (m ∷ numbers) k 0))
    at_place rest zero below = refl
    at_place rest (suc k) below = rest.each k (omega (arith, below))
marks_seen-at image [] places numbers marks zero l1 l2 l3 l4 =
    record { long = refl; each = λ k below. absurd (omega (arith, below)) }
marks_seen-at image [] places numbers marks (suc n) l1 l2 l3 l4 = absurd (omega (arith, l1))
marks_seen-at image (c ∷ cells) [] numbers marks n l1 l2 l3 l4 = absurd (omega (arith, l1, l2))
marks_seen-at image (c ∷ cells) (p ∷ places) [] marks n l1 l2 l3 l4 = absurd (omega (arith, l1, l3))
marks_seen-at image (c ∷ cells) (p ∷ places) (m ∷ numbers) [] n l1 l2 l3 l4 = absurd (omega (arith, l1, l4))

-- what has not another number has this one
not_other : (image : List ℕ) (width place number : ℕ) → is_other image width place number ≡ false
    → number ≡ raw width image place
not_other image width place number is = search rules

module _ (t : Inside) (is : IsTable t) (new : WatchesSeen) (image : List ℕ)
    (marks : MarksOthers t.numbers.watches new image t.numbers.cells) where
  marked_at : (k : ℕ) → k < length t.numbers.watches.places → get_or new.marked k true
      ≡ (get_or t.numbers.watches.marked k true || is_other image (get_or (cells_of t.nodes.items) k
      no_cell).width (get_or t.numbers.watches.places k 0) (get_or t.numbers.cells k 0))
  marked_at k below =
      marks.marked k below ∙ ap (λ w. get_or t.numbers.watches.marked k true
      || is_other image w (get_or t.numbers.watches.places k 0) (get_or t.numbers.cells k 0))
      (ap (λ ws. get_or ws k 0) is.sized.widths ∙ get_or-map (λ c. c.width)
      (cells_of t.nodes.items) k no_cell 0 (omega (arith, below, is.sized.places)))

  same_marks : new.marked ≡ marks_seen image
      (cells_of t.nodes.items) t.numbers.watches.places t.numbers.cells t.numbers.watches.marked
  same_marks =
      let there = marks_seen-at image (cells_of t.nodes.items) t.numbers.watches.places
      t.numbers.cells t.numbers.watches.marked
      (length (cells_of t.nodes.items)) refl is.sized.places is.sized.cells is.sized.marked in
      ext_get_or true new.marked _ (marks.long ∙ is.sized.marked ∙ sym there.long)
      (λ k below. marked_at k (omega (arith, below, marks.long, is.sized.marked, is.sized.places))
      ∙ sym (there.each k (omega (arith, below, marks.long, is.sized.marked))))

  agrees_now : Agrees (table_seen (with_watches t new)) image
  agrees_now k below unmarked =
      let within : k < length t.numbers.watches.places = omega (arith, below, is.sized.cells, is.sized.places) in
      let width = (get_or (cells_of t.nodes.items) k no_cell).width in
      let both = or_parts (get_or t.numbers.watches.marked k true)
      (is_other image width (get_or t.numbers.watches.places k 0) (get_or t.numbers.cells k 0))
      (sym (marked_at k within) ∙ unmarked) in
      not_other image width (get_or t.numbers.watches.places k 0) (get_or t.numbers.cells k 0) both.1
      ∙ ap (λ ps. raw width image (get_or ps k 0)) (sym (ap (λ (w : WatchesSeen). w.places) marks.rest))

  pub looked_by : IsLooked (table_seen t) (table_seen (with_watches t new)) image
  looked_by = record {
    rest = ap (λ (w : WatchesSeen). table_seen (with_watches t w)) marks.rest;
    marked = same_marks;
    agrees = agrees_now;
  }
