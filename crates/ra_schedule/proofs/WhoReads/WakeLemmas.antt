-- Nodes whose readers are made due, one after another.
use Rattle.std.proofs.Common.{refl, ◌≡◌, ℕ, ◌+◌, ◌⊎◌, inl, inr, Bool, true, false, List, [], ◌∷◌, ◌++◌, map, get_or, ap}
use Rattle.std.proofs.Common.{ap₂, sym, ◌∙◌, subst, arith}
use Rattle.std.proofs.lemmas.List.{get_or-map, length-map}
use Rattle.std.proofs.lemmas.Bool.{false≢true}
use Rattle.ra_links.proofs.Listed.{is_one, listed_back, listed_either, listed_front, listed_one}
use Rattle.ra_memref.specs.Flags.{SetsAll}
use Rattle.ra_schedule.specs.Readers.{ReadersSeen, IsListed, AreWithin, Wakes}

-- what stands in a list stands in the list of what is made of each
pub listed_map : (f : ℕ → ℕ) (n : ℕ) (xs : List ℕ) → IsListed n xs → IsListed (f n) (map f xs)
listed_map f n xs is = record {
  place = is.place;
  within = omega (arith, is.within, length-map xs f);
  here = get_or-map f xs is.place 0 0 is.within ∙ ap f is.here;
}

-- numbers that are counted from 0 on are those numbers
pub from_zero : (xs : List ℕ) → map (λ n. 0 + n) xs ≡ xs
from_zero [] = refl
from_zero (n ∷ xs) =
    let same : 0 + n ≡ n = omega arith in
    ap₂ (λ y ys. y ∷ ys) same (from_zero xs)

-- a flag is set or clear
set_or_clear : (b : Bool) → (b ≡ true) ⊎ (b ≡ false)
set_or_clear true = inl refl
set_or_clear false = inr refl

-- who was due is due where who is not due was not
still_due : (before after : Bool) → (after ≡ false → before ≡ false) → before ≡ true → after ≡ true
still_due before true kept is = refl
still_due before false kept is = absurd (false≢true (sym (kept refl) ∙ is))

-- one more node, whose row is woken
pub wakes_more : (nodes : List ℕ) (node : ℕ) (first before after : ReadersSeen) → Wakes nodes first before
    → after.rows ≡ before.rows → SetsAll (get_or before.rows node []) before.due after.due
    → Wakes (nodes ++ node ∷ []) first after
wakes_more nodes node first before after so_far same row = record {
  rows = same ∙ so_far.rows;
  long = row.long ∙ so_far.long;
  kept = λ r none. so_far.kept r (row.kept r none);
  woken = λ r n is reads. elim (listed_either n nodes (node ∷ []) is) [
    | inl earlier ↦ still_due (get_or before.due r true) (get_or after.due r true) (row.kept r)
        (so_far.woken r n earlier reads)
    | inr here ↦ row.each r (subst (IsListed r) (ap (λ i. get_or first.rows i []) (is_one n node here)
        ∙ ap (λ rows. get_or rows node []) (sym so_far.rows)) reads)
  ];
  only = λ r clear is. elim (set_or_clear (get_or before.due r true)) [
    | inl earlier ↦
        let one = so_far.only r clear earlier in
        record { node = one.node; listed = listed_front one.node nodes (node ∷ []) one.listed; reads = one.reads }
    | inr still ↦ record {
      node = node;
      listed = listed_back node nodes (node ∷ []) (listed_one node);
      reads = subst (λ rows. IsListed r (get_or rows node [])) so_far.rows (row.only r still is);
    }
  ];
}

-- some nodes and then others, whose readers are woken
pub wakes_both : (xs ys : List ℕ) (first mid last : ReadersSeen) → Wakes xs first mid
    → Wakes ys mid last → Wakes (xs ++ ys) first last
wakes_both xs ys first mid last one two = record {
  rows = two.rows ∙ one.rows;
  long = two.long ∙ one.long;
  kept = λ r quiet. one.kept r (two.kept r quiet);
  woken = λ r n is reads. elim (listed_either n xs ys is) [
    | inl front ↦ still_due (get_or mid.due r true) (get_or last.due r true) (two.kept r) (one.woken r n front reads)
    | inr back ↦ two.woken r n back (subst (λ rows. IsListed r (get_or rows n [])) (sym one.rows) reads)
  ];
  only = λ r clear is. elim (set_or_clear (get_or mid.due r true)) [
    | inl earlier ↦
        let it = one.only r clear earlier in
        record { node = it.node; listed = listed_front it.node xs ys it.listed; reads = it.reads }
    | inr still ↦
        let it = two.only r still is in
        record {
          node = it.node;
          listed = listed_back it.node xs ys it.listed;
          reads = subst (λ rows. IsListed r (get_or rows it.node [])) one.rows it.reads;
        }
  ];
}

-- to wake readers makes none
pub within_still : (nodes : List ℕ) (old new : ReadersSeen) → Wakes nodes old new → AreWithin old → AreWithin new
within_still nodes old new wakes within = λ node reader reads.
    let below = within node reader (subst (λ rows. IsListed reader (get_or rows node [])) wakes.rows reads) in
    omega (arith, below, wakes.long)
