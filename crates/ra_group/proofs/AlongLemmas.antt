-- Parts of lists that run over several groups.
use Rattle.std.proofs.Common.{◌≡◌, ℕ, zero, suc, ◌+◌, ◌<◌, Bool, List, [], ◌∷◌, ◌++◌, length, get_or, take, drop, not}
use Rattle.std.proofs.Common.{filter, sum_by, refl, sym, ap, ◌∙◌, subst, arith, length-append}
use Rattle.std.specs.List.{flat_map}
use Rattle.std.proofs.lemmas.List.{drop-drop, take_at, drop_at, get_or-map, length-map}
use Rattle.std.proofs.lemmas.List.Sums.{sum_by-cons, sum_by_more_le}
use Rattle.std.proofs.lemmas.List.Filters.{length-filter_both}
use Rattle.std.proofs.lemmas.List.FromFn.{length-range_with_len, length-map-range_with_len}
use Rattle.ra_condition.specs.declared.condition.Condition.{Condition}
use Rattle.ra_condition.specs.Chains.{in_pause_chain, places, pass_order}
use Rattle.ra_group.specs.Equations.{Frame, frame_of}
use Rattle.ra_group.specs.Outcome.{next_hit, next_hits}
use Rattle.ra_group.specs.Along.{pause_count, frame_at, ReadsGroups, HasEntries, LiesAlong}
use Rattle.ra_group.specs.declared.reads.Reads.{Reads}

-- the frame of a group after others
pub frame_at-drop : (cs : List Condition) (truths : List Bool) (lefts hits : List ℕ) (n at : ℕ)
    → frame_at cs (drop n truths) (drop n lefts) (drop n hits) at
    ≡ frame_at cs truths lefts hits (n + at)
frame_at-drop cs truths lefts hits n at =
    ap (λ ts. frame_of cs (take (length cs) ts) (take (length cs) (drop at (drop n lefts)))
    (take (length cs) (drop at (drop n hits)))) (drop-drop at n truths)
    ∙ ap (λ ls. frame_of cs (take (length cs) (drop (n + at) truths)) (take (length cs) ls)
    (take (length cs) (drop at (drop n hits)))) (drop-drop at n lefts)
    ∙ ap (λ hs. frame_of cs (take (length cs) (drop (n + at) truths))
    (take (length cs) (drop (n + at) lefts)) (take (length cs) hs)) (drop-drop at n hits)

-- a hit for each condition
pub length-next_hits : (f : Frame) → length (next_hits f) ≡ length f.conditions
length-next_hits f = length-map-range_with_len (next_hit f) 0 (length f.conditions)

-- the part that the k-th entry gives, of a list of the parts of all
pub flat_map-part : {X : Type 0} (f : X → List ℕ) (size : X → ℕ) → ((x : X) → length (f x) ≡ size x)
    → (xs : List X) (k : ℕ) (d : X) → k < length xs → take (size (get_or xs k d))
    (drop (sum_by size (take k xs)) (flat_map f xs)) ≡ f (get_or xs k d)
flat_map-part f size long [] k d l = absurd (omega arith)
flat_map-part f size long (x ∷ xs) zero d l = take_at (f x) (flat_map f xs) (size x) (long x)
flat_map-part f size long (x ∷ xs) (suc k) d l =
    ap (λ n. take (size (get_or xs k d)) (drop n (f x ++ flat_map f xs))) (sum_by-cons size x (take k xs))
    ∙ ap (take (size (get_or xs k d))) (sym (drop-drop (sum_by size (take k xs)) (size x)
    (f x ++ flat_map f xs))
    ∙ ap (drop (sum_by size (take k xs))) (drop_at (f x) (flat_map f xs) (size x) (long x)))
    ∙ flat_map-part f size long xs k d (omega arith)

pub length-flat_map : {X : Type 0} (f : X → List ℕ) (size : X → ℕ)
    → ((x : X) → length (f x) ≡ size x) → (xs : List X) → length (flat_map f xs) ≡ sum_by size xs
length-flat_map f size long [] = refl
length-flat_map f size long (x ∷ xs) =
    length-append (f x) (flat_map f xs) ∙ ap (λ n. n + length (flat_map f xs)) (long x)
    ∙ ap (λ n. size x + n) (length-flat_map f size long xs) ∙ sym (sum_by-cons size x xs)

-- the pass order has each condition once
pub length-pass_order : (cs : List Condition) → length (pass_order cs) ≡ length cs
length-pass_order cs =
    omega (
      arith,
      length-append (filter (in_pause_chain cs) (places cs)) (filter (λ j. not (in_pause_chain cs j)) (places cs)),
      length-filter_both (in_pause_chain cs) (λ j. not (in_pause_chain cs j)) (λ j. refl) (places cs),
      length-range_with_len 0 (length cs),
    )

module _ (groups : List (List Condition)) (reads : Reads) (read : ReadsGroups groups reads) where
  length-orders : length reads.orders.now ≡ sum_by length groups
  length-orders = ap length read.orders ∙ length-flat_map pass_order length length-pass_order groups

  -- the groups have as many entries as conditions
  pub has_entries : (count : ℕ) → count ≡ sum_by length groups → HasEntries count reads
  has_entries count e = record { orders = omega (arith, length-orders); truths = omega arith; lefts = omega arith }

  -- each of them lies behind those before it
  pub lies_along : (number start : ℕ) (cs : List Condition) → number < length groups
      → get_or groups number cs ≡ cs → start ≡ sum_by length (take number groups)
      → LiesAlong cs reads (record { number = number; start = start })
  lies_along number start cs l here is = record {
    order =
        ap (λ n. take (length cs) (drop n reads.orders.now)) is
        ∙ ap (λ xs. take (length cs) (drop (sum_by length (take number groups)) xs)) read.orders
        ∙ subst (λ (ds : List Condition). take (length ds)
        (drop (sum_by length (take number groups)) (flat_map pass_order groups)) ≡ pass_order ds)
        here (flat_map-part pass_order length length-pass_order groups number cs l);
    counted = omega (arith, ap length read.pauses, length-map groups pause_count);
    pauses = ap (λ xs. get_or xs number 0) read.pauses ∙ get_or-map pause_count groups number cs 0 l
        ∙ ap pause_count here;
    within = omega (arith, length-orders, ap length here, sum_by_more_le length groups number cs l);
  }
