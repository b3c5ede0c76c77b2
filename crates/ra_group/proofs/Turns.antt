-- What is known when the pass comes to a place: what it carries, and which places it has visited.
use Rattle.std.proofs.Common.{◌≡◌, ℕ, ◌+◌, ◌-◌, ◌<◌, ◌≤◌, Bool, true, false, not, ◌&&◌, ◌||◌, cond, eqb, None, List, []}
use Rattle.std.proofs.Common.{◌∷◌, ◌++◌, length, get_or, take, fold, refl, sym, ap, ◌∙◌, subst, arith, length-append}
use Rattle.std.specs.List.{filter, range_with_len, list_any}
use Rattle.std.proofs.lemmas.Grind.{fold-append}
use Rattle.std.proofs.lemmas.List.{get_or_append_left, get_or-append_right, take-append-le}
use Rattle.std.proofs.Math.Seq.{take-append-add}
use Rattle.std.proofs.lemmas.List.Folds.{list_any-append, list_any_at}
use Rattle.std.proofs.lemmas.List.FromFn.{length-range_with_len, get_or-range_with_len}
use Rattle.std.proofs.lemmas.Bool.{cond-true, cond-false, not-true, true≢false, eq-eqb}
use Rattle.ra_condition.specs.Flags.{is_pause}
use Rattle.ra_condition.specs.Contents.{flag_at}
use Rattle.ra_condition.specs.Chains.{in_pause_chain, places, pass_order}
use Rattle.ra_condition.proofs.Passes.{chosen, stands, chosen_fresh, filter_fresh, any_parts}
use Rattle.ra_condition.proofs.OrderLemmas.{pausing, others}
use Rattle.ra_condition.proofs.ChainLemmas.{pause_keeps, other_keeps, in_pause_chain_past, in_pause_chain-pause}
use Rattle.ra_group.specs.Equations.{Frame, settled_at, prev_of}
use Rattle.ra_group.specs.Outcome.{some_valid}
use Rattle.ra_group.proofs.Carried.{carry, carried, carried-chosen}

-- the pass has visited these places and comes to the place i
pub record Turn (f : Frame) (js : List ℕ) (i : ℕ) : Type 0 where
  pub below : i < length f.conditions
  pub before : carried f js ≡ prev_of f i
  pub fresh : list_any (λ x. eqb x i) js ≡ false

-- after the pause chains nothing is carried
pub carried-pausing : (f : Frame) → carried f (pausing f.conditions) ≡ None
carried-pausing f =
    carried-chosen f (in_pause_chain f.conditions) (pause_keeps f.conditions) (length f.conditions)
    ∙ cond-false (in_pause_chain f.conditions (length f.conditions)) (prev_of f (length
    f.conditions)) None (in_pause_chain_past f.conditions (length f.conditions) (omega arith))

-- a turn within the pause chains
turn_at_early : (f : Frame) (k i : ℕ) → k < length (pausing f.conditions) → i
    ≡ get_or (pausing f.conditions) k 0 → Turn f (take k (pausing f.conditions)) i
    × (in_pause_chain f.conditions i ≡ true)
turn_at_early f k i l e =
    let q = in_pause_chain f.conditions in
    let at = stands q (length f.conditions) k l in
    let front : take k (pausing f.conditions) ≡ chosen q i = at.front ∙ ap (chosen q) (sym e) in
    let passes : q i ≡ true = ap q e ∙ at.passes in (
      record {
        below = omega (arith, e, at.below);
        before = ap (carried f) front ∙ carried-chosen f q (pause_keeps f.conditions) i
            ∙ cond-true (q i) (prev_of f i) None passes;
        fresh = ap (list_any (λ x. eqb x i)) front ∙ chosen_fresh q i i (omega arith);
      },
      passes,
    )

pub turn_early : (f : Frame) (k i : ℕ) → k < length (pausing f.conditions) → i
    ≡ get_or (pass_order f.conditions) k 0 → Turn f (take k (pass_order f.conditions)) i
    × (in_pause_chain f.conditions i ≡ true)
turn_early f k i l e =
    let t = turn_at_early f k i l (e ∙ get_or_append_left (pausing f.conditions) (others f.conditions) 0 k l) in
    let same : take k (pass_order f.conditions) ≡ take k (pausing f.conditions) =
    take-append-le k (pausing f.conditions) (others f.conditions) (omega arith) in
    (subst (λ (js : List ℕ). Turn f js i) (sym same) t.0, t.1)

-- no place outside the pause chains is a PauseIf
no_pause : (f : Frame) (js : List ℕ) → list_any (λ j. is_pause (flag_at f.conditions j)
    && (settled_at f j).valid) (filter (λ j. not (in_pause_chain f.conditions j)) js) ≡ false
no_pause f [] = refl
no_pause f (j ∷ js) = no_pause_more (filter (λ i. not (in_pause_chain f.conditions i)) js)
    (no_pause f js) (in_pause_chain f.conditions j) refl (is_pause (flag_at f.conditions j)) refl
  where
    no_pause_more : (ks : List ℕ) → list_any (λ i. is_pause (flag_at f.conditions i)
        && (settled_at f i).valid) ks ≡ false → (b : Bool) → in_pause_chain f.conditions j ≡ b
        → (t : Bool) → is_pause (flag_at f.conditions j) ≡ t → list_any (λ i. is_pause
        (flag_at f.conditions i) && (settled_at f i).valid) (cond (not b) (j ∷ ks) ks) ≡ false
    no_pause_more ks rest true e t s = rest
    no_pause_more ks rest false e true s = absurd (true≢false (sym (in_pause_chain-pause f.conditions j s) ∙ e))
    no_pause_more ks rest false e false s = ap (λ b. (b && (settled_at f j).valid)
        || list_any (λ i. is_pause (flag_at f.conditions i) && (settled_at f i).valid) ks) s ∙ rest

-- what is false changes no choice
pub or_none : (a b : Bool) → b ≡ false → (a || b) ≡ a
or_none true b e = refl
or_none false b e = e

-- what the pause chains say of a pause is what the group says
pub paused-pausing : (f : Frame) (m : ℕ) → some_valid is_pause f (pausing f.conditions ++ chosen
    (λ j. not (in_pause_chain f.conditions j)) m) ≡ some_valid is_pause f (pausing f.conditions)
paused-pausing f m =
    let p : ℕ → Bool = λ j. is_pause (flag_at f.conditions j) && (settled_at f j).valid in
    list_any-append p (pausing f.conditions) (chosen (λ j. not (in_pause_chain f.conditions j)) m)
    ∙ or_none (list_any p (pausing f.conditions)) _ (no_pause f (range_with_len 0 m))

pub paused-places : (f : Frame) → some_valid is_pause f (pausing f.conditions)
    ≡ some_valid is_pause f (places f.conditions)
paused-places f =
    sym (paused-pausing f (length f.conditions))
    ∙ any_parts (λ j. is_pause (flag_at f.conditions j) && (settled_at f j).valid)
    (in_pause_chain f.conditions) (places f.conditions)

-- a turn after the pause chains: also, whether the group is paused is known
pub record LateTurn (f : Frame) (js : List ℕ) (i : ℕ) : Type 0 where
  pub turn : Turn f js i
  pub outside : in_pause_chain f.conditions i ≡ false
  pub known : some_valid is_pause f js ≡ some_valid is_pause f (places f.conditions)

late_at : (f : Frame) (k i : ℕ) → k < length (others f.conditions) → i ≡ get_or
    (others f.conditions) k 0 → LateTurn f (pausing f.conditions ++ take k (others f.conditions)) i
late_at f k i l e =
    let r : ℕ → Bool = λ j. not (in_pause_chain f.conditions j) in
    let at = stands r (length f.conditions) k l in
    let front : take k (others f.conditions) ≡ chosen r i = at.front ∙ ap (chosen r) (sym e) in
    let passes : r i ≡ true = ap r e ∙ at.passes in
    let outside : in_pause_chain f.conditions i ≡ false = not-true (in_pause_chain f.conditions i) passes in
    let visited : pausing f.conditions ++ take k (others f.conditions)
    ≡ pausing f.conditions ++ chosen r i = ap (λ xs. pausing f.conditions ++ xs) front in
    record {
      turn = record {
        below = omega (arith, e, at.below);
        before =
            ap (carried f) visited
            ∙ fold-append (carry f) None (pausing f.conditions) (chosen r i)
            ∙ ap (λ before. fold (carry f) before (chosen r i)) (carried-pausing f)
            ∙ carried-chosen f r (other_keeps f.conditions) i
            ∙ cond-true (r i) (prev_of f i) None passes;
        fresh =
            ap (list_any (λ x. eqb x i)) visited
            ∙ list_any-append (λ x. eqb x i) (pausing f.conditions) (chosen r i)
            ∙ ap (λ b. b || list_any (λ x. eqb x i) (chosen r i)) (filter_fresh
            (in_pause_chain f.conditions) i outside (range_with_len 0 (length f.conditions)))
            ∙ chosen_fresh r i i (omega arith);
      };
      outside = outside;
      known = ap (some_valid is_pause f) visited ∙ paused-pausing f i ∙ paused-places f;
    }

pub turn_late : (f : Frame) (k i : ℕ) → length (pausing f.conditions) ≤ k
    → k < length (pass_order f.conditions) → i ≡ get_or (pass_order f.conditions) k 0
    → LateTurn f (take k (pass_order f.conditions)) i
turn_late f k i g l e =
    let l' : k - length (pausing f.conditions) < length (others f.conditions) =
    omega (arith, length-append (pausing f.conditions) (others f.conditions)) in
    let t = late_at f (k - length (pausing f.conditions)) i l' (e ∙ get_or-append_right
    (pausing f.conditions) (others f.conditions) (length (pausing f.conditions)) k 0 refl g) in
    let same : take k (pass_order f.conditions)
    ≡ pausing f.conditions ++ take (k - length (pausing f.conditions)) (others f.conditions) =
    let e : k ≡ length (pausing f.conditions) + (k - length (pausing f.conditions)) = omega arith in
    ap (λ n. take n (pausing f.conditions ++ others f.conditions)) e ∙ take-append-add
    (pausing f.conditions) (others f.conditions) (k - length (pausing f.conditions)) in
    subst (λ (js : List ℕ). LateTurn f js i) (sym same) t

-- every place is visited in the end
pub visited : (f : Frame) (j : ℕ) → j < length f.conditions → list_any (λ x. eqb x j) (pass_order f.conditions) ≡ true
visited f j l =
    let l' : j < length (places f.conditions) = omega (arith, length-range_with_len 0 (length f.conditions)) in
    let at : get_or (places f.conditions) j 0 ≡ j = get_or-range_with_len 0 (length f.conditions) j 0 l ∙ omega arith in
    any_parts (λ x. eqb x j) (in_pause_chain f.conditions) (places f.conditions)
    ∙ list_any_at (λ x. eqb x j) (places f.conditions) j 0 l' (eq-eqb (get_or (places f.conditions) j 0) j at)
