-- Each condition stands once in the pass order, and after the one before it in its chain.
use Rattle.std.proofs.Common.{◌≡◌, ◌≢◌, ℕ, zero, suc, ◌+◌, ◌-◌, ◌<◌, ◌≤◌, ◌==◌, Bool, true, false, not, cond, List}
use Rattle.std.proofs.Common.{[], ◌∷◌, length, take, get_or, refl, sym, ap, ◌∙◌, ◌⊎◌, inl, inr, arith, length-append}
use Rattle.std.specs.List.{position_or_len, before_first}
use Rattle.std.proofs.lemmas.List.{get_or_append_left, get_or-append_right, get_or-append-add, get_or-take}
use Rattle.std.proofs.lemmas.List.{length-take-le}
use Rattle.std.proofs.lemmas.Bool.{cases_lt, true≢false, eq-eqb, ne_eqb, cases_order}
use Rattle.ra_condition.specs.declared.condition.Condition.{Condition}
use Rattle.ra_condition.specs.Flags.{combines}
use Rattle.ra_condition.specs.Contents.{flag_at}
use Rattle.ra_condition.specs.Chains.{in_pause_chain, pass_order}
use Rattle.ra_condition.proofs.ChainLemmas.{in_pause_chain-combines}
use Rattle.ra_condition.proofs.Passes.{chosen, length-chosen_more, stands}
use Rattle.ra_condition.proofs.OrderLemmas.{pausing, others, order_early, order_late}
use Rattle.ra_chain.proofs.LawLemmas.{chosen_at}

-- the place of a turn
abbrev pub turn_at : List Condition → ℕ → ℕ
turn_at cs k = get_or (pass_order cs) k 0

-- chosen places rise
rising : (q : ℕ → Bool) (m k j : ℕ) → k < j → j < length (chosen q m)
    → get_or (chosen q m) k 0 < get_or (chosen q m) j 0
rising q m k j less within =
    let s = stands q m j within in
    let i = get_or (chosen q m) j 0 in
    let front : length (take j (chosen q m)) ≡ j = length-take-le j (chosen q m) (omega arith) in
    let long : k < length (chosen q (get_or (chosen q m) j 0)) = omega (arith, ap length s.front, front) in
    let here : get_or (chosen q m) k 0 ≡ get_or (chosen q (get_or (chosen q m) j 0)) k 0 = sym
    (get_or-take j (chosen q m) k 0 less) ∙ ap (λ ys. get_or ys k 0) s.front in
    omega (arith, here, (stands q i k long).below)

distinct_by : (cs : List Condition) (m k : ℕ) → m < k → k < length (pass_order cs)
    → (k < length (pausing cs)) ⊎ (length (pausing cs) ≤ k) → (m < length (pausing cs)) ⊎ (length (pausing cs) ≤ m)
    → turn_at cs m ≢ turn_at cs k
distinct_by cs m k less within (inl early) other same =
    let up = rising (in_pause_chain cs) (length cs) m k less early in
    let left = get_or_append_left (pausing cs) (others cs) 0 m (omega arith) in
    let right = get_or_append_left (pausing cs) (others cs) 0 k early in
    absurd (omega arith)
distinct_by cs m k less within (inr late) (inl early) same =
    absurd (true≢false (sym (order_early cs m early).1 ∙ ap (in_pause_chain cs) same ∙ (order_late cs k late within).1))
distinct_by cs m k less within (inr late) (inr late') same =
    let long : k - length (pausing cs) < length (others cs) = omega (arith, length-append (pausing cs) (others cs)) in
    let up = rising (λ j. not (in_pause_chain cs j)) (length cs) (m - length (pausing cs)) (k - length (pausing cs))
    (omega arith) long in
    let left = get_or-append_right (pausing cs) (others cs) (length (pausing cs)) m 0 refl late' in
    let right = get_or-append_right (pausing cs) (others cs) (length (pausing cs)) k 0 refl late in
    absurd (omega arith)

-- two turns come to two places
pub turns_differ : (cs : List Condition) (m k : ℕ) → m < k → k < length (pass_order cs) → turn_at cs m ≢ turn_at cs k
turns_differ cs m k less within =
    distinct_by cs m k less within (cases_lt k (length (pausing cs))) (cases_lt m (length (pausing cs)))

pub one_turn : (cs : List Condition) (m k : ℕ) → m < length (pass_order cs) → k < length (pass_order cs)
    → turn_at cs m ≡ turn_at cs k → m ≡ k
one_turn cs m k within within' same = by (cases_order m k)
  where
    by : (m ≡ k) ⊎ ((m < k) ⊎ (k < m)) → m ≡ k
    by (inl here) = here
    by (inr (inl less)) = absurd (turns_differ cs m k less within' same)
    by (inr (inr more)) = absurd (turns_differ cs k m more within (sym same))

position_step : (p : ℕ → Bool) (x : ℕ) (xs : List ℕ) (k : ℕ) (b : Bool) → p x ≡ b → b ≡ false → position_or_len p xs ≡ k
    → position_or_len p (x ∷ xs) ≡ suc k
position_step p x xs k true here fails later = absurd (true≢false fails)
position_step p x xs k false here fails later = rw here (omega arith)

position_at : (p : ℕ → Bool) (xs : List ℕ) (k : ℕ) → k < length xs → ((m : ℕ) → m < k → p (get_or xs m 0) ≡ false)
    → p (get_or xs k 0) ≡ true → position_or_len p xs ≡ k
position_at p [] k within before here = absurd (omega arith)
position_at p (x ∷ xs) zero within before here = rw here refl
position_at p (x ∷ xs) (suc k) within before here =
    position_step p x xs k (p x) refl (before 0 (omega arith))
    (position_at p xs k (omega arith) (λ m below. before (suc m) (omega arith)) here)

-- what passes before a place is what came in the turns before its own
pub before_turn : (cs : List Condition) (k : ℕ) → k < length (pass_order cs)
    → before_first (λ i. i == turn_at cs k) (pass_order cs) ≡ take k (pass_order cs)
before_turn cs k within =
    ap (λ n. take n (pass_order cs))
    (position_at (λ i. i == turn_at cs k) (pass_order cs) k within
    (λ m below. ne_eqb (turn_at cs m) (turn_at cs k) (turns_differ cs m k below within))
    (eq-eqb (turn_at cs k) (turn_at cs k) refl))

-- the turn of a place
pub record HasTurn (cs : List Condition) (j : ℕ) : Type 0 where
  pub turn : ℕ
  pub within : turn < length (pass_order cs)
  pub at : turn_at cs turn ≡ j

turn_by : (cs : List Condition) (j : ℕ) → j < length cs → (b : Bool) → in_pause_chain cs j ≡ b → HasTurn cs j
turn_by cs j inside true pauses =
    let there = chosen_at (in_pause_chain cs) (length cs) j pauses inside in
    record {
      turn = length (chosen (in_pause_chain cs) j);
      within = omega (arith, there.within, length-append (pausing cs) (others cs));
      at = get_or_append_left (pausing cs) (others cs) 0 (length (chosen (in_pause_chain cs) j)) there.within
          ∙ there.at;
    }
turn_by cs j inside false goes =
    let r : ℕ → Bool = λ k. not (in_pause_chain cs k) in
    let there = chosen_at r (length cs) j (ap not goes) inside in
    record {
      turn = length (pausing cs) + length (chosen r j);
      within = omega (arith, there.within, length-append (pausing cs) (others cs));
      at = get_or-append-add (pausing cs) (others cs) (length (chosen r j)) 0 ∙ there.at;
    }

pub turn_of : (cs : List Condition) (j : ℕ) → j < length cs → HasTurn cs j
turn_of cs j inside = turn_by cs j inside (in_pause_chain cs j) refl

-- the condition before came in the turn before
pub record CameBefore (cs : List Condition) (k i : ℕ) : Type 0 where
  pub turn : ℕ
  pub next : suc turn ≡ k
  pub at : turn_at cs turn ≡ i

-- one that is chosen makes one more
one_chosen : (q : ℕ → Bool) (i : ℕ) → q i ≡ true → length (chosen q (suc i)) ≡ suc (length (chosen q i))
one_chosen q i here = length-chosen_more q i ∙ ap (λ b. length (chosen q i) + cond b 1 0) here ∙ omega arith

came_by : (cs : List Condition) (k i : ℕ) → k < length (pass_order cs) → turn_at cs k ≡ suc i → suc i < length cs
    → (b : Bool) → in_pause_chain cs i ≡ b → in_pause_chain cs (suc i) ≡ b → CameBefore cs k i
unfolding turn_by
came_by cs k i within is inside true before here =
    let first = turn_by cs i (omega arith) true before in
    let second = turn_by cs (suc i) inside true here in
    let same : second.turn ≡ k = one_turn cs second.turn k second.within within (second.at ∙ sym is) in
    record {
      turn = first.turn;
      next = sym (one_chosen (in_pause_chain cs) i before) ∙ same;
      at = first.at;
    }
came_by cs k i within is inside false before here =
    let first = turn_by cs i (omega arith) false before in
    let second = turn_by cs (suc i) inside false here in
    let same : second.turn ≡ k = one_turn cs second.turn k second.within within (second.at ∙ sym is) in
    let r : ℕ → Bool = λ j. not (in_pause_chain cs j) in
    let more : length (chosen r (suc i)) ≡ suc (length (chosen r i)) = one_chosen r i (ap not before) in
    let up : suc (length (pausing cs) + length (chosen r i)) ≡ length (pausing cs) + length (chosen r (suc i)) =
    omega (arith, more) in
    record { turn = first.turn; next = up ∙ same; at = first.at }

-- the condition before, if it combines, came in the turn before
pub came_before : (cs : List Condition) (k i : ℕ) → k < length (pass_order cs) → turn_at cs k ≡ suc i
    → suc i < length cs → combines (flag_at cs i) ≡ true → CameBefore cs k i
came_before cs k i within is inside holds =
    came_by cs k i within is inside (in_pause_chain cs i) refl (sym (in_pause_chain-combines cs i holds))
