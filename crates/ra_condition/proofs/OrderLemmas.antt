-- The pass order of a group, by the turns of the pass.
use Rattle.std.proofs.Common.{◌≡◌, ℕ, suc, ◌+◌, ◌-◌, ◌<◌, ◌≤◌, Bool, true, false, not, cond, ◌⊎◌, List, length, get_or}
use Rattle.std.proofs.Common.{refl, sym, ap, ◌∙◌, subst, inl, inr, arith, length-append}
use Rattle.std.proofs.lemmas.List.{get_or_append_left, get_or-append_right, length-take-le}
use Rattle.std.proofs.lemmas.Bool.{cases_lt, cases_order, true≢false, not-true}
use Rattle.ra_condition.specs.declared.condition.Condition.{Condition}
use Rattle.ra_condition.specs.Flags.{combines, is_pause}
use Rattle.ra_condition.specs.Contents.{flag_at}
use Rattle.ra_condition.specs.Chains.{in_pause_chain, pass_order}
use Rattle.ra_condition.proofs.Passes.{chosen, stands, length-chosen_more, chosen_rises}
use Rattle.ra_condition.proofs.ChainLemmas.{in_pause_chain-combines, in_pause_chain-last, in_pause_chain-pause}
use Rattle.ra_condition.proofs.ChainLemmas.{in_pause_chain_past}

-- the places of the pause chains, and the others
abbrev pub pausing : List Condition → List ℕ
pausing cs = chosen (in_pause_chain cs) (length cs)

abbrev pub others : List Condition → List ℕ
others cs = chosen (λ j. not (in_pause_chain cs j)) (length cs)

-- a turn within the pause chains
pub order_early : (cs : List Condition) (k : ℕ) → k < length (pausing cs) → (get_or
    (pass_order cs) k 0 < length cs) × (in_pause_chain cs (get_or (pass_order cs) k 0) ≡ true)
order_early cs k l =
    let at : get_or (pass_order cs) k 0 ≡ get_or (pausing cs) k 0 = get_or_append_left (pausing cs) (others cs) 0 k l in
    let s = stands (in_pause_chain cs) (length cs) k l in
    (omega (arith, at, s.below), ap (in_pause_chain cs) at ∙ s.passes)

-- a turn after them
pub order_late : (cs : List Condition) (k : ℕ) → length (pausing cs) ≤ k
    → k < length (pass_order cs) → (get_or (pass_order cs) k 0 < length cs)
    × (in_pause_chain cs (get_or (pass_order cs) k 0) ≡ false)
order_late cs k g l =
    let at : get_or (pass_order cs) k 0 ≡ get_or (others cs) (k - length (pausing cs)) 0 =
    get_or-append_right (pausing cs) (others cs) (length (pausing cs)) k 0 refl g in
    let l' : k - length (pausing cs) < length (others cs) = omega (arith, length-append (pausing cs) (others cs)) in
    let s = stands (λ j. not (in_pause_chain cs j)) (length cs) (k - length (pausing cs)) l' in
    (omega (arith, at, s.below), ap (in_pause_chain cs) at ∙ not-true _ s.passes)

-- each turn comes to a condition of the group
pub order_below : (cs : List Condition) (k : ℕ) → k < length (pass_order cs) → get_or (pass_order cs) k 0 < length cs
order_below cs k l =
    elim (cases_lt k (length (pausing cs))) [
      | inl early ↦ (order_early cs k early).0
      | inr late ↦ (order_late cs k late l).0
    ]

-- the same at an order that is the pass order
pub place_below : (cs : List Condition) (order : List ℕ) (k : ℕ) → order ≡ pass_order cs
    → k < length order → get_or order k 0 < length cs
place_below cs order k passes l =
    let at = ap (λ xs. get_or xs k 0) passes in
    let long = ap length passes in
    let below = order_below cs k (omega arith) in
    omega arith

-- the last place of the pause chains is a PauseIf
last_pauses : (cs : List Condition) (k : ℕ) → suc k ≡ length (pausing cs)
    → is_pause (flag_at cs (get_or (pausing cs) k 0)) ≡ true
last_pauses cs k e = by_combining (combines (flag_at cs i)) refl
  where
    i : ℕ
    i = get_or (pausing cs) k 0

    q : ℕ → Bool
    q = in_pause_chain cs

    l : k < length (pausing cs)
    l = omega arith

    by_combining : (b : Bool) → combines (flag_at cs i) ≡ b → is_pause (flag_at cs i) ≡ true
    by_combining false h = sym (in_pause_chain-last cs i h) ∙ (stands q (length cs) k l).passes
    by_combining true h =
        let here = stands q (length cs) k l in
        let after : q (suc i) ≡ true = sym (in_pause_chain-combines cs i h) ∙ here.passes in
        let below : suc i < length cs =
        elim (cases_lt (suc i) (length cs)) [
          | inl b ↦ b
          | inr past ↦ absurd (true≢false (sym after ∙ in_pause_chain_past cs (suc i) past))
        ] in
        let before : k ≡ length (chosen q i) = sym (length-take-le k (pausing cs) (omega arith))
        ∙ ap length here.front in
        let one : length (chosen q (suc i)) ≡ length (chosen q i) + 1 =
        length-chosen_more q i ∙ ap (λ b. length (chosen q i) + cond b 1 0) here.passes in
        let two : length (chosen q (suc (suc i))) ≡ length (chosen q (suc i)) + 1 =
        length-chosen_more q (suc i) ∙ ap (λ b. length (chosen q (suc i)) + cond b 1 0) after in
        let end : suc (suc i) + (length cs - suc (suc i)) ≡ length cs = omega arith in
        let most : length (chosen q (suc (suc i))) ≤ length (pausing cs) = let P : ℕ → Type 0 =
        λ m. length (chosen q (suc (suc i))) ≤ length (chosen q m) in
        subst P end (chosen_rises q (suc (suc i)) (length cs - suc (suc i))) in
        absurd (omega (arith, one, two, most, before, e))

-- up to the last PauseIf of the order stand the pause chains
pub pauses_end : (cs : List Condition) (n : ℕ) → n ≤ length (pass_order cs)
    → ((k : ℕ) → n ≤ k → k < length (pass_order cs)
    → is_pause (flag_at cs (get_or (pass_order cs) k 0)) ≡ false) → (n ≡ 0)
    ⊎ (is_pause (flag_at cs (get_or (pass_order cs) (n - 1) 0)) ≡ true) → n ≡ length (pausing cs)
pauses_end cs n within none last =
    elim (cases_order n (length (pausing cs))) [
      | inl same ↦ same
      | inr (inl fewer) ↦
          let k = length (pausing cs) - 1 in
          let e : suc k ≡ length (pausing cs) = omega arith in
          let at : get_or (pass_order cs) k 0 ≡ get_or (pausing cs) k 0 =
          get_or_append_left (pausing cs) (others cs) 0 k (omega arith) in
          let pauses : is_pause (flag_at cs (get_or (pass_order cs) k 0)) ≡ true =
          ap (λ i. is_pause (flag_at cs i)) at ∙ last_pauses cs k e in
          absurd (true≢false (sym pauses
          ∙ none k (omega arith) (omega (arith, length-append (pausing cs) (others cs)))))
      | inr (inr more) ↦ absurd (past_pausing last more)
    ]
  where
    past_pausing : (n ≡ 0) ⊎ (is_pause (flag_at cs (get_or (pass_order cs) (n - 1) 0)) ≡ true)
        → length (pausing cs) < n → ⊥
    past_pausing (inl e) more = omega arith
    past_pausing (inr pauses) more =
        let late = order_late cs (n - 1) (omega arith) (omega arith) in
        true≢false (sym (in_pause_chain-pause cs (get_or (pass_order cs) (n - 1) 0) pauses) ∙ late.1)
