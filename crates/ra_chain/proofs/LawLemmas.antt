-- The pass order keeps chains together, and puts the pause chains first.
use Rattle.std.proofs.Common.{◌≡◌, ℕ, zero, suc, ◌+◌, ◌-◌, ◌<◌, ◌≤◌, Bool, true, false, not, cond, List, [], ◌∷◌, ◌++◌}
use Rattle.std.proofs.Common.{length, get_or, refl, sym, ap, ◌∙◌, subst, inl, inr, arith, length-append}
use Rattle.std.proofs.lemmas.List.{get_or_append_left, get_or-append-add, get_or_push}
use Rattle.std.proofs.lemmas.Bool.{cases_eq, true≢false}
use Rattle.ra_condition.specs.declared.condition.Condition.{Condition}
use Rattle.ra_condition.specs.Flags.{combines}
use Rattle.ra_condition.specs.Contents.{flag_at}
use Rattle.ra_condition.specs.Chains.{in_pause_chain, pass_order}
use Rattle.ra_condition.proofs.Passes.{chosen, chosen_more, length-chosen_more}
use Rattle.ra_condition.proofs.OrderLemmas.{pausing, others}
use Rattle.ra_condition.proofs.ChainLemmas.{in_pause_chain-combines, in_pause_chain-last, in_pause_chain-pause}
use Rattle.ra_condition.proofs.ChainLemmas.{in_pause_chain_past}
use Rattle.ra_chain.specs.Laws.{EndsInPause, AreChained, StandsBefore}

-- along a chain all conditions stand in a pause chain, or none does
pub in_pause_chain-along : (cs : List Condition) (i d : ℕ) → ((k : ℕ) → i ≤ k → k < i + d
    → combines (flag_at cs k) ≡ true) → in_pause_chain cs i ≡ in_pause_chain cs (i + d)
in_pause_chain-along cs i zero chained = let e : i ≡ i + 0 = omega arith in ap (in_pause_chain cs) e
in_pause_chain-along cs i (suc d) chained =
    let e : suc (i + d) ≡ i + suc d = omega arith in
    in_pause_chain-along cs i d (λ k g l. chained k g (omega arith))
    ∙ in_pause_chain-combines cs (i + d) (chained (i + d) (omega arith) (omega arith))
    ∙ ap (in_pause_chain cs) e

pub in_pause_chain-upto : (cs : List Condition) (i j : ℕ) → i ≤ j → ((k : ℕ) → i ≤ k → k < j
    → combines (flag_at cs k) ≡ true) → in_pause_chain cs i ≡ in_pause_chain cs j
in_pause_chain-upto cs i j l chained =
    let e : i + (j - i) ≡ j = omega arith in
    in_pause_chain-along cs i (j - i) (λ k g h. chained k g (omega arith)) ∙ ap (in_pause_chain cs) e

-- a pause chain is one that ends in a PauseIf
pub pauses_from_end : (cs : List Condition) (j : ℕ) → EndsInPause cs j → in_pause_chain cs j ≡ true
pauses_from_end cs j e = in_pause_chain-upto cs j e.end e.from e.chained ∙ in_pause_chain-pause cs e.end e.pauses

pub end_from_pauses : (cs : List Condition) (left j : ℕ) → j + left ≡ length cs
    → in_pause_chain cs j ≡ true → EndsInPause cs j
end_from_pauses cs zero j e h = absurd (true≢false (sym h ∙ in_pause_chain_past cs j (omega arith)))
end_from_pauses cs (suc left) j e h = by_combining
    (λ after. end_from_pauses cs left (suc j) (omega arith) after) (combines (flag_at cs j)) refl
  where
    by_combining : (in_pause_chain cs (suc j) ≡ true → EndsInPause cs (suc j)) → (b : Bool)
        → combines (flag_at cs j) ≡ b → EndsInPause cs j
    by_combining rest false d = record {
      end = j;
      from = omega arith;
      within = omega arith;
      chained = λ k g l. absurd (omega arith);
      pauses = sym (in_pause_chain-last cs j d) ∙ h;
    }
    by_combining rest true d =
        let after = rest (sym (in_pause_chain-combines cs j d) ∙ h) in
        record {
          end = after.end;
          from = omega (arith, after.from);
          within = after.within;
          chained = λ k g l. elim (cases_eq k j) [
            | inl here ↦ ap (λ n. combines (flag_at cs n)) here ∙ d
            | inr other ↦ after.chained k (omega arith) l
          ];
          pauses = after.pauses;
        }

-- the place of a number among those that pass
pub record IsChosenAt (q : ℕ → Bool) (m i : ℕ) : Type 0 where
  pub within : length (chosen q i) < length (chosen q m)
  pub at : get_or (chosen q m) (length (chosen q i)) 0 ≡ i

chosen_here : (q : ℕ → Bool) (i : ℕ) → q i ≡ true → IsChosenAt q (suc i) i
chosen_here q i h =
    let one : chosen q (suc i) ≡ chosen q i ++ i ∷ [] =
    chosen_more q i ∙ ap (λ b. chosen q i ++ cond b (i ∷ []) []) h in
    record {
      within = omega (arith, ap length one, length-append (chosen q i) (i ∷ []));
      at = ap (λ xs. get_or xs (length (chosen q i)) 0) one ∙ get_or_push (chosen q i) i 0 (length (chosen q i)) refl;
    }

pub chosen_at : (q : ℕ → Bool) (m i : ℕ) → q i ≡ true → i < m → IsChosenAt q m i
chosen_at q zero i h l = absurd (omega arith)
chosen_at q (suc m) i h l =
    elim (cases_eq i m) [
      | inl here ↦ subst (λ (n : ℕ). IsChosenAt q (suc n) i) here (chosen_here q i h)
      | inr other ↦
          let before = chosen_at q m i h (omega arith) in
          record {
            within = omega (arith, before.within, length-chosen_more q m);
            at = ap (λ xs. get_or xs (length (chosen q i)) 0) (chosen_more q m)
                ∙ get_or_append_left (chosen q m) (cond (q m) (m ∷ []) []) 0
                (length (chosen q i)) before.within ∙ before.at;
          }
    ]

-- two conditions of the pause chains stand in text order, and so do two others
before_pausing : (cs : List Condition) (i j : ℕ) → i < j → j < length cs → in_pause_chain cs i
    ≡ true → in_pause_chain cs j ≡ true → StandsBefore (pass_order cs) i j
before_pausing cs i j l within hi hj =
    let q = in_pause_chain cs in
    let first = chosen_at q (length cs) i hi (omega arith) in
    let second = chosen_at q (length cs) j hj within in
    record {
      first = length (chosen q i);
      second = length (chosen q j);
      rising = (chosen_at q j i hi l).within;
      within = omega (arith, second.within, length-append (pausing cs) (others cs));
      at_first = get_or_append_left (pausing cs) (others cs) 0 (length (chosen q i)) first.within ∙ first.at;
      at_second = get_or_append_left (pausing cs) (others cs) 0 (length (chosen q j)) second.within ∙ second.at;
    }

before_others : (cs : List Condition) (i j : ℕ) → i < j → j < length cs → in_pause_chain cs i
    ≡ false → in_pause_chain cs j ≡ false → StandsBefore (pass_order cs) i j
before_others cs i j l within hi hj =
    let r : ℕ → Bool = λ k. not (in_pause_chain cs k) in
    let first = chosen_at r (length cs) i (ap not hi) (omega arith) in
    let second = chosen_at r (length cs) j (ap not hj) within in
    record {
      first = length (pausing cs) + length (chosen r i);
      second = length (pausing cs) + length (chosen r j);
      rising = omega (arith, (chosen_at r j i (ap not hi) l).within);
      within = omega (arith, second.within, length-append (pausing cs) (others cs));
      at_first = get_or-append-add (pausing cs) (others cs) (length (chosen r i)) 0 ∙ first.at;
      at_second = get_or-append-add (pausing cs) (others cs) (length (chosen r j)) 0 ∙ second.at;
    }

-- within a chain the order is that of the text
pub before_chained : (cs : List Condition) (i j : ℕ) → AreChained cs i j → StandsBefore (pass_order cs) i j
before_chained cs i j a = by_pausing (in_pause_chain cs j) refl
  where
    same : in_pause_chain cs i ≡ in_pause_chain cs j
    same = in_pause_chain-upto cs i j (omega (arith, a.earlier)) a.chained

    by_pausing : (b : Bool) → in_pause_chain cs j ≡ b → StandsBefore (pass_order cs) i j
    by_pausing true e = before_pausing cs i j a.earlier a.within (same ∙ e) e
    by_pausing false e = before_others cs i j a.earlier a.within (same ∙ e) e

-- a condition of a pause chain stands before one of another chain
pub before_pauses : (cs : List Condition) (i j : ℕ) → i < length cs → j < length cs
    → in_pause_chain cs i ≡ true → in_pause_chain cs j ≡ false → StandsBefore (pass_order cs) i j
before_pauses cs i j li lj hi hj =
    let q = in_pause_chain cs in
    let r : ℕ → Bool = λ k. not (in_pause_chain cs k) in
    let first = chosen_at q (length cs) i hi li in
    let second = chosen_at r (length cs) j (ap not hj) lj in
    record {
      first = length (chosen q i);
      second = length (pausing cs) + length (chosen r j);
      rising = omega (arith, first.within);
      within = omega (arith, second.within, length-append (pausing cs) (others cs));
      at_first = get_or_append_left (pausing cs) (others cs) 0 (length (chosen q i)) first.within ∙ first.at;
      at_second = get_or-append-add (pausing cs) (others cs) (length (chosen r j)) 0 ∙ second.at;
    }
