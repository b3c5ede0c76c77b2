use Rattle.std.proofs.Common.{◌≡◌, ℕ, ◌-◌, true, not, List, length, refl, sym, ◌∙◌, inl, inr, arith}
use Rattle.std.proofs.lemmas.List.Sorted.{IsPermutation-filter_both}
use Rattle.std.proofs.lemmas.Bool.{cases_lt, true≢false}
use Rattle.ra_condition.specs.declared.condition.Condition.{Condition}
use Rattle.ra_condition.specs.Chains.{in_pause_chain, places}
use Rattle.ra_condition.proofs.ChainLemmas.{in_pause_chain_past}
use Rattle.ra_chain.specs.Laws.{EndsInPause}
use Rattle.ra_chain.proofs.LawLemmas.{pauses_from_end, end_from_pauses, before_chained, before_pauses}
use Rattle.ra_chain.proofs.laws.pass_order_holds.Goals as goal

chain_end : (cs : List Condition) (j : ℕ) → in_pause_chain cs j ≡ true → EndsInPause cs j
chain_end cs j h =
    elim (cases_lt (length cs) j) [
      | inl past ↦ absurd (true≢false (sym h ∙ in_pause_chain_past cs j (omega arith)))
      | inr within ↦ end_from_pauses cs (length cs - j) j (omega arith) h
    ]

pub returns : goal.returns
returns c = record {
  pause_chain = λ cs j. (chain_end cs j, pauses_from_end cs j);
  each_once = λ cs. IsPermutation-filter_both (in_pause_chain cs) (λ j. not (in_pause_chain cs j))
      (λ j. refl) (places cs);
  text_order = before_chained;
  pauses_first = before_pauses;
}
