-- Where chains end, and the pass order by the places that stand in pause chains.
use Rattle.std.proofs.Common.{◌≡◌, ℕ, zero, suc, ◌≤◌, Bool, true, false, not, List, [], ◌∷◌, length, refl, ap, ◌∙◌}
use Rattle.std.proofs.lemmas.List.{drop_all}
use Rattle.std.proofs.lemmas.Bool.{cond-true, cond-false, false≢true}
use Rattle.ra_condition.specs.declared.flag.Flag.{Flag}
use Rattle.ra_condition.specs.declared.flag.Flag.TheVariants.{Plain, PauseIf, ResetIf, AddSource, SubSource, AddHits}
use Rattle.ra_condition.specs.declared.flag.Flag.TheVariants.{SubHits, AndNext, OrNext, Measured, MeasuredPercent}
use Rattle.ra_condition.specs.declared.flag.Flag.TheVariants.{MeasuredIf, AddAddress, TriggerIf, ResetNextIf, Remember}
use Rattle.ra_condition.specs.declared.condition.Condition.{Condition}
use Rattle.ra_condition.specs.Flags.{combines, hands_on, is_pause}
use Rattle.ra_condition.specs.Contents.{flag_at}
use Rattle.ra_condition.specs.Chains.{ends_in_pause, in_pause_chain}

-- a condition that ends a chain hands nothing on
pub hands_on_from_combines : (flag : Flag) → combines flag ≡ false → hands_on flag ≡ false
hands_on_from_combines AddHits h = refl
hands_on_from_combines SubHits h = refl
hands_on_from_combines AndNext h = refl
hands_on_from_combines OrNext h = refl
hands_on_from_combines ResetNextIf h = refl
hands_on_from_combines _ h = h

-- a PauseIf ends its chain
pub combines_from_pause : (flag : Flag) → is_pause flag ≡ true → combines flag ≡ false
combines_from_pause PauseIf h = refl
combines_from_pause _ h = absurd (false≢true h)

-- a test of places that does not change inside a chain
pub record KeepsChains (cs : List Condition) (q : ℕ → Bool) : Type 0 where
  pub within : (j : ℕ) → combines (flag_at cs j) ≡ true → q j ≡ q (suc j)

-- a condition that combines stands in a pause chain as the one after it does
pub in_pause_chain-combines : (cs : List Condition) (j : ℕ) → combines (flag_at cs j) ≡ true
    → in_pause_chain cs j ≡ in_pause_chain cs (suc j)
in_pause_chain-combines [] j h = absurd (false≢true h)
in_pause_chain-combines (c ∷ cs) zero h = cond-true (combines c.flag) (ends_in_pause cs) (is_pause c.flag) h
in_pause_chain-combines (c ∷ cs) (suc j) h = in_pause_chain-combines cs j h

-- a condition that ends its chain stands in a pause chain exactly if it is a PauseIf
pub in_pause_chain-last : (cs : List Condition) (j : ℕ) → combines (flag_at cs j) ≡ false
    → in_pause_chain cs j ≡ is_pause (flag_at cs j)
in_pause_chain-last [] zero h = refl
in_pause_chain-last [] (suc j) h = refl
in_pause_chain-last (c ∷ cs) zero h = cond-false (combines c.flag) (ends_in_pause cs) (is_pause c.flag) h
in_pause_chain-last (c ∷ cs) (suc j) h = in_pause_chain-last cs j h

-- a PauseIf stands in a pause chain
pub in_pause_chain-pause : (cs : List Condition) (j : ℕ) → is_pause (flag_at cs j) ≡ true → in_pause_chain cs j ≡ true
in_pause_chain-pause cs j h = in_pause_chain-last cs j (combines_from_pause (flag_at cs j) h) ∙ h

-- past the end there is no chain
pub in_pause_chain_past : (cs : List Condition) (j : ℕ) → length cs ≤ j → in_pause_chain cs j ≡ false
in_pause_chain_past cs j h = ap ends_in_pause (drop_all j cs h)

pub pause_keeps : (cs : List Condition) → KeepsChains cs (in_pause_chain cs)
pause_keeps cs = record { within = in_pause_chain-combines cs }

pub other_keeps : (cs : List Condition) → KeepsChains cs (λ j. not (in_pause_chain cs j))
other_keeps cs = record { within = λ j h. ap not (in_pause_chain-combines cs j h) }
