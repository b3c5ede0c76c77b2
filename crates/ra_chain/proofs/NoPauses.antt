-- The pass order of a group without a PauseIf is the text order.
use Rattle.std.proofs.Common.{◌≡◌, ℕ, zero, suc, ◌+◌, ◌<◌, Bool, true, false, not, List, [], ◌∷◌, ◌++◌, length}
use Rattle.std.proofs.Common.{get_or, ◌≤◌, if◌then◌else◌, refl, ap, ap₂, ◌∙◌, arith}
use Rattle.std.specs.List.{filter}
use Rattle.std.proofs.lemmas.List.{get_or_default}
use Rattle.ra_condition.specs.declared.condition.Condition.{Condition}
use Rattle.ra_condition.specs.Flags.{combines, is_pause}
use Rattle.ra_condition.specs.Chains.{ends_in_pause, in_pause_chain, places, pass_order}
use Rattle.ra_chain.specs.Order.{HasNoPause}

-- no group that goes on so ends in a PauseIf
ends_in_none : (cs : List Condition) → HasNoPause cs → ends_in_pause cs ≡ false
ends_in_none [] none = refl
ends_in_none (c ∷ cs) none = by_combines (combines c.flag) (none 0 c (omega arith))
    (ends_in_none cs (λ k d within. none (suc k) d (omega (arith, within)))) where
      by_combines : (joined : Bool) → is_pause c.flag ≡ false → ends_in_pause cs ≡ false
          → (if joined then ends_in_pause cs else is_pause c.flag) ≡ false
      by_combines true here later = later
      by_combines false here later = here

pub in_no_chain : (cs : List Condition) → HasNoPause cs → (j : ℕ) → in_pause_chain cs j ≡ false
in_no_chain [] none zero = refl
in_no_chain [] none (suc j) = refl
in_no_chain (c ∷ cs) none zero = ends_in_none (c ∷ cs) none
in_no_chain (c ∷ cs) none (suc j) = in_no_chain cs (λ k d within. none (suc k) d (omega (arith, within))) j

none_chosen : (q : ℕ → Bool) → ((j : ℕ) → q j ≡ false) → (xs : List ℕ) → filter q xs ≡ []
none_chosen q none [] = refl
none_chosen q none (x ∷ xs) = rw (none x) (none_chosen q none xs)

all_chosen : (q : ℕ → Bool) → ((j : ℕ) → q j ≡ false) → (xs : List ℕ) → filter (λ j. not (q j)) xs ≡ xs
all_chosen q none [] = refl
all_chosen q none (x ∷ xs) = rw (none x) (ap (λ t. x ∷ t) (all_chosen q none xs))

-- one condition more that is no PauseIf
pub one_more : (cs : List Condition) (at k : ℕ) (d e : Condition) → at ≤ k → k < at + 1 → k < length cs
    → is_pause (get_or cs at e).flag ≡ false → is_pause (get_or cs k d).flag ≡ false
one_more cs at k d e low high within is =
    let here : k ≡ at = omega arith in
    ap (λ c. is_pause c.flag) (get_or_default cs k d e within ∙ ap (λ n. get_or cs n e) here) ∙ is

-- where no condition pauses, the places stand in text order
pub text_order : (cs : List Condition) → HasNoPause cs → pass_order cs ≡ places cs
text_order cs none = ap₂ (λ ps os. ps ++ os) (none_chosen (in_pause_chain cs) (in_no_chain cs none) (places cs))
    (all_chosen (in_pause_chain cs) (in_no_chain cs none) (places cs))

-- and none stands in a pause chain
pub none_pauses : (cs : List Condition) → HasNoPause cs → filter (in_pause_chain cs) (places cs) ≡ []
none_pauses cs none = none_chosen (in_pause_chain cs) (in_no_chain cs none) (places cs)
