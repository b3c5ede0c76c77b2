-- What a pass carries from condition to condition, and that it is what the condition sees by the equations.
use Rattle.std.proofs.Common.{◌≡◌, ℕ, zero, suc, Bool, true, false, cond, Option, None, Some, List, [], ◌∷◌, ◌++◌}
use Rattle.std.proofs.Common.{slice_index, slice_index_or, fold, refl, sym, ap, ◌∙◌}
use Rattle.std.proofs.lemmas.Grind.{fold-append}
use Rattle.std.proofs.lemmas.Bool.{cond-true, cond-false, false≢true, true≢false}
use Rattle.ra_condition.specs.declared.flag.Flag.{Flag}
use Rattle.ra_condition.specs.declared.condition.Condition.{Condition}
use Rattle.ra_condition.specs.Flags.{combines, hands_on}
use Rattle.ra_condition.specs.Contents.{condition_at, flag_at}
use Rattle.ra_condition.proofs.Passes.{chosen, chosen_more}
use Rattle.ra_condition.proofs.ChainLemmas.{KeepsChains, hands_on_from_combines}
use Rattle.ra_group.specs.declared.settled.Settled.{Settled}
use Rattle.ra_group.specs.Equations.{Frame, settled, seen_after, prev_of}

-- the condition at the place by the equations, after what the pass carries
abbrev pub settled_after : Frame → Option Settled → ℕ → Settled
settled_after f before j = settled (condition_at f.conditions j) (slice_index_or f.truths j false)
    (slice_index f.hits j) before

-- what the pass carries on from the condition at the place
abbrev pub carry : Frame → Option Settled → ℕ → Option Settled
carry f before j = seen_after (condition_at f.conditions j) (settled_after f before j) before

-- what the pass carries after these places
abbrev pub carried : Frame → List ℕ → Option Settled
carried f js = fold (carry f) None js

-- a condition that hands a value on combines
pub combines_handed : (flag : Flag) → hands_on flag ≡ true → combines flag ≡ true
combines_handed flag h = by_combining (combines flag) refl
  where
    by_combining : (b : Bool) → combines flag ≡ b → combines flag ≡ true
    by_combining true e = e
    by_combining false e = absurd (true≢false (sym h ∙ hands_on_from_combines flag e))

-- nothing is seen after the end of a chain
pub seen_after_last : (c : Condition) (here : Settled) (prev : Option Settled) → combines c.flag
    ≡ false → seen_after c here prev ≡ None
seen_after_last c here prev last =
    cond-false (hands_on c.flag) prev (cond (combines c.flag) (Some here) None) (hands_on_from_combines c.flag last)
    ∙ cond-false (combines c.flag) (Some here) None last

-- a condition that only hands a value on is passed over
pub seen_after_handed : (c : Condition) (here : Settled) (prev : Option Settled) → hands_on c.flag
    ≡ true → seen_after c here prev ≡ prev
seen_after_handed c here prev h = cond-true (hands_on c.flag) prev (cond (combines c.flag) (Some here) None) h

-- any other condition is seen itself, if its chain goes on
pub seen_after_counted : (c : Condition) (here : Settled) (prev : Option Settled) → hands_on c.flag
    ≡ false → seen_after c here prev ≡ cond (combines c.flag) (Some here) None
seen_after_counted c here prev h = cond-false (hands_on c.flag) prev (cond (combines c.flag) (Some here) None) h

-- the places of a test that keeps chains together carry what the equations see, and nothing between two chains
carried_step : (f : Frame) (m : ℕ) (b b' : Bool)
    → (combines (flag_at f.conditions m) ≡ true → b ≡ b') → fold (carry f)
    (cond b (prev_of f m) None) (cond b (m ∷ []) []) ≡ cond b' (prev_of f (suc m)) None
carried_step f m true true keeps = refl
carried_step f m false false keeps = refl
carried_step f m true false keeps = ended (combines (flag_at f.conditions m)) refl
  where
    ended : (t : Bool) → combines (flag_at f.conditions m) ≡ t → prev_of f (suc m) ≡ None
    ended true e = absurd (false≢true (sym (keeps e)))
    ended false e = seen_after_last (condition_at f.conditions m) (settled_after f (prev_of f m) m) (prev_of f m) e
carried_step f m false true keeps = sym (ended (combines (flag_at f.conditions m)) refl)
  where
    ended : (t : Bool) → combines (flag_at f.conditions m) ≡ t → prev_of f (suc m) ≡ None
    ended true e = absurd (false≢true (keeps e))
    ended false e = seen_after_last (condition_at f.conditions m) (settled_after f (prev_of f m) m) (prev_of f m) e

none_either : (b : Bool) → ◌≡◌ {A = Option Settled} None (cond b None None)
none_either true = refl
none_either false = refl

pub carried-chosen : (f : Frame) (q : ℕ → Bool) → KeepsChains f.conditions q → (m : ℕ)
    → carried f (chosen q m) ≡ cond (q m) (prev_of f m) None
carried-chosen f q keeps zero = none_either (q 0)
carried-chosen f q keeps (suc m) =
    ap (carried f) (chosen_more q m)
    ∙ fold-append (carry f) None (chosen q m) (cond (q m) (m ∷ []) [])
    ∙ ap (λ before. fold (carry f) before (cond (q m) (m ∷ []) [])) (carried-chosen f q keeps m)
    ∙ carried_step f m (q m) (q (suc m)) (keeps.within m)

-- one place more
pub carried-push : (f : Frame) (js : List ℕ) (j : ℕ) → carried f (js ++ j ∷ []) ≡ carry f (carried f js) j
carried-push f js j = fold-append (carry f) None js (j ∷ [])
