-- Achievements that count alike: a row steps them alike, whatever left values it has.
use Rattle.std.proofs.Common.{◌≡◌, ℕ, Bool, true, false, ◌||◌, cond, List, [], refl, ap, subst, ◌∙◌}
use Rattle.ra_condition.specs.Contents.{TriggerContents}
use Rattle.ra_trigger.specs.declared.state.State.{State}
use Rattle.ra_trigger.specs.declared.state.State.TheVariants.{Waiting, Active, Paused, Primed, Triggered}
use Rattle.ra_trigger.specs.States.{is_waiting, is_triggered, is_cleared, state_after}
use Rattle.ra_trigger.specs.Steps.{TriggerKept, Together, together, step, kept_after, cleared}
use Rattle.ra_explain.specs.Explains.{clears_at}
use Rattle.ra_explain.specs.Beginnings.{CountAlike, StepsOver}
use Rattle.ra_explain.proofs.LeftLemmas.{together_reset, together_valid, together_paused, together_primed}
use Rattle.ra_explain.proofs.LeftLemmas.{together_hits}

pub alike_same : (a b : TriggerKept) → a ≡ b → CountAlike a b
alike_same a b is = record { state = ap (λ (k : TriggerKept). k.state) is; hits = ap (λ (k : TriggerKept). k.hits) is }

pub alike_on : (a b c : TriggerKept) → CountAlike a b → CountAlike b c → CountAlike a c
alike_on a b c ab bc = record { state = ab.state ∙ bc.state; hits = ab.hits ∙ bc.hits }

alike_by : (p : Bool) (a b x y : TriggerKept) → CountAlike a b → CountAlike x y → CountAlike (cond p a x) (cond p b y)
alike_by true a b x y ab xy = ab
alike_by false a b x y ab xy = xy

module _ (t : TriggerContents) (row : List Bool) (lefts lefts' : List ℕ) (a b : TriggerKept)
    (alike : CountAlike a b) where
  abbrev now : Together
  now = together t row lefts a.hits

  abbrev now' : Together
  now' = together t row lefts' b.hits

  reset_is : now.reset ≡ now'.reset
  reset_is = together_reset t row lefts lefts' a.hits ∙ ap (λ h. (together t row lefts' h).reset) alike.hits

  valid_is : now.valid ≡ now'.valid
  valid_is = together_valid t row lefts lefts' a.hits ∙ ap (λ h. (together t row lefts' h).valid) alike.hits

  paused_is : now.paused ≡ now'.paused
  paused_is = together_paused t row lefts lefts' a.hits ∙ ap (λ h. (together t row lefts' h).paused) alike.hits

  primed_is : now.primed ≡ now'.primed
  primed_is = together_primed t row lefts lefts' a.hits ∙ ap (λ h. (together t row lefts' h).primed) alike.hits

  hits_are : now.hits ≡ now'.hits
  hits_are = together_hits t row lefts lefts' a.hits ∙ ap (λ h. (together t row lefts' h).hits) alike.hits

  -- what a row clears
  pub clears_alike : clears_at t row lefts a ≡ clears_at t row lefts' b
  clears_alike = λ i. is_cleared (alike.state i) (reset_is i) (valid_is i)

  kept_alike : CountAlike (kept_after a now) (kept_after b now')
  kept_alike = record {
    state = λ i. state_after (alike.state i) (reset_is i) (valid_is i) (paused_is i) (primed_is i);
    hits = λ i. cond (clears_alike i) (cleared (hits_are i)) (hits_are i);
  }

  -- and what it leaves
  pub step_alike : CountAlike (step t row lefts a) (step t row lefts' b)
  step_alike =
      subst (λ p. CountAlike (step t row lefts a) (cond p b (kept_after b now'))) (ap is_triggered alike.state)
      (alike_by (is_triggered a.state) a b (kept_after a now) (kept_after b now') alike kept_alike)

-- ---- what is cleared is known by the state behind a row

quiet : (paused primed : Bool) → is_waiting (cond paused Paused (cond primed Primed Active)) ≡ false
quiet true primed = refl
quiet false true = refl
quiet false false = refl

told_by : (state : State) (reset valid paused primed : Bool) → (reset || is_waiting
    (cond (is_triggered state) state (state_after state reset valid paused primed)))
    ≡ is_cleared state reset valid
told_by state true valid paused primed = refl
told_by Waiting false true paused primed = refl
told_by Waiting false false paused primed = quiet paused primed
told_by Active false true paused primed = refl
told_by Active false false paused primed = quiet paused primed
told_by Paused false true paused primed = refl
told_by Paused false false paused primed = quiet paused primed
told_by Primed false true paused primed = refl
told_by Primed false false paused primed = quiet paused primed
told_by Triggered false valid paused primed = refl

state_by : (b : Bool) (x y : TriggerKept) → (cond b x y).state ≡ cond b x.state y.state
state_by true x y = refl
state_by false x y = refl

-- a row steps an achievement, whatever left values it has
pub steps_over : (t : TriggerContents) (row : List Bool) (lefts : List ℕ) (old new : TriggerKept)
    (reset clears : Bool) → new ≡ step t row lefts old → reset ≡ (together t row [] old.hits).reset
    → clears ≡ (reset || is_waiting new.state) → StepsOver t row old new clears
steps_over t row lefts old new reset clears is resets tells =
    let now = together t row [] old.hits in
    let alike = step_alike t row lefts [] old old (alike_same old old refl) in
    record {
      alike = alike_on new (step t row lefts old) (step t row [] old) (alike_same new (step t row lefts old) is) alike;
      told =
          tells ∙ ap (λ (k : TriggerKept). reset || is_waiting k.state) is ∙ ap (λ s. reset ||
          is_waiting s) alike.state ∙ ap (λ r. r || is_waiting (step t row [] old).state) resets
          ∙ ap (λ s. now.reset || is_waiting s) (state_by (is_triggered old.state) old
          (kept_after old now)) ∙ told_by old.state now.reset now.valid now.paused now.primed;
    }
