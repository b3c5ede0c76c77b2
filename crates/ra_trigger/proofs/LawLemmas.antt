-- What a frame does to an achievement, state by state.
use Rattle.std.proofs.Common.{◌≡◌, ◌≢◌, ℕ, Bool, true, false, ◌&&◌, ◌||◌, cond, unwrap_or, List, [], ◌∷◌, length, map}
use Rattle.std.proofs.Common.{take, drop, replicate, refl, sym, ap, ◌∙◌, subst}
use Rattle.std.specs.List.{list_any}
use Rattle.std.proofs.lemmas.Bool.{cond-true, cond-false}
use Rattle.ra_condition.specs.declared.condition.Condition.{Condition}
use Rattle.ra_condition.specs.Contents.{TriggerContents, groups_of}
use Rattle.ra_group.specs.declared.form.Form.TheVariants.{InTrigger}
use Rattle.ra_group.specs.Equations.{frame_of}
use Rattle.ra_group.specs.Outcome.{outcome_of}
use Rattle.ra_group.specs.Counting.{counts_hits}
use Rattle.ra_group.proofs.CountingLemmas.{outcome_of-from_hits}
use Rattle.ra_trigger.specs.declared.state.State.{State}
use Rattle.ra_trigger.specs.declared.state.State.TheVariants.{Waiting, Active, Paused, Primed, Triggered}
use Rattle.ra_trigger.specs.States.{state_after, is_cleared, is_triggered, is_waiting}
use Rattle.ra_trigger.specs.Steps.{TriggerKept, Together, frames_along, together, cleared, kept_after, step}
use Rattle.ra_trigger.specs.Laws.{IsFrame, AreCleared, state_after_reset}
use Rattle.ra_trigger.proofs.GroupsLemmas.{length-hits_along}

-- a number comes from hits by the text of the trigger alone
pub from_hits-groups : (gs : List (List Condition)) (truths : List Bool) (lefts hits : List ℕ)
    → list_any (λ o. o.from_hits) (map (outcome_of InTrigger) (frames_along gs truths lefts hits))
    ≡ list_any (counts_hits InTrigger) gs
from_hits-groups [] truths lefts hits = refl
from_hits-groups (cs ∷ gs) truths lefts hits =
    let n = length cs in
    ap (λ b. b || list_any (λ o. o.from_hits) (map (outcome_of InTrigger)
    (frames_along gs (drop n truths) (drop n lefts) (drop n hits))))
    (outcome_of-from_hits InTrigger (frame_of cs (take n truths) (take n lefts) (take n hits)))
    ∙ ap (λ b. counts_hits InTrigger cs || b) (from_hits-groups gs (drop n truths) (drop n lefts) (drop n hits))

is_triggered-other : (state : State) → state ≢ Triggered → is_triggered state ≡ false
is_triggered-other Waiting other = refl
is_triggered-other Active other = refl
is_triggered-other Paused other = refl
is_triggered-other Primed other = refl
is_triggered-other Triggered other = absurd (other refl)

-- nothing of a triggered achievement is stepped
pub step-triggered : (t : TriggerContents) (truths : List Bool) (lefts : List ℕ) (old : TriggerKept)
    → old.state ≡ Triggered → step t truths lefts old ≡ old
step-triggered t truths lefts old is = cond-true (is_triggered old.state) old
    (kept_after old (together t truths lefts old.hits)) (ap is_triggered is)

-- a frame that clears brings all hits to 0, and a number that comes from hits
kept_cleared : (t : TriggerContents) (truths : List Bool) (lefts : List ℕ) (old : TriggerKept)
    → is_cleared old.state (together t truths lefts old.hits).reset
    (together t truths lefts old.hits).valid ≡ true → AreCleared t
    (together t truths lefts old.hits) (kept_after old (together t truths lefts old.hits))
kept_cleared t truths lefts old clears =
    let now = together t truths lefts old.hits in
    record {
      hits = ap (λ b. cond b (cleared now.hits) now.hits) clears
          ∙ ap (λ n. replicate n 0) (length-hits_along (groups_of t) truths lefts old.hits);
      measured = λ counts. ap (λ b. cond (b && now.from_hits) 0 (unwrap_or now.measured
          old.measured)) clears ∙ ap (λ b. cond b 0 (unwrap_or now.measured old.measured)) counts;
    }

-- what a frame leaves of an achievement that is not triggered
leaves_kept : (t : TriggerContents) (truths : List Bool) (lefts : List ℕ) (old : TriggerKept)
    (now : Together) (new : TriggerKept) → IsFrame t truths lefts old now new
    → is_triggered old.state ≡ false → new ≡ kept_after old now
leaves_kept t truths lefts old now new f other =
    f.leaves ∙ cond-false (is_triggered old.state) old
    (kept_after old (together t truths lefts old.hits)) other ∙ ap (kept_after old) (sym f.says)

clears_kept : (t : TriggerContents) (truths : List Bool) (lefts : List ℕ) (old : TriggerKept)
    (now : Together) (new : TriggerKept) → IsFrame t truths lefts old now new → is_triggered
    old.state ≡ false → is_cleared old.state now.reset now.valid ≡ true → AreCleared t now new
clears_kept t truths lefts old now new f other clears =
    let kept = f.leaves ∙ cond-false (is_triggered old.state) old
    (kept_after old (together t truths lefts old.hits)) other in
    let clears' = sym (ap (λ (n : Together). is_cleared old.state n.reset n.valid) f.says) ∙ clears in
    subst (λ (n : Together). AreCleared t n new) (sym f.says)
    (subst (λ (kept : TriggerKept). AreCleared t (together t truths lefts old.hits) kept) (sym kept)
    (kept_cleared t truths lefts old clears'))

-- after a reset
pub reset_state : (t : TriggerContents) (truths : List Bool) (lefts : List ℕ) (old : TriggerKept)
    (now : Together) (new : TriggerKept) → IsFrame t truths lefts old now new → old.state
    ≢ Triggered → now.reset ≡ true → new.state ≡ state_after_reset now
reset_state t truths lefts old now new f other resets =
    let open_state = is_triggered-other old.state other in
    ap (λ (kept : TriggerKept). kept.state) (leaves_kept t truths lefts old now new f open_state)
    ∙ ap (λ b. state_by b now.reset) open_state ∙ ap (state_by false) resets
  where
    state_by : Bool → Bool → State
    state_by triggered reset = cond triggered Triggered
        (cond reset (state_after_reset now) (cond now.valid (cond (is_waiting old.state) Waiting
        Triggered) (cond now.paused Paused (cond now.primed Primed Active))))

pub reset_clears : (t : TriggerContents) (truths : List Bool) (lefts : List ℕ) (old : TriggerKept)
    (now : Together) (new : TriggerKept) → IsFrame t truths lefts old now new → old.state
    ≢ Triggered → now.reset ≡ true → AreCleared t now new
reset_clears t truths lefts old now new f other resets =
    clears_kept t truths lefts old now new f (is_triggered-other old.state other)
    (ap (λ b. b || (is_waiting old.state && now.valid)) resets)

-- an achievement that waits goes on to wait while it is valid
waiting_other : (state : State) → state ≡ Waiting → is_triggered state ≡ false
waiting_other state is = ap is_triggered is

pub waiting_state : (t : TriggerContents) (truths : List Bool) (lefts : List ℕ) (old : TriggerKept)
    (now : Together) (new : TriggerKept) → IsFrame t truths lefts old now new → old.state ≡ Waiting
    → now.reset ≡ false → now.valid ≡ true → new.state ≡ Waiting
waiting_state t truths lefts old now new f waits no_reset valid =
    ap (λ (kept : TriggerKept). kept.state) (leaves_kept t truths lefts old now new f (waiting_other old.state waits))
    ∙ ap (λ state. state_after state now.reset now.valid now.paused now.primed) waits
    ∙ ap (λ b. state_after Waiting b now.valid now.paused now.primed) no_reset
    ∙ ap (λ b. state_after Waiting false b now.paused now.primed) valid

pub waiting_clears : (t : TriggerContents) (truths : List Bool) (lefts : List ℕ) (old : TriggerKept)
    (now : Together) (new : TriggerKept) → IsFrame t truths lefts old now new → old.state ≡ Waiting
    → now.valid ≡ true → AreCleared t now new
waiting_clears t truths lefts old now new f waits valid =
    clears_kept t truths lefts old now new f (waiting_other old.state waits)
    (ap (λ state. now.reset || (is_waiting state && now.valid)) waits
    ∙ ap (λ b. now.reset || b) valid ∙ or_true now.reset)
  where
    or_true : (b : Bool) → (b || true) ≡ true
    or_true true = refl
    or_true false = refl

-- whether numbers come from hits is the same at every frame
pub from_hits-frames : (t : TriggerContents) (truths truths' : List Bool)
    (lefts lefts' hits hits' : List ℕ) → (together t truths lefts hits).from_hits
    ≡ (together t truths' lefts' hits').from_hits
from_hits-frames t truths truths' lefts lefts' hits hits' = from_hits-groups
    (groups_of t) truths lefts hits ∙ sym (from_hits-groups (groups_of t) truths' lefts' hits')
