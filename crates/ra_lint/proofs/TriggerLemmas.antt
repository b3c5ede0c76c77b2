-- A trigger whose groups' hits are of conditions that may be met.
use Rattle.std.proofs.Common.{◌≡◌, ℕ, zero, suc, Bool, true, false, ◌&&◌, ◌||◌, List, [], ◌∷◌, ◌++◌, length, map, take}
use Rattle.std.proofs.Common.{drop, replicate, slice_index, refl, sym, subst, arith}
use Rattle.std.specs.List.{list_any, list_all, flat_map}
use Rattle.std.proofs.Math.Seq.{take-append_seam}
use Rattle.std.proofs.lemmas.Bool.{false≢true, and_left, and_right}
use Rattle.ra_condition.specs.declared.condition.Condition.{Condition}
use Rattle.ra_condition.specs.Contents.{TriggerContents, groups_of}
use Rattle.ra_group.specs.declared.form.Form.TheVariants.{InTrigger}
use Rattle.ra_group.specs.Equations.{frame_of}
use Rattle.ra_group.specs.Outcome.{outcome_of, next_hits}
use Rattle.ra_group.proofs.AlongLemmas.{length-next_hits}
use Rattle.ra_trigger.specs.Steps.{frames_along, core_and_some}
use Rattle.ra_lint.specs.Chances.{is_dead}
use Rattle.ra_lint.specs.Among.{MayBe, MayHave}
use Rattle.ra_lint.specs.Warnings.{may_hold, are_dead, is_dead_trigger}
use Rattle.ra_lint.proofs.GroupLemmas.{next_may, dead_invalid}

-- the hits of each group are of conditions that may be met, and the comparisons hold where they may
abbrev pub AllMayHave : List (List Condition) → List ℕ → Type 0
AllMayHave [] hits = Unit {0}
AllMayHave (cs ∷ groups) hits = MayHave cs (may_hold cs) (take (length cs) hits)
    × AllMayHave groups (drop (length cs) hits)

abbrev pub AllMayBe : List (List Condition) → List Bool → Type 0
AllMayBe [] truths = Unit {0}
AllMayBe (cs ∷ groups) truths = MayBe (may_hold cs) (take (length cs) truths)
    × AllMayBe groups (drop (length cs) truths)

pub drop-append_seam : {A : Type 0} (xs ys : List A) → drop (length xs) (xs ++ ys) ≡ ys
drop-append_seam [] ys = refl
drop-append_seam (x ∷ xs) ys = drop-append_seam xs ys

-- after a frame the hits are again of such conditions
pub along_may : (groups : List (List Condition)) (truths : List Bool) (lefts hits : List ℕ) → AllMayBe groups truths
    → AllMayHave groups hits → AllMayHave groups (flat_map next_hits (frames_along groups truths lefts hits))
along_may [] truths lefts hits b h = tt
along_may (cs ∷ groups) truths lefts hits b h =
    let f = frame_of cs (take (length cs) truths) (take (length cs) lefts) (take (length cs) hits) in
    let rest = flat_map next_hits (frames_along groups (drop (length cs) truths) (drop (length cs) lefts)
    (drop (length cs) hits)) in
    let front : take (length cs) (next_hits f ++ rest) ≡ next_hits f = subst
    (λ n. take n (next_hits f ++ rest) ≡ next_hits f) (length-next_hits f) (take-append_seam (next_hits f) rest) in
    let back : drop (length cs) (next_hits f ++ rest) ≡ rest = subst (λ n. drop n (next_hits f ++ rest) ≡ rest)
    (length-next_hits f) (drop-append_seam (next_hits f) rest) in (
      subst (MayHave cs (may_hold cs)) (sym front) (next_may f (may_hold cs) b.0 h.0),
      subst (AllMayHave groups) (sym back)
          (along_may groups (drop (length cs) truths) (drop (length cs) lefts) (drop (length cs) hits) b.1 h.1),
    )

-- ---- a dead trigger

-- the outcome of a dead group is not valid
outcomes_dead : (groups : List (List Condition)) (truths : List Bool) (lefts hits : List ℕ) → AllMayBe groups truths
    → AllMayHave groups hits → list_all (λ g. is_dead g (may_hold g)) groups ≡ true
    → list_any (λ o. o.valid) (map (outcome_of InTrigger) (frames_along groups truths lefts hits)) ≡ false
outcomes_dead [] truths lefts hits b h e = refl
outcomes_dead (cs ∷ groups) truths lefts hits b h e =
    let parts = both (is_dead cs (may_hold cs)) (list_all (λ g. is_dead g (may_hold g)) groups) e in
    let f = frame_of cs (take (length cs) truths) (take (length cs) lefts) (take (length cs) hits) in
    subst (λ v. (v || list_any (λ o. o.valid)
    (map (outcome_of InTrigger) (frames_along groups (drop (length cs) truths) (drop (length cs) lefts)
    (drop (length cs) hits)))) ≡ false) (sym (dead_invalid f (may_hold cs) b.0 h.0 InTrigger parts.0))
    (outcomes_dead groups (drop (length cs) truths) (drop (length cs) lefts) (drop (length cs) hits) b.1 h.1 parts.1)
  where
    both : (a b : Bool) → (a && b) ≡ true → (a ≡ true) × (b ≡ true)
    both true b e = (refl, e)
    both false b e = absurd (false≢true e)

-- and a dead trigger is not valid
dead_pair : (core : List Condition) (alts : List (List Condition)) (truths : List Bool) (lefts hits : List ℕ)
    → AllMayBe (core ∷ alts) truths → AllMayHave (core ∷ alts) hits
    → (is_dead core (may_hold core) || are_dead alts) ≡ true → core_and_some (λ o. o.valid)
    (map (outcome_of InTrigger) (frames_along (core ∷ alts) truths lefts hits)) ≡ false
dead_pair core [] truths lefts hits b h e =
    dead_invalid (frame_of core (take (length core) truths) (take (length core) lefts) (take (length core) hits))
    (may_hold core) b.0 h.0 InTrigger (left (is_dead core (may_hold core)) e)
  where
    left : (d : Bool) → (d || false) ≡ true → d ≡ true
    left true e = refl
    left false e = e
dead_pair core (alt ∷ alts) truths lefts hits b h e =
    let f = frame_of core (take (length core) truths) (take (length core) lefts) (take (length core) hits) in
    let others = list_any (λ o. o.valid)
    (map (outcome_of InTrigger) (frames_along (alt ∷ alts) (drop (length core) truths) (drop (length core) lefts)
    (drop (length core) hits))) in
    by_core (is_dead core (may_hold core)) refl e (outcome_of InTrigger f).valid others
    (dead_invalid f (may_hold core) b.0 h.0 InTrigger)
    (outcomes_dead (alt ∷ alts) (drop (length core) truths) (drop (length core) lefts)
    (drop (length core) hits) b.1 h.1)
  where
    by_core : (d : Bool) → is_dead core (may_hold core) ≡ d → (d || are_dead (alt ∷ alts)) ≡ true → (v w : Bool)
        → (is_dead core (may_hold core) ≡ true → v ≡ false) → (are_dead (alt ∷ alts) ≡ true → w ≡ false)
        → (v && w) ≡ false
    by_core true s e v w p q = and_left v w (p s)
    by_core false s e v w p q = and_right v w (q e)

pub trigger_dead : (t : TriggerContents) (truths : List Bool) (lefts hits : List ℕ) → AllMayBe (groups_of t) truths
    → AllMayHave (groups_of t) hits → is_dead_trigger t ≡ true → core_and_some (λ o. o.valid)
    (map (outcome_of InTrigger) (frames_along (groups_of t) truths lefts hits)) ≡ false
trigger_dead t truths lefts hits b h e = dead_pair t.core t.alts truths lefts hits b h e

-- ---- hits that are all 0

zero_take : (k n j : ℕ) → slice_index (take k (replicate n 0)) j ≡ 0
zero_take zero n j = refl
zero_take (suc k) zero j = refl
zero_take (suc k) (suc n) zero = refl
zero_take (suc k) (suc n) (suc j) = zero_take k n j

zero_drop : (k n : ℕ) → (m : ℕ) × (drop {A = ℕ} k (replicate n 0) ≡ replicate m 0)
zero_drop zero n = (n, refl)
zero_drop (suc k) zero = (0, refl)
zero_drop (suc k) (suc n) = zero_drop k n

pub zeros_may : (groups : List (List Condition)) (n : ℕ) → AllMayHave groups (replicate n 0)
zeros_may [] n = tt
zeros_may (cs ∷ groups) n =
    let rest = zero_drop (length cs) n in (
      λ j some. absurd (omega (arith, some, zero_take (length cs) n j)),
      subst (AllMayHave groups) (sym rest.1) (zeros_may groups rest.0),
    )
