-- Each condition of a frame comes to what it may come to.
use Rattle.std.proofs.Common.{◌≡◌, ◌⊎◌, ℕ, zero, suc, ◌<◌, Bool, true, false, not, cond, eqb, leb, ◌&&◌, ◌||◌, ℤ, pos}
use Rattle.std.proofs.Common.{negsuc, ◌+ℤ◌, ◌≤ℤ◌, Option, None, Some, slice_index, slice_index_or, refl, sym, subst}
use Rattle.std.proofs.Common.{inl, inr, arith}
use Rattle.std.proofs.lemmas.Int.{ints}
use Rattle.std.proofs.lemmas.Bool.{false≢true, or_left, or_right, leb-true}
use Rattle.ra_condition.specs.declared.flag.Flag.{Flag}
use Rattle.ra_condition.specs.declared.flag.Flag.TheVariants.{AddHits, SubHits, AndNext, OrNext}
use Rattle.ra_condition.specs.declared.condition.Condition.{Condition}
use Rattle.ra_condition.specs.Flags.{combines, hands_on}
use Rattle.ra_condition.specs.Contents.{condition_at}
use Rattle.ra_group.specs.declared.settled.Settled.{Settled}
use Rattle.ra_group.specs.Equations.{Frame, met_after, met, hits_after, valid_alone, add_after, add_by, clamped}
use Rattle.ra_group.specs.Equations.{reached, settled, seen_after, prev_of, settled_at, reset_by}
use Rattle.ra_lint.specs.declared.chance.Chance.{Chance}
use Rattle.ra_lint.specs.Chances.{may_meet_after, may_meet, may_add_after, may_add, may_reach, chance, next_chance}
use Rattle.ra_lint.specs.Chances.{chance_before, chance_at}
use Rattle.ra_lint.specs.Among.{IsAmong, AreAmong, MayBe, MayHave}

and_true_parts : (a b : Bool) → (a && b) ≡ true → (a ≡ true) × (b ≡ true)
and_true_parts true b e = (refl, e)
and_true_parts false b e = absurd (false≢true e)

-- ---- one equation after the other, of any flag before

met_among : (flag : Flag) (valid t valid' may : Bool) → (valid ≡ true → valid' ≡ true) → (t ≡ true → may ≡ true)
    → met_after flag valid t ≡ true → may_meet_after flag valid' may ≡ true
met_among AndNext valid t valid' may v m e = by_parts (and_true_parts valid t e)
  where
    by_parts : (valid ≡ true) × (t ≡ true) → (may && valid') ≡ true
    by_parts p = subst (λ b. (b && valid') ≡ true) (sym (m p.1)) (v p.0)
met_among OrNext true t valid' may v m e = or_right may valid' (v refl)
met_among OrNext false t valid' may v m e = or_left may valid' (m e)
met_among _ valid t valid' may v m e = m e

add_among : (flag : Flag) (add : ℤ) (hit : ℕ) (added met : Bool) → (add ≤ℤ pos 0) ⊎ (added ≡ true)
    → (0 < hit → met ≡ true) → (add_after flag add hit ≤ℤ pos 0) ⊎ (may_add_after flag added met ≡ true)
add_among AddHits add zero added met (inl none) h = inl (omega (arith, ints, none))
add_among AddHits add (suc hit) added met (inl none) h = inr (or_right added met (h (omega arith)))
add_among AddHits add hit added met (inr some) h = inr (or_left added met some)
add_among SubHits add hit added met (inl none) h = inl (omega (arith, ints, none))
add_among SubHits add hit added met (inr some) h = inr some
add_among _ add hit added met a h = a

-- hits come from hits before or from a condition that is met
hits_from : (reset m : Bool) (target h : ℕ) → 0 < hits_after reset m target h → (m ≡ true) ⊎ (0 < h)
hits_from true m target h some = absurd (omega (arith, some))
hits_from false true target h some = inl refl
hits_from false false target h some = inr some

-- a whole number that is not above 0 counts as 0
clamped_none : (z : ℤ) → z ≤ℤ pos 0 → clamped z ≡ 0
clamped_none (pos zero) none = refl
clamped_none (pos (suc n)) none = absurd (omega (arith, ints, none))
clamped_none (negsuc n) none = refl

-- a total comes from hits of the condition or of its chain
total_from : (hit : ℕ) (add : ℤ) → add ≤ℤ pos 0 → 0 < clamped (pos hit +ℤ add) → 0 < hit
total_from (suc hit) add none some = omega arith
total_from zero add none some = absurd (omega (arith, some, clamped_none (pos zero +ℤ add) (omega (arith, ints, none))))

-- a target that is reached has hits
reached_some : (target total : ℕ) → reached target total ≡ true → ((eqb target 0) ≡ false) × (0 < total)
reached_some target total e = by_target (eqb target 0) refl (and_true_parts (not (eqb target 0)) (leb target total) e)
  where
    by_target : (b : Bool) → eqb target 0 ≡ b → (not b ≡ true) × (leb target total ≡ true) → ((eqb target 0) ≡ false)
        × (0 < total)
    by_target true z p = absurd (false≢true p.0)
    by_target false z p = (z, grind (arith, z, leb-true target total p.1))

-- a condition that is valid by itself with a target has its hits, and else it is met
alone_from : (reset m : Bool) (target hit : ℕ) → valid_alone reset m target hit ≡ true → (m ≡ true) ⊎ (0 < hit)
alone_from true m target hit e = absurd (false≢true e)
alone_from false m target hit e = by_target (eqb target 0) refl e
  where
    by_target : (b : Bool) → eqb target 0 ≡ b → cond b m (leb target hit) ≡ true → (m ≡ true) ⊎ (0 < hit)
    by_target true z d = inl d
    by_target false z d = inr (grind (arith, z, leb-true target hit d))

-- ---- one condition

module _ (c : Condition) (t may : Bool) (h : ℕ) (prev : Option Settled) (before : Option Chance)
    (among : AreAmong prev before) (holds : t ≡ true → may ≡ true) where
  met_may : met prev t ≡ true → (chance c may before).met ≡ true
  met_may = by_prev prev before among
    where
      by_prev : (prev : Option Settled) (before : Option Chance) → AreAmong prev before → met prev t ≡ true
          → may_meet before may ≡ true
      by_prev None None a e = holds e
      by_prev (Some s) (Some k) a e = subst (λ flag. may_meet_after flag k.valid may ≡ true) a.flag
          (met_among s.flag s.valid t k.valid may a.valid holds e)
      by_prev None (Some k) a e = absurd a
      by_prev (Some s) None a e = absurd a

  add_may : (add_by prev ≤ℤ pos 0) ⊎ ((chance c may before).added ≡ true)
  add_may = by_prev prev before among
    where
      by_prev : (prev : Option Settled) (before : Option Chance) → AreAmong prev before → (add_by prev ≤ℤ pos 0)
          ⊎ (may_add before ≡ true)
      by_prev None None a = inl (omega (arith, ints))
      by_prev (Some s) (Some k) a = subst (λ flag. (add_after s.flag s.add s.hit ≤ℤ pos 0)
          ⊎ (may_add_after flag k.added k.met ≡ true)) a.flag (add_among s.flag s.add s.hit k.added k.met a.add a.hit)
      by_prev None (Some k) a = absurd a
      by_prev (Some s) None a = absurd a

  module _ (had : 0 < h → (chance c may before).met ≡ true) where
    hit_may : 0 < (settled c t h prev).hit → (chance c may before).met ≡ true
    hit_may some = elim (hits_from (reset_by prev) (met prev t) c.target h some) [
      | inl m ↦ met_may m
      | inr old ↦ had old
    ]

    reach_may : reached c.target (settled c t h prev).total ≡ true → may_reach c.target (chance c may before).met
        (chance c may before).added ≡ true
    reach_may e =
        let some = reached_some c.target (settled c t h prev).total e in
        subst (λ b. (not b && ((chance c may before).met || (chance c may before).added)) ≡ true) (sym some.0)
        (by_add add_may some.1)
      where
        by_add : (add_by prev ≤ℤ pos 0) ⊎ ((chance c may before).added ≡ true) → 0 < (settled c t h prev).total
            → ((chance c may before).met || (chance c may before).added) ≡ true
        by_add (inl none) total = or_left (chance c may before).met (chance c may before).added
            (hit_may (total_from (settled c t h prev).hit (add_by prev) none total))
        by_add (inr some) total = or_right (chance c may before).met (chance c may before).added some

    valid_may : (settled c t h prev).valid ≡ true → (chance c may before).valid ≡ true
    valid_may = by_target (combines c.flag || eqb c.target 0)
      where
        alone : valid_alone (reset_by prev) (met prev t) c.target (settled c t h prev).hit ≡ true
            → (chance c may before).met ≡ true
        alone e = elim (alone_from (reset_by prev) (met prev t) c.target (settled c t h prev).hit e) [
          | inl m ↦ met_may m
          | inr some ↦ hit_may some
        ]

        by_target : (b : Bool) → cond b (valid_alone (reset_by prev) (met prev t) c.target (settled c t h prev).hit)
            (reached c.target (settled c t h prev).total) ≡ true → cond b (chance c may before).met
            (may_reach c.target (chance c may before).met (chance c may before).added) ≡ true
        by_target true e = alone e
        by_target false e = reach_may e

    pub condition_may : IsAmong (settled c t h prev) (chance c may before)
    condition_may = record { flag = refl; hit = hit_may; add = add_may; valid = valid_may }

-- ---- all conditions of a frame

module _ (f : Frame) (may : ℕ → Bool) (holds : MayBe may f.truths) (had : MayHave f.conditions may f.hits) where
  next_among : (c : Condition) (s : Settled) (k : Chance) (prev : Option Settled) (before : Option Chance)
      → IsAmong s k → AreAmong prev before → AreAmong (seen_after c s prev) (next_chance c k before)
  next_among c s k prev before here among = by_flag (hands_on c.flag) (combines c.flag)
    where
      by_flag : (h b : Bool) → AreAmong (cond h prev (cond b (Some s) None)) (cond h before (cond b (Some k) None))
      by_flag true b = among
      by_flag false true = here
      by_flag false false = tt

  pub before_among : (j : ℕ) → AreAmong (prev_of f j) (chance_before f.conditions may j)
  before_among zero = tt
  before_among (suc i) =
      let among = before_among i in
      next_among (condition_at f.conditions i) (settled_at f i) (chance_at f.conditions may i) (prev_of f i)
      (chance_before f.conditions may i)
      (condition_may (condition_at f.conditions i) (slice_index_or f.truths i false) (may i) (slice_index f.hits i)
      (prev_of f i) (chance_before f.conditions may i) among (holds i) (had i))
      among

  -- each condition comes to what it may come to
  pub settled_among : (j : ℕ) → IsAmong (settled_at f j) (chance_at f.conditions may j)
  settled_among j = condition_may (condition_at f.conditions j) (slice_index_or f.truths j false) (may j)
      (slice_index f.hits j) (prev_of f j) (chance_before f.conditions may j) (before_among j) (holds j) (had j)

  -- and a target is reached only where it may be
  pub reached_among : (j : ℕ) → reached (condition_at f.conditions j).target (settled_at f j).total ≡ true
      → may_reach (condition_at f.conditions j).target (chance_at f.conditions may j).met
      (chance_at f.conditions may j).added ≡ true
  reached_among j = reach_may (condition_at f.conditions j) (slice_index_or f.truths j false) (may j)
      (slice_index f.hits j) (prev_of f j) (chance_before f.conditions may j) (before_among j) (holds j) (had j)
