-- A frame of a group, of which only conditions that may be met have hits.
use Rattle.std.proofs.Common.{◌≡◌, ℕ, ◌<◌, Bool, true, false, not, cond, ◌&&◌, ◌||◌, List, [], ◌∷◌, length, slice_index}
use Rattle.std.proofs.Common.{refl, sym, subst, ◌∙◌, inl, inr, arith}
use Rattle.std.specs.List.{list_any}
use Rattle.std.proofs.lemmas.Bool.{true≢false, false≢true, cases_lt}
use Rattle.std.proofs.lemmas.List.{get_or_past}
use Rattle.std.proofs.lemmas.List.FromFn.{get_or-map-range_with_len}
use Rattle.ra_condition.specs.Flags.{hands_on, is_required, is_reset, is_pause}
use Rattle.ra_condition.specs.Contents.{flag_at}
use Rattle.ra_condition.specs.Chains.{places, in_pause_chain}
use Rattle.ra_group.specs.declared.form.Form.{Form}
use Rattle.ra_group.specs.Equations.{Frame, settled_at}
use Rattle.ra_group.specs.Outcome.{some_valid, all_valid, outcome_of, next_hit, next_hits}
use Rattle.ra_group.proofs.AlongLemmas.{length-next_hits}
use Rattle.ra_lint.specs.Chances.{chance_at, is_dead}
use Rattle.ra_lint.specs.Among.{MayBe, MayHave}
use Rattle.ra_lint.proofs.ChanceLemmas.{settled_among}

module _ (f : Frame) (may : ℕ → Bool) (holds : MayBe may f.truths) (had : MayHave f.conditions may f.hits) where
  -- the hits of a place after the frame
  hit_among : (j : ℕ) → 0 < next_hit f j → (chance_at f.conditions may j).met ≡ true
  hit_among j = by_cases (not (hands_on (flag_at f.conditions j)) &&
      (not (some_valid is_pause f (places f.conditions)) || in_pause_chain f.conditions j))
    where
      by_cases : (b : Bool) → 0 < cond b (settled_at f j).hit (slice_index f.hits j)
          → (chance_at f.conditions may j).met ≡ true
      by_cases true = (settled_among f may holds had j).hit
      by_cases false = had j

  -- the hits after the frame are again of conditions that may be met
  pub next_may : MayHave f.conditions may (next_hits f)
  next_may j some = elim (cases_lt j (length f.conditions)) [
    | inl within ↦ hit_among j (subst (λ n. 0 < n)
        (get_or-map-range_with_len (next_hit f) 0 (length f.conditions) j j 0 within (omega arith)) some)
    | inr past ↦ absurd (omega (arith, some, get_or_past (next_hits f) j 0 (omega (arith, past, length-next_hits f))))
  ]

  -- one condition that is never valid keeps a group from being valid
  dead_some : (js : List ℕ) → list_any
      (λ j. is_required (flag_at f.conditions j) && not (chance_at f.conditions may j).valid) js ≡ true
      → all_valid is_required f js ≡ false
  dead_some [] e = absurd (false≢true e)
  dead_some (j ∷ js) e = by_head (dead_some js) (is_required (flag_at f.conditions j)) (settled_at f j).valid refl
      (chance_at f.conditions may j).valid refl e
    where
      by_head : (list_any (λ j. is_required (flag_at f.conditions j) && not (chance_at f.conditions may j).valid)
          js ≡ true → all_valid is_required f js ≡ false) → (r v : Bool) → (settled_at f j).valid ≡ v → (c : Bool)
          → (chance_at f.conditions may j).valid ≡ c
          → ((r && not c) || list_any (λ j. is_required (flag_at f.conditions j) && not
          (chance_at f.conditions may j).valid) js) ≡ true → ((not r || v) && all_valid is_required f js) ≡ false
      by_head next true false s c k e = refl
      by_head next true true s true k e = next e
      by_head next true true s false k e = absurd (true≢false (sym ((settled_among f may holds had j).valid s) ∙ k))
      by_head next false v s c k e = next e

  pub dead_invalid : (form : Form) → is_dead f.conditions may ≡ true → (outcome_of form f).valid ≡ false
  dead_invalid form dead = by_parts (some_valid is_pause f (places f.conditions))
      (some_valid is_reset f (places f.conditions))
    where
      by_parts : (p r : Bool) → ((not p && not (not p && r)) && all_valid is_required f (places f.conditions)) ≡ false
      by_parts true r = refl
      by_parts false true = refl
      by_parts false false = dead_some (places f.conditions) dead
