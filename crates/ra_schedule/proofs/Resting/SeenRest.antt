-- How a group is seen to rest: by its hits before and after a frame.
use Rattle.std.proofs.Common.{◌≡◌, ℕ, ◌+◌, ◌<◌, Bool, true, false, not, ◌&&◌, cond, length, slice_index, slice_index_or}
use Rattle.std.proofs.Common.{refl, sym, ap, ◌∙◌, ◌⊎◌, inl, inr, arith}
use Rattle.std.proofs.lemmas.Bool.{false≢true}
use Rattle.std.proofs.lemmas.List.FromFn.{fill_by_all, get_or-map-range_with_len, length-map-range_with_len}
use Rattle.ra_condition.specs.Contents.{condition_at}
use Rattle.ra_group.specs.declared.form.Form.{Form}
use Rattle.ra_group.specs.Equations.{Frame, met, reset_by, prev_of}
use Rattle.ra_group.specs.Outcome.{next_hit, next_hits}
use Rattle.ra_schedule.specs.Groups.{is_free, is_stepped, plus, rested_hit, rested_hits, keeps_or_counts, all_keep}
use Rattle.ra_schedule.proofs.Resting.GroupLemmas.{no_target}
use Rattle.ra_schedule.proofs.Resting.Kept.{kept_or_counted, keeps_place}
use Rattle.ra_schedule.proofs.Resting.GroupRest.{hits-untargeted, rested_bound}

-- a free condition that counts or stays rests
rests_free : (s r m : Bool) (h : ℕ)
    → (cond s (cond r 0 (cond m (plus 1 h) h)) h ≡ h) ⊎ (cond s (cond r 0 (cond m (plus 1 h) h)) h ≡ h + 1)
    → cond s (cond r 0 (cond m (plus 1 h) h)) h ≡ cond (s && (not r && m)) (plus 1 h) h
rests_free false r m h seen = refl
rests_free true true m h (inl e) = e
rests_free true true m h (inr e) = absurd (omega (arith, e))
rests_free true false true h seen = refl
rests_free true false false h seen = refl

module _ (form : Form) (f : Frame) (j : ℕ) (free : is_free form (condition_at f.conditions j) ≡ true) where
  abbrev s : Bool
  s = is_stepped f j

  abbrev r : Bool
  r = reset_by (prev_of f j)

  abbrev m : Bool
  m = met (prev_of f j) (slice_index_or f.truths j false)

  abbrev h : ℕ
  h = slice_index f.hits j

  seen_free : (next_hit f j ≡ h) ⊎ (next_hit f j ≡ h + 1) → next_hit f j ≡ rested_hit 1 form f j
  seen_free seen = stepped ∙ rests_free s r m h (turned seen)
      ∙ sym (ap (λ b. cond (b && (s && (not r && m))) (plus 1 h) h) free)
    where
      stepped : next_hit f j ≡ cond s (cond r 0 (cond m (plus 1 h) h)) h
      stepped = ap (λ x. cond s x h) (hits-untargeted r m (condition_at f.conditions j).target h
          (no_target form (condition_at f.conditions j) free))

      turned : (next_hit f j ≡ h) ⊎ (next_hit f j ≡ h + 1)
          → (cond s (cond r 0 (cond m (plus 1 h) h)) h ≡ h) ⊎ (cond s (cond r 0 (cond m (plus 1 h) h)) h ≡ h + 1)
      turned (inl e) = inl (sym stepped ∙ e)
      turned (inr e) = inr (sym stepped ∙ e)

-- where each condition keeps its hits, or is free and has one more, the group rests
pub rest_seen : (form : Form) (f : Frame)
    → ((j : ℕ) → j < length f.conditions
    → (next_hit f j ≡ slice_index f.hits j) ⊎ ((is_free form (condition_at f.conditions j) ≡ true) ×
    (next_hit f j ≡ slice_index f.hits j + 1)))
    → next_hits f ≡ rested_hits 1 form f
rest_seen form f seen =
    fill_by_all (rested_hit 1 form f) (next_hits f) (length f.conditions) 0 (length-map-range_with_len (next_hit f) 0
    (length f.conditions))
    (λ j l. get_or-map-range_with_len (next_hit f) 0 (length f.conditions) j j 0 l (omega arith) ∙ at j l)
  where
    at : (j : ℕ) → j < length f.conditions → next_hit f j ≡ rested_hit 1 form f j
    at j l = by_free (is_free form (condition_at f.conditions j)) refl (seen j l)
      where
        by_free : (b : Bool) → is_free form (condition_at f.conditions j) ≡ b
            → (next_hit f j ≡ slice_index f.hits j) ⊎ ((is_free form (condition_at f.conditions j) ≡ true) ×
            (next_hit f j ≡ slice_index f.hits j + 1))
            → next_hit f j ≡ rested_hit 1 form f j
        by_free false bound (inl e) = e ∙ sym (rested_bound form f 1 1 j bound)
        by_free false bound (inr (free, e)) = absurd (false≢true (sym bound ∙ free))
        by_free true free (inl e) = seen_free form f j free (inl e)
        by_free true free (inr (is, e)) = seen_free form f j free (inr e)

module _ (form : Form) (f : Frame) where
  -- where each condition is seen to keep its hits or to count, the group rests
  pub rest_kept : all_keep form f.conditions f.hits (next_hits f) ≡ true → next_hits f ≡ rested_hits 1 form f
  rest_kept kept = rest_seen form f seen
    where
      next_at : (j : ℕ) → j < length f.conditions → slice_index (next_hits f) j ≡ next_hit f j
      next_at j l = get_or-map-range_with_len (next_hit f) 0 (length f.conditions) j j 0 l (omega arith)

      seen : (j : ℕ) → j < length f.conditions
          → (next_hit f j ≡ slice_index f.hits j) ⊎ ((is_free form (condition_at f.conditions j) ≡ true) ×
          (next_hit f j ≡ slice_index f.hits j + 1))
      seen j l =
          kept_or_counted form (condition_at f.conditions j) (slice_index f.hits j) (next_hit f j)
          (ap (keeps_or_counts form (condition_at f.conditions j) (slice_index f.hits j))
          (sym (next_at j l)) ∙ keeps_place form f.conditions f.hits (next_hits f) kept j l)
