-- A group at rest: what n frames more do to its hits, and that it goes on to rest.
use Rattle.std.proofs.Common.{◌≡◌, ℕ, ◌+◌, ◌<◌, Bool, true, false, not, ◌&&◌, ◌||◌, ◌==◌, cond, nat_lt, List, length}
use Rattle.std.proofs.Common.{slice_index, slice_index_or, refl, sym, ap, ◌∙◌, inl, inr, arith}
use Rattle.std.proofs.lemmas.Bool.{cases_lt, false≢true, cond-true}
use Rattle.std.proofs.lemmas.List.{get_or_past}
use Rattle.std.proofs.lemmas.List.FromFn.{fill_by_all, get_or-map-range_with_len, length-map-range_with_len}
use Rattle.ra_condition.specs.declared.condition.Condition.{Condition}
use Rattle.ra_condition.specs.Contents.{condition_at, no_condition}
use Rattle.ra_group.specs.declared.form.Form.{Form}
use Rattle.ra_group.specs.Equations.{Frame, met, reset_by, hits_after, prev_of, settled_at}
use Rattle.ra_group.specs.Outcome.{next_hit, next_hits}
use Rattle.ra_schedule.specs.Groups.{is_free, is_stepped, plus, rested_hit, rested_hits, with_hits, AgreeButFree}
use Rattle.ra_schedule.proofs.Resting.GroupLemmas.{no_target, stepped_same, reset_same, met_same, bound_same}

plus-plus : (m n h : ℕ) → plus m (plus n h) ≡ plus (n + m) h
plus-plus m n h = omega arith

-- the hits of a condition without a target after a frame
pub hits-untargeted : (r m : Bool) (target h : ℕ) → (target == 0) ≡ true
    → hits_after r m target h ≡ cond r 0 (cond m (plus 1 h) h)
hits-untargeted true m target h e = refl
hits-untargeted false false target h e = refl
hits-untargeted false true target h e = cond-true ((target == 0) || nat_lt h target) (plus 1 h) h (ap
    (λ b. b || nat_lt h target) e)

-- a free condition after one frame more, by whether it is stepped, reset and met
one_more : (s r m : Bool) (n h : ℕ)
    → cond s (cond r 0 (cond m (plus 1 h) h)) h ≡ cond (s && (not r && m)) (plus 1 h) h
    → cond s (cond r 0 (cond m (plus 1 (cond (s && (not r && m)) (plus n h) h))
    (cond (s && (not r && m)) (plus n h) h))) (cond (s && (not r && m)) (plus n h) h)
    ≡ cond (s && (not r && m)) (plus (n + 1) h) h
one_more false r m n h rest = refl
one_more true true m n h rest = rest
one_more true false true n h rest = plus-plus 1 n h
one_more true false false n h rest = refl

-- past the end of a group stands a free condition
within_bound : (form : Form) (cs : List Condition) (j : ℕ) → is_free form (condition_at cs j) ≡ false → j < length cs
within_bound form cs j bound =
    elim (cases_lt j (length cs)) [
      | inl l ↦ l
      | inr g ↦ absurd (false≢true (sym bound ∙ ap (is_free form) (get_or_past cs j no_condition g)))
    ]

module _ (form : Form) (f : Frame) (n : ℕ) where
  abbrev f' : Frame
  f' = with_hits f (rested_hits n form f)

  abbrev c_at : ℕ → Condition
  c_at j = condition_at f.conditions j

  rested_at : (j : ℕ) → j < length f.conditions → slice_index (rested_hits n form f) j ≡ rested_hit n form f j
  rested_at j l = get_or-map-range_with_len (rested_hit n form f) 0 (length f.conditions) j j 0 l (omega arith)

  pub rested_bound : (k j : ℕ) → is_free form (c_at j) ≡ false → rested_hit k form f j ≡ slice_index f.hits j
  rested_bound k j bound = ap (λ b. cond
      (b && (is_stepped f j && (not (reset_by (prev_of f j)) && met (prev_of f j) (slice_index_or f.truths j false))))
      (plus k (slice_index f.hits j)) (slice_index f.hits j)) bound

  -- the hits agree but at free conditions with those of n frames more
  pub rested_agree : AgreeButFree form f.conditions f.hits (rested_hits n form f)
  rested_agree = record {
    at = λ j bound. sym
        (rested_at j (within_bound form f.conditions j bound) ∙ rested_bound n j bound);
  }

  module _ (rest : next_hits f ≡ rested_hits 1 form f) where
    rest_at : (j : ℕ) → j < length f.conditions → next_hit f j ≡ rested_hit 1 form f j
    rest_at j l =
        sym (get_or-map-range_with_len (next_hit f) 0 (length f.conditions) j j 0 l (omega arith))
        ∙ ap (λ hits. slice_index hits j) rest
        ∙ get_or-map-range_with_len (rested_hit 1 form f) 0 (length f.conditions) j j 0 l (omega arith)

    more_bound : (j : ℕ) → j < length f.conditions → is_free form (c_at j) ≡ false
        → next_hit f' j ≡ rested_hit (n + 1) form f j
    more_bound j l bound =
        ap (λ b. cond b (settled_at f' j).hit (slice_index (rested_hits n form f) j)) (sym
        (stepped_same form f (rested_hits n form f) rested_agree j))
        ∙ ap (λ x. cond (is_stepped f j) x.hit (slice_index (rested_hits n form f) j)) (sym
        (bound_same form f (rested_hits n form f) rested_agree j bound))
        ∙ ap (λ x. cond (is_stepped f j) (settled_at f j).hit x) (rested_at j l ∙ rested_bound n j bound)
        ∙ rest_at j l
        ∙ rested_bound 1 j bound
        ∙ sym (rested_bound (n + 1) j bound)

    module _ (j : ℕ) (l : j < length f.conditions) (free : is_free form (c_at j) ≡ true) where
      abbrev s : Bool
      s = is_stepped f j

      abbrev r : Bool
      r = reset_by (prev_of f j)

      abbrev m : Bool
      m = met (prev_of f j) (slice_index_or f.truths j false)

      abbrev h : ℕ
      h = slice_index f.hits j

      abbrev h' : ℕ
      h' = slice_index (rested_hits n form f) j

      rested_free : (k : ℕ) → rested_hit k form f j ≡ cond (s && (not r && m)) (plus k h) h
      rested_free k = ap (λ b. cond (b && (s && (not r && m))) (plus k h) h) free

      more_free : next_hit f' j ≡ rested_hit (n + 1) form f j
      more_free =
          ap (λ b. cond b (settled_at f' j).hit h') (sym (stepped_same form f (rested_hits n form f) rested_agree j))
          ∙ ap (λ x. cond s (hits_after x (met (prev_of f' j) (slice_index_or f.truths j false))
          (c_at j).target h') h') (sym (reset_same form f (rested_hits n form f) rested_agree j))
          ∙ ap (λ x. cond s (hits_after r x (c_at j).target h') h') (sym
          (met_same form f (rested_hits n form f) rested_agree j))
          ∙ ap (λ x. cond s x h') (hits-untargeted r m (c_at j).target h' (no_target form (c_at j) free))
          ∙ ap (λ x. cond s (cond r 0 (cond m (plus 1 x) x)) x) (rested_at j l ∙ rested_free n)
          ∙ one_more s r m n h (ap (λ x. cond s x h)
          (sym (hits-untargeted r m (c_at j).target h (no_target form (c_at j) free))) ∙ rest_at j l
          ∙ rested_free 1)
          ∙ sym (rested_free (n + 1))

    more_at : (j : ℕ) → j < length f.conditions → next_hit f' j ≡ rested_hit (n + 1) form f j
    more_at j l = by_free (is_free form (c_at j)) refl
      where
        by_free : (b : Bool) → is_free form (c_at j) ≡ b → next_hit f' j ≡ rested_hit (n + 1) form f j
        by_free false bound = more_bound j l bound
        by_free true free = more_free j l free

    -- one frame more does what n and one frames do
    pub rest_goes_on : next_hits f' ≡ rested_hits (n + 1) form f
    rest_goes_on =
        fill_by_all (rested_hit (n + 1) form f) (next_hits f') (length f.conditions) 0 (length-map-range_with_len
        (next_hit f') 0 (length f.conditions))
        (λ j l. get_or-map-range_with_len (next_hit f') 0 (length f.conditions) j j 0 l (omega arith) ∙ more_at j l)
