-- The hits that a row leaves, beside those before it.
use Rattle.std.proofs.Common.{◌≡◌, ℕ, ◌-◌, Bool, true, false, not, ◌&&◌, ◌||◌, ◌==◌, if◌then◌else◌, List, [], ◌∷◌, ◌++◌}
use Rattle.std.proofs.Common.{length, get_or, take, drop, sum_by, inl, inr, refl, sym, subst, ◌∙◌, arith, length-append}
use Rattle.std.specs.Prelude.{nat_lt}
use Rattle.std.specs.List.{flat_map}
use Rattle.std.proofs.lemmas.Bool.{cases_lt}
use Rattle.std.proofs.lemmas.List.{take-append-drop, length-take-le, length-drop, get_or_append_left}
use Rattle.std.proofs.lemmas.List.{get_or-append_right}
use Rattle.std.proofs.lemmas.List.FromFn.{get_or-map-range_with_len}
use Rattle.std.proofs.lemmas.List.Sums.{sum_by-cons}
use Rattle.ra_condition.specs.declared.condition.Condition.{Condition}
use Rattle.ra_condition.specs.Chains.{in_pause_chain, places}
use Rattle.ra_condition.specs.Contents.{TriggerContents, condition_at, groups_of, trigger_hits}
use Rattle.ra_condition.specs.Flags.{hands_on, is_pause}
use Rattle.ra_group.specs.Equations.{Frame, frame_of, hits_after, met, prev_of, reset_by, settled_at}
use Rattle.ra_group.specs.Outcome.{next_hit, next_hits, some_valid}
use Rattle.ra_group.proofs.AlongLemmas.{length-next_hits}
use Rattle.ra_trigger.specs.Steps.{frames_along, together}
use Rattle.ra_explain.specs.HitChanges.{IsNext, AreNext, one_more}

-- the hits of a condition that passes
after_hits : (reset m : Bool) (target h : ℕ) → IsNext h (hits_after reset m target h)
after_hits true m target h = inr (inr refl)
after_hits false m target h = by_met (m && (target == 0 || nat_lt h target))
  where
    by_met : (counts : Bool) → IsNext h (if counts then one_more h else h)
    by_met true = inr (inl refl)
    by_met false = inl refl

-- the hits of a condition of a group
next_one : (f : Frame) (j : ℕ) → IsNext (get_or f.hits j 0) (next_hit f j)
next_one f j = by_passing (not (hands_on (condition_at f.conditions j).flag) &&
    (not (some_valid is_pause f (places f.conditions)) || in_pause_chain f.conditions j))
  where
    by_passing : (passes : Bool) → IsNext (get_or f.hits j 0)
        (if passes then (settled_at f j).hit else get_or f.hits j 0)
    by_passing true = after_hits (reset_by (prev_of f j)) (met (prev_of f j) (get_or f.truths j false))
        (condition_at f.conditions j).target (get_or f.hits j 0)
    by_passing false = inl refl

-- the hits of a group
next_group : (f : Frame) → length f.hits ≡ length f.conditions → AreNext f.hits (next_hits f)
next_group f long k within =
    subst (IsNext (get_or f.hits k 0))
    (sym (get_or-map-range_with_len (next_hit f) 0 (length f.conditions) k k 0 (omega (arith, long, within))
    (omega arith))) (next_one f k)

-- the hits of two parts
next_both : (first first' last last' : List ℕ) → length first' ≡ length first → AreNext first first'
    → AreNext last last' → AreNext (first ++ last) (first' ++ last')
next_both first first' last last' long is is_last k within = elim (cases_lt k (length first)) [
  | inl early ↦
      subst (λ b. IsNext b (get_or (first' ++ last') k 0)) (sym (get_or_append_left first last 0 k early))
      (subst (IsNext (get_or first k 0)) (sym (get_or_append_left first' last' 0 k (omega (arith, long, early))))
      (is k early))
  | inr late ↦
      subst (λ b. IsNext b (get_or (first' ++ last') k 0))
      (sym (get_or-append_right first last (length first) k 0 refl late))
      (subst (IsNext (get_or last (k - length first) 0))
      (sym (get_or-append_right first' last' (length first) k 0 long late))
      (is_last (k - length first) (omega (arith, length-append first last, within, late))))
]

-- the hits of groups side by side
next_along : (gs : List (List Condition)) (truths : List Bool) (lefts hits : List ℕ) → length hits ≡ sum_by length gs
    → AreNext hits (flat_map next_hits (frames_along gs truths lefts hits))
next_along [] truths lefts [] long = λ k within. absurd (omega (arith, within))
next_along [] truths lefts (h ∷ hits) long = absurd (omega (arith, long))
next_along (cs ∷ gs) truths lefts hits long =
    let f : Frame = frame_of cs (take (length cs) truths) (take (length cs) lefts) (take (length cs) hits) in
    let many = sum_by-cons length cs gs in
    let own : length (take (length cs) hits) ≡ length cs = length-take-le (length cs) hits
    (omega (arith, long, many)) in
    let rest : length (drop (length cs) hits) ≡ sum_by length gs = omega
    (arith, length-drop (length cs) hits, long, many) in
    subst (λ hs. AreNext hs (next_hits f
    ++ flat_map next_hits (frames_along gs (drop (length cs) truths) (drop (length cs) lefts)
    (drop (length cs) hits)))) (take-append-drop (length cs) hits)
    (next_both (take (length cs) hits) (next_hits f) (drop (length cs) hits)
    (flat_map next_hits (frames_along gs (drop (length cs) truths) (drop (length cs) lefts)
    (drop (length cs) hits)))
    (length-next_hits f ∙ sym own) (next_group f own)
    (next_along gs (drop (length cs) truths) (drop (length cs) lefts) (drop (length cs) hits) rest))

-- the hits of a trigger
pub next_together : (t : TriggerContents) (row : List Bool) (hits : List ℕ) → length hits ≡ trigger_hits t
    → AreNext hits (together t row [] hits).hits
next_together t row hits long = next_along (groups_of t) row [] hits long
