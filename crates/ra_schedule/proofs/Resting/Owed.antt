-- What is owed after n frames at rest, by the hits before and after one.
use Rattle.std.proofs.Common.{◌≡◌, ℕ, ◌+◌, ◌-◌, ◌<◌, ◌≤◌, Bool, true, false, ◌==◌, cond, List, [], ◌∷◌, ◌++◌, length}
use Rattle.std.proofs.Common.{drop, map, get_or, slice_index, sum_by, refl, sym, ap, ◌∙◌, inl, inr, arith, length-drop}
use Rattle.std.specs.List.{flat_map}
use Rattle.std.proofs.lemmas.Bool.{cases_lt, eqb-true, eq-eqb}
use Rattle.std.proofs.lemmas.List.{get_or-take, get_or-drop, get_or_append_left, get_or-append-add}
use Rattle.std.proofs.lemmas.List.FromFn.{fill_by_all, get_or-map-range_with_len, length-map-range_with_len}
use Rattle.std.proofs.lemmas.List.Sums.{sum_by-cons}
use Rattle.ra_condition.specs.declared.condition.Condition.{Condition}
use Rattle.ra_group.specs.declared.form.Form.{Form}
use Rattle.ra_group.specs.Equations.{Frame}
use Rattle.ra_trigger.specs.Steps.{frames_along}
use Rattle.ra_schedule.specs.Groups.{is_counting, plus, rested_hit, rested_hits, with_hits, paid}
use Rattle.ra_schedule.proofs.Resting.GroupLemmas.{counting_same}
use Rattle.ra_schedule.proofs.Resting.GroupRest.{rested_agree}
use Rattle.ra_schedule.proofs.Resting.AlongRest.{first, length-rested, length-rested_along, frames-rested}

-- the number after n frames more at rest, from those before and after one
abbrev pub owed : ℕ → (before after : ℕ) → ℕ
owed n before after = cond (after == before) after (plus n after)

-- a condition that counts owes n hits, and one that is at the greatest number already owes none
counted_owes : (n h : ℕ) → h ≤ 4294967295 → plus n (plus 1 h) ≡ owed n h (plus 1 h)
counted_owes n h most = by_test (plus 1 h == h) refl
  where
    by_test : (b : Bool) → (plus 1 h == h) ≡ b
        → plus n (plus 1 h) ≡ cond (plus 1 h == h) (plus 1 h) (plus n (plus 1 h))
    by_test false e = sym (ap (λ b. cond b (plus 1 h) (plus n (plus 1 h))) e)
    by_test true e = full (eqb-true (plus 1 h) h e) ∙ sym (ap (λ b. cond b (plus 1 h) (plus n (plus 1 h))) e)
      where
        full : plus 1 h ≡ h → plus n (plus 1 h) ≡ plus 1 h
        full same = omega (arith, most, same)

same_owes : (n h : ℕ) → h ≡ owed n h h
same_owes n h = sym (ap (λ b. cond b h (plus n h)) (eq-eqb h h refl))

module _ (form : Form) (n : ℕ) (f : Frame) where
  abbrev after : Frame
  after = with_hits f (rested_hits 1 form f)

  rested_place : (j : ℕ) → j < length f.conditions → slice_index (rested_hits 1 form f) j ≡ rested_hit 1 form f j
  rested_place j l = get_or-map-range_with_len (rested_hit 1 form f) 0 (length f.conditions) j j 0 l (omega arith)

  -- the hits of a condition of a group that rested for a frame, after n frames more
  owed_at : (j : ℕ) → j < length f.conditions → slice_index f.hits j ≤ 4294967295
      → slice_index (rested_hits n form after) j ≡ owed n (slice_index f.hits j) (slice_index (rested_hits 1 form f) j)
  owed_at j l most =
      get_or-map-range_with_len (rested_hit n form after) 0 (length f.conditions) j j 0 l (omega arith)
      ∙ ap (λ b. cond b (plus n (slice_index (rested_hits 1 form f) j)) (slice_index (rested_hits 1 form f) j))
      (sym (counting_same form f (rested_hits 1 form f) (rested_agree form f 1) j))
      ∙ ap (λ x. cond (is_counting form f j) (plus n x) x) (rested_place j l)
      ∙ by_test (is_counting form f j) refl
      ∙ ap (owed n (slice_index f.hits j)) (sym (rested_place j l))
    where
      by_test : (b : Bool) → is_counting form f j ≡ b
          → cond (is_counting form f j) (plus n (rested_hit 1 form f j)) (rested_hit 1 form f j)
          ≡ owed n (slice_index f.hits j) (rested_hit 1 form f j)
      by_test true e =
          ap (λ b. cond b (plus n (cond b (plus 1 (slice_index f.hits j)) (slice_index f.hits j)))
          (cond b (plus 1 (slice_index f.hits j)) (slice_index f.hits j))) e
          ∙ counted_owes n (slice_index f.hits j) most
          ∙ sym (ap (λ b. owed n (slice_index f.hits j)
          (cond b (plus 1 (slice_index f.hits j)) (slice_index f.hits j))) e)
      by_test false e =
          ap (λ b. cond b (plus n (cond b (plus 1 (slice_index f.hits j)) (slice_index f.hits j)))
          (cond b (plus 1 (slice_index f.hits j)) (slice_index f.hits j))) e
          ∙ same_owes n (slice_index f.hits j)
          ∙ sym (ap (λ b. owed n (slice_index f.hits j)
          (cond b (plus 1 (slice_index f.hits j)) (slice_index f.hits j))) e)

module _ (form : Form) (n : ℕ) where
  abbrev once : (gs : List (List Condition)) → List Bool → (lefts hits : List ℕ) → List ℕ
  once gs truths lefts hits = flat_map (rested_hits 1 form) (frames_along gs truths lefts hits)

  abbrev later : (gs : List (List Condition)) → List Bool → (lefts hits : List ℕ) → List ℕ
  later gs truths lefts hits = flat_map (rested_hits n form) (map (λ f. with_hits f (rested_hits 1 form f))
      (frames_along gs truths lefts hits))

  -- the same of groups side by side
  owed_along : (gs : List (List Condition)) (truths : List Bool) (lefts hits : List ℕ)
      → length hits ≡ sum_by length gs
      → ((j : ℕ) → get_or hits j 0 ≤ 4294967295) → (j : ℕ) → j < sum_by length gs
      → get_or (later gs truths lefts hits) j 0 ≡ owed n (get_or hits j 0) (get_or (once gs truths lefts hits) j 0)
  owed_along [] truths lefts hits long most j l = absurd (omega (arith, l))
  owed_along (cs ∷ gs) truths lefts hits long most j l =
      elim (cases_lt j (length cs)) [
        | inl in_first ↦
            get_or_append_left front_later (later gs (drop (length cs) truths) (drop (length cs) lefts)
            (drop (length cs) hits)) 0 j (omega (
              arith,
              in_first,
              length-rested n form
                  (with_hits f (rested_hits 1 form f)),
            ))
            ∙ owed_at form n f j in_first (omega (arith, most j, get_or-take (length cs) hits j 0 in_first))
            ∙ ap (λ h. owed n h (get_or front_once j 0)) (get_or-take (length cs) hits j 0 in_first)
            ∙ ap (owed n (get_or hits j 0)) (sym
            (get_or_append_left front_once
            (once gs (drop (length cs) truths) (drop (length cs) lefts) (drop (length cs) hits)) 0 j (omega
            (arith, in_first, length-rested 1 form f))))
        | inr behind ↦
            ap (λ i. get_or (front_later ++ later gs (drop (length cs) truths) (drop (length cs) lefts)
            (drop (length cs) hits)) i 0)
            (omega (arith, behind, length-rested n form (with_hits f (rested_hits 1 form f))))
            ∙ get_or-append-add front_later (later gs (drop (length cs) truths) (drop (length cs) lefts)
            (drop (length cs) hits)) (j - length cs) 0
            ∙ owed_along gs (drop (length cs) truths) (drop (length cs) lefts) (drop (length cs) hits)
            (omega (arith, long, sum_by-cons length cs gs, length-drop (length cs) hits))
            (λ i. omega (arith, most (length cs + i), get_or-drop (length cs) hits i 0)) (j - length cs)
            (omega (arith, l, behind, sum_by-cons length cs gs))
            ∙ ap (λ h. owed n h (get_or
            (once gs (drop (length cs) truths) (drop (length cs) lefts) (drop (length cs) hits)) (j - length cs) 0))
            (get_or-drop (length cs) hits (j - length cs) 0 ∙ ap (λ i. get_or hits i 0) (omega (arith, behind)))
            ∙ ap (owed n (get_or hits j 0)) (sym (
            ap (λ i. get_or (front_once ++ once gs (drop (length cs) truths) (drop (length cs) lefts)
            (drop (length cs) hits)) i 0)
            (omega (arith, behind, length-rested 1 form f))
            ∙ get_or-append-add front_once (once gs (drop (length cs) truths) (drop (length cs) lefts)
            (drop (length cs) hits)) (j - length cs) 0))
      ]
    where
      f : Frame
      f = first cs truths lefts hits

      front_once : List ℕ
      front_once = rested_hits 1 form f

      front_later : List ℕ
      front_later = rested_hits n form (with_hits f (rested_hits 1 form f))

  -- and as one list
  pub owed_groups : (gs : List (List Condition)) (truths : List Bool) (lefts hits : List ℕ)
      → length hits ≡ sum_by length gs
      → ((j : ℕ) → slice_index hits j ≤ 4294967295)
      → flat_map (rested_hits n form) (frames_along gs truths lefts (once gs truths lefts hits))
      ≡ paid n hits (once gs truths lefts hits)
  owed_groups gs truths lefts hits long most =
      fill_by_all (λ j. owed n (slice_index hits j) (slice_index (once gs truths lefts hits) j))
      (flat_map (rested_hits n form) (frames_along gs truths lefts (once gs truths lefts hits))) (length
      (once gs truths lefts hits)) 0
      (length-rested_along form n gs truths lefts (once gs truths lefts hits) ∙ sym size)
      (λ j l.
      ap (λ fs. get_or (flat_map (rested_hits n form) fs) j 0) (frames-rested form 1 gs truths lefts hits)
      ∙ owed_along gs truths lefts hits long most j (omega (arith, l, size)))
    where
      size : length (once gs truths lefts hits) ≡ sum_by length gs
      size = length-rested_along form 1 gs truths lefts hits

-- where no hits are others, none are owed
pub owed_none : (n : ℕ) (hits : List ℕ) → paid n hits hits ≡ hits
owed_none n hits =
    sym (fill_by_all (λ j. owed n (slice_index hits j) (slice_index hits j)) hits (length hits) 0 refl
    (λ j l. same_owes n (slice_index hits j)))

-- there are as many hits as before
pub length-paid : (n : ℕ) (before hits : List ℕ) → length (paid n before hits) ≡ length hits
length-paid n before hits =
    length-map-range_with_len (λ j. owed n (slice_index before j) (slice_index hits j)) 0 (length hits)

-- each hit by that before it
pub paid_at : (n : ℕ) (before hits : List ℕ) (j : ℕ) → j < length hits
    → slice_index (paid n before hits) j ≡ owed n (slice_index before j) (slice_index hits j)
paid_at n before hits j l =
    get_or-map-range_with_len (λ k. owed n (slice_index before k) (slice_index hits k)) 0 (length hits) j j 0 l (omega
    arith)

-- after no frames nothing is owed
pub paid_nothing : (before hits : List ℕ) → ((j : ℕ) → slice_index hits j ≤ 4294967295) → paid 0 before hits ≡ hits
paid_nothing before hits most =
    sym (fill_by_all (λ j. owed 0 (slice_index before j) (slice_index hits j)) hits (length hits) 0 refl
    (λ j l. by_test (slice_index hits j == slice_index before j) (slice_index hits j) (most j)))
  where
    by_test : (b : Bool) (h : ℕ) → h ≤ 4294967295 → h ≡ cond b h (plus 0 h)
    by_test true h most = refl
    by_test false h most = omega (arith, most)
