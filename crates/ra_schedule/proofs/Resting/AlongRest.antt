-- Groups side by side at rest.
use Rattle.std.proofs.Common.{◌≡◌, ℕ, ◌+◌, Bool, List, [], ◌∷◌, ◌++◌, length, take, drop, map, refl, sym, ap, ◌∙◌}
use Rattle.std.proofs.Common.{sum_by, length-append, arith}
use Rattle.std.specs.List.{flat_map}
use Rattle.std.proofs.lemmas.List.Sums.{sum_by-cons}
use Rattle.std.proofs.Math.Seq.{take-append_seam, drop-append_seam}
use Rattle.std.proofs.lemmas.List.FromFn.{length-map-range_with_len}
use Rattle.ra_condition.specs.declared.condition.Condition.{Condition}
use Rattle.ra_group.specs.declared.form.Form.{Form}
use Rattle.ra_group.specs.Equations.{Frame, frame_of}
use Rattle.ra_group.specs.Outcome.{outcome_of, next_hit, next_hits}
use Rattle.ra_trigger.specs.Steps.{frames_along}
use Rattle.ra_schedule.specs.Groups.{rested_hit, rested_hits, with_hits}
use Rattle.ra_schedule.proofs.Resting.GroupLemmas.{outcome_same}
use Rattle.ra_schedule.proofs.Resting.GroupRest.{rested_agree, rest_goes_on}

pub length-rested : (n : ℕ) (form : Form) (f : Frame) → length (rested_hits n form f) ≡ length f.conditions
length-rested n form f = length-map-range_with_len (rested_hit n form f) 0 (length f.conditions)

pub length-next : (f : Frame) → length (next_hits f) ≡ length f.conditions
length-next f = length-map-range_with_len (next_hit f) 0 (length f.conditions)

pub take_part : (n : ℕ) (xs ys : List ℕ) → length xs ≡ n → take n (xs ++ ys) ≡ xs
take_part n xs ys e = ap (λ n. take n (xs ++ ys)) (sym e) ∙ take-append_seam xs ys

pub drop_part : (n : ℕ) (xs ys : List ℕ) → length xs ≡ n → drop n (xs ++ ys) ≡ ys
drop_part n xs ys e = ap (λ n. drop n (xs ++ ys)) (sym e) ∙ drop-append_seam xs ys

abbrev pub first : List Condition → List Bool → (lefts hits : List ℕ) → Frame
first cs truths lefts hits = frame_of cs (take (length cs) truths) (take (length cs) lefts) (take (length cs) hits)

-- a hit for each condition of groups side by side
pub length-by : (g : Frame → List ℕ) → ((f : Frame) → length (g f) ≡ length f.conditions)
    → (gs : List (List Condition)) (truths : List Bool) (lefts hits : List ℕ)
    → length (flat_map g (frames_along gs truths lefts hits)) ≡ sum_by length gs
length-by g sized [] truths lefts hits = refl
length-by g sized (cs ∷ gs) truths lefts hits =
    let n = length cs in
    omega (
      arith,
      length-append (g (first cs truths lefts hits)) (flat_map g
          (frames_along gs (drop n truths) (drop n lefts) (drop n hits))),
      sized (first cs truths lefts hits),
      length-by g sized gs (drop n truths) (drop n lefts) (drop n hits),
      sum_by-cons length cs gs,
    )

pub length-along : (gs : List (List Condition)) (truths : List Bool) (lefts hits : List ℕ)
    → length (flat_map next_hits (frames_along gs truths lefts hits)) ≡ sum_by length gs
length-along = length-by next_hits length-next

pub length-rested_along : (form : Form) (n : ℕ) (gs : List (List Condition)) (truths : List Bool)
    (lefts hits : List ℕ)
    → length (flat_map (rested_hits n form) (frames_along gs truths lefts hits)) ≡ sum_by length gs
length-rested_along form n = length-by (rested_hits n form) (length-rested n form)

module _ (form : Form) (n : ℕ) where
  abbrev rested : Frame → Frame
  rested f = with_hits f (rested_hits n form f)

  -- the frames with the hits of n more are those of each group
  pub frames-rested : (gs : List (List Condition)) (truths : List Bool) (lefts hits : List ℕ)
      → frames_along gs truths lefts (flat_map (rested_hits n form) (frames_along gs truths lefts hits))
      ≡ map rested (frames_along gs truths lefts hits)
  frames-rested [] truths lefts hits = refl
  frames-rested (cs ∷ gs) truths lefts hits =
      let here = rested_hits n form (first cs truths lefts hits) in
      let others = frames_along gs (drop (length cs) truths) (drop (length cs) lefts) (drop (length cs) hits) in
      let behind = flat_map (rested_hits n form) others in
      let long = length-rested n form (first cs truths lefts hits) in
      ap (λ hs. frame_of cs (take (length cs) truths) (take (length cs) lefts) hs ∷ frames_along gs
      (drop (length cs) truths) (drop (length cs) lefts) (drop (length cs) (here ++ behind))) (take_part
      (length cs) here behind long)
      ∙ ap (λ hs. rested (first cs truths lefts hits) ∷ frames_along gs (drop (length cs) truths)
      (drop (length cs) lefts) hs) (drop_part (length cs) here behind long)
      ∙ ap (λ fs. rested (first cs truths lefts hits) ∷ fs) (frames-rested gs (drop (length cs) truths)
      (drop (length cs) lefts) (drop (length cs) hits))

  -- and what the groups say is the same
  pub outcomes-rested : (fs : List Frame) → map (outcome_of form) (map rested fs) ≡ map (outcome_of form) fs
  outcomes-rested [] = refl
  outcomes-rested (f ∷ fs) =
      ap (λ o. o ∷ map (outcome_of form) (map rested fs)) (sym
      (outcome_same form f (rested_hits n form f) (rested_agree form f n)))
      ∙ ap (λ os. outcome_of form f ∷ os) (outcomes-rested fs)

  -- where all groups rest, one frame more does what n and one frames do
  pub hits-rested : (fs : List Frame) → flat_map next_hits fs ≡ flat_map (rested_hits 1 form) fs
      → flat_map next_hits (map rested fs) ≡ flat_map (rested_hits (n + 1) form) fs
  hits-rested [] rest = refl
  hits-rested (f ∷ fs) rest =
      let here = sym (take_part (length f.conditions) (next_hits f) (flat_map next_hits fs) (length-next f))
      ∙ ap (take (length f.conditions)) rest
      ∙ take_part (length f.conditions) (rested_hits 1 form f) (flat_map (rested_hits 1 form) fs)
      (length-rested 1 form f) in
      let others = sym (drop_part (length f.conditions) (next_hits f) (flat_map next_hits fs) (length-next f))
      ∙ ap (drop (length f.conditions)) rest
      ∙ drop_part (length f.conditions) (rested_hits 1 form f) (flat_map (rested_hits 1 form) fs)
      (length-rested 1 form f) in
      ap (λ hs. hs ++ flat_map next_hits (map rested fs)) (rest_goes_on form f n here)
      ∙ ap (λ hs. rested_hits (n + 1) form f ++ hs) (hits-rested fs others)
