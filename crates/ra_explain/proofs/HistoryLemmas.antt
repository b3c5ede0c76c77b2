-- The rows of a history, and what they tell of it.
use Rattle.std.proofs.Common.{◌≡◌, ℕ, zero, suc, ◌+◌, ◌-◌, ◌*◌, ◌<◌, ◌≤◌, Bool, cond, List, [], ◌∷◌, ◌++◌, length, map}
use Rattle.std.proofs.Common.{sum_by, take, drop, reverse, refl, sym, ap, ap₂, subst, ◌∙◌, inl, inr, arith}
use Rattle.std.proofs.Common.{length-append}
use Rattle.std.specs.List.{flat_map}
use Rattle.std.proofs.lemmas.Bool.{cases_lt}
use Rattle.std.proofs.lemmas.Grind.{flat_map-append}
use Rattle.std.proofs.lemmas.List.{append-nil, length-map, length-drop, take_all, take-append-le, drop-append-le}
use Rattle.std.proofs.lemmas.List.{reverse-append}
use Rattle.std.proofs.lemmas.List.Concat.{length-flat_map}
use Rattle.std.proofs.Math.Seq.{drop-append_seam}
use Rattle.std.proofs.lemmas.List.FromFn.{length-range_with_len}
use Rattle.ra_condition.specs.declared.condition.Condition.{Condition}
use Rattle.ra_condition.specs.Chains.{places}
use Rattle.ra_condition.specs.Contents.{TriggerContents, groups_of, trigger_hits}
use Rattle.ra_memory.specs.Image.{History}
use Rattle.ra_trigger.specs.States.{is_waiting, is_triggered}
use Rattle.ra_trigger.specs.Steps.{TriggerKept, step}
use Rattle.ra_member.specs.Frames.{truth_at, lefts_at}
use Rattle.ra_explain.specs.Explains.{row_at, clears_at}
use Rattle.ra_explain.specs.Recorders.{plain_start, kept_after, row_of, rows_behind}
use Rattle.ra_explain.specs.Beginnings.{CountAlike, replayed, clears_row, begins_by}
use Rattle.ra_explain.specs.Unlocks.{rows_along, clears_last, after_clear, waits_before}
use Rattle.ra_explain.proofs.AlikeLemmas.{alike_same, alike_on, clears_alike, step_alike}

-- there is room for a row more
row_fits : (width k n : ℕ) → k < n → k * width + width ≤ n * width
row_fits width k n below =
    let is : n ≡ k + 1 + (n - (k + 1)) = omega (arith, below) in
    subst (λ m. k * width + width ≤ m * width) (sym is) (let far : (k + 1 + (n - (k + 1))) * width
    ≡ k * width + width + (n - (k + 1)) * width = omega arith in omega (arith, far))

module _ (t : TriggerContents) where
  length_row : (history : History) → length (row_of t history) ≡ trigger_hits t
  length_row history =
      length-flat_map (λ cs. map (truth_at plain_start history cs) (places cs)) (groups_of t)
      ∙ (λ i. sum_by (λ cs. along cs i) (groups_of t))
    where
      along : (cs : List Condition) → length (map (truth_at plain_start history cs) (places cs)) ≡ length cs
      along cs = length-map (places cs) (truth_at plain_start history cs) ∙ length-range_with_len 0 (length cs)

  pub length_behind : (history : History) → length (rows_behind t history) ≡ length history
  length_behind [] = refl
  length_behind (image ∷ earlier) = ap suc (length_behind earlier)

  rows_more : (image : List ℕ) (earlier : History) → rows_along t (image ∷ earlier)
      ≡ rows_along t earlier ++ row_of t (image ∷ earlier)
  rows_more image earlier =
      let row = row_of t (image ∷ earlier) in
      ap (flat_map (λ r. r)) (reverse-append (row ∷ []) (rows_behind t earlier))
      ∙ flat_map-append (λ r. r) (reverse (rows_behind t earlier)) (row ∷ [])
      ∙ ap (λ r. rows_along t earlier ++ r) (append-nil row)

  pub length_along : (history : History) → length (rows_along t history) ≡ length history * trigger_hits t
  length_along [] = let none : 0 ≡ 0 * trigger_hits t = omega arith in none
  length_along (image ∷ earlier) =
      let far : suc (length earlier) * trigger_hits t
      ≡ length earlier * trigger_hits t + trigger_hits t = omega arith in
      ap length (rows_more image earlier) ∙ length-append (rows_along t earlier) (row_of t (image ∷ earlier))
      ∙ ap₂ (λ a b. a + b) (length_along earlier) (length_row (image ∷ earlier)) ∙ sym far

  module _ (image : List ℕ) (earlier : History) where
    abbrev all : List Bool
    all = rows_along t (image ∷ earlier)

    abbrev front : List Bool
    front = rows_along t earlier

    -- the rows of the earlier frames stay
    row_before : (k : ℕ) → k < length earlier → row_at t all k ≡ row_at t front k
    row_before k below =
        let width = trigger_hits t in
        let row = row_of t (image ∷ earlier) in
        let fits = row_fits width k (length earlier) below in
        let long = length_along earlier in
        ap (λ rows. row_at t rows k) (rows_more image earlier)
        ∙ ap (take width) (drop-append-le (k * width) front row (omega (arith, fits, long)))
        ∙ take-append-le width (drop (k * width) front) row (omega (arith, fits, long, length-drop (k * width) front))

    -- and the last one is that of the frame
    row_last : row_at t all (length earlier) ≡ row_of t (image ∷ earlier)
    row_last =
        let width = trigger_hits t in
        let row = row_of t (image ∷ earlier) in
        ap (λ rows. row_at t rows (length earlier)) (rows_more image earlier)
        ∙ ap (λ n. take width (drop n (front ++ row))) (sym (length_along earlier))
        ∙ ap (take width) (drop-append_seam front row)
        ∙ take_all width row (let long = length_row (image ∷ earlier) in omega (arith, long))

    replayed_before : (k : ℕ) → k ≤ length earlier → replayed t all k ≡ replayed t front k
    replayed_before zero within = refl
    replayed_before (suc k) within = ap₂ (λ r kept. step t r [] kept)
        (row_before k (omega (arith, within))) (replayed_before k (omega (arith, within)))

    clears_before : (k : ℕ) → k < length earlier → clears_row t all k ≡ clears_row t front k
    clears_before k below = ap₂ (λ r kept. clears_at t r [] kept) (row_before k below)
        (replayed_before k (omega (arith, below)))

    begins_before : (k : ℕ) → k ≤ length earlier → begins_by t all k ≡ begins_by t front k
    begins_before zero within = refl
    begins_before (suc k) within = ap₂ (λ b n. cond b (suc k) n)
        (clears_before k (omega (arith, within))) (begins_before k (omega (arith, within)))

  -- the rows of a history tell the state and the hits after it
  replay_whole : (history : History)
      → CountAlike (replayed t (rows_along t history) (length history)) (kept_after t history)
  replay_whole [] = record { state = refl; hits = refl }
  replay_whole (image ∷ earlier) =
      let all = rows_along t (image ∷ earlier) in
      let front = rows_along t earlier in
      let row = row_of t (image ∷ earlier) in
      let lefts = lefts_at plain_start (image ∷ earlier) (groups_of t) in
      alike_on (replayed t all (suc (length earlier)))
      (step t row [] (replayed t front (length earlier))) (kept_after t (image ∷ earlier))
      (alike_same (replayed t all (suc (length earlier)))
      (step t row [] (replayed t front (length earlier))) (ap₂ (λ r kept. step t r [] kept)
      (row_last image earlier) (replayed_before image earlier (length earlier) (omega arith))))
      (step_alike t row [] lefts (replayed t front (length earlier)) (kept_after t earlier) (replay_whole earlier))

  -- and after each front of it
  replay_is : (history : History) (k : ℕ) → k ≤ length history → CountAlike
      (replayed t (rows_along t history) k) (kept_after t (drop (length history - k) history))
  replay_is [] zero within = record { state = refl; hits = refl }
  replay_is [] (suc k) within = absurd (omega (arith, within))
  replay_is (image ∷ earlier) k within = elim (cases_lt (length earlier) k) [
    | inl past ↦
        let whole : k ≡ length (image ∷ earlier) = omega (arith, within, past) in
        let none : 0 ≡ length (image ∷ earlier) - k = omega (arith, whole) in
        let all = rows_along t (image ∷ earlier) in
        subst (λ n. CountAlike (replayed t all k) (kept_after t (drop n (image ∷ earlier)))) none
        (subst (λ n. CountAlike (replayed t all n) (kept_after t (image ∷ earlier))) (sym whole)
        (replay_whole (image ∷ earlier)))
    | inr below ↦
        let few : k ≤ length earlier = omega (arith, below) in
        let one : suc (length earlier - k) ≡ length (image ∷ earlier) - k = omega (arith, few) in
        let all = rows_along t (image ∷ earlier) in
        let front = rows_along t earlier in
        subst (λ n. CountAlike (replayed t all k) (kept_after t (drop n (image ∷ earlier)))) one
        (subst (λ kept. CountAlike kept (kept_after t (drop (length earlier - k) earlier)))
        (sym (replayed_before image earlier k few)) (replay_is earlier k few))
  ]

  clears_is : (image : List ℕ) (earlier : History)
      → clears_row t (rows_along t (image ∷ earlier)) (length earlier) ≡ clears_last t image earlier
  clears_is image earlier =
      ap₂ (λ r kept. clears_at t r [] kept) (row_last image earlier)
      (replayed_before image earlier (length earlier) (omega arith))
      ∙ clears_alike t (row_of t (image ∷ earlier)) []
      (lefts_at plain_start (image ∷ earlier) (groups_of t)) (replayed t (rows_along t earlier)
      (length earlier)) (kept_after t earlier) (replay_whole earlier)

  begins_is : (history : History) → begins_by t (rows_along t history) (length history) ≡ after_clear t history
  begins_is [] = refl
  begins_is (image ∷ earlier) =
      ap₂ (λ b n. cond b (suc (length earlier)) n) (clears_is image earlier)
      (begins_before image earlier (length earlier) (omega arith) ∙ begins_is earlier)

  module _ (image : List ℕ) (earlier : History) where
    -- the rows of a history with a frame more tell of it
    pub begins_along : begins_by t (rows_along t (image ∷ earlier)) (length earlier) ≡ after_clear t earlier
    begins_along = begins_before image earlier (length earlier) (omega arith) ∙ begins_is earlier

    pub waits_along : (row : ℕ) → row ≤ length earlier → is_waiting
        (replayed t (rows_along t (image ∷ earlier)) row).state ≡ waits_before t earlier row
    waits_along row within =
        ap (λ (k : TriggerKept). is_waiting k.state) (replayed_before image earlier row within)
        ∙ ap is_waiting (replay_is earlier row within).state

    pub triggered_before : is_triggered (replayed t (rows_along t (image ∷ earlier))
        (length earlier)).state ≡ is_triggered (kept_after t earlier).state
    triggered_before =
        ap (λ (k : TriggerKept). is_triggered k.state) (replayed_before image earlier
        (length earlier) (omega arith)) ∙ ap is_triggered (replay_whole earlier).state

    pub triggered_after : is_triggered (replayed t (rows_along t (image ∷ earlier))
        (suc (length earlier))).state ≡ is_triggered (kept_after t (image ∷ earlier)).state
    triggered_after = ap is_triggered (replay_whole (image ∷ earlier)).state
