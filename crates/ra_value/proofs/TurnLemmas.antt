-- One turn of the loop over the parts, by what its calls ensure.
use Rattle.std.proofs.Common.{◌≡◌, ℕ, ◌+◌, ◌<◌, Bool, ◌||◌, unwrap_or, List, [], ◌∷◌, ◌++◌, length, set, slice_index}
use Rattle.std.proofs.Common.{sym, ap, ◌∙◌, subst, arith}
use Rattle.ra_condition.specs.declared.condition.Condition.{Condition}
use Rattle.ra_condition.specs.declared.part.Term.{Term}
use Rattle.ra_condition.specs.Contents.{PartContents, Legacy, Grouped}
use Rattle.ra_group.specs.declared.form.Form.TheVariants.{InValue}
use Rattle.ra_group.specs.Outcome.{outcome_of, next_hits}
use Rattle.ra_group.specs.Along.{frame_at, with_part}
use Rattle.ra_value.proofs.PartsLemmas.{HasStepped, stepped_terms, stepped_group}

module _ (truths : List Bool) (lefts hits sums numbers : List ℕ) where
  stepped_same : {parts parts' : List PartContents} {start start' : ℕ} {resets resets' : Bool}
      {now now' kept kept' : List ℕ} → parts ≡ parts' → start ≡ start' → resets ≡ resets' → now
      ≡ now' → kept ≡ kept' → HasStepped truths lefts hits sums numbers parts start resets now kept
      → HasStepped truths lefts hits sums numbers parts' start' resets' now' kept'
  stepped_same {parts} {parts'} {start} {start'} {resets} {resets'} {now} {now'} {kept} {kept'} a b c d e so =
      subst (λ (x : List PartContents). HasStepped truths lefts hits sums numbers x start' resets' now' kept') a
      (subst (λ (x : ℕ). HasStepped truths lefts hits sums numbers parts x resets' now' kept') b
      (subst (λ (x : Bool). HasStepped truths lefts hits sums numbers parts start x now' kept') c
      (subst (λ (x : List ℕ). HasStepped truths lefts hits sums numbers parts start resets x kept') d
      (subst (λ (x : List ℕ). HasStepped truths lefts hits sums numbers parts start resets now x) e so))))

  module _ (parts parts' : List PartContents) (part : PartContents) (k : ℕ) (start start' : ℕ)
      (resets resets' : Bool) (now now' kept kept' : List ℕ) (before : length parts ≡ k)
      (within : k < length numbers) (more : parts' ≡ parts ++ part ∷ [])
      (so : HasStepped truths lefts hits sums numbers parts start resets now kept) where
    room : length parts < length numbers
    room = omega arith

    pub turn_terms : (terms : List Term) → part ≡ Legacy terms → start' ≡ start → resets' ≡ resets
        → now' ≡ now → kept' ≡ set kept k (slice_index sums k)
        → HasStepped truths lefts hits sums numbers parts' start' resets' now' kept'
    turn_terms terms is is_start is_reset is_now is_kept =
        stepped_same (sym (more ∙ ap (λ p. parts ++ p ∷ []) is)) (sym is_start) (sym is_reset)
        (sym is_now) (sym (is_kept ∙ ap (λ n. set kept n (slice_index sums n)) (sym before)))
        (stepped_terms truths lefts hits sums numbers terms parts start resets now kept room so)

    pub turn_group : (cs : List Condition) → part ≡ Grouped cs → start' ≡ start + length cs
        → resets' ≡ (resets || (outcome_of InValue (frame_at cs truths lefts now start)).reset)
        → now' ≡ with_part now start (next_hits (frame_at cs truths lefts now start)) → kept'
        ≡ set kept k (unwrap_or (outcome_of InValue (frame_at cs truths lefts now start)).measured
        (slice_index kept k))
        → HasStepped truths lefts hits sums numbers parts' start' resets' now' kept'
    turn_group cs is is_start is_reset is_now is_kept =
        subst (λ (x : List PartContents). HasStepped truths lefts hits sums numbers x start' resets'
        now' kept') (sym (more ∙ ap (λ p. parts ++ p ∷ []) is))
        (stepped_group truths lefts hits sums numbers cs parts start start' resets resets' now now'
        kept kept' room so is_start is_reset is_now
        (is_kept ∙ ap (λ n. set kept n (unwrap_or (outcome_of InValue
        (frame_at cs truths lefts now start)).measured (slice_index kept n))) (sym before)))
