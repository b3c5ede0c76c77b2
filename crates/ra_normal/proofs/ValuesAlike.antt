-- A value and its normal value have the same numbers after each frame.
use Rattle.std.proofs.Common.{◌≡◌, ◌∙◌, ℕ, Bool, true, false, ◌&&◌, ◌||◌, if◌then◌else◌, List, [], ◌∷◌, ◌++◌, length}
use Rattle.std.proofs.Common.{map, take, drop, replicate, slice_index, refl, sym, ap, ap₂, subst, length-append}
use Rattle.std.specs.List.{AllByRecursion, list_any, flat_map}
use Rattle.std.proofs.Math.Seq.{take-append_seam}
use Rattle.std.proofs.lemmas.List.{length-map, length-replicate, replicate-append-replicate}
use Rattle.std.proofs.lemmas.List.Sums.{sum_by-cons}
use Rattle.std.proofs.lemmas.List.FromFn.{length-map-range_with_len}
use Rattle.ra_condition.specs.declared.condition.Condition.{Condition}
use Rattle.ra_condition.specs.Chains.{places}
use Rattle.ra_condition.specs.Contents.{PartContents, Legacy, Grouped, counted_in, value_hits}
use Rattle.ra_condition.specs.Spelled.{IsPart}
use Rattle.ra_group.specs.Equations.{frame_of}
use Rattle.ra_group.proofs.AlongLemmas.{length-next_hits}
use Rattle.ra_lint.proofs.TriggerLemmas.{drop-append_seam}
use Rattle.ra_memory.specs.Image.{History}
use Rattle.ra_memref.specs.Values.{Start}
use Rattle.ra_member.specs.Frames.{left_at, truth_at, lefts_at, truths_at, sum_at, value_next}
use Rattle.ra_value.specs.Steps.{ValueKept, PartStep, part_step, part_steps, number_after, no_value}
use Rattle.ra_normal.specs.Contents.{legacy_conditions, normal_part, normal_value}
use Rattle.ra_normal.specs.Laws.{IsAlike, condition_step, group_at}
use Rattle.ra_normal.proofs.AlikeLemmas.{alike}

-- ---- hits

-- the hits of condition parts are the same; a legacy part has none, and its condition part any
abbrev pub HitsMatch : List PartContents → (hits other : List ℕ) → Type 0
HitsMatch [] hits other = (hits ≡ []) × (other ≡ [])
HitsMatch (Legacy terms ∷ parts) hits other =
    (row : List ℕ) × (others : List ℕ) × (length row ≡ length (legacy_conditions terms))
    × (other ≡ row ++ others) × HitsMatch parts hits others
HitsMatch (Grouped cs ∷ parts) hits other =
    (row : List ℕ) × (rest : List ℕ) × (others : List ℕ) × (length row ≡ length cs)
    × (hits ≡ row ++ rest) × (other ≡ row ++ others) × HitsMatch parts rest others

-- zeros in a row
abbrev zeros : ℕ → List ℕ
zeros n = replicate n 0

-- as many zeros as two lists have numbers
zeros_of_both : (all front behind : List ℕ) → all ≡ front ++ behind → zeros (length all)
    ≡ zeros (length front) ++ zeros (length behind)
zeros_of_both all front behind parts =
    ap zeros (ap length parts ∙ length-append front behind)
    ∙ sym (replicate-append-replicate (length front) (length behind) 0)

zeros_match : (parts : List PartContents) (hits other : List ℕ) → HitsMatch parts hits other
    → HitsMatch parts (zeros (length hits)) (zeros (length other))
zeros_match [] hits other h = (ap (λ xs. zeros (length xs)) h.0, ap (λ xs. zeros (length xs)) h.1)
zeros_match (Legacy terms ∷ parts) hits other h = (
  zeros (length h.0),
  zeros (length h.1),
  length-replicate (length h.0) 0 ∙ h.2,
  zeros_of_both other h.0 h.1 h.3,
  zeros_match parts hits h.1 h.4,
)
zeros_match (Grouped cs ∷ parts) hits other h = (
  zeros (length h.0),
  zeros (length h.1),
  zeros (length h.2),
  length-replicate (length h.0) 0 ∙ h.3,
  zeros_of_both hits h.0 h.1 h.4,
  zeros_of_both other h.0 h.2 h.5,
  zeros_match parts h.1 h.2 h.6,
)

-- zeros for a part and for others
zeros_with : (part : PartContents) (parts : List PartContents) → zeros (value_hits (part ∷ parts))
    ≡ zeros (length (counted_in part)) ++ zeros (value_hits parts)
zeros_with part parts =
    ap zeros (sum_by-cons (λ (p : PartContents). length (counted_in p)) part parts)
    ∙ sym (replicate-append-replicate (length (counted_in part)) (value_hits parts) 0)

none_match : (parts : List PartContents)
    → HitsMatch parts (zeros (value_hits parts)) (zeros (value_hits (normal_value parts)))
none_match [] = (refl, refl)
none_match (Legacy terms ∷ parts) =
    let n = length (legacy_conditions terms) in
    let others = zeros (value_hits (normal_value parts)) in (
      zeros n,
      others,
      length-replicate n 0,
      zeros_with (Grouped (legacy_conditions terms)) (normal_value parts),
      subst (λ hits. HitsMatch parts hits others) (sym (zeros_with (Legacy terms) parts)) (none_match parts),
    )
none_match (Grouped cs ∷ parts) = (
  zeros (length cs),
  zeros (value_hits parts),
  zeros (value_hits (normal_value parts)),
  length-replicate (length cs) 0,
  zeros_with (Grouped cs) parts,
  zeros_with (Grouped cs) (normal_value parts),
  none_match parts,
)

-- ---- the parts at a frame

-- the front of a list of this length, and what stands behind it
taken : {A : Type 0} (n : ℕ) (xs ys : List A) → length xs ≡ n → take n (xs ++ ys) ≡ xs
taken n xs ys is = ap (λ n. take n (xs ++ ys)) (sym is) ∙ take-append_seam xs ys

dropped : {A : Type 0} (n : ℕ) (xs ys : List A) → length xs ≡ n → drop n (xs ++ ys) ≡ ys
dropped n xs ys is = ap (λ n. drop n (xs ++ ys)) (sym is) ∙ drop-append_seam xs ys

-- a group before other parts
group_first : (cs : List Condition) (parts : List PartContents) (truths others : List Bool)
    (lefts lefts' hits hits' sums numbers : List ℕ)
    → length truths ≡ length cs → length lefts ≡ length cs → length hits ≡ length cs
    → part_steps (Grouped cs ∷ parts) (truths ++ others) (lefts ++ lefts') (hits ++ hits') sums numbers
    ≡ part_step (Grouped cs) (frame_of cs truths lefts hits) (slice_index sums 0)
    (slice_index numbers 0) ∷ part_steps parts others lefts' hits' (drop 1 sums) (drop 1 numbers)
group_first cs parts truths others lefts lefts' hits hits' sums numbers truths_long lefts_long hits_long =
    let n = length cs in
    let t = taken n truths others truths_long in
    let l = taken n lefts lefts' lefts_long in
    let h = taken n hits hits' hits_long in
    let t' = dropped n truths others truths_long in
    let l' = dropped n lefts lefts' lefts_long in
    let h' = dropped n hits hits' hits_long in
    (λ i. part_step (Grouped cs) (frame_of cs (t i) (l i) (h i)) (slice_index sums 0)
    (slice_index numbers 0) ∷ part_steps parts (t' i) (l' i) (h' i) (drop 1 sums) (drop 1 numbers))

-- parts that reset together, give the same numbers, and keep matching hits
record AreAlike (parts : List PartContents) (steps others : List PartStep) : Type 0 where
  resets : list_any (λ part. part.reset) steps ≡ list_any (λ part. part.reset) others
  numbers : (reset : Bool) → map (number_after reset) steps ≡ map (number_after reset) others
  hits : HitsMatch parts (flat_map (λ part. part.hits) steps) (flat_map (λ part. part.hits) others)

module _ (start : Start) (history : History) where
  -- the parts of a value at the last frame
  abbrev steps_at : List PartContents → (hits numbers : List ℕ) → List PartStep
  steps_at parts hits numbers = part_steps parts (truths_at start history (map counted_in parts))
      (lefts_at start history (map counted_in parts)) hits
      (map (sum_at start history) parts) numbers

  -- a group before other parts at the last frame
  group_at_first : (cs : List Condition) (parts : List PartContents) (hits others numbers : List ℕ)
      → length hits ≡ length cs
      → steps_at (Grouped cs ∷ parts) (hits ++ others) numbers ≡ part_step (Grouped cs) (group_at
      start history cs hits) 0 (slice_index numbers 0) ∷ steps_at parts others (drop 1 numbers)
  group_at_first cs parts hits others numbers long =
      group_first cs parts (map (truth_at start history cs) (places cs)) (truths_at start history
      (map counted_in parts)) (map (left_at start history cs) (places cs)) (lefts_at start history
      (map counted_in parts)) hits others (0 ∷ map (sum_at start history) parts) numbers
      (length-map-range_with_len (truth_at start history cs) 0 (length cs))
      (length-map-range_with_len (left_at start history cs) 0 (length cs)) long

  -- two steps of parts before others
  first_alike : (first other : PartStep) → first.reset ≡ other.reset → first.from_hits
      ≡ other.from_hits → first.number ≡ other.number
      → (steps others : List PartStep) → (list_any (λ part. part.reset) steps
      ≡ list_any (λ part. part.reset) others)
      → ((reset : Bool) → map (number_after reset) steps ≡ map (number_after reset) others)
      → (list_any (λ part. part.reset) (first ∷ steps)
      ≡ list_any (λ part. part.reset) (other ∷ others)) × ((reset : Bool)
      → map (number_after reset) (first ∷ steps) ≡ map (number_after reset) (other ∷ others))
  first_alike first other reset from_hits number steps others resets numbers = (
    ap₂ (λ a b. a || b) reset resets,
    λ clear i. (if clear && from_hits i then 0 else number i) ∷ numbers clear i,
  )

  parts_alike : (parts : List PartContents) → AllByRecursion IsPart parts
      → (hits other numbers : List ℕ) → HitsMatch parts hits other
      → AreAlike parts (steps_at parts hits numbers) (steps_at (normal_value parts) other numbers)
  parts_alike [] each hits other numbers h = record { resets = refl; numbers = λ clear. refl; hits = (refl, refl) }
  parts_alike (Legacy terms ∷ parts) each hits other numbers h =
      let cs = legacy_conditions terms in
      let old = slice_index numbers 0 in
      let step = condition_step start history terms h.0 old in
      let like : IsAlike start history terms step = alike start history terms h.0 old each.0 in
      let behind = parts_alike parts each.1 hits h.1 (drop 1 numbers) h.4 in
      let here : steps_at (normal_value (Legacy terms ∷ parts)) other numbers
      ≡ step ∷ steps_at (normal_value parts) h.1 (drop 1 numbers) =
      ap (λ hits. steps_at (normal_value (Legacy terms ∷ parts)) hits numbers) h.3
      ∙ group_at_first cs (normal_value parts) h.0 h.1 numbers h.2 in
      let legacy : PartStep =
      record { reset = false; from_hits = false; number = sum_at start history (Legacy terms); hits = [] } in
      let both = first_alike legacy step (sym like.reset) (sym like.from_hits) (sym like.number)
      (steps_at parts hits (drop 1 numbers))
      (steps_at (normal_value parts) h.1 (drop 1 numbers)) behind.resets behind.numbers in
      subst (AreAlike (Legacy terms ∷ parts) (legacy ∷ steps_at parts hits (drop 1 numbers))) (sym here) (record {
        resets = both.0;
        numbers = both.1;
        hits = (
          step.hits,
          flat_map (λ part. part.hits) (steps_at (normal_value parts) h.1 (drop 1 numbers)),
          length-next_hits (group_at start history cs h.0),
          refl,
          behind.hits,
        );
      })
  parts_alike (Grouped cs ∷ parts) each hits other numbers h =
      let old = slice_index numbers 0 in
      let step = part_step (Grouped cs) (group_at start history cs h.0) 0 old in
      let behind = parts_alike parts each.1 h.1 h.2 (drop 1 numbers) h.6 in
      let here : steps_at (Grouped cs ∷ parts) hits numbers ≡ step ∷ steps_at parts h.1 (drop 1 numbers) =
      ap (λ hits. steps_at (Grouped cs ∷ parts) hits numbers) h.4 ∙ group_at_first cs parts h.0 h.1 numbers h.3 in
      let there : steps_at (Grouped cs ∷ normal_value parts) other numbers
      ≡ step ∷ steps_at (normal_value parts) h.2 (drop 1 numbers) =
      ap (λ hits. steps_at (Grouped cs ∷ normal_value parts) hits numbers) h.5
      ∙ group_at_first cs (normal_value parts) h.0 h.2 numbers h.3 in
      let both = first_alike step step refl refl refl (steps_at parts h.1 (drop 1 numbers))
      (steps_at (normal_value parts) h.2 (drop 1 numbers)) behind.resets behind.numbers in
      let all : AreAlike (Grouped cs ∷ parts) (step ∷ steps_at parts h.1 (drop 1 numbers))
      (step ∷ steps_at (normal_value parts) h.2 (drop 1 numbers)) = record {
        resets = both.0;
        numbers = both.1;
        hits = (
          step.hits,
          flat_map (λ part. part.hits) (steps_at parts h.1 (drop 1 numbers)),
          flat_map (λ part. part.hits) (steps_at (normal_value parts) h.2 (drop 1 numbers)),
          length-next_hits (group_at start history cs h.0),
          refl,
          refl,
          behind.hits,
        );
      } in
      subst (λ steps. AreAlike (Grouped cs ∷ parts) steps
      (steps_at (normal_value (Grouped cs ∷ parts)) other numbers)) (sym here)
      (subst (AreAlike (Grouped cs ∷ parts) (step ∷ steps_at parts h.1 (drop 1 numbers))) (sym there) all)

-- ---- a value

-- what is kept of a value and of its normal value: the same numbers, and matching hits
pub record ValuesMatch (parts : List PartContents) (kept other : ValueKept) : Type 0 where
  pub numbers : kept.numbers ≡ other.numbers
  pub hits : HitsMatch parts kept.hits other.hits

-- values that begin anew
pub no_values_match : (parts : List PartContents) → ValuesMatch parts (no_value parts) (no_value (normal_value parts))
no_values_match parts = record { numbers = ap zeros (sym (length-map parts normal_part)); hits = none_match parts }

cleared_match : (parts : List PartContents) (clear : Bool) (hits other : List ℕ)
    → HitsMatch parts hits other → HitsMatch parts (if clear then zeros (length hits) else hits)
    (if clear then zeros (length other) else other)
cleared_match parts true hits other h = zeros_match parts hits other h
cleared_match parts false hits other h = h

-- one frame
pub values_step : (start : Start) (history : History) (parts : List PartContents) → AllByRecursion
    IsPart parts → (kept other : ValueKept) → ValuesMatch parts kept other → ValuesMatch parts
    (value_next start parts history kept) (value_next start (normal_value parts) history other)
values_step start history parts each kept other h =
    let steps = steps_at start history parts kept.hits kept.numbers in
    let others = steps_at start history (normal_value parts) other.hits kept.numbers in
    let like = parts_alike start history parts each kept.hits other.hits kept.numbers h.hits in
    let clear = list_any (λ part. part.reset) others in
    let hits = flat_map (λ part. part.hits) steps in
    let hits' = flat_map (λ part. part.hits) others in
    let next : ValueKept =
    record { hits = if clear then zeros (length hits') else hits'; numbers = map (number_after clear) others } in
    let same : ValuesMatch parts (value_next start parts history kept) next = record {
      numbers = ap (λ clear. map (number_after clear) steps) like.resets ∙ like.numbers clear;
      hits = subst (λ c. HitsMatch parts (if c then zeros (length hits) else hits)
          (if clear then zeros (length hits') else hits')) (sym like.resets)
          (cleared_match parts clear hits hits' like.hits);
    } in
    subst (λ numbers. ValuesMatch parts (value_next start parts history kept) (value_next start
    (normal_value parts) history (record { hits = other.hits; numbers = numbers }))) h.numbers same
