-- Values at rest.
use Rattle.std.proofs.Common.{◌≡◌, ℕ, ◌+◌, ◌≤◌, Bool, true, false, ◌||◌, cond, unwrap_or, List, [], ◌∷◌, ◌++◌, length}
use Rattle.std.proofs.Common.{take, drop, map, replicate, slice_index, sum_by, refl, sym, ap, ◌∙◌}
use Rattle.std.specs.List.{flat_map, list_any}
use Rattle.std.proofs.lemmas.Bool.{cond-true, cond-false}
use Rattle.std.proofs.lemmas.List.Sums.{sum_by-cons}
use Rattle.ra_condition.specs.Contents.{PartContents, Legacy, Grouped, counted_in, value_hits}
use Rattle.ra_group.specs.declared.form.Form.TheVariants.{InValue}
use Rattle.ra_group.specs.Equations.{Frame, frame_of}
use Rattle.ra_group.specs.Outcome.{next_hits}
use Rattle.ra_trigger.specs.Steps.{frames_along}
use Rattle.ra_value.specs.Steps.{ValueKept, PartStep, part_step, part_steps, number_after, step}
use Rattle.ra_schedule.specs.Groups.{rested_hits, with_hits, groups_keep}
use Rattle.ra_schedule.proofs.Resting.Owed.{owed_groups, owed_none}
use Rattle.ra_schedule.proofs.Resting.Keeping.{groups_rest_kept}
use Rattle.ra_schedule.proofs.Resting.SeenLaws.{cleared_kept}
use Rattle.ra_schedule.specs.Values.{rested_parts, rested_value, owed_value}
use Rattle.ra_schedule.proofs.Resting.GroupLemmas.{outcome_same}
use Rattle.ra_schedule.proofs.Resting.GroupRest.{rested_agree}
use Rattle.ra_schedule.proofs.Resting.AlongRest.{first, length-along, take_part, drop_part, length-rested}
use Rattle.ra_schedule.proofs.Resting.AlongRest.{frames-rested, hits-rested}

-- what a part says, but for its hits
abbrev said : PartStep → PartStep
said part = record { reset = part.reset; from_hits = part.from_hits; number = part.number; hits = [] }

abbrev said_each : List PartStep → List PartStep
said_each parts = map said parts

reset-said : (steps : List PartStep)
    → list_any (λ part. part.reset) (said_each steps) ≡ list_any (λ part. part.reset) steps
reset-said [] = refl
reset-said (part ∷ steps) = ap (λ b. part.reset || b) (reset-said steps)

numbers-said : (reset : Bool) (steps : List PartStep)
    → map (number_after reset) (said_each steps) ≡ map (number_after reset) steps
numbers-said reset [] = refl
numbers-said reset (part ∷ steps) = ap (λ ns. number_after reset part ∷ ns) (numbers-said reset steps)

-- as many hits as the groups of the parts have conditions
sizes : (parts : List PartContents) → value_hits parts ≡ sum_by length (map counted_in parts)
sizes [] = refl
sizes (part ∷ parts) =
    sum_by-cons (λ part. length (counted_in part)) part parts
    ∙ ap (λ n. length (counted_in part) + n) (sizes parts)
    ∙ sym (sum_by-cons length (counted_in part) (map counted_in parts))

-- the hits of the parts are those of their groups
pub hits_of_parts : (parts : List PartContents) (truths : List Bool) (lefts hits sums numbers : List ℕ)
    → flat_map (λ part. part.hits) (part_steps parts truths lefts hits sums numbers)
    ≡ flat_map next_hits (frames_along (map counted_in parts) truths lefts hits)
hits_of_parts [] truths lefts hits sums numbers = refl
hits_of_parts (Legacy terms ∷ parts) truths lefts hits sums numbers = hits_of_parts parts truths lefts hits
    (drop 1 sums) (drop 1 numbers)
hits_of_parts (Grouped cs ∷ parts) truths lefts hits sums numbers =
    ap (λ hs. next_hits (frame_of cs (take (length cs) truths) (take (length cs) lefts)
    (take (length cs) hits)) ++ hs)
    (hits_of_parts parts (drop (length cs) truths) (drop (length cs) lefts) (drop (length cs) hits) (drop 1 sums)
    (drop 1 numbers))

-- what a part says does not hang on the hits of n frames at rest
part-rested : (n : ℕ) (part : PartContents) (f : Frame) (sum old : ℕ)
    → said (part_step part (with_hits f (rested_hits n InValue f)) sum old) ≡ said (part_step part f sum old)
part-rested n (Legacy terms) f sum old = refl
part-rested n (Grouped cs) f sum old =
    ap (λ o. record { reset = o.reset; from_hits = o.from_hits; number = unwrap_or o.measured old; hits = [] }) (sym
    (outcome_same InValue f (rested_hits n InValue f) (rested_agree InValue f n)))

abbrev first_of : PartContents → List Bool → (lefts hits : List ℕ) → Frame
first_of part truths lefts hits = first (counted_in part) truths lefts hits

-- what the parts say after n frames at rest
said-rested : (n : ℕ) (parts : List PartContents) (truths : List Bool) (lefts hits sums numbers : List ℕ)
    → said_each (part_steps parts truths lefts (rested_parts n parts truths lefts hits) sums numbers)
    ≡ said_each (part_steps parts truths lefts hits sums numbers)
said-rested n [] truths lefts hits sums numbers = refl
said-rested n (part ∷ parts) truths lefts hits sums numbers =
    let k = length (counted_in part) in
    let f = first_of part truths lefts hits in
    let here = rested_hits n InValue f in
    let behind = rested_parts n parts (drop k truths) (drop k lefts) (drop k hits) in
    let long = length-rested n InValue f in
    ap (λ hs. said (part_step part (frame_of (counted_in part) (take k truths) (take k lefts) hs) (slice_index sums 0)
    (slice_index numbers 0))
    ∷ said_each (part_steps parts (drop k truths) (drop k lefts) (drop k (here ++ behind)) (drop 1 sums)
    (drop 1 numbers)))
    (take_part k here behind long)
    ∙ ap (λ hs. said (part_step part (with_hits f here) (slice_index sums 0) (slice_index numbers 0))
    ∷ said_each (part_steps parts (drop k truths) (drop k lefts) hs (drop 1 sums) (drop 1 numbers)))
    (drop_part k here behind long)
    ∙ ap (λ p. p ∷ said_each (part_steps parts (drop k truths) (drop k lefts) behind (drop 1 sums) (drop 1 numbers)))
    (part-rested n part f (slice_index sums 0) (slice_index numbers 0))
    ∙ ap (λ ps. said (part_step part f (slice_index sums 0) (slice_index numbers 0)) ∷ ps)
    (said-rested n parts (drop k truths) (drop k lefts) (drop k hits) (drop 1 sums) (drop 1 numbers))

module _ (n : ℕ) (parts : List PartContents) (truths : List Bool) (lefts sums : List ℕ) (old : ValueKept) where
  abbrev steps : List PartStep
  steps = part_steps parts truths lefts old.hits sums old.numbers

  abbrev later : List PartStep
  later = part_steps parts truths lefts (rested_parts n parts truths lefts old.hits) sums old.numbers

  abbrev reset : Bool
  reset = list_any (λ part. part.reset) steps

  abbrev hits_in : List PartStep → List ℕ
  hits_in parts = flat_map (λ part. part.hits) parts

  abbrev with_more : ℕ → ValueKept
  with_more k = record { hits = rested_parts k parts truths lefts old.hits; numbers = old.numbers }

  abbrev left : Bool → List ℕ → List ℕ → ValueKept
  left reset hits numbers = record { hits = cond reset (replicate (length hits) 0) hits; numbers = numbers }

  pub reset_later : list_any (λ part. part.reset) later ≡ reset
  reset_later =
      sym (reset-said later)
      ∙ ap (λ ps. list_any (λ part. part.reset) ps) (said-rested n parts truths lefts old.hits sums old.numbers)
      ∙ reset-said steps

  numbers_later : (r : Bool) → map (number_after r) later ≡ map (number_after r) steps
  numbers_later r =
      sym (numbers-said r later)
      ∙ ap (map (number_after r)) (said-rested n parts truths lefts old.hits sums old.numbers)
      ∙ numbers-said r steps

  hits_later : hits_in steps ≡ rested_parts 1 parts truths lefts old.hits
      → hits_in later ≡ rested_parts (n + 1) parts truths lefts old.hits
  hits_later stay =
      hits_of_parts parts truths lefts (rested_parts n parts truths lefts old.hits) sums old.numbers
      ∙ ap (flat_map next_hits) (frames-rested InValue n (map counted_in parts) truths lefts old.hits)
      ∙ hits-rested InValue n (frames_along (map counted_in parts) truths lefts old.hits) (sym
      (hits_of_parts parts truths lefts old.hits sums old.numbers) ∙ stay)

  -- a value that rests goes on to rest
  pub value-rested : step parts truths lefts sums old ≡ rested_value 1 parts truths lefts sums old
      → step parts truths lefts sums (rested_value n parts truths lefts sums old)
      ≡ rested_value (n + 1) parts truths lefts sums old
  value-rested rest = by_reset reset refl
    where
      by_reset : (b : Bool) → reset ≡ b
          → step parts truths lefts sums (rested_value n parts truths lefts sums old)
          ≡ rested_value (n + 1) parts truths lefts sums old
      by_reset true e =
          ap (step parts truths lefts sums) (cond-true reset old (with_more n) e)
          ∙ rest
          ∙ cond-true reset old (with_more 1) e
          ∙ sym (cond-true reset old (with_more (n + 1)) e)
      by_reset false e =
          let stays = rest ∙ cond-false reset old (with_more 1) e in
          let hits = sym (cond-false reset (replicate (length (hits_in steps)) 0) (hits_in steps) e)
          ∙ ap (λ k. k.hits) stays in
          ap (step parts truths lefts sums) (cond-false reset old (with_more n) e)
          ∙ ap (λ r. left r (hits_in later) (map (number_after r) later)) reset_later
          ∙ ap (λ ns. left reset (hits_in later) ns) (numbers_later reset ∙ ap (λ k. k.numbers) stays)
          ∙ ap (λ hs. record { hits = hs; numbers = old.numbers }) (cond-false reset
          (replicate (length (hits_in later)) 0) (hits_in later) e ∙ hits_later hits)
          ∙ sym (cond-false reset old (with_more (n + 1)) e)

module _ (parts : List PartContents) (truths : List Bool) (lefts sums : List ℕ) (old : ValueKept) where
  abbrev said_by : List PartStep
  said_by = part_steps parts truths lefts old.hits sums old.numbers

  abbrev resets : Bool
  resets = list_any (λ part. part.reset) said_by

  abbrev hits_by : List ℕ
  hits_by = flat_map (λ part. part.hits) said_by

  abbrev more : ValueKept
  more = record { hits = rested_parts 1 parts truths lefts old.hits; numbers = old.numbers }

  same_value : {hits hits' numbers numbers' : List ℕ} → hits ≡ hits' → numbers ≡ numbers'
      → ◌≡◌ {A = ValueKept} (record { hits = hits; numbers = numbers }) (record { hits = hits'; numbers = numbers' })
  same_value p q = cc

  -- a value that keeps its numbers, and whose conditions keep their hits or count, rests
  pub value_seen : length old.hits ≡ value_hits parts → (step parts truths lefts sums old).numbers ≡ old.numbers
      → groups_keep InValue (map counted_in parts) old.hits (step parts truths lefts sums old).hits ≡ true
      → step parts truths lefts sums old ≡ rested_value 1 parts truths lefts sums old
  value_seen long numbers kept = by_reset resets refl
    where
      frames : hits_by ≡ flat_map next_hits (frames_along (map counted_in parts) truths lefts old.hits)
      frames = hits_of_parts parts truths lefts old.hits sums old.numbers

      by_reset : (b : Bool) → resets ≡ b
          → step parts truths lefts sums old ≡ rested_value 1 parts truths lefts sums old
      by_reset true e =
          let emptied = cond-true resets (replicate (length hits_by) 0) hits_by e in
          same_value
          (emptied ∙ cleared_kept InValue (map counted_in parts) old.hits (length hits_by)
          (ap (groups_keep InValue (map counted_in parts) old.hits) (sym emptied) ∙ kept) (long ∙ sizes parts)
          (ap length frames ∙ length-along (map counted_in parts) truths lefts old.hits))
          numbers
          ∙ sym (cond-true resets old more e)
      by_reset false e =
          let next = cond-false resets (replicate (length hits_by) 0) hits_by e ∙ frames in
          same_value
          (next ∙ groups_rest_kept InValue (map counted_in parts) truths lefts old.hits
          (ap (groups_keep InValue (map counted_in parts) old.hits) (sym next) ∙ kept))
          numbers
          ∙ sym (cond-false resets old more e)

  -- where a value rested at a frame, what n frames more leave is paid by the hits before it
  pub value_owed : (n : ℕ) → length old.hits ≡ value_hits parts → ((j : ℕ) → slice_index old.hits j ≤ 4294967295)
      → step parts truths lefts sums old ≡ rested_value 1 parts truths lefts sums old
      → rested_value n parts truths lefts sums (step parts truths lefts sums old)
      ≡ owed_value n old.hits (step parts truths lefts sums old)
  value_owed n long most rest = by_reset resets refl
    where
      by_reset : (b : Bool) → resets ≡ b
          → rested_value n parts truths lefts sums (step parts truths lefts sums old)
          ≡ owed_value n old.hits (step parts truths lefts sums old)
      by_reset true e =
          let same = rest ∙ cond-true resets old more e in
          ap (rested_value n parts truths lefts sums) same
          ∙ cond-true resets old
          (record { hits = rested_parts n parts truths lefts old.hits; numbers = old.numbers }) e
          ∙ ap (λ hits. record { hits = hits; numbers = old.numbers }) (sym (owed_none n old.hits))
          ∙ sym (ap (owed_value n old.hits) same)
      by_reset false e =
          let counts = rest ∙ cond-false resets old more e in
          let behind : ValueKept = record {
            hits = rested_parts n parts truths lefts
                (rested_parts 1 parts truths lefts old.hits);
            numbers = old.numbers;
          } in
          ap (rested_value n parts truths lefts sums) counts
          ∙ ap (λ b. cond b more behind) (reset_later 1 parts truths lefts sums old)
          ∙ cond-false resets more behind e
          ∙ ap (λ hits. record { hits = hits; numbers = old.numbers }) (owed_groups InValue n
          (map counted_in parts) truths lefts old.hits (long ∙ sizes parts) most)
          ∙ sym (ap (owed_value n old.hits) counts)
