-- The parts of a value, one part after the other.
use Rattle.std.proofs.Common.{◌≡◌, ℕ, suc, ◌+◌, ◌<◌, Bool, false, ◌||◌, unwrap_or, List, [], ◌∷◌, ◌++◌, length, get_or}
use Rattle.std.proofs.Common.{set, take, drop, map, slice_index, refl, sym, ap, ◌∙◌, arith, append_assoc, length-append}
use Rattle.std.specs.List.{flat_map, list_any}
use Rattle.std.proofs.lemmas.List.{drop-drop, take_at, drop_at, set_at, append-nil, map_push, drop_all, drop_more}
use Rattle.std.proofs.lemmas.List.{length-map, take-append-drop, get_or-append-add, length_push}
use Rattle.std.proofs.lemmas.List.Sums.{sum_by-cons, sum_by-append}
use Rattle.std.proofs.lemmas.Grind.{flat_map-append}
use Rattle.std.proofs.Math.Bool.{or-false}
use Rattle.ra_condition.specs.declared.condition.Condition.{Condition}
use Rattle.ra_condition.specs.declared.part.Term.{Term}
use Rattle.ra_condition.specs.Contents.{PartContents, Legacy, Grouped, counted_in, value_hits}
use Rattle.ra_group.specs.declared.form.Form.TheVariants.{InValue}
use Rattle.ra_group.specs.Equations.{frame_of}
use Rattle.ra_group.specs.Outcome.{outcome_of, next_hits}
use Rattle.ra_group.specs.Along.{frame_at, with_part}
use Rattle.ra_group.proofs.AlongLemmas.{frame_at-drop, length-next_hits}
use Rattle.ra_group.proofs.TallyLemmas.{any_push}
use Rattle.ra_value.specs.Steps.{PartStep, part_step, part_steps}

-- the step of a part whose conditions start at a place, and which is the k-th of the parts
abbrev pub step_of : PartContents → List Bool → (lefts hits sums numbers : List ℕ) → (at k : ℕ) → PartStep
step_of part truths lefts hits sums numbers at k = part_step part
    (frame_at (counted_in part) truths lefts hits at) (slice_index sums k) (slice_index numbers k)

index_after_one : (xs : List ℕ) (k : ℕ) → slice_index (drop 1 xs) k ≡ slice_index xs (suc k)
index_after_one [] k = refl
index_after_one (x ∷ xs) k = refl

-- one part more
part_steps-push : (parts : List PartContents) (part : PartContents) (truths : List Bool)
    (lefts hits sums numbers : List ℕ) → part_steps
    (parts ++ part ∷ []) truths lefts hits sums numbers ≡ part_steps parts truths lefts hits sums
    numbers ++ step_of part truths lefts hits sums numbers (value_hits parts) (length parts) ∷ []
part_steps-push [] part truths lefts hits sums numbers = refl
part_steps-push (p ∷ parts) part truths lefts hits sums numbers =
    let n = length (counted_in p) in
    let place : frame_at (counted_in part) (drop n truths) (drop n lefts) (drop n hits)
    (value_hits parts) ≡ frame_at (counted_in part) truths lefts hits (value_hits (p ∷ parts)) =
    frame_at-drop (counted_in part) truths lefts hits n (value_hits parts) ∙ ap (frame_at
    (counted_in part) truths lefts hits) (sym (sum_by-cons (λ q. length (counted_in q)) p parts)) in
    let same : step_of part (drop n truths) (drop n lefts) (drop n hits) (drop 1 sums)
    (drop 1 numbers) (value_hits parts) (length parts)
    ≡ step_of part truths lefts hits sums numbers (value_hits (p ∷ parts)) (suc (length parts)) =
    ap (λ f. part_step part f (slice_index (drop 1 sums) (length parts))
    (slice_index (drop 1 numbers) (length parts))) place
    ∙ ap (λ sum. part_step part (frame_at (counted_in part) truths lefts hits (value_hits
    (p ∷ parts))) sum (slice_index (drop 1 numbers) (length parts)))
    (index_after_one sums (length parts))
    ∙ ap (part_step part (frame_at (counted_in part) truths lefts hits (value_hits (p ∷ parts)))
    (slice_index sums (suc (length parts)))) (index_after_one numbers (length parts)) in
    ap (λ steps. part_step p (frame_of (counted_in p) (take n truths) (take n lefts) (take n hits))
    (slice_index sums 0) (slice_index numbers 0) ∷ steps)
    (part_steps-push parts part (drop n truths) (drop n lefts) (drop n hits) (drop 1 sums) (drop 1 numbers)
    ∙ ap (λ s. part_steps parts (drop n truths) (drop n lefts) (drop n hits) (drop 1 sums)
    (drop 1 numbers) ++ s ∷ []) same)

pub length-part_steps : (parts : List PartContents) (truths : List Bool) (lefts hits sums
    numbers : List ℕ) → length (part_steps parts truths lefts hits sums numbers) ≡ length parts
length-part_steps [] truths lefts hits sums numbers = refl
length-part_steps (p ∷ parts) truths lefts hits sums numbers =
    ap suc (length-part_steps parts (drop (length (counted_in p)) truths) (drop (length
    (counted_in p)) lefts) (drop (length (counted_in p)) hits) (drop 1 sums) (drop 1 numbers))

-- a hit for each condition
length-part_hits : (part : PartContents) (truths : List Bool) (lefts hits : List ℕ) (at sum old : ℕ)
    → length (part_step part (frame_at (counted_in part) truths lefts hits at) sum old).hits
    ≡ length (counted_in part)
length-part_hits (Legacy terms) truths lefts hits at sum old = refl
length-part_hits (Grouped cs) truths lefts hits at sum old = length-next_hits (frame_at cs truths lefts hits at)

pub length-hits_of : (parts : List PartContents) (truths : List Bool)
    (lefts hits sums numbers : List ℕ) → length
    (flat_map (λ s. s.hits) (part_steps parts truths lefts hits sums numbers)) ≡ value_hits parts
length-hits_of [] truths lefts hits sums numbers = refl
length-hits_of (p ∷ parts) truths lefts hits sums numbers =
    let n = length (counted_in p) in
    let first = part_step p (frame_at (counted_in p) truths lefts hits 0) (slice_index sums 0)
    (slice_index numbers 0) in
    let rest = part_steps parts (drop n truths) (drop n lefts) (drop n hits) (drop 1 sums) (drop 1 numbers) in
    length-append first.hits (flat_map (λ s. s.hits) rest)
    ∙ ap (λ m. m + length (flat_map (λ s. s.hits) rest))
    (length-part_hits p truths lefts hits 0 (slice_index sums 0) (slice_index numbers 0))
    ∙ ap (λ m. n + m) (length-hits_of parts (drop n truths) (drop n lefts) (drop n hits) (drop 1 sums) (drop 1 numbers))
    ∙ sym (sum_by-cons (λ q. length (counted_in q)) p parts)

-- how far the parts are stepped
pub record HasStepped (truths : List Bool) (lefts hits sums numbers : List ℕ)
    (parts : List PartContents) (start : ℕ) (resets : Bool) (hits' numbers' : List ℕ) : Type 0 where
  pub starts : start ≡ value_hits parts
  pub reset : resets ≡ list_any (λ s. s.reset) (part_steps parts truths lefts hits sums numbers)
  pub written : hits' ≡ flat_map (λ s. s.hits) (part_steps parts truths lefts hits sums numbers) ++ drop start hits
  pub numbered : numbers' ≡ map (λ s. s.number) (part_steps parts truths lefts hits sums numbers)
      ++ drop (length parts) numbers

module _ (truths : List Bool) (lefts hits sums numbers : List ℕ) where
  long : (parts : List PartContents) (start : ℕ) → start ≡ value_hits parts
      → length (flat_map (λ s. s.hits) (part_steps parts truths lefts hits sums numbers)) ≡ start
  long parts start e = length-hits_of parts truths lefts hits sums numbers ∙ sym e

  -- the next part has its old hits and its old number
  pub frame_now : (cs : List Condition) (parts : List PartContents) (start : ℕ) (resets : Bool)
      (hits' numbers' : List ℕ) → HasStepped truths lefts hits sums numbers parts start resets hits'
      numbers' → frame_at cs truths lefts hits' start ≡ frame_at cs truths lefts hits start
  frame_now cs parts start resets hits' numbers' so =
      ap (λ hs. frame_of cs (take (length cs) (drop start truths))
      (take (length cs) (drop start lefts)) (take (length cs) hs))
      (ap (drop start) so.written ∙ drop_at (flat_map (λ s. s.hits) (part_steps parts truths lefts
      hits sums numbers)) (drop start hits) start (long parts start so.starts))

  counted : (parts : List PartContents) → length
      (map (λ s. s.number) (part_steps parts truths lefts hits sums numbers)) ≡ length parts
  counted parts = length-map (part_steps parts truths lefts hits sums numbers) (λ s. s.number)
      ∙ length-part_steps parts truths lefts hits sums numbers

  pub number_now : (parts : List PartContents) (start : ℕ) (resets : Bool) (hits' numbers' : List ℕ)
      → length parts < length numbers → HasStepped truths lefts hits sums numbers parts start resets
      hits' numbers' → slice_index numbers' (length parts) ≡ slice_index numbers (length parts)
  number_now parts start resets hits' numbers' l so =
      let done = map (λ s. s.number) (part_steps parts truths lefts hits sums numbers) in
      let n = length parts in
      let e : n ≡ length done + 0 = omega (arith, counted parts) in
      let first : get_or (drop n numbers) 0 0 ≡ get_or numbers n 0 =
      ap (λ xs. get_or xs 0 0) (drop_more numbers n 0 l) in
      ap (λ xs. get_or xs n 0) so.numbered ∙ ap (λ m. get_or (done ++ drop n numbers) m 0) e
      ∙ get_or-append-add done (drop n numbers) 0 0 ∙ first

  pub stepped_more : (part : PartContents) (parts : List PartContents) (start start' : ℕ)
      (resets resets' : Bool) (hits' hits'' numbers' numbers'' : List ℕ)
      → length parts < length numbers → HasStepped truths lefts hits sums numbers parts start resets
      hits' numbers' → start' ≡ start + length (counted_in part) → resets'
      ≡ (resets || (step_of part truths lefts hits sums numbers start (length parts)).reset)
      → hits'' ≡ with_part hits' start (step_of part truths lefts hits sums numbers start
      (length parts)).hits → numbers'' ≡ set numbers' (length parts)
      (step_of part truths lefts hits sums numbers start (length parts)).number → HasStepped truths
      lefts hits sums numbers (parts ++ part ∷ []) start' resets' hits'' numbers''
  stepped_more part parts start start' resets resets' hits' hits'' numbers' numbers'' l so is_start
      is_reset is_hits is_number =
      let steps = part_steps parts truths lefts hits sums numbers in
      let k = length parts in
      let s = step_of part truths lefts hits sums numbers start k in
      let more : part_steps (parts ++ part ∷ []) truths lefts hits sums numbers ≡ steps ++ s ∷ [] =
      part_steps-push parts part truths lefts hits sums numbers
      ∙ ap (λ at. steps ++ step_of part truths lefts hits sums numbers at k ∷ []) (sym so.starts) in
      let done = flat_map (λ q. q.hits) steps in
      let end : start + length s.hits ≡ start' = ap (λ n. start + n) (length-part_hits part truths
      lefts hits start (slice_index sums k) (slice_index numbers k)) ∙ sym is_start in
      let kept = map (λ q. q.number) steps in
      let next : k + 1 ≡ length (parts ++ part ∷ []) = sym (length_push parts part) in
      record {
        starts = omega (
          arith,
          is_start,
          so.starts,
          sum_by-append (λ q. length (counted_in q)) parts (part ∷ []),
          sum_by-cons (λ q. length (counted_in q)) part [],
        );
        reset =
            is_reset ∙ ap (λ b. b || s.reset) so.reset
            ∙ sym (ap (list_any (λ q. q.reset)) more ∙ any_push (λ q. q.reset) steps s);
        written =
            is_hits
            ∙ ap (λ xs. with_part xs start s.hits) so.written
            ∙ ap (λ xs. xs ++ (s.hits ++ drop (start + length s.hits) (done ++ drop start hits)))
            (take_at done (drop start hits) start (long parts start so.starts))
            ∙ ap (λ n. done ++ (s.hits ++ drop n (done ++ drop start hits))) end
            ∙ ap (λ xs. done ++ (s.hits ++ xs)) (past done start start' (length (counted_in part))
            (long parts start so.starts) is_start)
            ∙ sym (append_assoc done s.hits (drop start' hits))
            ∙ ap (λ xs. xs ++ drop start' hits) (sym (ap (flat_map (λ q. q.hits)) more ∙ flat_push steps s));
        numbered =
            is_number
            ∙ ap (λ xs. set xs k s.number) (so.numbered ∙ ap (λ xs. kept ++ xs) (drop_more numbers k 0 l))
            ∙ set_at kept (get_or numbers k 0) (drop (k + 1) numbers) s.number k (counted parts)
            ∙ sym (append_assoc kept (s.number ∷ []) (drop (k + 1) numbers))
            ∙ ap (λ xs. xs ++ drop (k + 1) numbers)
            (sym (ap (map (λ q. q.number)) more ∙ map_push (λ q. q.number) steps s))
            ∙ ap (λ n. map (λ q. q.number) (part_steps
            (parts ++ part ∷ []) truths lefts hits sums numbers) ++ drop n numbers) next;
      }
    where
      past : (done : List ℕ) (start start' n : ℕ) → length done ≡ start → start' ≡ start + n
          → drop start' (done ++ drop start hits) ≡ drop start' hits
      past done start start' n at e =
          ap (λ m. drop m (done ++ drop start hits)) e
          ∙ sym (drop-drop n start (done ++ drop start hits))
          ∙ ap (drop n) (drop_at done (drop start hits) start at)
          ∙ drop-drop n start hits
          ∙ ap (λ m. drop m hits) (sym e)

      flat_push : (steps : List PartStep) (s : PartStep) → flat_map (λ q. q.hits) (steps ++ s ∷ [])
          ≡ flat_map (λ q. q.hits) steps ++ s.hits
      flat_push steps s = flat_map-append (λ q. q.hits) steps (s ∷ [])
          ∙ ap (λ xs. flat_map (λ q. q.hits) steps ++ xs) (append-nil s.hits)

  -- a legacy part counts no hits
  pub stepped_terms : (terms : List Term) (parts : List PartContents) (start : ℕ) (resets : Bool)
      (hits' numbers' : List ℕ) → length parts < length numbers
      → HasStepped truths lefts hits sums numbers parts start resets hits' numbers'
      → HasStepped truths lefts hits sums numbers (parts ++ Legacy terms ∷ []) start resets hits'
      (set numbers' (length parts) (slice_index sums (length parts)))
  stepped_terms terms parts start resets hits' numbers' l so =
      let z : start + 0 ≡ start = omega arith in
      let same : with_part hits' start [] ≡ hits' = ap (λ n. take start hits' ++ drop n hits') z
      ∙ take-append-drop start hits' in
      stepped_more (Legacy terms) parts start start resets resets hits' hits' numbers'
      (set numbers' (length parts) (slice_index sums (length parts))) l so (omega arith)
      (sym (or-false resets)) (sym same) refl

  -- a condition part, by what its group's step ensures
  pub stepped_group : (cs : List Condition) (parts : List PartContents) (start start' : ℕ)
      (resets resets' : Bool) (hits' hits'' numbers' numbers'' : List ℕ) → length parts
      < length numbers → HasStepped truths lefts hits sums numbers parts start resets hits' numbers'
      → start' ≡ start + length cs → resets' ≡ (resets || (outcome_of InValue (frame_at cs truths
      lefts hits' start)).reset) → hits'' ≡ with_part hits' start (next_hits (frame_at cs truths
      lefts hits' start)) → numbers'' ≡ set numbers' (length parts) (unwrap_or (outcome_of InValue
      (frame_at cs truths lefts hits' start)).measured (slice_index numbers' (length parts)))
      → HasStepped truths lefts hits sums numbers (parts ++ Grouped cs ∷ []) start' resets' hits''
      numbers''
  stepped_group cs parts start start' resets resets' hits' hits'' numbers' numbers'' l so is_start
      is_reset is_hits is_number =
      let same = frame_now cs parts start resets hits' numbers' so in
      let k = length parts in
      stepped_more (Grouped cs) parts start start' resets resets' hits' hits'' numbers' numbers'' l so is_start
      (is_reset ∙ ap (λ f. resets || (outcome_of InValue f).reset) same)
      (is_hits ∙ ap (λ f. with_part hits' start (next_hits f)) same)
      (is_number
      ∙ ap (λ f. set numbers' k (unwrap_or (outcome_of InValue f).measured (slice_index numbers' k))) same
      ∙ ap (λ old. set numbers' k (unwrap_or (outcome_of InValue (frame_at cs truths lefts hits
      start)).measured old)) (number_now parts start resets hits' numbers' l so))

  -- all parts are stepped
  pub stepped_hits : (parts : List PartContents) (start : ℕ) (resets : Bool) (hits' numbers' : List
      ℕ) → length hits ≡ start → HasStepped truths lefts hits sums numbers parts start resets hits'
      numbers' → hits' ≡ flat_map (λ s. s.hits) (part_steps parts truths lefts hits sums numbers)
  stepped_hits parts start resets hits' numbers' all so =
      so.written
      ∙ ap (λ xs. flat_map (λ s. s.hits) (part_steps parts truths lefts hits sums numbers) ++ xs)
      (drop_all start hits (omega arith))
      ∙ append-nil (flat_map (λ s. s.hits) (part_steps parts truths lefts hits sums numbers))
