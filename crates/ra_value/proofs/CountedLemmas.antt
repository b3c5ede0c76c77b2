-- The numbers after a reset, part by part.
use Rattle.std.proofs.Common.{◌≡◌, ◌≢◌, ℕ, ◌+◌, ◌<◌, ◌≤◌, Bool, true, false, cond, List, [], ◌∷◌, length, get_or, set}
use Rattle.std.proofs.Common.{drop, map, slice_index, refl, sym, ap, ◌∙◌, inl, inr, arith, get_or-set_same}
use Rattle.std.proofs.Common.{get_or-set_other}
use Rattle.std.proofs.lemmas.List.{get_or-map, length-map}
use Rattle.std.proofs.lemmas.List.FromFn.{fill_by_all}
use Rattle.std.proofs.lemmas.Bool.{cases_eq}
use Rattle.ra_condition.specs.declared.part.Part.{Part}
use Rattle.ra_condition.specs.Contents.{PartContents, Legacy, Grouped, part_contents, counted_in}
use Rattle.ra_group.specs.declared.form.Form.TheVariants.{InValue}
use Rattle.ra_group.specs.Along.{frame_at}
use Rattle.ra_group.proofs.CountingLemmas.{outcome_of-from_hits}
use Rattle.ra_value.specs.Steps.{PartStep, part_step, part_steps, number_after}
use Rattle.ra_value.specs.Kept.{part_counts, uncounted}

-- whether a part's number comes from hits is known from the part
part_step-from_hits : (part : PartContents) (truths : List Bool) (lefts hits : List ℕ)
    (at sum old : ℕ) → (part_step part
    (frame_at (counted_in part) truths lefts hits at) sum old).from_hits ≡ part_counts part
part_step-from_hits (Legacy terms) truths lefts hits at sum old = refl
part_step-from_hits (Grouped cs) truths lefts hits at sum old =
    outcome_of-from_hits InValue (frame_at cs truths lefts hits at)

part_steps-from_hits : (parts : List PartContents) (truths : List Bool)
    (lefts hits sums numbers : List ℕ) → map (λ s. s.from_hits)
    (part_steps parts truths lefts hits sums numbers) ≡ map part_counts parts
part_steps-from_hits [] truths lefts hits sums numbers = refl
part_steps-from_hits (p ∷ parts) truths lefts hits sums numbers =
    let n = length (counted_in p) in
    ap (λ b. b ∷ map (λ s. s.from_hits) (part_steps parts (drop n truths) (drop n lefts)
    (drop n hits) (drop 1 sums) (drop 1 numbers)))
    (part_step-from_hits p truths lefts hits 0 (slice_index sums 0) (slice_index numbers 0))
    ∙ ap (λ bs. part_counts p ∷ bs) (part_steps-from_hits parts (drop n truths) (drop n lefts)
    (drop n hits) (drop 1 sums) (drop 1 numbers))

no_step : PartStep
no_step = record { reset = false; from_hits = false; number = 0; hits = [] }

-- after a reset the numbers that come from hits are 0
pub uncounted-numbers : (parts : List PartContents) (truths : List Bool) (lefts hits sums
    numbers : List ℕ) → uncounted parts (map (λ s. s.number) (part_steps parts truths lefts hits
    sums numbers)) ≡ map (number_after true) (part_steps parts truths lefts hits sums numbers)
uncounted-numbers parts truths lefts hits sums numbers =
    let steps = part_steps parts truths lefts hits sums numbers in
    let long : length (map (λ s. s.number) steps) ≡ length steps = length-map steps (λ s. s.number) in
    let counts = part_steps-from_hits parts truths lefts hits sums numbers in
    sym (fill_by_all (λ k. cond (get_or (map part_counts parts) k false) 0
    (get_or (map (λ s. s.number) steps) k 0)) (map (number_after true) steps)
    (length (map (λ s. s.number) steps)) 0 (length-map steps (number_after true) ∙ sym long)
    (λ k l. let l' : k < length steps = omega arith in
    get_or-map (number_after true) steps k no_step 0 l'
    ∙ ap (λ b. cond b 0 (get_or steps k no_step).number) (sym
    (get_or-map (λ s. s.from_hits) steps k no_step false l') ∙ ap (λ bs. get_or bs k false) counts)
    ∙ ap (cond (get_or (map part_counts parts) k false) 0) (sym (get_or-map (λ s. s.number) steps k no_step 0 l'))))

-- the numbers so far are brought to 0 where they are marked
pub record AreCleared (marks : List Bool) (old now : List ℕ) (place : ℕ) : Type 0 where
  pub cleared : (k : ℕ) → k < place → get_or now k 0 ≡ cond (get_or marks k false) 0 (get_or old k 0)
  pub others : (k : ℕ) → place ≤ k → get_or now k 0 ≡ get_or old k 0

pub cleared_none : (marks : List Bool) (old : List ℕ) → AreCleared marks old old 0
cleared_none marks old = record { cleared = λ k l. absurd (omega arith); others = λ k g. refl }

pub cleared_more : (marks : List Bool) (old now now' : List ℕ) (place : ℕ) → place < length now
    → now' ≡ cond (get_or marks place false) (set now place 0) now → AreCleared marks old now place
    → AreCleared marks old now' (place + 1)
cleared_more marks old now now' place within is so = record {
  cleared = λ k l. elim (cases_eq k place) [
    | inl here ↦ ap (λ xs. get_or xs k 0) is ∙ ap (λ n. get_or (cond (get_or marks place false)
        (set now place 0) now) n 0) here ∙ at_place (get_or marks place false) ∙ ap (λ n. cond
        (get_or marks n false) 0 (get_or old n 0)) (sym here)
    | inr other ↦ ap (λ xs. get_or xs k 0) is ∙ elsewhere (get_or marks place false) k other
        ∙ so.cleared k (omega arith)
  ];
  others = λ k g. ap (λ xs. get_or xs k 0) is
      ∙ elsewhere (get_or marks place false) k (λ e. omega (arith, e)) ∙ so.others k (omega arith);
}
  where
    at_place : (b : Bool) → get_or (cond b (set now place 0) now) place 0 ≡ cond b 0 (get_or old place 0)
    at_place true = get_or-set_same now place 0 0 within
    at_place false = so.others place (omega arith)

    elsewhere : (b : Bool) (k : ℕ) → k ≢ place → get_or (cond b (set now place 0) now) k 0 ≡ get_or now k 0
    elsewhere true k other = get_or-set_other now place k 0 0 other
    elsewhere false k other = refl

-- whether the part at the place is marked
pub mark_at : (parts : List Part) (k : ℕ) (part : Part) → k < length parts → part
    ≡ get_or parts k part → get_or (map part_counts (map part_contents parts)) k false
    ≡ part_counts (part_contents part)
mark_at parts k part l here =
    get_or-map part_counts (map part_contents parts) k (part_contents part) false
    (omega (arith, length-map parts part_contents))
    ∙ ap part_counts (get_or-map part_contents parts k part (part_contents part) l ∙ ap part_contents (sym here))

pub cleared_all : (parts : List PartContents) (old now : List ℕ) (place : ℕ) → length now
    ≡ length old → place ≡ length old → AreCleared (map part_counts parts) old now place → now
    ≡ uncounted parts old
cleared_all parts old now place long all so =
    fill_by_all (λ k. cond (get_or (map part_counts parts) k false) 0 (get_or old k 0)) now
    (length old) 0 long (λ k l. so.cleared k (omega arith))
