-- Groups side by side that keep their hits, or count: how a walk over them finds it, and that they rest.
use Rattle.std.proofs.Common.{◌≡◌, ℕ, Bool, true, false, ◌&&◌, List, [], ◌∷◌, ◌++◌, length, take, drop, map, refl, sym}
use Rattle.std.proofs.Common.{ap, ◌∙◌}
use Rattle.std.specs.List.{flat_map}
use Rattle.std.proofs.lemmas.Bool.{false≢true}
use Rattle.ra_condition.specs.declared.condition.Condition.{Condition}
use Rattle.ra_condition.specs.declared.part.Part.{Part}
use Rattle.ra_condition.specs.Contents.{part_contents, counted_in}
use Rattle.ra_group.specs.declared.form.Form.{Form}
use Rattle.ra_group.specs.Outcome.{next_hits}
use Rattle.ra_trigger.specs.Steps.{frames_along}
use Rattle.ra_schedule.specs.Groups.{rested_hits, all_keep, groups_keep}
use Rattle.ra_schedule.specs.Values.{counted_by_part}
use Rattle.ra_schedule.proofs.Resting.AlongRest.{first, length-next, take_part, drop_part}
use Rattle.ra_schedule.proofs.Resting.SeenRest.{rest_kept}

-- one group more that keeps its hits leaves what the others do
pub groups_more : (form : Form) (cs : List Condition) (gs : List (List Condition)) (before after : List ℕ)
    → all_keep form cs (take (length cs) before) (take (length cs) after) ≡ true
    → groups_keep form (cs ∷ gs) before after ≡ groups_keep form gs (drop (length cs) before) (drop (length cs) after)
groups_more form cs gs before after here =
    ap (λ b. b && groups_keep form gs (drop (length cs) before) (drop (length cs) after)) here

pub and_left : (a b : Bool) → (a && b) ≡ true → a ≡ true
and_left true b e = refl
and_left false b e = e

pub and_right : (a b : Bool) → (a && b) ≡ true → b ≡ true
and_right true b e = e
and_right false b e = absurd (false≢true e)

-- where all groups are seen to keep their hits or to count, they rest
pub groups_rest_kept : (form : Form) (gs : List (List Condition)) (truths : List Bool) (lefts hits : List ℕ)
    → groups_keep form gs hits (flat_map next_hits (frames_along gs truths lefts hits)) ≡ true
    → flat_map next_hits (frames_along gs truths lefts hits)
    ≡ flat_map (rested_hits 1 form) (frames_along gs truths lefts hits)
groups_rest_kept form [] truths lefts hits kept = refl
groups_rest_kept form (cs ∷ gs) truths lefts hits kept =
    let n = length cs in
    let f = first cs truths lefts hits in
    let others = frames_along gs (drop n truths) (drop n lefts) (drop n hits) in
    let here = take_part n (next_hits f) (flat_map next_hits others) (length-next f) in
    let behind = drop_part n (next_hits f) (flat_map next_hits others) (length-next f) in
    let split =
    ap (λ hs. all_keep form cs (take n hits) hs && groups_keep form gs (drop n hits)
    (drop n (next_hits f ++ flat_map next_hits others))) (sym here)
    ∙ kept in
    let front = and_left (all_keep form cs (take n hits) (next_hits f)) (groups_keep form gs (drop n hits)
    (drop n (next_hits f ++ flat_map next_hits others))) split in
    let rest = and_right (all_keep form cs (take n hits) (next_hits f)) (groups_keep form gs (drop n hits)
    (drop n (next_hits f ++ flat_map next_hits others))) split in
    ap (λ hs. hs ++ flat_map next_hits others) (rest_kept form f front)
    ∙ ap (λ hs. rested_hits 1 form f ++ hs)
    (groups_rest_kept form gs (drop n truths) (drop n lefts) (drop n hits)
    (ap (groups_keep form gs (drop n hits)) (sym behind) ∙ rest))

-- the conditions of the parts of a value
pub parts_are : (parts : List Part) → map counted_by_part parts ≡ map counted_in (map part_contents parts)
parts_are [] = refl
parts_are (part ∷ parts) = ap (λ gs. counted_by_part part ∷ gs) (parts_are parts)
