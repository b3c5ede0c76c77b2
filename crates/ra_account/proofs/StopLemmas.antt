-- What stops the groups of a trigger, one group after the other.
use Rattle.std.proofs.Common.{◌≡◌, ℕ, ◌+◌, ◌&&◌, ◌||◌, not, Bool, true, List, [], ◌∷◌, ◌++◌, length, map}
use Rattle.std.proofs.Common.{take, drop, sum_by, refl, sym, ap, ◌∙◌, arith, ne_eqb}
use Rattle.std.specs.Prelude.{◌==◌}
use Rattle.std.specs.List.{list_any}
use Rattle.std.proofs.lemmas.List.Folds.{list_all-map}
use Rattle.std.proofs.lemmas.List.Sums.{sum_by-cons}
use Rattle.std.proofs.Math.Bool.{or-false}
use Rattle.ra_condition.specs.declared.condition.Condition.{Condition}
use Rattle.ra_group.specs.declared.form.Form.TheVariants.{InTrigger}
use Rattle.ra_group.specs.declared.outcome.Outcome.{Outcome}
use Rattle.ra_group.specs.Along.{frame_at}
use Rattle.ra_group.specs.Equations.{Frame, frame_of}
use Rattle.ra_group.specs.Outcome.{outcome_of}
use Rattle.ra_group.proofs.AlongLemmas.{frame_at-drop}
use Rattle.ra_group.proofs.TallyLemmas.{all_push, any_push}
use Rattle.ra_trigger.specs.Steps.{core_or_all, frames_along}
use Rattle.ra_account.specs.declared.stops.Stops.{Stops}
use Rattle.ra_account.specs.Groups.{GroupRow, cut_row, row_frame}
use Rattle.ra_account.specs.declared.moment.Moment.{Moment}
use Rattle.ra_account.specs.Stops.{stops_of, stops_of_all}
use Rattle.ra_account.specs.Triggers.{row_with}

-- the frames of groups with one more
frames_push : (gs : List (List Condition)) (cs : List Condition) (truths : List Bool) (lefts hits : List ℕ)
    → frames_along (gs ++ cs ∷ []) truths lefts hits
    ≡ frames_along gs truths lefts hits ++ frame_at cs truths lefts hits (sum_by length gs) ∷ []
frames_push [] cs truths lefts hits = refl
frames_push (g ∷ gs) cs truths lefts hits =
    let n = length g in
    let rest = frames_along gs (drop n truths) (drop n lefts) (drop n hits) in
    let place = frame_at-drop cs truths lefts hits n (sum_by length gs)
    ∙ ap (frame_at cs truths lefts hits) (sym (sum_by-cons length g gs)) in
    ap (λ fs. frame_of g (take n truths) (take n lefts) (take n hits) ∷ fs)
    (frames_push gs cs (drop n truths) (drop n lefts) (drop n hits) ∙ ap (λ f. rest ++ f ∷ []) place)

-- what stops a group, where it is told by the group's part of a row
pub stops_part : (cs cs' : List Condition) (start start' count : ℕ) (row part : GroupRow) (now : Stops)
    → now ≡ stops_of (row_frame cs part) → part ≡ cut_row count start row
    → cs' ≡ cs → start' ≡ start → count ≡ length cs
    → now ≡ stops_of (frame_at cs' row.truths row.lefts row.hits start')
stops_part cs cs' start start' count row part now told is same starts many =
    let long = many ∙ ap length (sym same) in
    told ∙ ap (λ (r : GroupRow). stops_of (row_frame cs r)) is
    ∙ (λ i. stops_of (row_frame (sym same i) (cut_row (long i) (sym starts i) row)))

abbrev stops : (paused reset : Bool) → Stops
stops paused reset = record { paused = paused; reset = reset }

-- what stops the groups so far together, and one more
pub stops_more : (gs : List (List Condition)) (cs : List Condition) (from : ℕ) (row : GroupRow) (so_far now : Stops)
    → so_far ≡ stops_of_all (frames_along gs (drop from row.truths) (drop from row.lefts) (drop from row.hits))
    → now ≡ stops_of (frame_at cs row.truths row.lefts row.hits (from + sum_by length gs))
    → stops (so_far.paused && now.paused) (so_far.reset || now.reset)
    ≡ stops_of_all (frames_along (gs ++ cs ∷ []) (drop from row.truths) (drop from row.lefts) (drop from row.hits))
stops_more gs cs from row so_far now known is =
    let fs = frames_along gs (drop from row.truths) (drop from row.lefts) (drop from row.hits) in
    let f = frame_at cs row.truths row.lefts row.hits (from + sum_by length gs) in
    let all = all_push (λ g. (stops_of g).paused) fs f in
    let any = any_push (λ g. (stops_of g).reset) fs f in
    let push = frames_push gs cs (drop from row.truths) (drop from row.lefts) (drop from row.hits)
    ∙ ap (λ g. fs ++ g ∷ []) (frame_at-drop cs row.truths row.lefts row.hits from (sum_by length gs)) in
    (λ i. record { paused = (known i).paused && (is i).paused; reset = (known i).reset || (is i).reset })
    ∙ sym (λ i. record { paused = all i; reset = any i })
    ∙ ap stops_of_all (sym push)

-- whether some group resets, by what each says
pub some_resets : (fs : List Frame)
    → list_any (λ f. (stops_of f).reset) fs ≡ list_any (λ o. o.reset) (map (outcome_of InTrigger) fs)
some_resets [] = refl
some_resets (f ∷ fs) = ap (λ b. (outcome_of InTrigger f).reset || b) (some_resets fs)

-- the core is paused, or all alts are where there are alts
pub are_paused : (core : Frame) (alts : List (List Condition)) (truths : List Bool) (lefts hits : List ℕ) (count : ℕ)
    → count ≡ length alts
    → ((stops_of core).paused || (not (count == 0) && (stops_of_all (frames_along alts truths lefts hits)).paused))
    ≡ core_or_all (λ o. o.paused) (map (outcome_of InTrigger) (core ∷ frames_along alts truths lefts hits))
are_paused core [] truths lefts hits count is =
    ap (λ n. (stops_of core).paused || (not (n == 0) && true)) is ∙ or-false (stops_of core).paused
are_paused core (cs ∷ alts) truths lefts hits count is =
    let fs = frames_along (cs ∷ alts) truths lefts hits in
    let some : not (count == 0) ≡ true = ap not (ne_eqb count 0 (λ e. omega (arith, e, is))) in
    ap (λ b. (stops_of core).paused || (b && (stops_of_all fs).paused)) some
    ∙ ap (λ b. (stops_of core).paused || b) (sym (list_all-map (λ (o : Outcome). o.paused) (outcome_of InTrigger) fs))

abbrev moment : (reset paused waited : Bool) → Moment
moment reset paused waited = record { reset = reset; paused = paused; waited = waited }

-- what the trigger as a whole is, by what stops its core and its alts
moment_is : (core : List Condition) (alts : List (List Condition)) (row : GroupRow) (waited : Bool)
    (core_stops alt_stops : Stops) (count : ℕ) (some : Bool)
    → core_stops ≡ stops_of (frame_of core (take (length core) row.truths) (take (length core) row.lefts)
    (take (length core) row.hits))
    → alt_stops ≡ stops_of_all (frames_along alts (drop (length core) row.truths) (drop (length core) row.lefts)
    (drop (length core) row.hits))
    → count ≡ length alts → some ≡ not (count == 0)
    → moment (core_stops.reset || alt_stops.reset) (core_stops.paused || (some && alt_stops.paused)) waited
    ≡ (row_with (record { core = core; alts = alts }) waited row).moment
moment_is core alts row waited core_stops alt_stops count some core_is alts_are many are =
    let n = length core in
    let f = frame_of core (take n row.truths) (take n row.lefts) (take n row.hits) in
    let fs = frames_along alts (drop n row.truths) (drop n row.lefts) (drop n row.hits) in
    let resets = ap (λ b. (stops_of f).reset || b) (some_resets fs) in
    let pauses = are_paused f alts (drop n row.truths) (drop n row.lefts) (drop n row.hits) count many in
    (λ i. record {
      reset = (core_is i).reset || (alts_are i).reset;
      paused = (core_is i).paused || (are i && (alts_are i).paused);
      waited = waited;
    })
    ∙ (λ i. record { reset = resets i; paused = pauses i; waited = waited })

-- the same, where what stops them is told by the slices of a row
pub moment_told : (core : List Condition) (alts gs : List (List Condition)) (from : ℕ) (row : GroupRow) (waited : Bool)
    (core_stops alt_stops : Stops) (count : ℕ) (some : Bool)
    → core_stops ≡ stops_of (frame_of core (take from row.truths) (take from row.lefts) (take from row.hits))
    → alt_stops ≡ stops_of_all (frames_along gs (drop from row.truths) (drop from row.lefts) (drop from row.hits))
    → from ≡ length core → gs ≡ alts → count ≡ length alts → some ≡ not (count == 0)
    → moment (core_stops.reset || alt_stops.reset) (core_stops.paused || (some && alt_stops.paused)) waited
    ≡ (row_with (record { core = core; alts = alts }) waited row).moment
moment_told core alts gs from row waited core_stops alt_stops count some core_is alts_are long texts many are =
    moment_is core alts row waited core_stops alt_stops count some
    (core_is
    ∙ (λ i. stops_of (frame_of core (take (long i) row.truths) (take (long i) row.lefts) (take (long i) row.hits))))
    (alts_are
    ∙ (λ i. stops_of_all (frames_along (texts i) (drop (long i) row.truths) (drop (long i) row.lefts)
    (drop (long i) row.hits))))
    many are
