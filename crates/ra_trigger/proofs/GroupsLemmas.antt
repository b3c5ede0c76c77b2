-- The frames of the groups of a trigger, one group after the other.
use Rattle.std.proofs.Common.{◌≡◌, ℕ, ◌+◌, Bool, not, ◌&&◌, Option, List, [], ◌∷◌, ◌++◌, length, take, drop, map}
use Rattle.std.proofs.Common.{sum_by, refl, sym, ap, ◌∙◌, arith, append_assoc, length-append}
use Rattle.std.specs.List.{flat_map, list_any}
use Rattle.std.proofs.lemmas.List.{drop-drop, take_at, drop_at, append-nil, map_push, drop_all}
use Rattle.std.proofs.lemmas.List.Sums.{sum_by-cons, sum_by-append}
use Rattle.std.proofs.lemmas.Grind.{flat_map-append}
use Rattle.ra_condition.specs.declared.condition.Condition.{Condition}
use Rattle.ra_group.specs.declared.form.Form.TheVariants.{InTrigger}
use Rattle.ra_group.specs.Equations.{Frame, frame_of}
use Rattle.ra_group.specs.Outcome.{outcome_of, next_hits}
use Rattle.ra_group.proofs.AlongLemmas.{frame_at-drop, length-next_hits}
use Rattle.ra_group.specs.Along.{frame_at, with_part}
use Rattle.ra_trigger.specs.declared.gathered.Gathered.{Gathered}
use Rattle.ra_trigger.specs.declared.verdict.Verdict.{Verdict}
use Rattle.ra_trigger.specs.Steps.{frames_along, has_trigger, together}
use Rattle.ra_trigger.specs.Gathering.{gathered_of, added, verdict_by, verdict_of}
use Rattle.ra_trigger.proofs.GatherLemmas.{gathered_of-push, core_and_some-gathered, core_or_all-gathered}

-- one group more
frames_along-push : (gs : List (List Condition)) (cs : List Condition) (truths : List Bool)
    (lefts hits : List ℕ) → frames_along (gs ++ cs ∷ []) truths lefts hits
    ≡ frames_along gs truths lefts hits ++ frame_at cs truths lefts hits (sum_by length gs) ∷ []
frames_along-push [] cs truths lefts hits = refl
frames_along-push (g ∷ gs) cs truths lefts hits =
    let rest = frames_along gs (drop (length g) truths) (drop (length g) lefts) (drop (length g) hits) in
    let place = frame_at-drop cs truths lefts hits (length g) (sum_by length gs)
    ∙ ap (frame_at cs truths lefts hits) (sym (sum_by-cons length g gs)) in
    ap (λ fs. frame_of g (take (length g) truths) (take (length g) lefts) (take (length g) hits) ∷ fs)
    (frames_along-push gs cs (drop (length g) truths) (drop (length g) lefts) (drop (length g) hits)
    ∙ ap (λ f. rest ++ f ∷ []) place)

-- a hit for each condition of the groups
pub length-hits_along : (gs : List (List Condition)) (truths : List Bool) (lefts hits : List ℕ)
    → length (flat_map next_hits (frames_along gs truths lefts hits)) ≡ sum_by length gs
length-hits_along [] truths lefts hits = refl
length-hits_along (g ∷ gs) truths lefts hits =
    let first = frame_of g (take (length g) truths) (take (length g) lefts) (take (length g) hits) in
    let rest = frames_along gs (drop (length g) truths) (drop (length g) lefts) (drop (length g) hits) in
    length-append (next_hits first) (flat_map next_hits rest)
    ∙ ap (λ n. n + length (flat_map next_hits rest)) (length-next_hits first)
    ∙ ap (λ n. length g + n)
    (length-hits_along gs (drop (length g) truths) (drop (length g) lefts) (drop (length g) hits))
    ∙ sym (sum_by-cons length g gs)

-- how far the groups are stepped: the core and these alts
pub record HasStepped (truths : List Bool) (lefts hits : List ℕ) (core : List Condition)
    (alts : List (List Condition)) (start : ℕ) (gathered : Gathered) (now : List ℕ) : Type 0 where
  pub starts : start ≡ length core + sum_by length alts
  pub gathers : gathered ≡ gathered_of (outcome_of InTrigger (frame_at core truths lefts hits 0))
      (map (outcome_of InTrigger) (frames_along alts (drop (length core) truths)
      (drop (length core) lefts) (drop (length core) hits)))
  pub written : now ≡ flat_map next_hits (frames_along (core ∷ alts) truths lefts hits) ++ drop start hits

abbrev verdict : (reset valid paused primed from_hits : Bool) → Option ℕ → Verdict
verdict reset valid paused primed from_hits measured =
    record {
      reset = reset;
      valid = valid;
      paused = paused;
      primed = primed;
      from_hits = from_hits;
      measured = measured;
    }

same_verdict : {reset valid valid' paused paused' primed primed' from_hits : Bool}
    {measured : Option ℕ} → valid ≡ valid' → paused ≡ paused' → primed ≡ primed' → verdict reset
    valid paused primed from_hits measured ≡ verdict reset valid' paused' primed' from_hits measured
same_verdict p q r = cc

part_here : (xs part : List ℕ) (n : ℕ) → length part ≡ n → with_part xs 0 part ≡ part ++ drop n xs
part_here xs part n e = let z : 0 + length part ≡ n = omega arith in ap (λ m. part ++ drop m xs) z

module _ (truths : List Bool) (lefts hits : List ℕ) (core : List Condition) where
  pub stepped_core : (now : List ℕ) → now ≡ with_part hits 0
      (next_hits (frame_at core truths lefts hits 0)) → HasStepped truths lefts hits core []
      (length core) (gathered_of (outcome_of InTrigger (frame_at core truths lefts hits 0)) []) now
  stepped_core now is = record {
    starts = omega arith;
    gathers = refl;
    written = is ∙ part_here hits (next_hits (frame_at core truths lefts hits 0)) (length core)
        (length-next_hits (frame_at core truths lefts hits 0)) ∙ ap (λ xs. xs ++ drop
        (length core) hits) (sym (append-nil (next_hits (frame_at core truths lefts hits 0))));
  }

  -- what was stepped ends where the next group starts
  ends : (alts : List (List Condition)) (start : ℕ) → start ≡ length core + sum_by length alts
      → length (flat_map next_hits (frames_along (core ∷ alts) truths lefts hits)) ≡ start
  ends alts start e = length-hits_along (core ∷ alts) truths lefts hits ∙ sum_by-cons length core alts ∙ sym e

  -- the next group still has its old hits
  frame_now : (cs : List Condition) (alts : List (List Condition)) (start : ℕ) (gathered : Gathered)
      (now : List ℕ) → HasStepped truths lefts hits core alts start gathered now
      → frame_at cs truths lefts now start ≡ frame_at cs truths lefts hits start
  frame_now cs alts start gathered now so =
      ap (λ hs. frame_of cs (take (length cs) (drop start truths))
      (take (length cs) (drop start lefts)) (take (length cs) hs))
      (ap (drop start) so.written ∙ drop_at (flat_map next_hits (frames_along
      (core ∷ alts) truths lefts hits)) (drop start hits) start (ends alts start so.starts))

  -- the frames with one alt more
  frames_more : (cs : List Condition) (alts : List (List Condition)) (start : ℕ) → start
      ≡ length core + sum_by length alts → frames_along (alts ++ cs ∷ [])
      (drop (length core) truths) (drop (length core) lefts) (drop (length core) hits)
      ≡ frames_along alts (drop (length core) truths) (drop (length core) lefts)
      (drop (length core) hits) ++ frame_at cs truths lefts hits start ∷ []
  frames_more cs alts start e =
      let rest = frames_along alts (drop (length core) truths) (drop (length core) lefts) (drop (length core) hits) in
      frames_along-push alts cs (drop (length core) truths) (drop (length core) lefts) (drop (length core) hits)
      ∙ ap (λ f. rest ++ f ∷ []) (frame_at-drop cs truths lefts hits (length core)
      (sum_by length alts) ∙ ap (frame_at cs truths lefts hits) (sym e))

  flat_push : (fs : List Frame) (f : Frame) → flat_map next_hits (fs ++ f ∷ []) ≡ flat_map next_hits fs ++ next_hits f
  flat_push fs f = flat_map-append next_hits fs (f ∷ [])
      ∙ ap (λ xs. flat_map next_hits fs ++ xs) (append-nil (next_hits f))

  pub stepped_alt : (cs : List Condition) (alts : List (List Condition)) (start start' : ℕ)
      (gathered gathered' : Gathered) (now now' : List ℕ)
      → HasStepped truths lefts hits core alts start gathered now → start' ≡ start + length cs
      → gathered' ≡ added (outcome_of InTrigger (frame_at cs truths lefts now start)) gathered
      → now' ≡ with_part now start (next_hits (frame_at cs truths lefts now start))
      → HasStepped truths lefts hits core (alts ++ cs ∷ []) start' gathered' now'
  stepped_alt cs alts start start' gathered gathered' now now' so is_start is_gathered is_now =
      let f = frame_at cs truths lefts hits start in
      let same : frame_at cs truths lefts now start ≡ f = frame_now cs alts start gathered now so in
      let core_out = outcome_of InTrigger (frame_at core truths lefts hits 0) in
      let rest = frames_along alts (drop (length core) truths) (drop (length core) lefts) (drop (length core) hits) in
      let done = flat_map next_hits (frames_along (core ∷ alts) truths lefts hits) in
      let long = ends alts start so.starts in
      let more = frames_more cs alts start so.starts in
      let outcomes : map (outcome_of InTrigger) (frames_along (alts ++ cs ∷ [])
      (drop (length core) truths) (drop (length core) lefts) (drop (length core) hits))
      ≡ map (outcome_of InTrigger) rest ++ outcome_of InTrigger f ∷ [] =
      ap (map (outcome_of InTrigger)) more ∙ map_push (outcome_of InTrigger) rest f in
      let end : start + length (next_hits f) ≡ start' = ap (λ n. start + n) (length-next_hits f) ∙ sym is_start in
      record {
        starts = omega (arith, is_start, so.starts, sum_by-append length alts (cs ∷ []), sum_by-cons length cs []);
        gathers =
            is_gathered
            ∙ ap (λ fr. added (outcome_of InTrigger fr) gathered) same
            ∙ ap (added (outcome_of InTrigger f)) so.gathers
            ∙ sym (ap (gathered_of core_out) outcomes
            ∙ gathered_of-push core_out (map (outcome_of InTrigger) rest) (outcome_of InTrigger f));
        written =
            is_now
            ∙ ap (λ fr. with_part now start (next_hits fr)) same
            ∙ ap (λ xs. with_part xs start (next_hits f)) so.written
            ∙ ap (λ xs. xs ++ (next_hits f ++ drop (start + length (next_hits f))
            (done ++ drop start hits))) (take_at done (drop start hits) start long)
            ∙ ap (λ n. done ++ (next_hits f ++ drop n (done ++ drop start hits))) end
            ∙ ap (λ xs. done ++ (next_hits f ++ xs)) (past done start start' (length cs) long is_start)
            ∙ sym (append_assoc done (next_hits f) (drop start' hits))
            ∙ ap (λ xs. xs ++ drop start' hits) (sym (hits_more rest f more));
      }
    where
      past : (done : List ℕ) (start start' n : ℕ) → length done ≡ start → start' ≡ start + n
          → drop start' (done ++ drop start hits) ≡ drop start' hits
      past done start start' n long e =
          ap (λ m. drop m (done ++ drop start hits)) e
          ∙ sym (drop-drop n start (done ++ drop start hits))
          ∙ ap (drop n) (drop_at done (drop start hits) start long)
          ∙ drop-drop n start hits
          ∙ ap (λ m. drop m hits) (sym e)

      hits_more : (rest : List Frame) (f : Frame) → frames_along (alts ++ cs ∷ []) (drop
          (length core) truths) (drop (length core) lefts) (drop (length core) hits) ≡ rest ++ f
          ∷ [] → flat_map next_hits (frames_along (core ∷ (alts ++ cs ∷ [])) truths lefts hits)
          ≡ flat_map next_hits (frame_at core truths lefts hits 0 ∷ rest) ++ next_hits f
      hits_more rest f e =
          ap (λ fs. next_hits (frame_at core truths lefts hits 0) ++ flat_map next_hits fs) e
          ∙ ap (λ xs. next_hits (frame_at core truths lefts hits 0) ++ xs) (flat_push rest f)
          ∙ sym (append_assoc (next_hits (frame_at core truths lefts hits 0)) (flat_map next_hits rest) (next_hits f))

  -- all groups are stepped
  pub stepped_verdict : (alts : List (List Condition)) (start : ℕ) (gathered : Gathered)
      (now : List ℕ) → HasStepped truths lefts hits core alts start gathered now
      → verdict_by (has_trigger (core ∷ alts)) gathered
      ≡ verdict_of (together (record { core = core; alts = alts }) truths lefts hits)
  stepped_verdict alts start gathered now so =
      let core_out = outcome_of InTrigger (frame_at core truths lefts hits 0) in
      let os = map (outcome_of InTrigger) (frames_along alts (drop (length core) truths)
      (drop (length core) lefts) (drop (length core) hits)) in
      let reset = list_any (λ o. o.reset) (core_out ∷ os) in
      ap (verdict_by (has_trigger (core ∷ alts))) so.gathers
      ∙ same_verdict
      (ap (λ b. not reset && b) (sym (core_and_some-gathered (λ o. o.valid) core_out os)))
      (sym (core_or_all-gathered (λ o. o.paused) core_out os))
      (ap (λ b. not reset && (has_trigger (core ∷ alts) && b))
      (sym (core_and_some-gathered (λ o. o.primed) core_out os)))

  pub stepped_hits : (alts : List (List Condition)) (start : ℕ) (gathered : Gathered) (now : List ℕ)
      → length hits ≡ start → HasStepped truths lefts hits core alts start gathered now → now
      ≡ (together (record { core = core; alts = alts }) truths lefts hits).hits
  stepped_hits alts start gathered now long so =
      so.written
      ∙ ap (λ xs. flat_map next_hits (frames_along (core ∷ alts) truths lefts hits) ++ xs)
      (drop_all start hits (omega arith))
      ∙ append-nil (flat_map next_hits (frames_along (core ∷ alts) truths lefts hits))
