-- What the core and the alts so far say together, and the verdict that it comes to: the step between the code and
-- docs/DEFINITIONS.md, "Triggers over frames".
use Rattle.std.specs.Prelude.{Bool, true, false, not, ◌&&◌, ◌||◌, List, [], ◌∷◌}
use Rattle.std.specs.List.{list_any, list_all}
use Rattle.ra_group.specs.declared.outcome.Outcome.{Outcome}
use Rattle.ra_group.specs.Outcome.{larger}
use Rattle.ra_trigger.specs.declared.gathered.Gathered.{Gathered}
use Rattle.ra_trigger.specs.declared.verdict.Verdict.{Verdict}
use Rattle.ra_trigger.specs.Steps.{Together, greatest_of}

-- there are alts
abbrev pub are_there : List Outcome → Bool
are_there [] = false
are_there (alt ∷ alts) = true

-- what the core and these alts say together
abbrev pub gathered_of : Outcome → List Outcome → Gathered
gathered_of core alts = record {
  core = core;
  reset = list_any (λ o. o.reset) (core ∷ alts);
  from_hits = list_any (λ o. o.from_hits) (core ∷ alts);
  measured = greatest_of (core ∷ alts);
  alts = are_there alts;
  some_valid = list_any (λ o. o.valid) alts;
  some_primed = list_any (λ o. o.primed) alts;
  all_paused = list_all (λ o. o.paused) alts;
}

-- what is gathered with one alt more
abbrev pub added : Outcome → Gathered → Gathered
added alt g = record {
  core = g.core;
  reset = g.reset || alt.reset;
  from_hits = g.from_hits || alt.from_hits;
  measured = larger g.measured alt.measured;
  alts = true;
  some_valid = g.some_valid || alt.valid;
  some_primed = g.some_primed || alt.primed;
  all_paused = g.all_paused && alt.paused;
}

-- the verdict that what is gathered comes to, some condition a Trigger or not
abbrev pub verdict_by : Bool → Gathered → Verdict
verdict_by triggers g = record {
  reset = g.reset;
  valid = not g.reset && (g.core.valid && (not g.alts || g.some_valid));
  paused = g.core.paused || (g.alts && g.all_paused);
  primed = not g.reset && (triggers && (g.core.primed && (not g.alts || g.some_primed)));
  from_hits = g.from_hits;
  measured = g.measured;
}

-- the verdict of what the groups say together, without their hits
abbrev pub verdict_of : Together → Verdict
verdict_of now =
    record {
      reset = now.reset;
      valid = now.valid;
      paused = now.paused;
      primed = now.primed;
      from_hits = now.from_hits;
      measured = now.measured;
    }
