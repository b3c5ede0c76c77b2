use Rattle.std.proofs.Common.{false, map, sym, ◌∙◌, ap, arith}
use Rattle.std.proofs.lemmas.List.{get_or-map, get_or_past, length-map}
use Rattle.ra_meaning.specs.Earned.{is_earned}
use Rattle.ra_items.specs.ItemRuns.{kept_run}
use Rattle.ra_items.proofs.earning.earned_in.Goals as goal

pub returns-then-place-runs : goal.returns-then-place-runs
returns-then-place-runs c =
    let runs = c.args.runs.now in
    let run = c.index-runs-place.result in
    let place = c.args.place in
    c.is_run_earned.ensures
    ∙ ap (λ r. is_earned (kept_run r)) c.index-runs-place.is
    ∙ sym (get_or-map is_earned (map kept_run runs) place (kept_run run) false (omega (arith, length-map runs kept_run))
    ∙ ap is_earned (get_or-map kept_run runs place run (kept_run run) (omega arith)))

pub returns-else-place-runs : goal.returns-else-place-runs
returns-else-place-runs c =
    let runs = c.args.runs.now in
    let kept = map kept_run runs in
    sym (get_or_past (map is_earned kept) c.args.place false
    (omega (arith, length-map kept is_earned, length-map runs kept_run)))
