use Rattle.std.proofs.Common.{Some, option_map, sym, ◌∙◌, ap, arith}
use Rattle.ra_items.specs.ItemStates.{run_state}
use Rattle.ra_items.proofs.ItemStates.{run_within, run_past}
use Rattle.ra_items.proofs.runs.state_in.Goals as goal

pub returns-then-place-runs : goal.returns-then-place-runs
returns-then-place-runs c =
    let runs = c.args.runs.now in
    let run = c.index-runs-place.result in
    ap Some c.state.ensures
    ∙ ap (λ r. Some (run_state r)) c.index-runs-place.is
    ∙ ap (option_map run_state) (sym (run_within runs c.args.place run (omega arith)))

pub returns-else-place-runs : goal.returns-else-place-runs
returns-else-place-runs c =
    ap (option_map run_state) (sym (run_past c.args.runs.now c.args.place (omega arith)))
