use Rattle.std.proofs.Common.{◌≡◌, ◌<◌, ◌++◌, [], refl, length, map, take, drop, sym, ◌∙◌, ap₂, append-nil, arith}
use Rattle.std.proofs.lemmas.List.{take_all, drop_all}
use Rattle.ra_items.specs.ItemRuns.{kept_run}
use Rattle.ra_items.specs.Restoring.{restored_items}
use Rattle.ra_items.proofs.RestoredRuns.{item_has, kept_next, runs_next, rest_next}
use Rattle.ra_items.proofs.restored.put_back_runs.Goals as goal

pub put_back_item-requires : goal.put_back_item-requires
put_back_item-requires c =
    let p = c.loop-place in
    let within : p.place < length c.args.runs.now = omega arith in
    let within_runs : p.place < length p.runs = omega arith in
    let placed : p.place < length c.args.places.now = omega (arith, c.requires.many) in
    item_has c.args.bytes.now c.args.places.now p.place c.args.runs.now p.runs
    c.index-runs-place.result within within_runs placed p.invariant.rest c.requires.blocks _ refl

pub loop-place-preserved : goal.loop-place-preserved
loop-place-preserved c =
    let p = c.loop-place in
    let bytes = c.args.bytes.now in
    let places = c.args.places.now in
    let olds = c.args.runs.now in
    let d = c.index-runs-place.result in
    let new = c.put_back_item.new.run in
    let within : p.place < length olds = omega arith in
    let within_runs : p.place < length p.runs = omega arith in
    let placed : p.place < length places = omega (arith, c.requires.many) in
    let back = c.put_back_item.ensures in
    record {
      kept = kept_next bytes places p.place olds p.runs d within within_runs placed p.invariant.rest
          new _ refl back p.invariant.kept;
      runs = λ nodes items are. runs_next bytes places p.place olds p.runs d within within_runs
          placed p.invariant.rest new _ refl back nodes items (p.invariant.runs nodes items are);
      rest = rest_next bytes places p.place olds p.runs d within within_runs placed p.invariant.rest new _ refl back;
    }

pub returns-clause-kept : goal.returns-clause-kept
returns-clause-kept c =
    let p = c.loop-place in
    let olds = c.args.runs.now in
    let all : take p.place p.runs ≡ p.runs = take_all p.place p.runs (omega arith) in
    let none : drop p.place olds ≡ [] = drop_all p.place olds (omega arith) in
    sym (append-nil (map kept_run p.runs))
    ∙ sym (ap₂ (λ runs left. map kept_run runs
    ++ restored_items c.args.bytes.now left (drop p.place c.args.places.now)) all none)
    ∙ p.invariant.kept
