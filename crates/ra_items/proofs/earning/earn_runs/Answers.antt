use Rattle.std.proofs.Common.{◌≡◌, ◌<◌, ◌++◌, [], refl, length, take, drop, sym, ◌∙◌, ap, ap₂, append-nil, arith}
use Rattle.std.proofs.lemmas.List.{take_all, drop_all}
use Rattle.ra_items.specs.Earning.{earned_runs}
use Rattle.ra_items.proofs.EarnedRuns.{earned_next, earned_none}
use Rattle.ra_items.proofs.RunsLemmas.{rest_more}
use Rattle.ra_items.proofs.earning.earn_runs.Goals as goal

pub loop-place-preserved : goal.loop-place-preserved
loop-place-preserved c =
    let p = c.loop-place in
    let earned = c.args.earned.now in
    let olds = c.args.runs.now in
    let d = c.index-runs-place.result in
    let new = c.earn_run.new.run in
    let within : p.place < length olds = omega arith in
    let within_runs : p.place < length p.runs = omega arith in
    let placed : p.place < length earned = omega (arith, c.requires) in
    record {
      done = earned_next earned p.place olds p.runs d within within_runs placed p.invariant.rest new
          _ refl c.earn_run.ensures ∙ p.invariant.done;
      rest = rest_more p.runs olds p.place d new within_runs within p.invariant.rest;
    }

pub returns : goal.returns
returns c =
    let p = c.loop-place in
    let olds = c.args.runs.now in
    let all : take p.place p.runs ≡ p.runs = take_all p.place p.runs (omega arith) in
    let none : drop p.place olds ≡ [] = drop_all p.place olds (omega arith) in
    let left = drop p.place c.args.earned.now in
    sym (append-nil p.runs)
    ∙ sym (ap₂ (λ runs more. runs ++ more) all (ap (earned_runs left) none ∙ earned_none left))
    ∙ p.invariant.done
