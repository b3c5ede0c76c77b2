use Rattle.std.proofs.Common.{◌<◌, length, get_or, refl, arith}
use Rattle.ra_value.specs.Kept.{cleared}
use Rattle.ra_member.specs.declared.value_run.ValueRun.{ValueRun}
use Rattle.ra_member.specs.Runs.{IsValueRun}
use Rattle.ra_member.proofs.PutBackLemmas.{mapped_next, rest_next}
use Rattle.ra_member.proofs.PutBackRuns.{value_cleared}
use Rattle.ra_member.proofs.SideBySide.{beside_set}
use Rattle.ra_member.proofs.member.reset_each.Goals as goal

pub loop-place-preserved : goal.loop-place-preserved
loop-place-preserved c =
    let p = c.loop-place in
    let olds = c.args.values.now in
    let d = c.index-values-place.result in
    let old : ValueRun = get_or p.values p.place d in
    let new : ValueRun = record old { value = c.reset.new.self } in
    let within : p.place < length olds = omega arith in
    let within_too : p.place < length p.values = omega arith in
    record {
      stay = λ nodes values are. beside_set (IsValueRun nodes) values p.values p.place d new
          within_too (value_cleared old new refl c.reset.ensures nodes)
          (p.invariant.stay nodes values are);
      kept = mapped_next p.place olds p.values d within within_too p.invariant.rest (λ
          (v : ValueRun). v.value)
          (λ (v : ValueRun). cleared v.value) new c.reset.ensures p.invariant.kept;
      rest = rest_next p.place olds p.values d within within_too p.invariant.rest new;
    }
