use Rattle.std.proofs.Common.{◌<◌, length, arith}
use Rattle.ra_member.specs.declared.value_run.ValueRun.{ValueRun}
use Rattle.ra_member.specs.Runs.{IsValueRun}
use Rattle.ra_member.proofs.PutBackLemmas.{within_bytes, row_next, row_ends, rest_next}
use Rattle.ra_member.proofs.PutBackRuns.{value_back}
use Rattle.ra_member.proofs.SideBySide.{beside_set}
use Rattle.ra_member.proofs.put_back.put_back_values.Goals as goal

pub put_back_value-at-requires-clause-hits : goal.put_back_value-at-requires-clause-hits
put_back_value-at-requires-clause-hits c =
    let p = c.loop-place in
    let within : p.place < length c.args.values.now = omega arith in
    let within_too : p.place < length p.values = omega arith in
    within_bytes p.place c.args.values.now p.values c.index-values-place.result within within_too
    p.invariant.rest (λ (v : ValueRun). v.value.hits) c.args.bytes.now c.args.from.hits
    p.at.hits p.invariant.hits (length c.args.bytes.now) c.requires.hits

pub put_back_value-at-requires-clause-numbers : goal.put_back_value-at-requires-clause-numbers
put_back_value-at-requires-clause-numbers c =
    let p = c.loop-place in
    let within : p.place < length c.args.values.now = omega arith in
    let within_too : p.place < length p.values = omega arith in
    within_bytes p.place c.args.values.now p.values c.index-values-place.result within within_too
    p.invariant.rest (λ (v : ValueRun). v.value.numbers) c.args.bytes.now c.args.from.numbers
    p.at.numbers p.invariant.numbers (length c.args.bytes.now) c.requires.numbers

pub loop-place-preserved : goal.loop-place-preserved
loop-place-preserved c =
    let p = c.loop-place in
    let bytes = c.args.bytes.now in
    let olds = c.args.values.now in
    let d = c.index-values-place.result in
    let new = c.put_back_value-at.new.run in
    let at = c.put_back_value-at.result in
    let e = c.put_back_value-at.ensures in
    let within : p.place < length olds = omega arith in
    let within_too : p.place < length p.values = omega arith in
    record {
      stay = λ nodes values are. beside_set (IsValueRun nodes) values p.values p.place d new
          within_too (value_back bytes p.at.hits p.at.numbers _ new e.value nodes)
          (p.invariant.stay nodes values are);
      hits = row_next p.place olds p.values d within within_too p.invariant.rest
          (λ (v : ValueRun). v.value.hits) bytes c.args.from.hits p.at.hits p.invariant.hits new
          at.hits e.value.hits_too e.hits;
      numbers = row_next p.place olds p.values d within within_too p.invariant.rest
          (λ (v : ValueRun). v.value.numbers) bytes c.args.from.numbers p.at.numbers
          p.invariant.numbers new at.numbers e.value.numbers_too e.numbers;
      rest = rest_next p.place olds p.values d within within_too p.invariant.rest new;
    }

pub returns-clause-hits : goal.returns-clause-hits
returns-clause-hits c =
    let p = c.loop-place in
    (row_ends (λ (v : ValueRun). v.value.hits) c.args.bytes.now c.args.from.hits p.at.hits p.place
    c.args.values.now p.values (omega arith) (omega arith) p.invariant.hits).0

pub returns-clause-numbers : goal.returns-clause-numbers
returns-clause-numbers c =
    let p = c.loop-place in
    (row_ends (λ (v : ValueRun). v.value.numbers) c.args.bytes.now c.args.from.numbers p.at.numbers
    p.place c.args.values.now p.values (omega arith) (omega arith) p.invariant.numbers).0

pub returns-clause-next_hits : goal.returns-clause-next_hits
returns-clause-next_hits c =
    let p = c.loop-place in
    (row_ends (λ (v : ValueRun). v.value.hits) c.args.bytes.now c.args.from.hits p.at.hits p.place
    c.args.values.now p.values (omega arith) (omega arith) p.invariant.hits).1

pub returns-clause-next_numbers : goal.returns-clause-next_numbers
returns-clause-next_numbers c =
    let p = c.loop-place in
    (row_ends (λ (v : ValueRun). v.value.numbers) c.args.bytes.now c.args.from.numbers p.at.numbers
    p.place c.args.values.now p.values (omega arith) (omega arith) p.invariant.numbers).1
