use Rattle.std.proofs.Common.{◌≡◌, drop}
use Rattle.ra_member.specs.declared.value_run.ValueRun.{ValueRun}
use Rattle.ra_member.specs.MemberRuns.{StayValues}
use Rattle.ra_member.proofs.PutBackLemmas.{IsRowBack}
use Rattle.ra_member.proofs.put_back.put_back_values.Given as goal

abbrev pub invariant-loop-place : goal.invariant-loop-place
invariant-loop-place l = record {
  stay : StayValues l.fn.values l.values;
  hits : IsRowBack (λ (v : ValueRun). v.value.hits) l.bytes l.fn.from.hits l.at.hits l.place l.fn.values l.values;
  numbers : IsRowBack (λ (v : ValueRun). v.value.numbers) l.bytes l.fn.from.numbers l.at.numbers
      l.place l.fn.values l.values;
  rest : drop l.place l.values ≡ drop l.place l.fn.values;
}
