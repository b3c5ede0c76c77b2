use Rattle.std.proofs.Common.{◌≡◌, ℕ, ◌<◌, Bool, List, length, map, get_or, refl, sym, ◌∙◌, ap, ap₂, arith}
use Rattle.std.proofs.lemmas.List.{take_all}
use Rattle.ra_schedule.proofs.MembersRest.Counted.{length-owed_by}
use Rattle.ra_value.specs.Lends.{with_hits}
use Rattle.ra_value.specs.Steps.{ValueKept}
use Rattle.ra_value.proofs.HitsLemmas.{with_hits_is}
use Rattle.ra_member.specs.declared.value_run.ValueRun.{ValueRun}
use Rattle.ra_member.specs.Runs.{IsValueRun}
use Rattle.ra_member.proofs.PutBackLemmas.{rest_next}
use Rattle.ra_member.proofs.PutBackRuns.{value_stays}
use Rattle.ra_member.proofs.SideBySide.{beside_set}
use Rattle.ra_schedule.specs.Counted.{CountsSeen, owed_by, owed_value_by, owed_values_by}
use Rattle.ra_schedule.proofs.MembersRest.SideBySideRows.{same_at, as_long, as_many, paid_next}
use Rattle.ra_schedule.proofs.member_counts.pay_values.Goals as goal

abbrev row_hits : CountsSeen → List Bool
row_hits row = row.counted

abbrev hits : ValueRun → List ℕ
hits value = value.value.hits

abbrev kept : ValueRun → ValueKept
kept value = value.value

pub pay-requires : goal.pay-requires
pay-requires c =
    let p = c.loop-place in
    let rows = c.args.rows.now in
    let olds = c.args.values.now in
    let d = c.index-rows-place.result in
    let e = c.index-values-place.result in
    let within : p.place < length rows = omega (arith, as_many row_hits hits rows olds c.requires) in
    ap length (c.counted.ensures ∙ ap row_hits c.index-rows-place.is)
    ∙ as_long row_hits hits rows olds p.place d e within c.requires
    ∙ ap (λ (value : ValueRun). length value.value.hits) (sym (same_at p.values olds p.place e p.invariant.rest))
    ∙ sym (ap length c.hits_mut.ensures.hits)

pub loop-place-preserved : goal.loop-place-preserved
loop-place-preserved c =
    let p = c.loop-place in
    let rows = c.args.rows.now in
    let olds = c.args.values.now in
    let frames = c.args.frames in
    let d = c.index-rows-place.result in
    let e = c.index-values-place.result in
    let old : ValueRun = get_or p.values p.place e in
    let row = c.counted.ensures ∙ ap row_hits c.index-rows-place.is in
    let is : c.pay.new.hits ≡ owed_by frames (get_or rows p.place d).counted old.value.hits =
    c.pay.ensures ∙ ap₂ (owed_by frames) row c.hits_mut.ensures.hits in
    let many : length c.pay.new.hits ≡ length old.value.hits =
    ap length is ∙ length-owed_by frames (get_or rows p.place d).counted old.value.hits in
    let new : ValueRun = record old { value = with_hits old.value c.pay.new.hits } in
    let whole : new.value ≡ record old.value { hits = c.pay.new.hits } = with_hits_is old.value c.pay.new.hits many in
    let within : p.place < length olds = omega arith in
    let within_too : p.place < length p.values = omega arith in
    record {
      stay = λ nodes values are. beside_set (IsValueRun nodes) values p.values p.place e new within_too
          (value_stays old new refl (ap (λ (k : ValueKept). length k.hits) whole ∙ many) refl nodes)
          (p.invariant.stay nodes values are);
      paid = paid_next row_hits kept
          (λ (q : List Bool × ValueKept). owed_value_by frames q.0 q.1) rows olds p.values p.place d e
          (as_many row_hits hits rows olds c.requires) within within_too p.invariant.rest new
          (whole ∙ ap (λ (h : List ℕ). record old.value { hits = h }) is) p.invariant.paid;
      rest = rest_next p.place olds p.values e within within_too p.invariant.rest new;
    }

pub returns-clause-paid : goal.returns-clause-paid
returns-clause-paid c =
    let p = c.loop-place in
    let rows = c.args.rows.now in
    let olds = c.args.values.now in
    let many = as_many row_hits hits rows olds c.requires in
    ap (map kept) (sym (take_all p.place p.values (omega arith)))
    ∙ p.invariant.paid
    ∙ ap₂ (owed_values_by c.args.frames)
    (ap (map row_hits) (take_all p.place rows (omega (arith, many))))
    (ap (map kept) (take_all p.place olds (omega arith)))
