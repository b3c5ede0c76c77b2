use Rattle.std.proofs.Common.{◌==◌, ◌&&◌, ◌||◌, not, false, length, slice_index, slice_index_or, ap, ◌∙◌, arith}
use Rattle.std.specs.List.{list_all, range_with_len}
use Rattle.std.proofs.lemmas.List.{take_all}
use Rattle.std.proofs.lemmas.List.FromFn.{fill_by_all, length-range_with_len}
use Rattle.ra_schedule.proofs.MembersRest.Counted.{keeps_place}
use Rattle.ra_schedule.proofs.MembersRest.Judged.{all_next, filled_next}
use Rattle.ra_schedule.proofs.counts.judge_row.Goals as goal

pub loop-place-preserved : goal.loop-place-preserved
loop-place-preserved c =
    let p = c.loop-place in
    let before = c.args.before.now in
    let after = c.args.after.now in
    record {
      bits = filled_next p.counted (λ k. not (slice_index after k == slice_index before k)) p.place
          (omega arith) p.invariant.bits;
      so_far = all_next (keeps_place c.args.free.now before after)
          (length after) p.place p.keeps _ c.loop-place-test.true p.invariant.so_far
          (ap (λ one. (slice_index after p.place == slice_index before p.place)
          || (slice_index_or c.args.free.now p.place false && one)) c.is_one_more.ensures);
    }

pub returns-clause-counted : goal.returns-clause-counted
returns-clause-counted c =
    let before = c.args.before.now in
    let after = c.args.after.now in
    fill_by_all (λ k. not (slice_index after k == slice_index before k)) c.loop-place.counted
    (length after) false (omega arith)
    (λ k l. c.loop-place.invariant.bits k (omega (arith, l)))

pub returns-clause-keeps : goal.returns-clause-keeps
returns-clause-keeps c =
    let after = c.args.after.now in
    c.loop-place.invariant.so_far
    ∙ ap (list_all (keeps_place c.args.free.now c.args.before.now after))
    (take_all c.loop-place.place (range_with_len 0 (length after))
    (omega (arith, length-range_with_len 0 (length after))))
