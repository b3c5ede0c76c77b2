use Rattle.std.proofs.Common.{◌≡◌, cond, false, slice_index, slice_index_or, sym, subst, arith}
use Rattle.std.proofs.lemmas.List.FromFn.{fill_by_all}
use Rattle.ra_schedule.specs.Counted.{owed_by}
use Rattle.ra_schedule.specs.Groups.{plus}
use Rattle.ra_schedule.proofs.MembersRest.Counted.{owed_by_nothing}
use Rattle.ra_schedule.proofs.counts.pay.Goals as goal

pub returns-then-frames-eq0 : goal.returns-then-frames-eq0
returns-then-frames-eq0 c =
    subst (λ n. c.args.hits.now ≡ owed_by n c.args.counted.now c.args.hits.now) (sym c.if-frames-eq0.true)
    (sym (owed_by_nothing c.args.counted.now c.args.hits.now (λ j. (let fit = c.type_inv.hits j in omega arith))))

pub returns : goal.returns
returns c =
    fill_by_all (λ k. cond (slice_index_or c.args.counted.now k false) (plus c.args.frames (slice_index c.args.hits.now
    k)) (slice_index c.args.hits.now k)) c.loop-place.hits _ 0 (omega arith)
    (λ k l. c.loop-place.invariant.paid k (omega arith))
