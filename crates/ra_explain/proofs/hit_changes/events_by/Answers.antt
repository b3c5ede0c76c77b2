use Rattle.std.proofs.Common.{arith, ◌≡◌, ◌+◌, take, get_or, ap, sym, ◌∙◌}
use Rattle.std.proofs.lemmas.List.{length-take-le, take_all, take_more}
use Rattle.ra_explain.specs.HitChanges.{ChangesSeen, unchanged, changed_by, with_row, hits_by}
use Rattle.ra_explain.specs.Replays.{noted_one}
use Rattle.ra_explain.proofs.ChangeLemmas.{changed_more, changed_row}
use Rattle.ra_explain.proofs.hit_changes.events_by.Goals as goal

pub loop-place-preserved : goal.loop-place-preserved
loop-place-preserved c =
    let changes = c.args.changes.now in
    let place = c.loop-place.place in
    let inv = c.loop-place.invariant in
    let so_far : ChangesSeen = changed_by (unchanged c.args.since) (take place changes) in
    let change = get_or changes place _ in
    let more : changed_by (unchanged c.args.since) (take (place + 1) changes)
    ≡ with_row so_far (hits_by change so_far.hits) =
    ap (changed_by (unchanged c.args.since)) (take_more changes place _ c.loop-place-test.true)
    ∙ changed_more (unchanged c.args.since) (take place changes) change in
    let row : so_far.row ≡ c.args.since + place =
    changed_row (unchanged c.args.since) (take place changes) ∙ ap (λ n. c.args.since + n)
    (length-take-le place changes (omega (arith, c.loop-place-test.true))) in
    let hits : c.after-hits.result ≡ hits_by change so_far.hits = c.after-hits.ensures ∙ ap (hits_by change) inv.hits in
    record {
      hits = hits ∙ sym (ap (λ (o : ChangesSeen). o.hits) more);
      events = c.in_ok-note_one.ensures ∙ (λ i. noted_one (sym row i) (inv.events i) (inv.hits i)
          (hits i)) ∙ sym (ap (λ (o : ChangesSeen). o.events) more);
    }

pub returns : goal.returns
returns c = c.loop-place.invariant.events ∙ ap (λ xs. (changed_by
    (unchanged c.args.since) xs).events)
    (take_all c.loop-place.place c.args.changes.now (omega (arith, c.loop-place-test.false)))
