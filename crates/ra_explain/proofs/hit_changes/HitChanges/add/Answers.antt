use Rattle.std.proofs.Common.{arith, ◌≡◌, ap, sym, ◌∙◌}
use Rattle.ra_explain.specs.HitChanges.{ChangesSeen, unchanged, changed_by, with_row, hits_by}
use Rattle.ra_explain.proofs.ChangeLemmas.{changed_more}
use Rattle.ra_explain.proofs.hit_changes.HitChanges.add.Goals as goal

pub invariant_of-self-2 : goal.invariant_of-self-2
invariant_of-self-2 c =
    let t = c.self.inside in
    let seen : ChangesSeen = changed_by (unchanged t.since) t.list.items in
    let left : hits_by c.between.result seen.hits ≡ c.args.after =
    ap (hits_by c.between.result) (sym c.self.invariant.hits) ∙ c.between.ensures in
    let more : changed_by (unchanged t.since) c.push.new.self.items ≡ with_row seen c.args.after =
    ap (changed_by (unchanged t.since)) c.in_ok-push.ensures.items
    ∙ changed_more (unchanged t.since) t.list.items c.between.result ∙ ap (with_row seen) left in
    record {
      hits = sym (ap (λ (o : ChangesSeen). o.hits) more);
      room = omega (
        arith,
        ap (λ (o : ChangesSeen). o.row) more,
        ap (λ (o : ChangesSeen). o.row) c.self.view_is,
        c.requires.room,
      );
    }

pub returns : goal.returns
returns c =
    let t = c.self.inside in
    let seen : ChangesSeen = changed_by (unchanged t.since) t.list.items in
    let left : hits_by c.between.result seen.hits ≡ c.args.after =
    ap (hits_by c.between.result) (sym c.self.invariant.hits) ∙ c.between.ensures in
    ap (changed_by (unchanged t.since)) c.in_ok-push.ensures.items
    ∙ changed_more (unchanged t.since) t.list.items c.between.result ∙ ap (with_row seen) left
    ∙ ap (λ (o : ChangesSeen). with_row o c.args.after) c.self.view_is
