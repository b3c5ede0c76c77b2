use Rattle.std.proofs.lemmas.List.{length-set}
use Rattle.std.proofs.Common.{refl, ◌∙◌, ◌<◌, ◌||◌, ap, length, get_or, true, arith}
use Rattle.std.proofs.Math.Bool.{and-true}
use Rattle.ra_links.specs.Rows.{holder_of}
use Rattle.ra_memref.specs.Marking.{is_at}
use Rattle.ra_memref.proofs.Walks.{walking_none, walking_more, shorter, node_there, walked, marked_one}
use Rattle.ra_memref.proofs.watches.mark_listed.Goals as goal

pub loop-next-init : goal.loop-next-init
loop-next-init c = walking_none c.args.lists.now c.args.list (λ k. true) c.args.marks.now c.first-next.result
    c.first-next.ensures.once c.first-next.ensures.first

pub put-requires : goal.put-requires
put-requires c =
    let walking = rw c.in-Some.is at c.loop-next.invariant in
    omega (arith, node_there c.in-Some.cell walking, c.requires.nodes, walking.long)

pub next-next-requires : goal.next-next-requires
next-next-requires c = node_there c.in-Some.cell (rw c.in-Some.is at c.loop-next.invariant)

pub loop-next-smaller : goal.loop-next-smaller
loop-next-smaller c = rw c.in-Some.is (shorter c.in-Some.cell c.next-next.result c.requires.list
    (rw c.in-Some.is at c.loop-next.invariant) c.next-next.ensures)

pub loop-next-preserved : goal.loop-next-preserved
loop-next-preserved c =
    let walking = rw c.in-Some.is at c.loop-next.invariant in
    let below : c.in-Some.cell < length c.loop-next.marks =
    omega (arith, node_there c.in-Some.cell walking, c.requires.nodes, walking.long) in
    rw c.put.ensures (walking_more c.in-Some.cell c.next-next.result c.requires.list walking c.next-next.ensures
    _ (length-set c.loop-next.marks c.in-Some.cell true)
    (λ k small. marked_one c.loop-next.marks c.in-Some.cell (λ k. true) below refl k))

pub returns : goal.returns
returns c =
    let walking = rw c.in_default.is at c.loop-next.invariant in
    record {
      long = walking.long;
      marked = λ k below. walked c.requires.list walking k below
          ∙ ap (λ b. get_or c.args.marks.now k true || b)
          (and-true (is_at (holder_of c.args.lists.now.lists k) c.args.list));
    }
