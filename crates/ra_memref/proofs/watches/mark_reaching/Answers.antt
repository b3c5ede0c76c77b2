use Rattle.std.proofs.lemmas.List.{length-set}
use Rattle.std.proofs.Common.{◌≡◌, ℕ, suc, ◌∙◌, ◌-◌, ◌<◌, ◌||◌, ◌&&◌, true, ap, sym, refl, length, get_or}
use Rattle.std.proofs.Common.{slice_index, arith}
use Rattle.ra_links.specs.Rows.{holder_of}
use Rattle.ra_memref.specs.Marking.{is_between}
use Rattle.ra_memref.specs.Watches.{reaches}
use Rattle.ra_memref.proofs.Pages.{at_before}
use Rattle.ra_memref.proofs.Walks.{walking_none, walking_more, shorter, node_there, walked, marked_one, passed_one}
use Rattle.ra_memref.proofs.watches.mark_reaching.Goals as goal
use Rattle.ra_memref.proofs.watches.mark_reaching.Goals.{then-is_between, else-is_between}

pub loop-next-init : goal.loop-next-init
loop-next-init c = walking_none c.args.lists.now (c.args.first - 1) _ c.args.marks.now c.first-next.result
    c.first-next.ensures.once c.first-next.ensures.first

pub bounds-places-cell : goal.bounds-places-cell
bounds-places-cell c =
    let walking = rw c.in-Some.is at c.loop-next.invariant in
    omega (arith, node_there c.in-Some.node walking, c.requires.nodes, c.requires.places)

pub bounds-widths-cell : goal.bounds-widths-cell
bounds-widths-cell c =
    let walking = rw c.in-Some.is at c.loop-next.invariant in
    omega (arith, node_there c.in-Some.node walking, c.requires.nodes, c.requires.widths)

pub page_of_last-last-requires : goal.page_of_last-last-requires
page_of_last-last-requires c =
    let walking = rw c.in-Some.is at c.loop-next.invariant in
    record {
      wide = c.requires.wide c.in-Some.node (omega (arith, node_there c.in-Some.node walking, c.requires.nodes));
    }

pub next-next-requires : goal.next-next-requires
next-next-requires c = node_there c.in-Some.node (rw c.in-Some.is at c.loop-next.invariant)

pub loop-next-smaller : goal.loop-next-smaller
loop-next-smaller c =
    let list : c.args.first - 1 < length c.args.lists.now.lists =
    omega (arith, c.requires.list, c.if-first-eq0.false) in
    rw c.in-Some.is (shorter c.in-Some.node c.next-next.result list (rw c.in-Some.is at c.loop-next.invariant)
    c.next-next.ensures)

pub loop-next-preserved : goal.loop-next-preserved
loop-next-preserved c =
    let walking = rw c.in-Some.is at c.loop-next.invariant in
    let node = c.in-Some.node in
    let below : node < length c.loop-next.marks =
    omega (arith, node_there node walking, c.requires.nodes, walking.long) in
    let list : c.args.first - 1 < length c.args.lists.now.lists =
    omega (arith, c.requires.list, c.if-first-eq0.false) in
    let reached = λ (k : ℕ). reaches c.args.size c.args.first c.args.end (slice_index c.args.cells.now.places.now k)
    (slice_index c.args.cells.now.widths.now k) in
    let found = ap (is_between c.args.first c.args.end) (sym c.page_of_last-last.ensures) ∙ sym c.is_between.ensures in
    let more = walking_more node c.next-next.result list walking c.next-next.ensures in
    elim c.if-is_between.branch [
      | then-is_between w ↦ rw (w.marks-is, w.put.ensures) (more _ (length-set c.loop-next.marks node true)
          (λ k small. marked_one c.loop-next.marks node reached below (found ∙ w.if-is_between.true) k))
      | else-is_between w ↦ rw w.marks-is (more _ refl
          (λ k small. passed_one c.loop-next.marks node reached (found ∙ w.if-is_between.false) k))
    ]

pub returns-clause-marked : goal.returns-clause-marked
returns-clause-marked c = λ k below.
    let walking = rw c.in_default.is at c.loop-next.invariant in
    let before : c.args.first ≡ suc (c.args.first - 1) = omega (arith, c.if-first-eq0.false) in
    walked (omega (arith, c.requires.list, c.if-first-eq0.false)) walking k below
    ∙ ap (λ b. get_or c.args.marks.now k true || (b && reaches c.args.size c.args.first c.args.end
    (slice_index c.args.cells.now.places.now k) (slice_index c.args.cells.now.widths.now k)))
    (at_before (holder_of c.args.lists.now.lists k) (c.args.first - 1) c.args.first before)
