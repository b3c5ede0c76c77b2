use Rattle.std.proofs.Common.{◌≡◌, ◌++◌, ◌<◌, ◌∙◌, sym, ap, ap₂, subst, [], List, length, take, map, get_or, arith}
use Rattle.std.proofs.Common.{append_assoc}
use Rattle.std.proofs.lemmas.List.{take_all, length-map, get_or-map}
use Rattle.std.specs.Int.{w32, to_le_bytes}
use Rattle.ra_progress.specs.Contents.{ItemsFit, KeptItem}
use Rattle.ra_progress.specs.Layout.{item_length}
use Rattle.ra_progress.specs.Spelling.{named_blocks, item_bytes}
use Rattle.ra_progress.specs.Writing.{named_block}
use Rattle.ra_progress.proofs.Blocks.{blocks_more}
use Rattle.ra_member.proofs.GrowthLemmas.{weight_at}
use Rattle.ra_items.specs.declared.item_run.ItemRun.{ItemRun}
use Rattle.ra_items.specs.declared.rest.ItemCounts.{ItemCounts}
use Rattle.ra_items.specs.Resting.{FitsRun, seen_run}
use Rattle.ra_schedule.specs.Schedules.{owed_at}
use Rattle.ra_schedule.proofs.MembersRest.SeenAll.{seen_at}
use Rattle.ra_items.specs.Rests.{seen_by}
use Rattle.ra_items.specs.Shapes.{run_shape}
use Rattle.ra_items.proofs.SeenItems.{fitting_at}
use Rattle.ra_items.proofs.RestRuns.{seen_as_told}
use Rattle.ra_items.proofs.SaveLemmas.{seen_fit_more}
use Rattle.ra_items.proofs.SeenItems.{seen_long}
use Rattle.ra_items.proofs.saved.put_runs.Goals as goal

pub put_run-requires-clause-fits : goal.put_run-requires-clause-fits
put_run-requires-clause-fits c =
    let befores = c.args.rests.now.each.items in
    let b = c.index.result.now in
    let run = c.index-runs-k.result in
    let at = fitting_at c.loop-k.k c.args.runs.now befores run b (omega (arith, c.loop-k-test.true)) c.requires.fit in
    subst (λ (e : ItemCounts). FitsRun e run) (sym c.index.ensures)
    (subst (FitsRun (get_or befores c.loop-k.k b)) (sym c.index-runs-k.is) at)

pub put_run-requires-clause-short : goal.put_run-requires-clause-short
put_run-requires-clause-short c =
    let runs = c.args.runs.now in
    let below : c.loop-k.k < length runs = omega (arith, c.loop-k-test.true) in
    omega (
      arith,
      c.requires.short,
      weight_at run_shape runs c.loop-k.k c.index-runs-k.result below c.index-runs-k.is item_length,
    )

pub loop-k-preserved : goal.loop-k-preserved
loop-k-preserved c =
    let old = c.args.bytes.now.items in
    let names = c.args.names.now in
    let runs = c.args.runs.now in
    let rests = c.args.rests.now in
    let k = c.loop-k.k in
    let run = c.index-runs-k.result in
    let b = c.index.result.now in
    let below : k < length runs = omega (arith, c.loop-k-test.true) in
    let kept = seen_by runs rests in
    let one = seen_run run b c.owed-owed.result in
    let many = seen_long runs rests c.requires.many in
    let blocks = map item_bytes kept in
    let more = blocks_more names blocks k [] (omega (arith, below, c.requires.names))
    (omega (arith, below, many, length-map kept item_bytes)) in
    let there : get_or kept k one ≡ one =
    seen_at ItemRun ItemCounts KeptItem seen_run
    (owed_at rests.schedule) k runs rests.each.items run b one below c.requires.many
    ∙ (λ i. seen_run (sym c.index-runs-k.is i) (sym c.index.ensures i) (owed_at rests.schedule k))
    ∙ sym (ap (seen_run run b) c.owed-owed.ensures ∙ seen_as_told run b (owed_at rests.schedule k)) in
    let here : get_or blocks k [] ≡ item_bytes one =
    get_or-map item_bytes kept k one [] (omega (arith, below, many)) ∙ ap item_bytes there in
    let before = named_blocks (take k names) (take k blocks) in
    let name = get_or names k [] in
    let piece = named_block name (item_bytes one) in
    record {
      bytes =
          c.in_ok-put_run.ensures.bytes ∙ ap (λ xs. xs ++ piece) c.loop-k.invariant.bytes
          ∙ append_assoc old before piece
          ∙ ap (λ block. old ++ (before ++ (name ++ (to_le_bytes w32 (length block) ++ block))))
          (sym here) ∙ ap (λ xs. old ++ xs) (sym more);
      fit = seen_fit_more runs kept k run one below (omega (arith, below, many)) c.index-runs-k.is
          there c.loop-k.invariant.fit c.in_ok-put_run.ensures.fits;
    }

pub returns-clause-bytes : goal.returns-clause-bytes
returns-clause-bytes c =
    let runs = c.args.runs.now in
    let rests = c.args.rests.now in
    let over = c.loop-k-test.false in
    let names = take_all c.loop-k.k c.args.names.now (omega (arith, over, c.requires.names)) in
    let kept = seen_by runs rests in
    let blocks = take_all c.loop-k.k (map item_bytes kept)
    (omega (arith, over, length-map kept item_bytes, seen_long runs rests c.requires.many)) in
    c.loop-k.invariant.bytes ∙ ap (λ xs. c.args.bytes.now.items ++ xs) (ap₂ named_blocks names blocks)

pub returns-clause-fit : goal.returns-clause-fit
returns-clause-fit c =
    let runs = c.args.runs.now in
    let rests = c.args.rests.now in
    let over = c.loop-k-test.false in
    let kept = seen_by runs rests in
    let all = take_all c.loop-k.k runs (omega (arith, over)) in
    let all_kept = take_all c.loop-k.k kept (omega (arith, over, seen_long runs rests c.requires.many)) in
    subst (λ (rs : List ItemRun). ItemsFit (map run_shape rs) kept) all
    (subst (ItemsFit (map run_shape (take c.loop-k.k runs))) all_kept c.loop-k.invariant.fit)
