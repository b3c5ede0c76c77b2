use Rattle.std.proofs.Common.{ap, subst, sym, ◌∙◌, length, map}
use Rattle.std.proofs.lemmas.List.{length-map}
use Rattle.std.proofs.lemmas.List.Folds.{flat_map-map}
use Rattle.ra_condition.specs.Chains.{pass_order}
use Rattle.ra_condition.specs.Contents.{value_contents, counted_in}
use Rattle.ra_value.specs.Steps.{ValueKept, step}
use Rattle.ra_member.specs.Plans.{AreSums}
use Rattle.ra_member.specs.Readings.{sum_by_node}
use Rattle.ra_member.proofs.LaidLemmas.{laid_fills, laid_again, length_read, lefts_read, truths_read, all_summed}
use Rattle.ra_member.proofs.LaidLemmas.{length_sums, read_sums_of, sums_grouped}
use Rattle.ra_member.proofs.value_run.ValueRun.step_in.Goals as goal

pub read-requires-clause-valued : goal.read-requires-clause-valued
read-requires-clause-valued c = laid_fills _ _ _ c.requires.run.laid

pub read-requires-clause-valued_sums : goal.read-requires-clause-valued_sums
read-requires-clause-valued_sums c = all_summed c.args.table.now.nodes
    (value_contents c.args.text.now) c.args.self.now.nodes.items c.requires.run.nodes_too

pub read-requires-clause-sums : goal.read-requires-clause-sums
read-requires-clause-sums c = c.requires.run.sums ∙ sym (length_sums c.args.table.now.nodes
    (value_contents c.args.text.now) c.args.self.now.nodes.items c.requires.run.nodes_too)

pub step-greatest-requires-clause-orders : goal.step-greatest-requires-clause-orders
step-greatest-requires-clause-orders c =
    c.reads-reads.ensures.orders ∙ (laid_again _ _ _ _ _ _ c.requires.run.laid c.read.ensures.laid).plan.order
    ∙ flat_map-map pass_order counted_in (value_contents c.args.text.now)

pub step-greatest-requires-clause-pauses : goal.step-greatest-requires-clause-pauses
step-greatest-requires-clause-pauses c =
    c.reads-reads.ensures.pauses ∙ (laid_again _ _ _ _ _ _ c.requires.run.laid c.read.ensures.laid).plan.pauses

pub step-greatest-requires-clause-truths : goal.step-greatest-requires-clause-truths
step-greatest-requires-clause-truths c =
    ap length c.reads-reads.ensures.truths ∙ (length_read _ _ _ _ _ _ c.requires.run.laid c.read.ensures.laid).0
    ∙ sums_grouped (value_contents c.args.text.now)

pub step-greatest-requires-clause-lefts : goal.step-greatest-requires-clause-lefts
step-greatest-requires-clause-lefts c =
    ap length c.reads-reads.ensures.lefts ∙ (length_read _ _ _ _ _ _ c.requires.run.laid c.read.ensures.laid).1
    ∙ sums_grouped (value_contents c.args.text.now)

pub step-greatest-requires-clause-sums : goal.step-greatest-requires-clause-sums
step-greatest-requires-clause-sums c =
    ap length (c.deref.ensures.value ∙ c.read.ensures.sums)
    ∙ length-map c.args.self.now.nodes.items (sum_by_node c.args.table.now.values)
    ∙ length_sums c.args.table.now.nodes
    (value_contents c.args.text.now) c.args.self.now.nodes.items c.requires.run.nodes_too

pub returns-clause-run : goal.returns-clause-run
returns-clause-run c =
    let nodes = c.args.table.now.nodes in
    let parts = value_contents c.args.text.now in
    record {
      laid = laid_again _ _ _ _ _ _ c.requires.run.laid c.read.ensures.laid;
      nodes_too = subst (λ ns. AreSums nodes parts ns)
          (sym (ap (λ ns. ns.items) c.read.ensures.nodes)) c.requires.run.nodes_too;
      sums = ap length c.read.ensures.sums ∙ length-map c.args.self.now.nodes.items
          (sum_by_node c.args.table.now.values)
          ∙ length_sums nodes parts c.args.self.now.nodes.items c.requires.run.nodes_too;
      hits = c.step-greatest.ensures.hits
          ∙ ap (λ (v : ValueKept). length v.hits) c.read.ensures.value ∙ c.requires.run.hits;
      numbers = c.step-greatest.ensures.numbers
          ∙ ap (λ (v : ValueKept). length v.numbers) c.read.ensures.value ∙ c.requires.run.numbers;
    }

pub returns-clause-steps : goal.returns-clause-steps
returns-clause-steps c = λ start h has.
    let nodes = c.args.table.now.nodes in
    let parts = value_contents c.args.text.now in
    let truths = c.reads-reads.ensures.truths ∙ truths_read _ _ start h has
    (map counted_in parts) _ _ _ c.requires.run.laid c.read.ensures.laid in
    let lefts = c.reads-reads.ensures.lefts ∙ lefts_read _ _ start h has
    (map counted_in parts) _ _ _ c.requires.run.laid c.read.ensures.laid in
    let sums = c.deref.ensures.value ∙ c.read.ensures.sums ∙ read_sums_of nodes
    c.args.table.now.values start h has parts c.args.self.now.nodes.items c.requires.run.nodes_too
    in
    c.step-greatest.ensures.kept ∙ (λ i. step parts (truths i) (lefts i) (sums i) (c.read.ensures.value i))
