use Rattle.std.proofs.Common.{true, ◌∙◌, ap, length, rules, arith, sym}
use Rattle.std.proofs.lemmas.List.{length-replicate}
use Rattle.ra_schedule.specs.Signals.{SignalsSeen}
use Rattle.ra_table_tests.proofs.schedules.signals_over.Goals as goal

pub returns-clause-nodes : goal.returns-clause-nodes
returns-clause-nodes c =
    let pool = c.args.pool.now in
    let made = c.in_ok-signals.ensures in
    let one = c.in_ok-note_comparison.ensures.keeps pool (c.is_over.ensures (search rules)) in
    let two = c.in_ok-note_comparison-2.ensures.keeps pool (c.is_over.ensures (search rules)) in
    let three = c.in_ok-note_comparison-3.ensures.keeps pool (c.is_over-else-not-is_over.ensures (search rules)) in
    let four = c.in_ok-note_node.ensures.keeps pool in
    four.nodes_too ∙ three.nodes_too ∙ two.nodes_too ∙ one.nodes_too
    ∙ ap (λ (s : SignalsSeen). s.nodes) made ∙ c.len.ensures.len

pub returns-clause-over : goal.returns-clause-over
returns-clause-over c =
    let pool = c.args.pool.now in
    let made = c.in_ok-signals.ensures in
    let one = c.in_ok-note_comparison.ensures.keeps pool (c.is_over.ensures (search rules)) in
    let two = c.in_ok-note_comparison-2.ensures.keeps pool (c.is_over.ensures (search rules)) in
    let three = c.in_ok-note_comparison-3.ensures.keeps pool (c.is_over-else-not-is_over.ensures (search rules)) in
    let four = c.in_ok-note_node.ensures.keeps pool in
    four.over (three.over (two.over (one.over (λ k below. absurd
    (omega (arith, below, ap (λ (s : SignalsSeen). length s.comparisons) made))))))

pub returns-clause-due : goal.returns-clause-due
returns-clause-due c =
    let pool = c.args.pool.now in
    let made = c.in_ok-signals.ensures in
    let one = c.in_ok-note_comparison.ensures.keeps pool (c.is_over.ensures (search rules)) in
    let two = c.in_ok-note_comparison-2.ensures.keeps pool (c.is_over.ensures (search rules)) in
    let three = c.in_ok-note_comparison-3.ensures.keeps pool (c.is_over-else-not-is_over.ensures (search rules)) in
    let four = c.in_ok-note_node.ensures.keeps pool in
    ap length (four.due ∙ three.due ∙ two.due ∙ one.due)
    ∙ ap (λ (s : SignalsSeen). length s.readers.due) made ∙ length-replicate 3 true
