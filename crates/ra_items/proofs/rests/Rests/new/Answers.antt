use Rattle.std.proofs.Common.{◌∙◌, map, refl, sym, arith}
use Rattle.std.proofs.lemmas.List.{length-map}
use Rattle.ra_set.specs.Contents.{item_contents}
use Rattle.ra_schedule.specs.Schedules.{no_truths}
use Rattle.ra_items.proofs.MadeRests.{all_made, awake_kept, rooms_many}
use Rattle.ra_items.proofs.RunsLemmas.{length_runs}
use Rattle.ra_items.proofs.rests.Rests.new.Goals as goal

pub returns-clause-rests : goal.returns-clause-rests
returns-clause-rests c = λ values.
    let contents = map item_contents c.args.items.now in
    let items = sym (length-map c.args.items.now item_contents) in
    all_made c.args.table.now.nodes values contents c.args.runs.now c.in_ok-signals.signals _ c.requires.runs
    (rw items at c.in_ok-signals.ensures) c.in_ok-schedule.ensures c.in_ok-each.ensures
    (omega (arith, c.in_ok-stepped.ensures.len, items)) refl

pub returns-clause-kept : goal.returns-clause-kept
returns-clause-kept c =
    let contents = map item_contents c.args.items.now in
    let runs = c.args.runs.now in
    let each = c.in_ok-each.each.items in
    awake_kept runs each c.in_ok-schedule.schedule c.in_ok-signals.signals.readers
    (no_truths c.in_ok-signals.signals.nodes c.in_ok-signals.signals.comparisons) 0
    c.in_ok-schedule.ensures (rooms_many contents each c.in_ok-each.ensures
    ∙ sym (length_runs c.args.table.now.nodes contents runs c.requires.runs))
