use Rattle.std.proofs.Common.{◌+◌, ◌<◌, ◌≤◌, ◌||◌, unwrap_or, length, get_or, take, set, map, ap, ◌∙◌, subst, arith}
use Rattle.std.proofs.lemmas.List.{length-map}
use Rattle.ra_condition.specs.declared.part.Part.{Part}
use Rattle.ra_condition.specs.Contents.{part_contents, group_contents, counted_in, value_contents}
use Rattle.ra_group.specs.declared.outcome.Outcome.{Outcome}
use Rattle.ra_group.specs.Along.{LiesAlong}
use Rattle.ra_group.proofs.AlongLemmas.{has_entries}
use Rattle.ra_value.proofs.OrdersLemmas.{counted_hits, part_lies, parts_more, parts_before}
use Rattle.ra_value.proofs.TurnLemmas.{turn_terms, turn_group}
use Rattle.ra_value.proofs.parts.step_parts.Goals as goal
use Rattle.ra_value.proofs.parts.step_parts.Goals.{in-Terms, in-Conditions}

pub step_at-outcome-requires-clause-reads : goal.step_at-outcome-requires-clause-reads
step_at-outcome-requires-clause-reads c =
    let parts = value_contents c.args.text.now in
    has_entries (map counted_in parts) c.args.reads.now c.requires.reads (length c.loop-place.hits)
    (omega (arith, counted_hits parts))

pub step_at-outcome-requires-clause-lies : goal.step_at-outcome-requires-clause-lies
step_at-outcome-requires-clause-lies c =
    let items = c.deref-part-items.ensures.value in
    let place = c.loop-place.place in
    let lies = part_lies c.args.text.now.parts.items c.args.reads.now c.requires.reads place
    c.part-item.result c.loop-place.start (omega (arith, ap length items)) (c.part-item.is
    ∙ ap (λ xs. get_or xs place c.part-item.result) items) c.loop-place.invariant.starts in
    subst (λ (p : Part). LiesAlong (counted_in (part_contents p)) c.args.reads.now
    (record { number = place; start = c.loop-place.start })) c.in-Conditions.is lies

pub overflow_add-start : goal.overflow_add-start
overflow_add-start c =
    let items = c.deref-part-items.ensures.value in
    let place = c.loop-place.place in
    let parts = value_contents c.args.text.now in
    let lies = part_lies c.args.text.now.parts.items c.args.reads.now c.requires.reads place
    c.part-item.result c.loop-place.start (omega (arith, ap length items)) (c.part-item.is
    ∙ ap (λ xs. get_or xs place c.part-item.result) items) c.loop-place.invariant.starts in
    let here = subst (λ (p : Part). LiesAlong (counted_in (part_contents p)) c.args.reads.now
    (record { number = place; start = c.loop-place.start })) c.in-Conditions.is lies in
    let entries = has_entries (map counted_in parts) c.args.reads.now c.requires.reads
    (length c.args.hits.now) (omega (arith, counted_hits parts)) in
    let fits : c.loop-place.start + c.len-start.result ≤ length c.args.hits.now =
    omega (arith, here.within, entries.orders, c.len-start.ensures, c.in-Conditions.group.conditions.ok.0) in
    omega arith

pub loop-place-preserved : goal.loop-place-preserved
loop-place-preserved c =
    let items = c.args.text.now.parts.items in
    let same = c.deref-part-items.ensures.value in
    let place = c.loop-place.place in
    let here = c.part-item.is ∙ ap (λ xs. get_or xs place c.part-item.result) same in
    let within : place < length items = omega (arith, ap length same) in
    let parts = map part_contents (take place items) in
    let before = parts_before items c.args.reads.now c.requires.reads place c.part-item.result
    c.loop-place.start within here c.loop-place.invariant.starts in
    let more = parts_more items c.args.reads.now c.requires.reads place c.part-item.result
    c.loop-place.start within here c.loop-place.invariant.starts in
    let room : place < length c.args.numbers.now = omega (arith, length-map items part_contents) in
    elim c.match-part.branch [
      | in-Terms w ↦
          turn_terms c.args.reads.now.truths.now c.args.reads.now.lefts.now c.args.hits.now
          c.args.sums.now c.args.numbers.now parts _
          (part_contents c.part-item.result) place c.loop-place.start c.match-part.start
          c.loop-place.resets c.match-part.resets c.loop-place.hits c.match-part.hits
          c.loop-place.numbers c.match-part.numbers before room more c.loop-place.invariant
          w.in-Terms.field-0.items (ap part_contents w.in-Terms.is) w.start-is w.resets-is w.hits-is w.numbers-is
      | in-Conditions w ↦
          let cs = group_contents w.in-Conditions.group in
          let outcome = w.step_at-outcome.ensures.outcome in
          turn_group c.args.reads.now.truths.now c.args.reads.now.lefts.now c.args.hits.now
          c.args.sums.now c.args.numbers.now parts _
          (part_contents c.part-item.result) place c.loop-place.start c.match-part.start
          c.loop-place.resets c.match-part.resets c.loop-place.hits c.match-part.hits
          c.loop-place.numbers c.match-part.numbers before room more c.loop-place.invariant
          cs (ap part_contents w.in-Conditions.is)
          (omega (arith, w.start-is, w.len-start.ensures, w.in-Conditions.group.conditions.ok.0))
          (w.resets-is ∙ ap (λ (o : Outcome). c.loop-place.resets || o.reset) outcome)
          (w.hits-is ∙ w.step_at-outcome.ensures.next)
          (w.numbers-is ∙ ap (set c.loop-place.numbers place) (w.unwrap_or.ensures ∙ ap
          (λ (o : Outcome). unwrap_or o.measured (get_or c.loop-place.numbers place 0)) outcome))
    ]
