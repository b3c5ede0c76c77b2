use Rattle.std.proofs.Common.{◌≡◌, ℕ, ◌+◌, ◌≤◌, List, [], length, get_or, take, map, ap, sym, ◌∙◌, subst, arith}
use Rattle.std.proofs.lemmas.List.{take_all}
use Rattle.ra_condition.specs.declared.condition.Condition.{Condition}
use Rattle.ra_condition.specs.Contents.{group_contents, trigger_contents, groups_of}
use Rattle.ra_group.specs.declared.outcome.Outcome.{Outcome}
use Rattle.ra_group.proofs.AlongLemmas.{has_entries}
use Rattle.ra_trigger.specs.declared.gathered.Gathered.{Gathered}
use Rattle.ra_trigger.specs.Gathering.{gathered_of, added}
use Rattle.ra_trigger.proofs.GroupsLemmas.{HasStepped, stepped_core, stepped_alt, stepped_verdict}
use Rattle.ra_trigger.proofs.OrdersLemmas.{core_lies, alt_lies, alts_more}
use Rattle.ra_trigger.proofs.together.step_all.Goals as goal

pub step_at-core-requires-clause-reads : goal.step_at-core-requires-clause-reads
step_at-core-requires-clause-reads c = has_entries (groups_of (trigger_contents c.args.text.now))
    c.args.reads c.requires.reads (length c.args.hits.now) c.requires.hits

pub step_at-core-requires-clause-lies : goal.step_at-core-requires-clause-lies
step_at-core-requires-clause-lies c = core_lies (group_contents c.args.text.now.core)
    c.args.text.now.alts.items c.args.reads c.requires.reads

pub step_at-outcome-requires-clause-reads : goal.step_at-outcome-requires-clause-reads
step_at-outcome-requires-clause-reads c =
    has_entries (groups_of (trigger_contents c.args.text.now)) c.args.reads c.requires.reads
    (length c.loop-place.hits) (omega arith)

pub step_at-outcome-requires-clause-lies : goal.step_at-outcome-requires-clause-lies
step_at-outcome-requires-clause-lies c =
    let same = c.deref-alt-items.ensures.value in
    let place = c.loop-place.place in
    alt_lies (group_contents c.args.text.now.core) c.args.text.now.alts.items c.args.reads
    c.requires.reads place c.alt-item.result c.loop-place.start (omega (arith, ap length same))
    (c.alt-item.is
    ∙ ap (λ gs. get_or gs place c.alt-item.result) same) c.loop-place.invariant.starts

pub loop-place-init : goal.loop-place-init
loop-place-init c =
    let core = group_contents c.args.text.now.core in
    let stepped = stepped_core c.args.reads.truths.now c.args.reads.lefts.now
    c.args.hits.now core c.step_at-core.new.hits c.step_at-core.ensures.next in
    let long : length core ≡ c.len-start.result =
    omega (arith, c.len-start.ensures, c.args.text.now.core.conditions.ok.0) in
    let gathers = sym (c.new-gathered.ensures
    ∙ ap (λ (o : Outcome). gathered_of o []) c.step_at-core.ensures.outcome) in
    subst (λ (n : ℕ). HasStepped c.args.reads.truths.now c.args.reads.lefts.now
    c.args.hits.now core [] n c.new-gathered.result c.step_at-core.new.hits) long
    (subst (λ (g : Gathered). HasStepped c.args.reads.truths.now c.args.reads.lefts.now
    c.args.hits.now core [] (length core) g c.step_at-core.new.hits) gathers stepped)

pub overflow_add-start : goal.overflow_add-start
overflow_add-start c =
    let same = c.deref-alt-items.ensures.value in
    let place = c.loop-place.place in
    let lies = alt_lies (group_contents c.args.text.now.core) c.args.text.now.alts.items
    c.args.reads c.requires.reads place c.alt-item.result c.loop-place.start
    (omega (arith, ap length same)) (c.alt-item.is
    ∙ ap (λ gs. get_or gs place c.alt-item.result) same) c.loop-place.invariant.starts in
    let entries = has_entries (groups_of (trigger_contents c.args.text.now)) c.args.reads
    c.requires.reads (length c.args.hits.now) c.requires.hits in
    let fits : c.loop-place.start + c.len-start-in-loop-place.result ≤ length c.args.hits.now =
    omega (arith, lies.within, entries.orders, c.len-start-in-loop-place.ensures, c.alt-item.result.conditions.ok.0) in
    omega arith

pub loop-place-preserved : goal.loop-place-preserved
loop-place-preserved c =
    let core = group_contents c.args.text.now.core in
    let same = c.deref-alt-items.ensures.value in
    let alts = map group_contents (take c.loop-place.place c.args.text.now.alts.items) in
    let more = alts_more core c.args.text.now.alts.items c.args.reads c.requires.reads
    c.loop-place.place c.alt-item.result c.loop-place.start (omega (arith, ap length same))
    (c.alt-item.is ∙ ap (λ gs. get_or gs c.loop-place.place c.alt-item.result) same)
    c.loop-place.invariant.starts in
    let is_start : c.loop-place.start + c.len-start-in-loop-place.result
    ≡ c.loop-place.start + length (group_contents c.alt-item.result) =
    omega (arith, c.len-start-in-loop-place.ensures, c.alt-item.result.conditions.ok.0) in
    let is_gathered = c.add.ensures
    ∙ ap (λ (o : Outcome). added o c.loop-place.gathered) c.step_at-outcome.ensures.outcome in
    subst (λ (gs : List (List Condition)). HasStepped c.args.reads.truths.now
    c.args.reads.lefts.now c.args.hits.now core gs (c.loop-place.start
    + c.len-start-in-loop-place.result) c.add.new.self c.step_at-outcome.new.hits) (sym more)
    (stepped_alt c.args.reads.truths.now c.args.reads.lefts.now c.args.hits.now core
    (group_contents c.alt-item.result) alts c.loop-place.start
    (c.loop-place.start + c.len-start-in-loop-place.result) c.loop-place.gathered c.add.new.self
    c.loop-place.hits c.step_at-outcome.new.hits c.loop-place.invariant is_start is_gathered
    c.step_at-outcome.ensures.next)

pub returns-clause-verdict : goal.returns-clause-verdict
returns-clause-verdict c =
    let core = group_contents c.args.text.now.core in
    let all = ap (map group_contents) (take_all c.loop-place.place c.args.text.now.alts.items
    (omega (arith, ap length c.deref-alt-items.ensures.value))) in
    let stepped = subst (λ (gs : List (List Condition)). HasStepped c.args.reads.truths.now
    c.args.reads.lefts.now c.args.hits.now core gs c.loop-place.start c.loop-place.gathered
    c.loop-place.hits) all c.loop-place.invariant in
    c.verdict.ensures ∙ stepped_verdict c.args.reads.truths.now c.args.reads.lefts.now
    c.args.hits.now core (map group_contents c.args.text.now.alts.items) c.loop-place.start
    c.loop-place.gathered c.loop-place.hits stepped
