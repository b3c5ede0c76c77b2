use Rattle.std.proofs.Common.{◌≡◌, ◌+◌, List, [], length, map, vec_len, arith, ap, ◌∙◌}
use Rattle.std.proofs.lemmas.Grind.{common_steps}
use Rattle.std.proofs.lemmas.List.{nil_from_length}
use Rattle.ra_condition.specs.Contents.{group_contents, trigger_contents, trigger_hits, groups_of}
use Rattle.ra_condition.specs.declared.group.Group.{Group}
use Rattle.ra_group.proofs.AlongLemmas.{has_entries}
use Rattle.ra_trigger.proofs.GroupsLemmas.{stepped_core, stepped_hits}
use Rattle.ra_trigger.proofs.OrdersLemmas.{core_lies}
use Rattle.ra_trigger.proofs.together.step_groups.Goals as goal

pub step_at-core-requires-clause-reads : goal.step_at-core-requires-clause-reads
step_at-core-requires-clause-reads c = has_entries (groups_of (trigger_contents c.args.text.now))
    c.args.reads.now c.requires.reads (length c.args.hits.now) c.requires.hits

pub step_at-core-requires-clause-lies : goal.step_at-core-requires-clause-lies
step_at-core-requires-clause-lies c = core_lies (group_contents c.args.text.now.core)
    c.args.text.now.alts.items c.args.reads.now c.requires.reads

pub returns-clause-next : goal.returns-clause-next
returns-clause-next c =
    let core = group_contents c.args.text.now.core in
    let alts = c.args.text.now.alts in
    let read = c.args.reads.now in
    let few : vec_len alts ≡ 0 = grind (arith, common_steps, c.is_empty.ensures, c.if-not-is_empty.false) in
    let none : alts.items ≡ [] = nil_from_length alts.items (omega (arith, alts.ok.0)) in
    let whole : 0 + length core ≡ length core = omega arith in
    let long : length c.args.hits.now ≡ length core = c.requires.hits
    ∙ ap (λ (gs : List Group). trigger_hits (record { core = core; alts = map group_contents gs })) none ∙ whole in
    rw none (stepped_hits read.truths.now read.lefts.now c.args.hits.now core [] (length core) _
    c.step_at-core.new.hits long (stepped_core read.truths.now read.lefts.now c.args.hits.now core
    c.step_at-core.new.hits c.step_at-core.ensures.next))
