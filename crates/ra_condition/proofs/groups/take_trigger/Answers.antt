use Rattle.std.proofs.Common.{◌≡◌, Ok, [], ◌∷◌, ◌++◌, map, refl, ap, codes}
use Rattle.std.proofs.lemmas.List.{map-append}
use Rattle.std.proofs.lemmas.Result.{err_from_is_err_and}
use Rattle.ra_condition.specs.Contents.{group_contents, trigger_contents}
use Rattle.ra_condition.specs.Grammar.{trigger_of}
use Rattle.ra_condition.specs.Reading.{group_at, groups_at, trigger_at}
use Rattle.ra_condition.proofs.Faults.{fault-passes}
use Rattle.ra_condition.proofs.GroupReaders.{group-shorter}
use Rattle.ra_text.specs.Reading.{◌>>=◌}
use Rattle.ra_text.specs.Table.{only_letters}
use Rattle.ra_text.proofs.Loops.{joined-starts, joined-none, joined-next, joined-smaller}
use Rattle.ra_condition.proofs.groups.take_trigger.Goals as goal

pub returns-in_err-core : goal.returns-in_err-core
unfolding trigger_at groups_at
returns-in_err-core c = let p = err_from_is_err_and c.from_residual.result c.from_residual.ensures.1 in
    rw (p.1, p.2) (fault-passes group_contents trigger_contents c.in_err-core.field-0.0
    c.take_group.new.cursor.rest.now (group_at c.args.cursor.now.rest.now) _
    (λ stops. ap (λ o. o >>= λ groups. Ok (trigger_of groups.0, groups.1))
    (joined-none (only_letters (codes "S")) group_at c.args.cursor.now.rest.now
    c.take_group.new.cursor.rest.now stops)) c.in_err-core.ensures)

pub alts-init : goal.alts-init
unfolding groups_at
alts-init c = rw c.new-alts.ensures.items (joined-starts
    (only_letters (codes "S")) group_at c.args.cursor.now.rest.now
    (group_contents c.in_ok-core.core) c.take_group.new.cursor.rest.now c.in_ok-core.ensures)

pub alts-smaller : goal.alts-smaller
alts-smaller c = let passed = c.alts-test.ensures.passed refl in
    joined-smaller (only_letters (codes "S")) group_at group-shorter passed.byte
    c.skip_letter.new.self.rest.now c.alts.cursor.rest.now
    (group_contents c.in_ok-take_group.field-0) c.take_group-in-alts.new.cursor.rest.now passed.is
    c.in_ok-take_group.ensures

pub alts-preserved : goal.alts-preserved
alts-preserved c = let passed = c.alts-test.ensures.passed refl in
    let items : c.push_alt.new.alts.items ≡ c.alts.alts.items ++ c.in_ok-take_group.field-0 ∷ [] =
    cc (c.in_ok-push_alt.ensures.put) in
    rw (items, map-append) (joined-next (only_letters (codes "S")) group_at group-shorter
    (group_contents c.in_ok-core.core ∷ map group_contents c.alts.alts.items) passed.byte passed.v
    c.skip_letter.new.self.rest.now c.alts.cursor.rest.now _
    (group_contents c.in_ok-take_group.field-0)
    c.take_group-in-alts.new.cursor.rest.now passed.listed passed.is c.in_ok-take_group.ensures c.alts.invariant)
