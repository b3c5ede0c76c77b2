use Rattle.std.proofs.Common.{[], ◌∷◌}
use Rattle.ra_condition.specs.Contents.{trigger_contents, value_contents}
use Rattle.ra_member.specs.Members.{MemberContents}
use Rattle.ra_items.proofs.rest.board_counts.Goals as goal

pub returns : goal.returns
returns c =
    let text = c.args.text.now in
    let start = trigger_contents text.start in
    let cancel = trigger_contents text.cancel in
    let submit = trigger_contents text.submit in
    let none : MemberContents = record { tests = []; values = [] } in
    let one = c.in_ok-add_test.ensures none c.new-counts.ensures in
    let two = c.in_ok-add_test-2.ensures (record none { tests = start ∷ [] }) one in
    let three = c.in_ok-add_test-3.ensures (record none { tests = start ∷ cancel ∷ [] }) two in
    let valued = c.in_ok-add_value.ensures (record none { tests = start ∷ cancel ∷ submit ∷ [] }) three in
    c.in_ok-add_progress.ensures (record
    { tests = start ∷ cancel ∷ submit ∷ []; values = value_contents text.value ∷ [] }) valued
