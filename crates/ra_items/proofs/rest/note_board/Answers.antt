use Rattle.ra_condition.specs.Contents.{value_contents}
use Rattle.ra_leaderboard.specs.Contents.{board_contents}
use Rattle.ra_schedule.specs.Inputs.{Instant, TestsSeeSame, ValueSeesSame}
use Rattle.ra_schedule.proofs.MembersRest.Signals.{keeps_both}
use Rattle.ra_schedule.proofs.MembersRest.Woken.{told_still}
use Rattle.ra_meaning.specs.Order.{board_member}
use Rattle.ra_items.proofs.rest.note_board.Goals as goal

pub returns-clause-keeps : goal.returns-clause-keeps
returns-clause-keeps c =
    let nodes = c.args.table.now.nodes in
    let one = c.note_tests.new.signals in
    let two = c.note_value.new.signals in
    let three = c.note_progress.new.signals in
    keeps_both nodes c.args.signals.now two three
    (keeps_both nodes c.args.signals.now one two c.in_ok-note_tests.ensures.keeps
    c.in_ok-note_value.ensures.keeps) c.in_ok-note_progress.ensures.keeps

pub returns-clause-told : goal.returns-clause-told
returns-clause-told c = λ values values' now later at at' agree.
    let nodes = c.args.table.now.nodes in
    let text = c.args.text.now in
    let reader = c.args.reader in
    let one = c.note_tests.new.signals in
    let two = c.note_value.new.signals in
    let three = c.note_progress.new.signals in
    let second = c.in_ok-note_value.ensures in
    let third = c.in_ok-note_progress.ensures in
    let both = keeps_both nodes one two three second.keeps third.keeps in
    let tests = told_still (λ (now later : Instant). TestsSeeSame now later
    (board_member (board_contents text)).tests) nodes one.comparisons three.comparisons one.readers
    three.readers reader
    both.front both.kept c.in_ok-note_tests.ensures.told in
    let value = told_still (λ (now later : Instant). ValueSeesSame now later (value_contents
    text.value)) nodes two.comparisons three.comparisons two.readers three.readers reader
    third.keeps.front third.keeps.kept second.told in
    record {
      tests = tests values values' now later at at' agree;
      values = (value values values' now later at at' agree, third.told values values' now later at at' agree);
    }
