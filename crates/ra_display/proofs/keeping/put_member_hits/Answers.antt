use Rattle.std.proofs.Common.{sym, subst}
use Rattle.std.specs.List.{concat}
use Rattle.ra_schedule.specs.Counts.{counts_of}
use Rattle.ra_display.specs.Keeping.{PutsWords, seen_rows}
use Rattle.ra_display.proofs.MemberRows.{room_tests, room_values, seen_in_row, test_hits, value_hits, values_long}
use Rattle.ra_display.proofs.Putting.{words_both}
use Rattle.ra_display.proofs.keeping.put_member_hits.Goals as goal

pub put_tests-next-requires-clause-as_long : goal.put_tests-next-requires-clause-as_long
put_tests-next-requires-clause-as_long c =
    rw (c.deref.ensures.value, c.deref-2.ensures.value) c.requires.fit.tests

pub put_tests-next-requires-clause-room : goal.put_tests-next-requires-clause-room
put_tests-next-requires-clause-room c =
    rw c.deref.ensures.value (room_tests c.args.member.now c.args.row.now c.args.at c.requires.room)

pub put_values-requires-clause-as_long : goal.put_values-requires-clause-as_long
put_values-requires-clause-as_long c =
    rw (c.deref-3.ensures.value, c.deref-4.ensures.value)
    (values_long c.args.member.now c.args.counts.now c.requires.fit)

pub put_values-requires-clause-room : goal.put_values-requires-clause-room
put_values-requires-clause-room c =
    rw c.deref-3.ensures.value (room_values c.args.member.now c.args.counts.now c.args.owed
    c.args.row.now c.put_tests-next.new.row c.args.at c.put_tests-next.result c.requires.fit
    c.requires.room
    (rw (c.deref.ensures.value, c.deref-2.ensures.value) at c.put_tests-next.ensures))

pub returns : goal.returns
returns c =
    let m = c.args.member.now in
    let b = counts_of c.args.counts.now in
    let tests : PutsWords c.args.row.now c.put_tests-next.new.row c.args.at c.put_tests-next.result
    (concat (seen_rows c.args.owed b.tests (test_hits m))) =
    rw (c.deref.ensures.value, c.deref-2.ensures.value) at c.put_tests-next.ensures in
    let values : PutsWords c.put_tests-next.new.row c.put_values.new.row c.put_tests-next.result
    c.put_values.result (concat (seen_rows c.args.owed b.values (value_hits m))) =
    rw (c.deref-3.ensures.value, c.deref-4.ensures.value) at c.put_values.ensures in
    subst (λ xs. PutsWords c.args.row.now c.put_values.new.row c.args.at c.put_values.result xs)
    (sym (seen_in_row m c.args.counts.now c.args.owed))
    (words_both c.args.row.now c.put_tests-next.new.row c.put_values.new.row c.args.at
    c.put_tests-next.result c.put_values.result _ _ tests values)
