use Rattle.std.proofs.Common.{◌≡◌, ◌<◌, ℕ, Bool, List, length, map, get_or, sym, ◌∙◌, ap, ap₂, subst, arith}
use Rattle.ra_member.specs.declared.trigger_run.TriggerRun.{TriggerRun}
use Rattle.ra_schedule.specs.Counted.{CountsSeen}
use Rattle.ra_schedule.specs.Counts.{bit_rows}
use Rattle.ra_schedule.proofs.MembersRest.SideBySideRows.{as_long, as_many}
use Rattle.ra_display.specs.Keeping.{HasWords, seen_hits, seen_rows}
use Rattle.ra_display.proofs.Putting.{no_words, row_all, row_at, row_more, row_room, rows_long}
use Rattle.ra_display.proofs.keeping.put_tests.Goals as goal

abbrev bits : CountsSeen → List Bool
bits = λ c. c.counted

abbrev hits : TriggerRun → List ℕ
hits = λ test. test.trigger.hits

pub bounds-counts-place : goal.bounds-counts-place
bounds-counts-place c =
    omega (arith, c.loop-place-test.true, as_many bits hits c.args.counts.now c.args.tests.now c.requires.as_long)

pub put_hits-next-requires-clause-as_many : goal.put_hits-next-requires-clause-as_many
put_hits-next-requires-clause-as_many c =
    let p = c.loop-place in
    let counts = c.args.counts.now in
    let runs = c.args.tests.now in
    let d = c.index-counts-place.result in
    let e = c.index-tests-place.result in
    let many = as_many bits hits counts runs c.requires.as_long in
    ap length (c.counted.ensures ∙ ap bits c.index-counts-place.is)
    ∙ as_long bits hits counts runs p.place d e (omega (arith, c.loop-place-test.true, many)) c.requires.as_long
    ∙ sym (ap length c.hits-hits.ensures)

pub put_hits-next-requires-clause-room : goal.put_hits-next-requires-clause-room
put_hits-next-requires-clause-room c =
    let p = c.loop-place in
    let counts = bit_rows c.args.counts.now in
    let runs = c.args.tests.now in
    let e = c.index-tests-place.result in
    let long = rows_long c.args.owed counts (map hits runs) c.requires.as_long in
    subst (λ (xs : List ℕ). HasWords p.row p.next xs) (sym c.hits-hits.ensures)
    (row_room hits runs (seen_rows c.args.owed counts (map hits runs)) long c.args.row.now p.row
    c.args.at p.next p.place
    (omega (arith, c.loop-place-test.true)) p.invariant.puts e c.requires.room)

pub loop-place-init : goal.loop-place-init
loop-place-init c = record { puts = no_words c.args.row.now c.args.at }

pub loop-place-preserved : goal.loop-place-preserved
loop-place-preserved c =
    let p = c.loop-place in
    let counts = c.args.counts.now in
    let runs = c.args.tests.now in
    let d = c.index-counts-place.result in
    let e = c.index-tests-place.result in
    let many = as_many bits hits counts runs c.requires.as_long in
    let seen = seen_rows c.args.owed (bit_rows counts) (map hits runs) in
    let long = rows_long c.args.owed (bit_rows counts) (map hits runs) c.requires.as_long in
    let within : p.place < length runs = omega (arith, c.loop-place-test.true) in
    let one = seen_hits c.args.owed c.counted.result.now c.hits-hits.result.now in
    let same : one ≡ seen_hits c.args.owed (bits (get_or counts p.place d)) (hits (get_or runs p.place e)) =
    ap₂ (seen_hits c.args.owed) (c.counted.ensures ∙ ap bits c.index-counts-place.is) c.hits-hits.ensures in
    let here : get_or seen p.place one ≡ one =
    subst (λ x. get_or seen p.place x ≡ x) (sym same)
    (row_at bits hits c.args.owed counts runs p.place d e many within) in
    record {
      puts =
          row_more hits runs seen long c.args.row.now p.row c.args.at p.next p.place within p.invariant.puts
          c.put_hits-next.new.row c.put_hits-next.result one here c.put_hits-next.ensures;
    }

pub returns : goal.returns
returns c =
    let p = c.loop-place in
    let counts = bit_rows c.args.counts.now in
    let runs = c.args.tests.now in
    let seen = seen_rows c.args.owed counts (map hits runs) in
    let long = rows_long c.args.owed counts (map hits runs) c.requires.as_long in
    row_all hits runs seen long c.args.row.now p.row c.args.at p.next p.place (omega (arith, c.loop-place-test.false))
    p.invariant.puts
