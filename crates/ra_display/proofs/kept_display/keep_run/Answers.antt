use Rattle.std.proofs.Common.{◌≡◌, ◌<◌, ◌^◌, length, map, arith}
use Rattle.std.specs.List.{concat}
use Rattle.ra_text.proofs.Pieces.{length_words}
use Rattle.ra_member.specs.Members.{saved_hits, saved_numbers}
use Rattle.ra_member.specs.MemberRuns.{kept_by}
use Rattle.ra_display.specs.Keeping.{PutsWords}
use Rattle.ra_display.specs.LineRests.{seen_lines}
use Rattle.ra_display.proofs.KeptDisplay.{display_put, hits_seen}
use Rattle.ra_display.proofs.Putting.{concat_long}
use Rattle.ra_display.proofs.kept_display.keep_run.Goals as goal

pub keep_hits-next-requires-clause-room : goal.keep_hits-next-requires-clause-room
keep_hits-next-requires-clause-room c =
    rw c.deref.ensures.value
    (omega (arith, c.requires.room, c.put_word-next.ensures.next_is, c.put_word-next.ensures.long))

pub keep_numbers-requires : goal.keep_numbers-requires
keep_numbers-requires c =
    let lines = c.args.run.now.lines.items in
    let rests = c.args.rests.now in
    let hits : PutsWords c.put_word-next.new.row c.keep_hits-next.new.row c.put_word-next.result
    c.keep_hits-next.result (concat (map saved_hits (seen_lines lines rests))) =
    rw c.deref.ensures.value at c.keep_hits-next.ensures in
    let many : length (concat (map saved_hits (seen_lines lines rests)))
    ≡ length (concat (map saved_hits (map kept_by lines))) = concat_long (map saved_hits (seen_lines
    lines rests)) (map saved_hits (map kept_by lines)) (hits_seen lines rests c.requires.fit) in
    rw c.deref-2.ensures.value (omega (
      arith,
      c.requires.room,
      c.put_word-next.ensures.next_is,
      c.put_word-next.ensures.long,
      hits.puts.next_is,
      hits.puts.long,
      length_words (concat (map saved_hits (seen_lines lines rests))),
      many,
    ))

pub returns-clause-puts : goal.returns-clause-puts
returns-clause-puts c =
    let run = c.args.run.now in
    let lines = run.lines.items in
    let small : run.shown < 2 ^ 32 = omega arith in
    let hits : PutsWords c.put_word-next.new.row c.keep_hits-next.new.row c.put_word-next.result
    c.keep_hits-next.result (concat (map saved_hits (seen_lines lines c.args.rests.now))) =
    rw c.deref.ensures.value at c.keep_hits-next.ensures in
    let numbers : PutsWords c.keep_hits-next.new.row c.keep_numbers.new.row c.keep_hits-next.result
    c.keep_numbers.result (concat (map saved_numbers (map kept_by lines))) =
    rw c.deref-2.ensures.value at c.keep_numbers.ensures in
    (display_put run c.args.rests.now c.args.row.now c.put_word-next.new.row
    c.keep_hits-next.new.row c.keep_numbers.new.row c.args.at c.put_word-next.result
    c.keep_hits-next.result c.keep_numbers.result c.requires.fit small c.put_word-next.ensures hits
    numbers).0

pub returns-clause-fits : goal.returns-clause-fits
returns-clause-fits c =
    let run = c.args.run.now in
    let lines = run.lines.items in
    let small : run.shown < 2 ^ 32 = omega arith in
    let hits : PutsWords c.put_word-next.new.row c.keep_hits-next.new.row c.put_word-next.result
    c.keep_hits-next.result (concat (map saved_hits (seen_lines lines c.args.rests.now))) =
    rw c.deref.ensures.value at c.keep_hits-next.ensures in
    let numbers : PutsWords c.keep_hits-next.new.row c.keep_numbers.new.row c.keep_hits-next.result
    c.keep_numbers.result (concat (map saved_numbers (map kept_by lines))) =
    rw c.deref-2.ensures.value at c.keep_numbers.ensures in
    (display_put run c.args.rests.now c.args.row.now c.put_word-next.new.row
    c.keep_hits-next.new.row c.keep_numbers.new.row c.args.at c.put_word-next.result
    c.keep_hits-next.result c.keep_numbers.result c.requires.fit small c.put_word-next.ensures hits
    numbers).1
