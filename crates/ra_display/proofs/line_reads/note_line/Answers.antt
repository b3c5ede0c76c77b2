use Rattle.ra_richpresence.specs.Contents.{line_contents}
use Rattle.ra_schedule.specs.Inputs.{Instant, TestsSeeSame}
use Rattle.ra_schedule.proofs.MembersRest.Woken.{told_still}
use Rattle.ra_meaning.specs.LineMembers.{line_member}
use Rattle.ra_display.proofs.line_reads.note_line.Goals as goal

pub returns-clause-told : goal.returns-clause-told
returns-clause-told c = λ values values' now later at at' agree.
    let m = line_member (line_contents c.args.line.now) in
    let mid = c.note_test.new.signals in
    let last = c.note_macros.new.signals in
    let macros = c.in_ok-note_macros.ensures in
    record {
      tests = told_still (λ (now later : Instant). TestsSeeSame now later m.tests)
          c.args.table.now.nodes mid.comparisons last.comparisons mid.readers last.readers
          c.args.reader
          macros.keeps.front macros.keeps.kept c.in_ok-note_test.ensures.told values values' now later at at' agree;
      values = rw c.deref.ensures.value at (macros.told values values' now later at at' agree);
    }
