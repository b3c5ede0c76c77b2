use Rattle.std.proofs.Common.{arith}
use Rattle.ra_account.proofs.RunLemmas.{long_run, put_some}
use Rattle.ra_account.proofs.columns.Columns.put.Goals as goal

pub returns-then-self-clause-put : goal.returns-then-self-clause-put
returns-then-self-clause-put c = λ earlier known.
    let t = c.args.self.now in
    let marks = put_some c.args.frames t.width t.full t.begun t.marks.items c.args.now earlier
    c.requires.some c.requires.within (omega arith) known.frames known.marks_too in
    record {
      frames = omega (arith, known.frames, long_run c.args.frames c.args.now earlier);
      marks_too = rw c.mark_with-mark.ensures marks;
    }

pub returns-else-self-clause-put : goal.returns-else-self-clause-put
returns-else-self-clause-put c = λ earlier known.
    let t = c.args.self.now in
    let marks = put_some c.args.frames t.width t.full t.begun t.marks.items c.args.now earlier
    c.requires.some c.requires.within (omega arith) known.frames known.marks_too in
    record {
      frames = omega (arith, known.frames, long_run c.args.frames c.args.now earlier);
      marks_too = rw c.mark_with-mark.ensures marks;
    }
