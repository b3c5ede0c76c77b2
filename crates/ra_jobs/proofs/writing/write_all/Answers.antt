use Rattle.std.proofs.Common.{arith}
use Rattle.ra_jobs.proofs.Pieces.{more_written}
use Rattle.ra_jobs.proofs.Parts.{part_written}
use Rattle.ra_jobs.proofs.writing.write_all.Goals as goal

pub loop-rest-preserved : goal.loop-rest-preserved
loop-rest-preserved g c =
    let w = more_written (g.K.Sink.text c.args.out.now) (g.K.Sink.text c.loop-rest.out)
    (g.K.Sink.text c.write.new.self) c.args.bytes.now c.loop-rest.rest.now c.in-Ok.n
    c.loop-rest.invariant.written c.in-Ok.ensures.bound c.in-Ok.ensures.text in
    record {
      written = rw c.split_at.ensures.back w;
      later = omega (arith, c.loop-rest.invariant.later, c.in-Ok.ensures.later);
    }

pub returns-in-Err-clause-part : goal.returns-in-Err-clause-part
returns-in-Err-clause-part g c =
    part_written (g.K.Sink.text c.args.out.now) (g.K.Sink.text c.write.new.self) c.args.bytes.now _
    (more_written (g.K.Sink.text c.args.out.now) (g.K.Sink.text c.loop-rest.out)
    (g.K.Sink.text c.write.new.self) c.args.bytes.now c.loop-rest.rest.now 0
    c.loop-rest.invariant.written (omega arith) c.in-Err.ensures.text)
