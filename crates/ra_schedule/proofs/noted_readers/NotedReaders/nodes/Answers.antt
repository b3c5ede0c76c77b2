use Rattle.std.proofs.Common.{arith, map}
use Rattle.std.proofs.lemmas.List.{length-map}
use Rattle.ra_schedule.specs.Noted.{reader_of}
use Rattle.ra_schedule.proofs.WhoReads.NoteLemmas.{many_nodes}
use Rattle.ra_schedule.proofs.noted_readers.NotedReaders.nodes.Goals as goal

pub returns : goal.returns
returns c = omega (
  arith,
  c.len.ensures,
  c.self.inside.lasts.ok.0,
  length-map c.self.inside.lasts.items reader_of,
  many_nodes c.self.inside.entries.items (map reader_of c.self.inside.lasts.items) c.self.inside.readers
      c.args.self.now c.self.view_is,
)
