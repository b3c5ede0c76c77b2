use Rattle.std.proofs.Common.{◌≡◌}
use Rattle.std.specs.Vec.{vec_capacity, vec_len}
use Rattle.ra_memref.proofs.NameLemmas.{AreNamed}
use Rattle.ra_memref.proofs.names.put_node_names.Given as goal

abbrev pub invariant-loop-number : goal.invariant-loop-number
invariant-loop-number l = record {
  named : AreNamed l.nodes l.wanted l.names.items l.number;
  many : vec_len l.names ≡ l.number;
  room : vec_capacity l.names ≡ vec_capacity l.fn.names;
}
