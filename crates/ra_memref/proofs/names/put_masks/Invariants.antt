use Rattle.ra_memref.proofs.Passed.{tracked_count}
use Rattle.ra_memref.proofs.PutNames.{ArePut, mask_names}
use Rattle.ra_memref.proofs.names.put_masks.Given as goal

-- the names of the masks so far
abbrev pub invariant-loop-number : goal.invariant-loop-number
invariant-loop-number l = ArePut (mask_names l.nodes) (tracked_count l.nodes l.number) l.priors
