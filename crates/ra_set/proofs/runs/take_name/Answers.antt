use Rattle.std.proofs.Common.{refl}
use Rattle.ra_set.proofs.NameLemmas.{name-next}
use Rattle.ra_set.proofs.runs.take_name.Goals as goal

pub bytes-preserved : goal.bytes-preserved
bytes-preserved c = let p = c.bytes-test.ensures.passed refl in let i = c.bytes.invariant in
    name-next c.args.cursor.now.rest.now c.bytes.cursor.rest.now c.pass_in_name.new.cursor.rest.now
    c.bytes.length p.byte p.v p.is p.listed i.0 i.1 i.2
