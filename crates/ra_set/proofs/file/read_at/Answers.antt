use Rattle.std.proofs.Common.{arith}
use Rattle.ra_set.proofs.ScriptLines.{bad-within}
use Rattle.ra_set.proofs.file.read_at.Goals as goal

pub overflow_add-result : goal.overflow_add-result
overflow_add-result c = let outside = rw c.in-Err-Syntax.field-0-is at c.in-Err-Syntax.ensures.err in
    let within = bad-within c.args.text.now c.in-Err-Syntax.at outside.first_bad in
    omega (arith, within, c.requires)
