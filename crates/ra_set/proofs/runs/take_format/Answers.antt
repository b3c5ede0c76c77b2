use Rattle.std.proofs.Common.{rules}
use Rattle.ra_set.proofs.RunLemmas.{format-of-run, no-format}
use Rattle.ra_set.proofs.runs.take_format.Goals as goal

pub returns-then-is_empty : goal.returns-then-is_empty
returns-then-is_empty c = no-format c.args.cursor.now.rest.now c.take_name-name.result.now
    c.take_name-name.new.cursor.rest.now c.take_name-name.ensures (search rules)

pub returns-else-is_empty : goal.returns-else-is_empty
returns-else-is_empty c = let e =
    format-of-run c.args.cursor.now.rest.now c.take_name-name.result.now
    c.take_name-name.new.cursor.rest.now c.take_name-name.ensures (search rules) in cc
