use Rattle.std.proofs.Common.{◌∙◌}
use Rattle.ra_set.proofs.CutLemmas.{line-found}
use Rattle.ra_set.proofs.names.line_length.Goals as goal

pub returns : goal.returns
returns c = c.unwrap_or.ensures ∙ line-found c.args.text.now c.memchr.result c.memchr.ensures
