use Rattle.std.proofs.Common.{◌∙◌, arith}
use Rattle.ra_set.proofs.CutLemmas.{line-cut, rest-cut, none-behind, some-behind, line-short}
use Rattle.ra_set.proofs.names.first_line.Goals as goal

pub split_at-requires : goal.split_at-requires
split_at-requires c = let short = line-short c.args.text.now in omega (arith, short, c.line_length.ensures)

pub returns-in-empty-clause-line : goal.returns-in-empty-clause-line
returns-in-empty-clause-line c = line-cut c.args.text.now c.split_at.result.0.now c.line_length.result
    c.split_at.ensures.front c.line_length.ensures

pub returns-in-empty-clause-rest : goal.returns-in-empty-clause-rest
returns-in-empty-clause-rest c =
    none-behind c.split_at.result.1.now c.in-empty.len_below
    ∙ rest-cut c.args.text.now c.split_at.result.1.now c.line_length.result c.split_at.ensures.back
    c.line_length.ensures

pub returns-in-len1-up-clause-line : goal.returns-in-len1-up-clause-line
returns-in-len1-up-clause-line c = line-cut c.args.text.now c.split_at.result.0.now c.line_length.result
    c.split_at.ensures.front c.line_length.ensures

pub returns-in-len1-up-clause-rest : goal.returns-in-len1-up-clause-rest
returns-in-len1-up-clause-rest c =
    some-behind c.split_at.result.1.now c.in-len1-up.len_at_least
    ∙ rest-cut c.args.text.now c.split_at.result.1.now c.line_length.result c.split_at.ensures.back
    c.line_length.ensures
