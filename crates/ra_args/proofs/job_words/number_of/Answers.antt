use Rattle.std.proofs.Common.{rules}
use Rattle.ra_args.proofs.NumberWords.{signed, padded, empty, parsed}
use Rattle.ra_args.proofs.job_words.number_of.Goals as goal

pub returns-in_default : goal.returns-in_default
returns-in_default c = search (rules, empty)

pub returns-then-first-eq43 : goal.returns-then-first-eq43
returns-then-first-eq43 c = search (rules, signed, padded)

pub returns : goal.returns
returns c = search (rules, parsed)
