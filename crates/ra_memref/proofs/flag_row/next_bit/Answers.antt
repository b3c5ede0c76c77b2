use Rattle.std.proofs.Common.{arith}
use Rattle.ra_memref.proofs.FlagLemmas.{first_bit, none_from_bit}
use Rattle.ra_memref.proofs.flag_row.next_bit.Goals as goal

pub returns-then-rest-eq0-clause-none : goal.returns-then-rest-eq0-clause-none
returns-then-rest-eq0-clause-none c = λ k low high.
    none_from_bit c.args.word c.args.from c.if-rest-eq0.true k low

pub returns-else-rest-eq0-clause-most : goal.returns-else-rest-eq0-clause-most
returns-else-rest-eq0-clause-most c =
    (first_bit c.args.word c.args.from c.ranges.word.fits (omega (arith, c.if-rest-eq0.false))).0

pub returns-else-rest-eq0-clause-none : goal.returns-else-rest-eq0-clause-none
returns-else-rest-eq0-clause-none c =
    (first_bit c.args.word c.args.from c.ranges.word.fits (omega (arith, c.if-rest-eq0.false))).1
