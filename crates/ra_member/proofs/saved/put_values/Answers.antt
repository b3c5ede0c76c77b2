use Rattle.std.proofs.Common.{ap, subst, arith}
use Rattle.std.proofs.lemmas.List.{take_all}
use Rattle.ra_member.specs.MemberRuns.{PutsBehind}
use Rattle.ra_member.proofs.Lengths.{numbers_of_values}
use Rattle.ra_member.proofs.saved.put_values.Goals as goal

pub returns-clause-numbers : goal.returns-clause-numbers
returns-clause-numbers c =
    let l = c.loop-value in
    subst (PutsBehind c.args.numbers.now.items l.numbers.items) (ap numbers_of_values
    (take_all l.value-index c.args.values.now (omega arith))) l.invariant.numbers
