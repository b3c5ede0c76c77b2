use Rattle.std.proofs.Common.{length, ap, arith}
use Rattle.ra_member.proofs.Lengths.{hits_of_tests, hits_of_values, numbers_of_values, length_hits, length_numbers}
use Rattle.ra_member.proofs.member.Member.shape.Goals as goal

pub hits_of_tests-tests-requires : goal.hits_of_tests-tests-requires
hits_of_tests-tests-requires c =
    omega (
      arith,
      c.requires.hits,
      length_hits c.args.self.now,
      ap (λ ts. length (hits_of_tests ts)) c.deref.ensures.value,
    )

pub shape_of_values-values-requires-clause-hits : goal.shape_of_values-values-requires-clause-hits
shape_of_values-values-requires-clause-hits c =
    omega (
      arith,
      c.requires.hits,
      length_hits c.args.self.now,
      ap (λ vs. length (hits_of_values vs)) c.deref-2.ensures.value,
    )

pub shape_of_values-values-requires-clause-numbers : goal.shape_of_values-values-requires-clause-numbers
shape_of_values-values-requires-clause-numbers c =
    omega (
      arith,
      c.requires.numbers,
      length_numbers c.args.self.now,
      ap (λ vs. length (numbers_of_values vs)) c.deref-2.ensures.value,
    )

pub overflow_add-result : goal.overflow_add-result
overflow_add-result c =
    omega (
      arith,
      c.requires.hits,
      length_hits c.args.self.now,
      c.hits_of_tests-tests.ensures,
      c.shape_of_values-values.ensures.hits,
      ap (λ ts. length (hits_of_tests ts)) c.deref.ensures.value,
      ap (λ vs. length (hits_of_values vs)) c.deref-2.ensures.value,
    )

pub returns-clause-hits : goal.returns-clause-hits
returns-clause-hits c =
    omega (
      arith,
      length_hits c.args.self.now,
      c.hits_of_tests-tests.ensures,
      c.shape_of_values-values.ensures.hits,
      ap (λ ts. length (hits_of_tests ts)) c.deref.ensures.value,
      ap (λ vs. length (hits_of_values vs)) c.deref-2.ensures.value,
    )

pub returns-clause-numbers : goal.returns-clause-numbers
returns-clause-numbers c =
    omega (
      arith,
      length_numbers c.args.self.now,
      c.shape_of_values-values.ensures.numbers,
      ap (λ vs. length (numbers_of_values vs)) c.deref-2.ensures.value,
    )
