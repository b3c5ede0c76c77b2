use Rattle.std.proofs.Common.{◌≡◌, length, ◌∙◌, ap, arith}
use Rattle.std.specs.Vec.{with_items}
use Rattle.std.proofs.lemmas.List.{with_items_is}
use Rattle.ra_member.specs.declared.member.Member.{Member}
use Rattle.ra_member.proofs.Lengths.{hits_of_tests, hits_of_values, numbers_of_values, length_hits, length_numbers}
use Rattle.ra_member.proofs.SavedRows.{hits_back, numbers_back}
use Rattle.ra_member.proofs.member.Member.put_back.Goals as goal

pub put_back_tests-hits-requires : goal.put_back_tests-hits-requires
put_back_tests-hits-requires c =
    omega (
      arith,
      c.requires.hits,
      length_hits c.args.self.now,
      ap (λ ts. length (hits_of_tests ts)) c.deref_mut.ensures.value,
    )

pub put_back_values-requires-clause-hits : goal.put_back_values-requires-clause-hits
put_back_values-requires-clause-hits c =
    omega (
      arith,
      c.requires.hits,
      length_hits c.args.self.now,
      c.put_back_tests-hits.ensures.place,
      ap (λ ts. length (hits_of_tests ts)) c.deref_mut.ensures.value,
      ap (λ vs. length (hits_of_values vs)) c.deref_mut-2.ensures.value,
    )

pub put_back_values-requires-clause-numbers : goal.put_back_values-requires-clause-numbers
put_back_values-requires-clause-numbers c =
    omega (
      arith,
      c.requires.numbers,
      length_numbers c.args.self.now,
      ap (λ vs. length (numbers_of_values vs)) c.deref_mut-2.ensures.value,
    )

pub returns-clause-hits : goal.returns-clause-hits
returns-clause-hits c =
    let old = c.args.self.now in
    let tests = c.put_back_tests-hits.new.tests in
    let values = c.put_back_values.new.values in
    let new : Member = record { tests = with_items old.tests tests; values = with_items old.values values } in
    let same : new.tests.items ≡ tests =
    with_items_is old.tests tests (c.put_back_tests-hits.auto.tests ∙ c.deref_mut.ensures.len) in
    let same_too : new.values.items ≡ values =
    with_items_is old.values values (c.put_back_values.auto.values ∙ c.deref_mut-2.ensures.len) in
    let tests_back = rw c.deref_mut.ensures.value at c.put_back_tests-hits.ensures.hits in
    let values_back = rw c.deref_mut-2.ensures.value at c.put_back_values.ensures.hits in
    let place = rw c.deref_mut.ensures.value at c.put_back_tests-hits.ensures.place in
    hits_back c.args.bytes.now c.args.at.hits c.put_back_tests-hits.result old new
    (ap hits_of_tests same ∙ tests_back) (ap hits_of_values same_too ∙ values_back) place

pub returns-clause-numbers : goal.returns-clause-numbers
returns-clause-numbers c =
    let old = c.args.self.now in
    let values = c.put_back_values.new.values in
    let new : Member =
    record { tests = with_items old.tests c.put_back_tests-hits.new.tests; values = with_items old.values values } in
    let same : new.values.items ≡ values =
    with_items_is old.values values (c.put_back_values.auto.values ∙ c.deref_mut-2.ensures.len) in
    numbers_back c.args.bytes.now c.args.at.numbers old new (ap numbers_of_values same
    ∙ rw c.deref_mut-2.ensures.value at c.put_back_values.ensures.numbers)

pub returns-clause-next_hits : goal.returns-clause-next_hits
returns-clause-next_hits c =
    omega (
      arith,
      length_hits c.args.self.now,
      c.put_back_tests-hits.ensures.place,
      c.put_back_values.ensures.next_hits,
      ap (λ ts. length (hits_of_tests ts)) c.deref_mut.ensures.value,
      ap (λ vs. length (hits_of_values vs)) c.deref_mut-2.ensures.value,
    )

pub returns-clause-next_numbers : goal.returns-clause-next_numbers
returns-clause-next_numbers c =
    omega (
      arith,
      length_numbers c.args.self.now,
      c.put_back_values.ensures.next_numbers,
      ap (λ vs. length (numbers_of_values vs)) c.deref_mut-2.ensures.value,
    )
