use Rattle.std.proofs.Common.{sym, ◌∙◌, ap, ap₂, ◌++◌, subst}
use Rattle.ra_member.specs.MemberRuns.{PutsBehind}
use Rattle.ra_member.proofs.Lengths.{hits_of_tests, hits_of_values, numbers_of_values, hits_row, numbers_row}
use Rattle.ra_member.proofs.SavedRows.{behind_both}
use Rattle.ra_member.proofs.member.Member.save.Goals as goal

pub returns-clause-hits : goal.returns-clause-hits
returns-clause-hits c =
    let first = c.args.hits.now.items in
    let next = c.put_tests.new.hits.items in
    let last = c.put_values.new.hits.items in
    let both = behind_both first next last (hits_of_tests c.deref.result.now) (hits_of_values
    c.deref-2.result.now) c.in_ok-put_tests.ensures c.in_ok-put_values.ensures.hits in
    let row = ap₂ (λ ts vs. hits_of_tests ts ++ hits_of_values vs) c.deref.ensures.value
    c.deref-2.ensures.value ∙ sym (hits_row c.args.self.now) in
    subst (PutsBehind first last) row both

pub returns-clause-numbers : goal.returns-clause-numbers
returns-clause-numbers c =
    subst (PutsBehind c.args.numbers.now.items c.put_values.new.numbers.items) (ap numbers_of_values
    c.deref-2.ensures.value ∙ sym (numbers_row c.args.self.now)) c.in_ok-put_values.ensures.numbers
