use Rattle.std.proofs.Common.{◌+◌, ◌≤◌, length, sym, subst, ◌∙◌, inl, inr}
use Rattle.std.proofs.lemmas.Bool.{cases_lt, false≢true}
use Rattle.ra_memref.specs.Table.{DifferWithin}
use Rattle.ra_memref.proofs.AgreeLemmas.{DifferWithin-written}
use Rattle.ra_table_tests.proofs.tables.machine.Machine.write.Goals as goal

pub invariant_of-self-clause-agrees : goal.invariant_of-self-clause-agrees
invariant_of-self-clause-agrees c =
    let memory = c.args.self.now.memory in
    let fits : c.args.at + length c.args.bytes.now ≤ length c.args.self.now.memory =
    elim (cases_lt (length c.args.self.now.memory) (c.args.at + length c.args.bytes.now))
    [ inl less ↦ absurd (false≢true (c.in-Ok.ensures.refused.1 less)) | inr within ↦ within ] in
    let differ = subst (DifferWithin c.args.at (length c.args.bytes.now) c.args.self.now.memory)
    (sym c.in-Ok.ensures.ok) (DifferWithin-written memory c.args.bytes.now c.args.at fits) in
    c.write-in-Ok.ensures.agrees memory _ (sym c.args.self.now.size) differ c.args.self.now.agrees
