use Rattle.std.proofs.Common.{◌+◌, ◌≤◌, ◌∙◌, [], ◌∷◌, ap, length, sym, subst, inl, inr}
use Rattle.std.proofs.lemmas.Bool.{cases_lt, false≢true}
use Rattle.ra_memref.specs.Table.{DifferWithin, TableSeen}
use Rattle.ra_memref.proofs.AgreeLemmas.{DifferWithin-written}
use Rattle.ra_table_tests.proofs.schedules.Watch.write.Goals as goal

pub invariant_of-self : goal.invariant_of-self
invariant_of-self c =
    let memory = c.self.inside.memory in
    let was = c.self.invariant in
    let told = c.write-in-Ok.ensures in
    let fits : c.args.at + 1 ≤ length c.self.inside.memory =
    elim (cases_lt (length c.self.inside.memory) (c.args.at + 1)) [
      | inl less ↦ absurd (false≢true (c.in-Ok.ensures.refused.1 less))
      | inr within ↦ within
    ] in
    let differ = subst (DifferWithin c.args.at 1 c.self.inside.memory) (sym c.in-Ok.ensures.ok)
    (DifferWithin-written memory (c.args.byte ∷ []) c.args.at fits) in
    record {
      size = ap (λ (t : TableSeen). t.size) told.rest ∙ was.size ∙ sym differ.size;
      agrees = told.agrees memory _ (sym was.size) differ was.agrees;
      heard = rw told.rest was.heard;
      due = was.due;
    }
