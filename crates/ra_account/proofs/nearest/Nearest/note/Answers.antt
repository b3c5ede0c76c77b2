use Rattle.std.proofs.Common.{◌<◌, ◌^◌, arith, ap, sym, refl, ◌++◌, ◌∙◌}
use Rattle.ra_account.specs.Counting.{count_of}
use Rattle.ra_account.specs.Nearness.{Lack, nearer_by}
use Rattle.ra_account.specs.Wanting.{of_alts}
use Rattle.ra_account.proofs.NearLemmas.{note_near, note_far}
use Rattle.ra_account.proofs.RefillLemmas.{refilled}
use Rattle.ra_account.proofs.WantLemmas.{wants_by}
use Rattle.ra_account.proofs.nearest.Nearest.note.Goals as goal

pub returns-then-not-is_nearer-clause-noted : goal.returns-then-not-is_nearer-clause-noted
returns-then-not-is_nearer-clause-noted c = λ earlier long known.
    let wants = c.args.core.now.wants.items ++ of_alts (wants_by c.args.alts.now) in
    let now : Lack = record { reset = c.args.reset; wants = wants } in
    let few : count_of wants < 2 ^ 64 = omega (arith, c.count_wanted-count.ensures) in
    let old = c.args.self.now in
    let near = ap (λ n. nearer_by old.reset old.count c.args.reset n) (sym c.count_wanted-count.ensures)
    ∙ sym c.is_nearer.ensures ∙ c.if-not-is_nearer.true in
    note_near now earlier old _ few known near (sym long) refl
    (refilled old.wants.len c.gather_wants.new.wanted old.wants.items
    (sym (c.gather_wants.auto.wanted ∙ c.deref_mut.ensures.len))
    ∙ c.gather_wants.ensures)
    c.count_wanted-count.ensures

pub returns-else-not-is_nearer-clause-noted : goal.returns-else-not-is_nearer-clause-noted
returns-else-not-is_nearer-clause-noted c = λ earlier long known.
    let wants = c.args.core.now.wants.items ++ of_alts (wants_by c.args.alts.now) in
    let now : Lack = record { reset = c.args.reset; wants = wants } in
    let few : count_of wants < 2 ^ 64 = omega (arith, c.count_wanted-count.ensures) in
    let old = c.args.self.now in
    let near = ap (λ n. nearer_by old.reset old.count c.args.reset n) (sym c.count_wanted-count.ensures)
    ∙ sym c.is_nearer.ensures ∙ c.if-not-is_nearer.false in
    note_far now earlier old few known near
