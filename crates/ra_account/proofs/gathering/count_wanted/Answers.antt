use Rattle.std.proofs.Common.{◌≡◌, ◌+◌, ◌<◌, length, sym, ap, ap₂, ◌∙◌, arith}
use Rattle.std.proofs.lemmas.Grind.{common_steps}
use Rattle.ra_account.specs.Counting.{count_of}
use Rattle.ra_account.specs.Wanting.{of_alts}
use Rattle.ra_account.proofs.CountingLemmas.{count_of-le}
use Rattle.ra_account.proofs.WantLemmas.{count_alts, count_of-append, fewest_few, wants_by}
use Rattle.ra_account.proofs.gathering.count_wanted.Goals as goal

pub overflow_add-result : goal.overflow_add-result
overflow_add-result c =
    let core = c.args.core.now.wants.items in
    let some : 0 < length c.args.alts.now = grind (arith, common_steps, c.if-is_empty.false, c.is_empty.ensures) in
    let count : c.count_true-count.result ≡ count_of core =
    c.count_true-count.ensures ∙ ap count_of c.deref.ensures.value in
    omega (arith, count, count_of-le core, fewest_few c.args.alts.now some, c.requires.least, c.requires.few)

pub returns-else-is_empty : goal.returns-else-is_empty
returns-else-is_empty c =
    let core = c.args.core.now.wants.items in
    let alts = c.args.alts.now in
    let some : 0 < length alts = grind (arith, common_steps, c.if-is_empty.false, c.is_empty.ensures) in
    let count : c.count_true-count.result ≡ count_of core =
    c.count_true-count.ensures ∙ ap count_of c.deref.ensures.value in
    ap₂ (λ m n. m + n) count (sym (count_alts c.args.least alts some (omega (arith, c.requires.few)) c.requires.least))
    ∙ sym (count_of-append core (of_alts (wants_by alts)))
