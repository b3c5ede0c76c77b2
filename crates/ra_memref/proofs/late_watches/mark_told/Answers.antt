use Rattle.std.proofs.Common.{sym, ◌∙◌, ap}
use Rattle.ra_memref.specs.LateWatches.{with_told}
use Rattle.ra_memref.proofs.LateLemmas.{told_now}
use Rattle.ra_memref.proofs.late_watches.mark_told.Goals as goal

pub returns-in-Some : goal.returns-in-Some
returns-in-Some c =
    told_now c.in-Some.bytes c.args.watches.now c.tell.new.self c.requires.many c.tell.ensures
    ∙ ap (λ told. with_told told c.args.watches.now) (sym c.in-Some.is)
