use Rattle.std.proofs.Common.{◌≡◌, ap, rules, sym, ◌∙◌, Some, true}
use Rattle.ra_indirect.proofs.Positions.{Interns-inserted}
use Rattle.ra_memref.specs.declared.layout.TrackedMask.{TrackedMask}
use Rattle.ra_memref.specs.contracts.layout.TrackedMaskPartialEq.TheImpl.{ghosts}
use Rattle.ra_memref.proofs.layout.intern_mask.Goals as goal

same : (a b : TrackedMask) → ghosts.eq a b ≡ true → a ≡ b
same a b equal = search rules

itself : (a : TrackedMask) → ghosts.eq a a ≡ true
itself a = search rules

pub returns : goal.returns
returns c =
    let e = c.in_ok-place.ensures in
    let here = e.stored.1 ∙ ap Some (sym (same _ _ e.stored.2)) in
    Interns-inserted ghosts.eq same itself _ _ _ _ e.keys e.index here
