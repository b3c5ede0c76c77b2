use Rattle.std.proofs.Common.{Some, sym, subst}
use Rattle.ra_runtime.specs.Keeping.{AreLent, KeptSeen, kept_seen}
use Rattle.ra_runtime.proofs.KeptBlocks.{blocks_lent}
use Rattle.ra_runtime.proofs.kept.Kept.blocks.Goals as goal

pub returns : goal.returns
returns c =
    let t = c.self.inside in
    let inv = c.self.invariant in
    let lent = blocks_lent (kept_seen t) t.bytes.items t.display inv.blocks inv.display in
    let there : AreLent (kept_seen t) t.bytes.items t.places.items (Some t.display) =
    subst (λ ps. AreLent (kept_seen t) t.bytes.items ps (Some t.display)) (sym inv.places) lent in
    let all : AreLent (kept_seen t) c.deref.result.now c.deref-2.result.now (Some t.display) =
    rw (c.deref.ensures.value, c.deref-2.ensures.value) there in
    subst (λ (k : KeptSeen). AreLent k c.deref.result.now c.deref-2.result.now (Some t.display)) c.self.view_is all
