use Rattle.std.proofs.Common.{◌≡◌, ◌∙◌, ◌+◌, ◌≤◌, ap, sym, subst, refl, length, arith, Ok, Err, Result}
use Rattle.std.specs.Result.{OnOk, IsErr}
use Rattle.ra_memory.specs.Image.{written}
use Rattle.ra_memref.specs.Table.{DifferWithin}
use Rattle.ra_memref.proofs.AgreeLemmas.{DifferWithin-written}
use Rattle.ra_meaning.specs.Runtime.{RuntimeSeen}
use Rattle.ra_runtime.specs.Courses.{CourseSeen}
use Rattle.ra_runtime.proofs.playthrough.Playthrough.write.Goals as goal

holds_by : {T E P : Type 0} (r : Result T E) → OnOk r P → (IsErr r → ⊥) → P
holds_by (Ok x) h fine = h
holds_by (Err e) h fine = absurd (fine refl)

pub invariant_of-self : goal.invariant_of-self
invariant_of-self c =
    let at = c.args.at in
    let bytes = c.args.bytes.now in
    let image = c.self.inside.memory in
    let inv = c.self.invariant in
    let told = c.tell.ensures in
    let same = ap (λ (s : RuntimeSeen). length s.image) c.self.view_is in
    let fits : at + length bytes ≤ length image = omega (arith, same, c.requires) in
    let now : c.write.new.self ≡ written image at bytes = holds_by c.write.result c.write.ensures.ok
    (λ e. let more = c.write.ensures.refused.0 e in absurd (omega (arith, more, fits))) in
    let differ : DifferWithin at (length bytes) image c.write.new.self = subst (λ m. DifferWithin at
    (length bytes) image m) (sym now) (DifferWithin-written image bytes at fits) in
    record {
      size = ap (λ (s : CourseSeen). s.size) told.rest ∙ inv.size ∙ sym differ.size;
      current = told.current image c.write.new.self (sym inv.size) differ inv.current;
    }
