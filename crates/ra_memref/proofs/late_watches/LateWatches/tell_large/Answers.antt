use Rattle.std.proofs.Common.{None, Some, refl, ◌∙◌, ap, subst, arith}
use Rattle.ra_memref.specs.declared.told_bytes.ToldBytes.{ToldBytes}
use Rattle.ra_memref.specs.LateWatches.{with_told}
use Rattle.ra_memref.specs.Watches.{MarksWatchers, WatchesSeen}
use Rattle.ra_memref.proofs.LateLemmas.{none_told, told_joined}
use Rattle.ra_memref.proofs.late_watches.LateWatches.tell_large.Goals as goal

pub invariant_of-self : goal.invariant_of-self
invariant_of-self c =
    let same = ap (λ (w : WatchesSeen). w.size) c.self.view_is in
    record {
      many = c.self.invariant.many;
      within = c.in-Some.ensures.within c.self.inside.watches.size c.self.invariant.within
          (omega (arith, c.requires.within, same));
      small = omega (arith, c.requires.small, same);
    }

pub returns-in-Some : goal.returns-in-Some
returns-in-Some c =
    let w = c.self.inside.watches in
    subst (λ seen. MarksWatchers seen (with_told (Some c.in-Some.bytes) w) c.args.at c.args.count) c.self.view_is
    (told_joined c.self.inside.told w c.args.at c.args.count c.in-Some.bytes c.self.invariant.many c.in-Some.ensures)

pub invariant_of-self-2 : goal.invariant_of-self-2
invariant_of-self-2 c =
    let same = ap (λ (w : WatchesSeen). w.size) (c.mark_told.ensures ∙ c.self.view_is) in
    record {
      many = (none_told c.self.inside.told c.self.inside.watches c.mark_told.new.watches c.self.invariant.many
          c.mark_told.ensures).many;
      within = omega (arith, c.requires.within, same);
      small = omega (arith, c.requires.small, same);
    }

pub returns : goal.returns
returns c =
    let now = c.mark_told.new.watches in
    let bytes : ToldBytes = record { at = c.args.at; count = c.args.count } in
    let none = none_told c.self.inside.told c.self.inside.watches now c.self.invariant.many c.mark_told.ensures in
    subst (λ seen. MarksWatchers seen (with_told (Some bytes) now) c.args.at c.args.count)
    (c.mark_told.ensures ∙ c.self.view_is)
    (told_joined None now c.args.at c.args.count bytes none.many
    (record { both = λ size place width. refl; within = λ size told fits. fits }))
