use Rattle.std.proofs.Common.{◌≡◌, ap, sym, subst}
use Rattle.ra_meaning.specs.Order.{shape_of}
use Rattle.ra_progress.specs.Contents.{IsOpening, Opening}
use Rattle.ra_runtime.specs.Keeping.{KeptSeen}
use Rattle.ra_calls.specs.Standing.{HasStood}
use Rattle.ra_calls.proofs.SlotLemmas.{done-so, kept-with}
use Rattle.ra_calls.proofs.kept_slots.keep_in.Goals as goal

pub returns-clause-opening : goal.returns-clause-opening
returns-clause-opening c =
    ap (λ (k : KeptSeen). k.opening)
    (done-so c.keep.result _ _ c.keep.ensures.kept c.keep.ensures.other c.requires.of_set.of_set)

pub returns-clause-of_set : goal.returns-clause-of_set
returns-clause-of_set c =
    let of_set = c.requires.of_set.of_set in
    let same = done-so c.keep.result _ _ c.keep.ensures.kept c.keep.ensures.other of_set in
    let opening = done-so c.keep.result _ _ c.keep.ensures.opening c.keep.ensures.other of_set in
    let there = ap (λ (k : KeptSeen). k.opening) same in
    record {
      of_set =
          kept-with _ _ _ of_set (subst (IsOpening (shape_of c.args.course.now.set)) (sym there) opening)
          (subst (λ (o : Opening). c.keep.new.kept ≡ record c.args.kept.now { opening = o }) (sym there) same);
      stood = subst (HasStood c.args.course.now.set) (sym there) c.requires.stood;
    }
