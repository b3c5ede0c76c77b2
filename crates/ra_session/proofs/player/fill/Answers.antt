use Rattle.std.proofs.Common.{◌≡◌, sym, subst, refl, IfSome}
use Rattle.ra_meaning.specs.Order.{shape_of}
use Rattle.ra_runtime.specs.Keeping.{KeptSeen, IsKeptFor}
use Rattle.ra_runtime.proofs.Results.{either}
use Rattle.ra_session.proofs.player.fill.Goals as goal

pub returns-in-Some : goal.returns-in-Some
returns-in-Some c = λ opening filled.
    let shape = shape_of c.args.runtime.now.set in
    let was : IsKeptFor shape c.in-Some.state = subst (λ slot. IfSome slot (IsKeptFor shape)) c.in-Some.is filled in
    either c.keep.result
    (λ same. subst (λ (k : KeptSeen). IsKeptFor shape k × (k.opening ≡ c.args.runtime.now.kept)) (sym same) (
      record {
        digest = was.digest;
        cells = opening.cells.as_many;
        priors = opening.priors.as_many;
        items = was.items;
        presence = was.presence;
      },
      refl,
    ))
    (λ other. absurd (other was)) c.keep.ensures.kept c.keep.ensures.other
