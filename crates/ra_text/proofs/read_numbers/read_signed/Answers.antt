use Rattle.std.proofs.Common.{Ok, refl, subst}
use Rattle.ra_text.specs.Number.{signed, BeginsIn, behind_sign, digits}
use Rattle.ra_text.specs.ReadingNumbers.{signed_at}
use Rattle.ra_text.specs.Table.{lookup}
use Rattle.ra_text.proofs.Numbers.{reads-signed, some-signed, no-signed}
use Rattle.ra_text.proofs.Places.{rest_fits, ends_ok}
use Rattle.ra_text.proofs.read_numbers.read_signed.Goals as goal

pub place-requires : goal.place-requires
place-requires c = rest_fits signed signed_at reads-signed c.args.text.now c.args.at
    c.new-cursor.result.rest.now c.new-cursor.ensures
    (Ok (c.in-Ok.number, c.signed.new.self.rest.now)) c.in-Ok.ensures

pub returns-in-Ok-clause-found : goal.returns-in-Ok-clause-found
returns-in-Ok-clause-found c = ends_ok signed signed_at reads-signed c.args.text.now c.args.at
    c.new-cursor.result.rest.now c.new-cursor.ensures c.requires c.in-Ok.number
    c.signed.new.self.rest.now c.in-Ok.ensures c.place.result c.place.ensures

pub returns-in-Ok-clause-digit : goal.returns-in-Ok-clause-digit
returns-in-Ok-clause-digit c = (
  λ is. subst (λ t. BeginsIn (lookup digits) (behind_sign t)) c.new-cursor.ensures (some-signed
      c.new-cursor.result.rest.now c.in-Ok.number c.signed.new.self.rest.now c.in-Ok.ensures),
  λ stands. refl,
)

pub returns-in-Err-clause-digit : goal.returns-in-Err-clause-digit
returns-in-Err-clause-digit c = (
  λ is. absurd (cc is),
  λ stands. absurd (no-signed c.new-cursor.result.rest.now c.signed.new.self.rest.now
      c.in-Err.ensures (rw c.new-cursor.ensures stands)),
)
