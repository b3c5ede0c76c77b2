use Rattle.std.proofs.Common.{Ok, refl, subst}
use Rattle.ra_text.specs.declared.base.Base.TheVariants.{Ten}
use Rattle.ra_text.specs.Number.{decimal, BeginsIn, digits}
use Rattle.ra_text.specs.ReadingNumbers.{decimal_at}
use Rattle.ra_text.specs.Table.{lookup}
use Rattle.ra_text.proofs.Numbers.{reads-decimal, some-digit, no-digit}
use Rattle.ra_text.proofs.Places.{rest_fits, ends_ok}
use Rattle.ra_text.proofs.read_numbers.read_decimal.Goals as goal

pub place-requires : goal.place-requires
place-requires c = rest_fits decimal decimal_at reads-decimal c.args.text.now c.args.at
    c.new-cursor.result.rest.now c.new-cursor.ensures
    (Ok (c.in-Ok.number, c.decimal.new.self.rest.now)) c.in-Ok.ensures

pub returns-in-Ok-clause-found : goal.returns-in-Ok-clause-found
returns-in-Ok-clause-found c = ends_ok decimal decimal_at reads-decimal c.args.text.now c.args.at
    c.new-cursor.result.rest.now c.new-cursor.ensures c.requires c.in-Ok.number
    c.decimal.new.self.rest.now c.in-Ok.ensures c.place.result c.place.ensures

pub returns-in-Ok-clause-digit : goal.returns-in-Ok-clause-digit
returns-in-Ok-clause-digit c = (
  λ is. subst (λ t. BeginsIn (lookup digits) (t)) c.new-cursor.ensures (some-digit Ten
      c.new-cursor.result.rest.now c.in-Ok.number c.decimal.new.self.rest.now c.in-Ok.ensures),
  λ stands. refl,
)

pub returns-in-Err-clause-digit : goal.returns-in-Err-clause-digit
returns-in-Err-clause-digit c = (
  λ is. absurd (cc is),
  λ stands. absurd (no-digit Ten c.new-cursor.result.rest.now c.decimal.new.self.rest.now
      c.in-Err.ensures (rw c.new-cursor.ensures stands)),
)
