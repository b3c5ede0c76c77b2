use Rattle.std.proofs.Common.{◌+◌, ◌-◌, ◌*◌, length, refl, ◌∙◌, ap, arith}
use Rattle.ra_value.specs.Steps.{ValueKept}
use Rattle.ra_text.proofs.Rows.{words_piece}
use Rattle.ra_member.proofs.put_back.put_back_value.Goals as goal

pub returns-clause-value : goal.returns-clause-value
returns-clause-value c =
    let bytes = c.args.bytes.now in
    let at = c.args.at.hits in
    let numbers = c.args.at.numbers in
    let old = c.args.run.now.value in
    record {
      hits_too = ap (λ (k : ValueKept). k.hits) c.put_back.ensures
          ∙ words_piece bytes at (at + 4 * length c.hits.result.now - at) 0 at (length old.hits)
          (omega (arith, ap length c.hits.ensures)) (omega arith);
      numbers_too = ap (λ (k : ValueKept). k.numbers) c.put_back.ensures
          ∙ words_piece bytes numbers (numbers + 4 * length c.kept.result.now - numbers) 0 numbers
          (length old.numbers) (omega (arith, ap length c.kept.ensures)) (omega arith);
      rest = refl;
    }
