use Rattle.std.proofs.Common.{◌+◌, ◌-◌, ◌*◌, length, refl, ◌∙◌, ap, arith}
use Rattle.ra_trigger.specs.Steps.{TriggerKept}
use Rattle.ra_text.proofs.Rows.{words_piece}
use Rattle.ra_member.proofs.put_back.put_back_test.Goals as goal

pub returns-clause-test : goal.returns-clause-test
returns-clause-test c =
    let at = c.args.at in
    record {
      hits =
          ap (λ (k : TriggerKept). k.hits) c.put_back.ensures
          ∙ words_piece c.args.bytes.now at (at + 4 * length c.hits.result.now - at) 0 at (length
          c.args.run.now.trigger.hits) (omega (arith, ap length c.hits.ensures)) (omega arith);
      laid = refl;
    }
