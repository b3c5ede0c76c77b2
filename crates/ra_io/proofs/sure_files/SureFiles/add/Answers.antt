use Rattle.std.proofs.Common.{arith}
use Rattle.std.proofs.lemmas.Map.Text.{text_keys}
use Rattle.ra_io.proofs.sure_files.SureFiles.add.Goals as goal

pub returns-clause-ok : goal.returns-clause-ok
returns-clause-ok c = record {
  changed = grind (arith, text_keys);
  others = λ other ne. grind (arith, text_keys);
}
