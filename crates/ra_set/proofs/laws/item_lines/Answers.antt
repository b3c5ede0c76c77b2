use Rattle.ra_set.proofs.ItemTexts.{texts-spelled}
use Rattle.ra_set.proofs.laws.item_lines.Goals as goal

pub returns : goal.returns
returns c = texts-spelled
