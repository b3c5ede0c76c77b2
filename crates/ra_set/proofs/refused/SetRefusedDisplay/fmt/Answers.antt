use Rattle.std.proofs.Common.{◌++◌, ◌∙◌, ap, sym, append_assoc, codes, decimal}
use Rattle.std.proofs.Output.{has_written_of_eq}
use Rattle.ra_set.specs.Words.{set_words}
use Rattle.ra_set.proofs.refused.SetRefusedDisplay.fmt.Goals as goal

pub returns-in-DuplicateId-clause-writes : goal.returns-in-DuplicateId-clause-writes
returns-in-DuplicateId-clause-writes g c = λ plain ok.
    let id = decimal c.in-DuplicateId.id in
    let line = decimal c.in-DuplicateId.line in
    let text = sym (append_assoc (codes "id " ++ id) (codes " again on line ") line
    ∙ append_assoc (codes "id ") id (codes " again on line " ++ line))
    ∙ ap set_words (sym c.in-DuplicateId.is) in
    has_written_of_eq _ _ _ _ _ text (c.write-in-DuplicateId.ensures.writes plain ok)
