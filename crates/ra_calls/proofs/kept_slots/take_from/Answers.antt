use Rattle.ra_calls.proofs.SlotLemmas.{done-so}
use Rattle.ra_calls.proofs.kept_slots.take_from.Goals as goal

pub returns : goal.returns
returns c = done-so c.take.result _ _ c.take.ensures.taken c.take.ensures.other c.requires
