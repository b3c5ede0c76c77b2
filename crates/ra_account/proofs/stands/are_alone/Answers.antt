use Rattle.std.proofs.Common.{sym, ◌∙◌, below_more}
use Rattle.ra_account.proofs.stands.are_alone.Goals as goal

pub loop-place-preserved : goal.loop-place-preserved
loop-place-preserved c =
    below_more _ _ c.loop-place.invariant (sym c.leaves.ensures ∙ c.if-leaves.false)
