use Rattle.std.proofs.Common.{sym, ◌∙◌, below_more}
use Rattle.ra_account.proofs.stands.are_calm.Goals as goal

pub loop-place-preserved : goal.loop-place-preserved
loop-place-preserved c =
    below_more _ _ c.loop-place.invariant (sym c.acts.ensures ∙ c.if-acts.false)
