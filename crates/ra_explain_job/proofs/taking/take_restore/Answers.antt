use Rattle.std.proofs.Common.{sym, ◌∙◌}
use Rattle.std.proofs.lemmas.Bool.{false≢true}
use Rattle.ra_explain_job.proofs.FollowLemmas.{unfilled}
use Rattle.ra_explain_job.proofs.taking.take_restore.Goals as goal

pub returns-then-not-is_filled-clause-refused : goal.returns-then-not-is_filled-clause-refused
returns-then-not-is_filled-clause-refused c = λ m follows.
    unfilled c.args.recorder.now m c.args.slot follows
    (λ filled. false≢true (sym c.if-not-is_filled.true ∙ c.is_filled.ensures.1 filled))
