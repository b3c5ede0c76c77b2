use Rattle.std.proofs.Common.{sym, subst, [], Bor, List, ℕ, Option, option_map}
use Rattle.ra_jobs.specs.Outside.{AnyRose}
use Rattle.ra_args.specs.Words.{file_in}
use Rattle.ra_session.proofs.RunLemmas.{any_first}
use Rattle.ra_session.proofs.run.put_kept.Goals as goal

pub returns-in-Ok-clause-failed : goal.returns-in-Ok-clause-failed
returns-in-Ok-clause-failed g c = λ is.
    subst (λ (r : Option (Bor (List ℕ))). AnyRose (g.F.Files.put_faults c.args.files.now)
    (g.F.Files.put_faults c.put.new.self) (file_in (option_map (λ name. name.now) r)))
    (sym c.in-Some.is)
    (any_first _ c.in-Some.name.now [] (c.put.ensures.failed is))
