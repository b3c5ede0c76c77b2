use Rattle.std.proofs.Common.{ℕ, List}
use Rattle.std.proofs.lemmas.Result.{IfOk-weaker}
use Rattle.ra_meaning.specs.Runtime.{ShowsKept}
use Rattle.ra_runtime.specs.Courses.{over}
use Rattle.ra_runtime.specs.Seen.{playthrough_seen}
use Rattle.ra_runtime.proofs.playthrough.Playthrough.show.Goals as goal

pub returns-clause-shows : goal.returns-clause-shows
returns-clause-shows c =
    let t = c.self.inside in
    rw (← c.self.view_is) (IfOk-weaker c.show.result (λ text. (image : List ℕ)
    → ShowsKept (over t.course image) text.items) (λ text. ShowsKept
    (playthrough_seen t) text.items) (λ text shows. shows t.memory) c.show.ensures.shows)

pub returns-clause-now : goal.returns-clause-now
returns-clause-now c = rw (← c.self.view_is) c.show.ensures.now
