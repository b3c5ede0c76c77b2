use Rattle.std.proofs.Common.{ℕ, List, map, option_map}
use Rattle.std.proofs.lemmas.Result.{IfOk-weaker}
use Rattle.ra_richpresence.specs.Contents.{line_contents, script_contents}
use Rattle.ra_display.specs.LineRests.{AreLineRests, AreOptionalRests}
use Rattle.ra_display.proofs.presence_run.rest_lines.Goals as goal

pub returns-in-Some-Some-clause-rests : goal.returns-in-Some-Some-clause-rests
returns-in-Some-Some-clause-rests c =
    let nodes = c.args.table.now.nodes in
    IfOk-weaker c.new.result
    (λ rests. (values : List ℕ) → AreLineRests nodes values
    (map line_contents c.deref-in-Some-Some.result.now) c.deref.result.now rests)
    (λ rests. (values : List ℕ) → AreOptionalRests nodes values
    (option_map script_contents c.args.script.now) c.args.run.now rests)
    (λ rests are values. rw (c.in-Some-Some.is-0, c.in-Some-Some.is-1)
    (rw (c.deref.ensures.value, c.deref-in-Some-Some.ensures.value) at (are values)))
    c.new.ensures.rests
