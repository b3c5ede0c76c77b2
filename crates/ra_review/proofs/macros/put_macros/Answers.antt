use Rattle.std.proofs.Common.{sym}
use Rattle.ra_richpresence.specs.Contents.{script_contents}
use Rattle.ra_review.proofs.FrontLemmas.{not_empty}
use Rattle.ra_review.proofs.MacroLemmas.{macros_next}
use Rattle.ra_review.proofs.macros.put_macros.Goals as goal

pub loop-rest-preserved : goal.loop-rest-preserved
loop-rest-preserved c =
    macros_next (script_contents c.args.script.now) _ c.args.notices.now c.loop-rest.notices
    c.pass_line.new.notices c.loop-rest.passed c.in_ok-passed.passed
    c.loop-rest.at c.in_ok-at.at c.loop-rest.rest.now c.split_line.result.0.now
    c.split_line.result.1.now c.split_line.ensures
    (not_empty c.loop-rest.rest.now (sym c.loop-rest-test.ensures)) c.in_ok-at.ensures
    c.in_ok-passed.ensures c.loop-rest.invariant
