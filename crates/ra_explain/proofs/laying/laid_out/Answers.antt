use Rattle.std.proofs.Common.{[], List, subst}
use Rattle.ra_condition.specs.Contents.{trigger_contents}
use Rattle.ra_indirect.specs.declared.node.Node.{Node}
use Rattle.ra_member.specs.Runs.{IsNewTrigger}
use Rattle.ra_explain.proofs.MadeLemmas.{laid}
use Rattle.ra_explain.proofs.laying.laid_out.Goals as goal

pub returns : goal.returns
returns c =
    let t = trigger_contents c.args.text.now in
    let run = c.in_ok-run.run' in
    let made : IsNewTrigger [] c.new.new.pool t run = subst (λ (ns : List Node). IsNewTrigger ns
    c.new.new.pool t run) c.new-pool.ensures c.in_ok-run.ensures in
    laid t c.new.new.pool c.args.size c.in_ok-table.table run made c.in_ok-table.ensures
