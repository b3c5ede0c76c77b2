use Rattle.std.proofs.Common.{sym, ◌∙◌}
use Rattle.ra_group.specs.Equations.{settled}
use Rattle.ra_group.proofs.Carried.{combines_handed}
use Rattle.ra_group.proofs.TallyLemmas.{noted_combining}
use Rattle.ra_group.proofs.visit.Pass.visit_any.Goals as goal

pub returns-then-hands_on-clause-tallies : goal.returns-then-hands_on-clause-tallies
returns-then-hands_on-clause-tallies c =
    let here = settled c.args.condition.now c.args.truth c.args.hits c.args.self.now.before in
    let combining = combines_handed c.args.condition.now.flag (sym c.hands_on.ensures ∙ c.if-hands_on.true) in
    sym (noted_combining c.args.self.now.form c.args.condition.now here c.args.left c.args.self.now.tally combining)

pub returns-then-combines-clause-tallies : goal.returns-then-combines-clause-tallies
returns-then-combines-clause-tallies c =
    let here = settled c.args.condition.now c.args.truth c.args.hits c.args.self.now.before in
    sym (noted_combining c.args.self.now.form c.args.condition.now here c.args.left
    c.args.self.now.tally (sym c.combines.ensures ∙ c.if-combines.true))
