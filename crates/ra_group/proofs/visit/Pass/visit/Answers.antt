use Rattle.std.proofs.Common.{◌≡◌, None, sym, ap, ◌∙◌, rules}
use Rattle.ra_group.specs.Equations.{settled}
use Rattle.ra_group.proofs.Carried.{combines_handed}
use Rattle.ra_group.proofs.PlainLemmas.{noted_plain, plain_carries, plain_hits, plain_valid, wanting}
use Rattle.ra_group.proofs.TallyLemmas.{noted_combining}
use Rattle.ra_group.proofs.visit.Pass.visit.Goals as goal

pub returns-then-is_plain-clause-carries : goal.returns-then-is_plain-clause-carries
returns-then-is_plain-clause-carries c =
    let first : c.args.self.now.before ≡ None = search rules in
    plain_carries c.args.condition.now c.args.truth c.args.hits c.args.self.now.before
    (c.is_plain.ensures c.if-is_plain.true) first

pub returns-then-is_plain-clause-tallies : goal.returns-then-is_plain-clause-tallies
returns-then-is_plain-clause-tallies c =
    let is = c.is_plain.ensures c.if-is_plain.true in
    let first : c.args.self.now.before ≡ None = search rules in
    let here = settled c.args.condition.now c.args.truth c.args.hits c.args.self.now.before in
    c.want.ensures
    ∙ sym (noted_plain c.args.self.now.form c.args.condition.now here c.args.left c.args.self.now.tally is.plain
    ∙ ap (wanting c.args.self.now.tally)
    (plain_valid c.args.condition.now c.args.truth c.args.hits c.args.self.now.before is first))

pub returns-then-is_plain-clause-hits : goal.returns-then-is_plain-clause-hits
returns-then-is_plain-clause-hits c =
    let first : c.args.self.now.before ≡ None = search rules in
    c.more_hits.ensures
    ∙ plain_hits c.args.condition.now c.args.truth c.args.hits c.args.self.now.before
    (c.is_plain.ensures c.if-is_plain.true) first

pub returns-then-hands_on-clause-tallies : goal.returns-then-hands_on-clause-tallies
returns-then-hands_on-clause-tallies c =
    let here = settled c.args.condition.now c.args.truth c.args.hits c.args.self.now.before in
    let combining = combines_handed c.args.condition.now.flag (sym c.hands_on.ensures ∙ c.if-hands_on.true) in
    sym (noted_combining c.args.self.now.form c.args.condition.now here c.args.left c.args.self.now.tally combining)
