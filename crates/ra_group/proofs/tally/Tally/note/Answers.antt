use Rattle.std.proofs.Common.{◌≡◌, true, rules, sym}
use Rattle.ra_condition.specs.Flags.{combines}
use Rattle.ra_group.proofs.TallyLemmas.{noted_combining}
use Rattle.ra_group.proofs.tally.Tally.note.Goals as goal

pub returns-in-AddSource : goal.returns-in-AddSource
returns-in-AddSource c =
    let combining : combines c.args.condition.now.flag ≡ true = search rules in
    sym (noted_combining c.args.form c.args.condition.now c.args.settled.now c.args.left c.args.self.now combining)

pub returns-in-OrNext : goal.returns-in-OrNext
returns-in-OrNext c =
    let combining : combines c.args.condition.now.flag ≡ true = search rules in
    sym (noted_combining c.args.form c.args.condition.now c.args.settled.now c.args.left c.args.self.now combining)
