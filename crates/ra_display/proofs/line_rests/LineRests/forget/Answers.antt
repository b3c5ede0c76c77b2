use Rattle.std.proofs.Common.{refl, sym}
use Rattle.ra_display.proofs.NewRests.{awake_kept, forgotten_rests}
use Rattle.ra_display.proofs.line_rests.LineRests.forget.Goals as goal

pub returns-clause-each : goal.returns-clause-each
returns-clause-each c = λ nodes values lines before runs are.
    forgotten_rests nodes values lines before runs c.args.self.now _ are refl c.forget.ensures refl

pub returns-clause-kept : goal.returns-clause-kept
returns-clause-kept c = λ runs long.
    awake_kept runs c.args.self.now.each.items c.forget.new.self c.args.self.now.schedule.readers
    c.args.self.now.schedule.truths c.args.self.now.schedule.clock c.forget.ensures
    (sym long)
