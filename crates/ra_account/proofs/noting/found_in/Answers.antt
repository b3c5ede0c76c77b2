use Rattle.std.proofs.Common.{sym}
use Rattle.ra_account.specs.Groups.{row_frame, row_in}
use Rattle.ra_account.proofs.CalmLemmas.{nothing_moves, nothing_pauses, nothing_resets}
use Rattle.ra_account.proofs.noting.found_in.Goals as goal

pub returns-then-calm-clause-paused : goal.returns-then-calm-clause-paused
returns-then-calm-clause-paused c =
    sym (nothing_pauses (row_frame c.args.conditions.now (row_in c.args.row.now)) (c.requires.calm c.if-calm.true))

pub returns-then-calm-clause-resets : goal.returns-then-calm-clause-resets
returns-then-calm-clause-resets c =
    sym (nothing_resets (row_frame c.args.conditions.now (row_in c.args.row.now)) (c.requires.calm c.if-calm.true))

pub returns-then-calm-clause-moved : goal.returns-then-calm-clause-moved
returns-then-calm-clause-moved c = λ stays.
    nothing_moves c.args.conditions.now c.args.seen.now (row_in c.args.row.now) (c.requires.calm c.if-calm.true)
