use Rattle.std.proofs.Common.{◌≡◌, ◌-◌, length, ◌∙◌, arith}
use Rattle.ra_account.proofs.CountingLemmas.{count_of-le}
use Rattle.ra_account.proofs.RunLemmas.{long_run}
use Rattle.ra_account.proofs.condition.ConditionAccount.note_run.Goals as goal

pub note_run-requires-clause-within : goal.note_run-requires-clause-within
note_run-requires-clause-within c =
    let known = c.requires.counted in
    rw known.counted.counts_too (omega (arith, count_of-le known.counts, known.long))

pub note_run-requires-2-clause-within : goal.note_run-requires-2-clause-within
note_run-requires-2-clause-within c =
    let known = c.requires.counted in
    rw known.counted.past_too (omega (arith, count_of-le known.past, known.long, known.counted.as_many))

pub note_run-requires-3-clause-few : goal.note_run-requires-3-clause-few
note_run-requires-3-clause-few c =
    let known = c.requires.counted in
    omega (arith, known.counted.columns_too.columns_too.frames, known.long, c.requires.order, c.requires.few)

pub returns-clause-noted : goal.returns-clause-noted
returns-clause-noted c = λ held lacks known.
    let stands = c.requires.counted in
    let here = known.columns_too.columns_too.frames in
    let there = stands.counted.columns_too.columns_too.frames in
    let long : length held ≡ c.args.from = omega (arith, here, there, stands.long) in
    let n = c.args.to - c.args.from in
    record {
      as_many = long_run n c.args.past lacks ∙ omega (arith, known.as_many, long_run n c.args.counts held);
      counts_too = c.note_run.ensures held long known.counts_too;
      past_too = c.note_run-2.ensures lacks (known.as_many ∙ long) known.past_too;
      columns_too = c.note_run-3.ensures.noted held known.columns_too;
    }
