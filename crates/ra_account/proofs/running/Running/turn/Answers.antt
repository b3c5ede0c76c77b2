use Rattle.std.proofs.Common.{◌≡◌, ◌+◌, ◌-◌, ℕ, length, map, sym, ap, arith, length-append}
use Rattle.ra_account.specs.declared.facts.Facts.{Facts}
use Rattle.ra_account.proofs.RunningLemmas.{all_counted, none_latest, numbers_like}
use Rattle.ra_account.proofs.running.Running.turn.Goals as goal

pub returns-then-counts-self-clause-runs : goal.returns-then-counts-self-clause-runs
returns-then-counts-self-clause-runs c = λ earlier long known.
    let old = c.args.self.now in
    let n : ℕ = c.args.at - old.since in
    let many : n + old.since ≡ length earlier =
    omega (arith, long, known.since_too, ap length known.split, length-append known.latest known.before) in
    none_latest earlier _ (sym long)
    (all_counted earlier old n c.note_run.new.self known many
    (c.note_run.ensures.noted (map (λ (f : Facts). f.counts) known.before)
    (map (λ (f : Facts). f.past) known.before) known.counted))
    (numbers_like earlier old.account c.note_run.new.self c.note_run.ensures.rest known.seen)
