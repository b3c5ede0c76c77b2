use Rattle.std.proofs.Common.{◌≡◌, ◌+◌, ◌-◌, ℕ, length, map, sym, ap, ◌∙◌, arith, length-append}
use Rattle.std.proofs.lemmas.List.{length-map}
use Rattle.ra_account.specs.declared.facts.Facts.{Facts}
use Rattle.ra_account.proofs.CopyLemmas.{copy_counted, copy_seen, same_sound}
use Rattle.ra_account.proofs.RunningLemmas.{all_counted, numbers_like, parts_account}
use Rattle.ra_account.proofs.running.Running.told.Goals as goal

pub note_run-requires-clause-counted : goal.note_run-requires-clause-counted
note_run-requires-clause-counted c =
    let stands = c.requires.stands in
    let runs = stands.running.runs in
    let old = c.args.self.now.account in
    let copy = c.in_ok-account.account in
    let counts = map (λ (f : Facts). f.counts) runs.before in
    let past = map (λ (f : Facts). f.past) runs.before in
    record {
      counts = counts;
      past = past;
      long = length-map runs.before (λ (f : Facts). f.counts) ∙ sym runs.since_too;
      counted = copy_counted counts past old copy c.in_ok-account.ensures runs.counted;
      sound = same_sound old.columns copy.columns c.in_ok-account.ensures.columns_too stands.sound;
    }

pub note_run-requires-clause-order : goal.note_run-requires-clause-order
note_run-requires-clause-order c =
    let stands = c.requires.stands in
    let runs = stands.running.runs in
    omega (arith, stands.long, runs.since_too, ap length runs.split, length-append runs.latest runs.before)

pub returns-clause-told : goal.returns-clause-told
returns-clause-told c = λ history long known.
    let runs = known.runs in
    let old = c.args.self.now in
    let copy = c.in_ok-account.account in
    let n : ℕ = c.args.frames - old.since in
    let many : n + old.since ≡ length history =
    omega (arith, long, runs.since_too, ap length runs.split, length-append runs.latest runs.before) in
    let counts = map (λ (f : Facts). f.counts) runs.before in
    let past = map (λ (f : Facts). f.past) runs.before in
    parts_account history c.note_run.new.self
    (all_counted history old n c.note_run.new.self runs many
    (c.note_run.ensures.noted counts past
    (copy_counted counts past old.account copy c.in_ok-account.ensures runs.counted)))
    (numbers_like history copy c.note_run.new.self c.note_run.ensures.rest
    (copy_seen history old.account copy c.in_ok-account.ensures runs.seen))

pub returns-clause-stands : goal.returns-clause-stands
returns-clause-stands c =
    let stands = c.requires.stands in
    record {
      frames = stands.frames;
      long = stands.long;
      account = returns-clause-told c stands.frames stands.long stands.running;
      sound = c.note_run.ensures.sound;
    }
