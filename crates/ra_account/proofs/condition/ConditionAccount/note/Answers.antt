use Rattle.std.proofs.Common.{◌≡◌, ◌∷◌, ◌+◌, ◌-◌, ◌++◌, ℕ, Bool, List, length, map, replicate, sym, ap, subst, ◌∙◌}
use Rattle.std.proofs.Common.{arith}
use Rattle.std.proofs.lemmas.List.{length-map}
use Rattle.ra_account.specs.declared.columns.Columns.{Columns}
use Rattle.ra_account.specs.declared.condition.ConditionAccount.{ConditionAccount}
use Rattle.ra_account.specs.declared.facts.Facts.{Facts}
use Rattle.ra_account.specs.Marks.{IsSound}
use Rattle.ra_account.specs.Running.{HasCounted}
use Rattle.ra_account.proofs.RunningLemmas.{account_parts, counted_like, numbers_like, parts_account}
use Rattle.ra_account.proofs.condition.ConditionAccount.note.Goals as goal

pub note_run-requires-clause-counted : goal.note_run-requires-clause-counted
note_run-requires-clause-counted c =
    let stands = c.requires.stands in
    record {
      counts = map (λ (f : Facts). f.counts) stands.frames;
      past = map (λ (f : Facts). f.past) stands.frames;
      long = length-map stands.frames (λ (f : Facts). f.counts) ∙ stands.long;
      counted = account_parts stands.frames c.args.self.now stands.account;
      sound = stands.sound;
    }

pub returns-clause-noted : goal.returns-clause-noted
returns-clause-noted c = λ earlier known.
    let stands = c.requires.stands in
    let now = c.args.now in
    let here = known.columns.columns_too.frames in
    let there = stands.account.columns.columns_too.frames in
    let long : length earlier ≡ c.args.at =
    omega (
      arith,
      here,
      there,
      length-map earlier (λ (f : Facts). f.counts),
      length-map stands.frames (λ (f : Facts). f.counts),
      stands.long,
    ) in
    let counts : List Bool = map (λ (f : Facts). f.counts) earlier in
    let past : List Bool = map (λ (f : Facts). f.past) earlier in
    let one : c.args.at + 1 - c.args.at ≡ 1 = omega arith in
    let run = subst (λ (n : ℕ). HasCounted (replicate n now.counts ++ counts)
    (replicate n now.past ++ past) c.note_run.new.self) one
    (c.note_run.ensures.noted counts past (account_parts earlier c.args.self.now known)) in
    let seen = numbers_like earlier c.args.self.now c.note_run.new.self c.note_run.ensures.rest
    (record { best = known.best; left = known.left; right = known.right }) in
    let rest = c.note_numbers.ensures.rest in
    parts_account (now ∷ earlier) c.note_numbers.new.self
    (counted_like (now.counts ∷ counts) (now.past ∷ past) c.note_run.new.self c.note_numbers.new.self
    (ap (λ (a : ConditionAccount). a.counts) rest) (ap (λ (a : ConditionAccount). a.past) rest)
    (ap (λ (a : ConditionAccount). a.columns) rest) run)
    (c.note_numbers.ensures.noted earlier long seen)

pub returns-clause-stands : goal.returns-clause-stands
returns-clause-stands c =
    let stands = c.requires.stands in
    record {
      frames = c.args.now ∷ stands.frames;
      long = omega (arith, stands.long);
      account = returns-clause-noted c stands.frames stands.account;
      sound = subst (λ (cs : Columns). IsSound cs) (sym (ap (λ (a : ConditionAccount). a.columns)
          c.note_numbers.ensures.rest)) c.note_run.ensures.sound;
    }
