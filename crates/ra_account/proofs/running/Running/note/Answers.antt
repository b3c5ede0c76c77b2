use Rattle.std.proofs.Common.{◌∷◌, map, refl, sym, ap, subst, arith}
use Rattle.ra_account.specs.declared.columns.Columns.{Columns}
use Rattle.ra_account.specs.declared.condition.ConditionAccount.{ConditionAccount}
use Rattle.ra_account.specs.declared.facts.Facts.{Facts}
use Rattle.ra_account.specs.Marks.{IsSound}
use Rattle.ra_account.proofs.RunningLemmas.{counted_like, one_latest}
use Rattle.ra_account.proofs.running.Running.note.Goals as goal

pub returns-clause-noted : goal.returns-clause-noted
returns-clause-noted c = λ earlier long was.
    let known = c.turn.ensures.runs earlier long was.runs in
    let rest = c.note_numbers.ensures.rest in
    one_latest earlier c.turn.new.self _ c.args.now known (sym c.turn.ensures.counts)
    (sym c.turn.ensures.past) refl refl refl
    (counted_like (map (λ (f : Facts). f.counts) known.before) (map (λ (f : Facts). f.past) known.before)
    c.turn.new.self.account c.note_numbers.new.self
    (ap (λ (a : ConditionAccount). a.counts) rest) (ap (λ (a : ConditionAccount). a.past) rest)
    (ap (λ (a : ConditionAccount). a.columns) rest) known.counted)
    (c.note_numbers.ensures.noted earlier long known.seen)

pub returns-clause-stands : goal.returns-clause-stands
returns-clause-stands c =
    let stands = c.requires.stands in
    record {
      frames = c.args.now ∷ stands.frames;
      long = omega (arith, stands.long);
      running = returns-clause-noted c stands.frames stands.long stands.running;
      sound = subst (λ (cs : Columns). IsSound cs) (sym (ap
          (λ (a : ConditionAccount). a.columns) c.note_numbers.ensures.rest)) c.turn.ensures.sound;
    }
