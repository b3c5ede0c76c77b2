use Rattle.std.proofs.Common.{◌≡◌, ◌+◌, ◌∷◌, ◌++◌, [], List, length, sym, ap, ◌∙◌, subst, length-append}
use Rattle.ra_account.specs.declared.running.Running.{Running}
use Rattle.ra_account.specs.Running.{AllRunAt, AreRunning, IsRunning, RunsAt}
use Rattle.ra_account.proofs.GroupLemmas.{each_pushed}
use Rattle.ra_account.proofs.group_account.new_accounts.Goals as goal

pub loop-preserved : goal.loop-preserved
loop-preserved c =
    let known = c.loop.invariant in
    let olds = c.loop.accounts.items in
    let next = c.in_ok-new.field-0 in
    let items : c.push.new.self.items ≡ olds ++ next ∷ [] = c.in_ok-push.ensures.items in
    record {
      many = ap length items ∙ length-append olds (next ∷ []) ∙ ap (λ n. n + 1) known.many;
      begun = subst (λ (xs : List Running). AreRunning (λ j. []) xs) (sym items)
          (each_pushed (λ j a. IsRunning [] a) olds next c.loop.counter known.many known.begun
          c.in_ok-new.ensures.begun);
      stand = subst (λ (xs : List Running). AllRunAt 0 xs) (sym items)
          (each_pushed (λ j a. RunsAt 0 a) olds next c.loop.counter known.many known.stand c.in_ok-new.ensures.stands);
    }
