use Rattle.std.proofs.Common.{◌≡◌, ◌+◌, ◌<◌, ◌∷◌, ◌++◌, [], List, length, length-append, sym, ap, ◌∙◌, subst, arith}
use Rattle.ra_account.specs.declared.running.Running.{Running}
use Rattle.ra_account.specs.Running.{AllRunAt, AreRunning, IsRunning, RunsAt}
use Rattle.ra_account.proofs.GroupLemmas.{each_pushed}
use Rattle.ra_account.proofs.copying.copy_accounts.Goals as goal

pub loop-account-preserved : goal.loop-account-preserved
loop-account-preserved c =
    let place = c.loop-account.account-index in
    let olds = c.loop-account.copy.items in
    let next = c.in_ok-copy_running.field-0 in
    let known = c.loop-account.invariant in
    let own = c.account-item.result in
    let within : place < length c.args.accounts.now = omega (arith, c.loop-account-test.true) in
    let items : c.push.new.self.items ≡ olds ++ next ∷ [] = c.in_ok-push.ensures.items in
    record {
      many = ap length items ∙ length-append olds (next ∷ []) ∙ ap (λ n. n + 1) known.many;
      same = λ frames was. subst (λ (xs : List Running). AreRunning frames xs) (sym items)
          (each_pushed (λ j a. IsRunning (frames j) a) olds next place known.many (known.same frames was)
          (c.in_ok-copy_running.ensures.same (frames place) (subst (λ (a : Running). IsRunning
          (frames place) a) (sym c.account-item.is) (was place within own))));
      stand = λ count was. subst (λ (xs : List Running). AllRunAt count xs) (sym items)
          (each_pushed (λ j a. RunsAt count a) olds next place known.many (known.stand count was)
          (c.in_ok-copy_running.ensures.stands count (subst (λ (a : Running). RunsAt count a)
          (sym c.account-item.is) (was place within own))));
    }
