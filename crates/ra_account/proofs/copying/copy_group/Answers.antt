use Rattle.std.proofs.Common.{List, map, sym, subst}
use Rattle.ra_account.specs.declared.running.Running.{Running}
use Rattle.ra_account.specs.Running.{AllRunAt, AreRunning}
use Rattle.ra_account.specs.Groups.{shown}
use Rattle.ra_account.proofs.copying.copy_group.Goals as goal

pub returns-clause-same : goal.returns-clause-same
returns-clause-same c = λ cs size frames was. record {
  count = was.count;
  each = c.in_ok-conditions.ensures.same (λ j. map (shown cs size j) frames)
      (subst (λ (xs : List Running). AreRunning (λ j. map (shown cs size j) frames) xs)
      (sym c.deref.ensures.value) was.each);
  last = λ yes. absurd (cc);
}

pub returns-clause-stands : goal.returns-clause-stands
returns-clause-stands c = λ count was. record {
  frames_too = was.frames_too;
  each_stands = c.in_ok-conditions.ensures.stand count
      (subst (λ (xs : List Running). AllRunAt count xs) (sym c.deref.ensures.value) was.each_stands);
  some = λ yes. absurd (cc);
}
