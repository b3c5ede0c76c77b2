use Rattle.std.proofs.Common.{◌≡◌, ◌+◌, ◌<◌, ◌∷◌, ◌++◌, [], List, length, length-append, map, sym, ap, ◌∙◌, subst}
use Rattle.std.proofs.Common.{arith}
use Rattle.ra_account.specs.declared.group_account.GroupAccount.{GroupAccount}
use Rattle.ra_account.specs.Groups.{AllFit, AllGroupsStandAt, AreGroupAccounts, FitsGroup, GroupStandsAt}
use Rattle.ra_account.specs.Groups.{IsGroupAccount, group_at, part_of, start_at}
use Rattle.ra_account.proofs.GroupLemmas.{each_pushed}
use Rattle.ra_account.proofs.copying.copy_groups.Goals as goal

pub loop-group-preserved : goal.loop-group-preserved
loop-group-preserved c =
    let place = c.loop-group.group-index in
    let olds = c.loop-group.copy.items in
    let next = c.in_ok-copy_group.field-0 in
    let known = c.loop-group.invariant in
    let own = c.group-item.result in
    let within : place < length c.args.groups.now = omega (arith, c.loop-group-test.true) in
    let items : c.push.new.self.items ≡ olds ++ next ∷ [] = c.in_ok-push.ensures.items in
    record {
      many = ap length items ∙ length-append olds (next ∷ []) ∙ ap (λ n. n + 1) known.many;
      fit = λ gs was. subst (λ (xs : List GroupAccount). AllFit gs xs) (sym items)
          (each_pushed (λ g a. FitsGroup (group_at gs g) a) olds next place known.many (known.fit gs was)
          (c.in_ok-copy_group.ensures.fits (group_at gs place) (subst (λ (a : GroupAccount).
          FitsGroup (group_at gs place) a) (sym c.group-item.is) (was place within own))));
      same = λ gs from size frames was. subst
          (λ (xs : List GroupAccount). AreGroupAccounts gs from size frames xs) (sym items)
          (each_pushed (λ g a. IsGroupAccount (group_at gs g) size
          (map (part_of (group_at gs g) (from + start_at gs g)) frames) a) olds next place
          known.many (known.same gs from size frames was)
          (c.in_ok-copy_group.ensures.same (group_at gs place) size
          (map (part_of (group_at gs place) (from + start_at gs place)) frames)
          (subst (λ (a : GroupAccount). IsGroupAccount (group_at gs place) size
          (map (part_of (group_at gs place) (from + start_at gs place)) frames) a)
          (sym c.group-item.is) (was place within own))));
      stand = λ count was. subst (λ (xs : List GroupAccount). AllGroupsStandAt count xs) (sym items)
          (each_pushed (λ g a. GroupStandsAt count a) olds next place known.many (known.stand count was)
          (c.in_ok-copy_group.ensures.stands count (subst (λ (a : GroupAccount). GroupStandsAt count
          a) (sym c.group-item.is) (was place within own))));
    }
