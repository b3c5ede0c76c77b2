use Rattle.std.proofs.Common.{◌≡◌, ◌+◌, ◌∷◌, ◌++◌, [], List, length, map, sym, ap, ◌∙◌, subst, arith, length-append}
use Rattle.ra_condition.specs.declared.condition.Condition.{Condition}
use Rattle.ra_condition.specs.Contents.{group_contents}
use Rattle.ra_account.specs.declared.group_account.GroupAccount.{GroupAccount}
use Rattle.ra_account.specs.Groups.{AllFit, AllGroupsStandAt, AreGroupAccounts, FitsGroup, GroupStandsAt}
use Rattle.ra_account.specs.Groups.{IsGroupAccount, group_at}
use Rattle.ra_account.proofs.GroupLemmas.{each_pushed, end_within, group_here}
use Rattle.ra_account.proofs.trigger_account.new_groups.Goals as goal

pub new-requires : goal.new-requires
new-requires c =
    record {
      few = omega (
        arith,
        end_within c.args.groups.now c.loop-group.group-index c.group-item.result
            (omega (arith, c.loop-group-test.true)) c.group-item.is,
        c.requires.few,
      );
    }

pub loop-group-preserved : goal.loop-group-preserved
loop-group-preserved c =
    let place = c.loop-group.group-index in
    let gs = map group_contents c.args.groups.now in
    let olds = c.loop-group.accounts.items in
    let next = c.in_ok-new.field-0 in
    let known = c.loop-group.invariant in
    let here : group_at gs place ≡ group_contents c.group-item.result = group_here c.args.groups.now
    place c.group-item.result (omega (arith, c.loop-group-test.true)) c.group-item.is in
    let items : c.push.new.self.items ≡ olds ++ next ∷ [] = c.in_ok-push.ensures.items in
    record {
      many = ap length items ∙ length-append olds (next ∷ []) ∙ ap (λ n. n + 1) known.many;
      fit = subst (λ (xs : List GroupAccount). AllFit gs xs) (sym items)
          (each_pushed (λ g a. FitsGroup (group_at gs g) a) olds next place known.many known.fit
          (subst (λ (cs : List Condition). FitsGroup cs next) (sym here) c.in_ok-new.ensures.fits));
      stand = subst (λ (xs : List GroupAccount). AllGroupsStandAt 0 xs) (sym items)
          (each_pushed (λ g a. GroupStandsAt 0 a) olds next place known.many known.stand c.in_ok-new.ensures.stands);
      begun = λ from size. subst (λ (xs : List GroupAccount). AreGroupAccounts gs from size [] xs) (sym items)
          (each_pushed (λ g a. IsGroupAccount (group_at gs g) size [] a) olds next place known.many
          (known.begun from size) (subst (λ (cs : List Condition). IsGroupAccount cs size [] next)
          (sym here) (c.in_ok-new.ensures.begun size)));
    }
