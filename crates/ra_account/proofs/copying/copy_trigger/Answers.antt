use Rattle.std.proofs.Common.{List, length, map, sym, ap, ◌∙◌, subst}
use Rattle.ra_account.specs.declared.group_account.GroupAccount.{GroupAccount}
use Rattle.ra_account.specs.Groups.{AllFit, AllGroupsStandAt, AreGroupAccounts, part_of}
use Rattle.ra_account.specs.Triggers.{TriggerRow, lack_of}
use Rattle.ra_account.proofs.CopyLemmas.{same_nearest_of}
use Rattle.ra_account.proofs.copying.copy_trigger.Goals as goal

pub returns-clause-ready : goal.returns-clause-ready
returns-clause-ready c = λ t ready.
    let alts = c.in_ok-alts.ensures in
    let same = sym c.deref.ensures.value in
    let frames = c.args.account.now.frames in
    record {
      few = ready.few;
      core_fits = c.in_ok-core.ensures.fits t.core ready.core_fits;
      core_stands = c.in_ok-core.ensures.stands frames ready.core_stands;
      many = alts.many ∙ ap length c.deref.ensures.value ∙ ready.many;
      alts_fit = alts.fit t.alts (subst (λ (xs : List GroupAccount). AllFit t.alts xs) same ready.alts_fit);
      alts_stand = alts.stand frames (subst
          (λ (xs : List GroupAccount). AllGroupsStandAt frames xs) same ready.alts_stand);
      resets_few = ready.resets_few;
      paused_few = ready.paused_few;
      waited_few = ready.waited_few;
      nearest_many = ap length c.in_ok-nearest.ensures.wants_too ∙ ready.nearest_many;
    }

pub returns-clause-same : goal.returns-clause-same
returns-clause-same c = λ t size frames known.
    let rows = map (λ (f : TriggerRow). f.row) frames in
    record {
      count = known.count;
      core = c.in_ok-core.ensures.same t.core size (map (part_of t.core 0) rows) known.core;
      alts = c.in_ok-alts.ensures.same t.alts (length t.core) size rows
          (subst (λ (xs : List GroupAccount). AreGroupAccounts t.alts (length t.core) size rows xs)
          (sym c.deref.ensures.value) known.alts);
      resets = known.resets;
      paused = known.paused;
      waited = known.waited;
      nearest = same_nearest_of (map (lack_of t) frames) c.args.account.now.nearest c.in_ok-nearest.nearest
          c.in_ok-nearest.ensures known.nearest;
    }
