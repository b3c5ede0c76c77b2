use Rattle.std.proofs.Common.{◌+◌, ◌<◌, ◌∷◌, length, false, get_or, get_or-set_other, sym, ap}
use Rattle.std.proofs.Common.{◌∙◌, subst, arith, below_more}
use Rattle.ra_condition.specs.Contents.{condition_at, flag_at}
use Rattle.ra_group.specs.Equations.{Frame}
use Rattle.ra_account.specs.declared.facts.Facts.{Facts}
use Rattle.ra_account.specs.declared.running.Running.{Running}
use Rattle.ra_account.specs.declared.sight.Sight.{Sight}
use Rattle.ra_account.specs.Alone.{stands_alone}
use Rattle.ra_account.specs.Facts.{facts_at, wanted_at, wanted_by}
use Rattle.ra_account.specs.Groups.{no_sight, row_in, sight_at}
use Rattle.ra_account.specs.Noting.{frame_in}
use Rattle.ra_account.specs.Running.{IsRunning, RunsAt}
use Rattle.ra_account.proofs.GroupLemmas.{each_set, each_told}
use Rattle.ra_account.proofs.AloneLemmas.{stands_apart}
use Rattle.ra_account.proofs.NotingLemmas.{stays_at, stays_noted}
use Rattle.ra_account.proofs.noting.note_others.Goals as goal

pub fact_of-fact-requires-clause-standing : goal.fact_of-fact-requires-clause-standing
fact_of-fact-requires-clause-standing c =
    let f : Frame = frame_in c.args.frame.now in
    let place = c.loop-place.place in
    c.stand_alone-standing.ensures
    ∙ ap (λ (s : Sight). stands_alone (condition_at f.conditions place) s.truth s.hits) c.sight_in-sight.ensures
    ∙ stands_apart f place c.requires.alone (omega (arith, c.loop-place-test.true))

pub loop-place-preserved-then-are_alike : goal.loop-place-preserved-then-are_alike
loop-place-preserved-then-are_alike c =
    let frame = c.args.frame.now in
    let f : Frame = frame_in frame in
    let place = c.loop-place.place in
    let known = c.loop-place.invariant in
    let below : place < length f.conditions = omega (arith, c.loop-place-test.true) in
    let first : place < length c.args.accounts.now = omega (arith, c.loop-place-test.true) in
    let here = c.are_alike.ensures c.if-are_alike.true ∙ c.sight_in-sight.ensures in
    let before = sym (known.rest_seen place (omega arith)) ∙ here in
    let stays = c.requires.stays c.if-frame.true in
    let stands = stands_apart f place c.requires.alone below in
    let paused = c.requires.paused in
    record {
      noted = λ earlier longs firsts was. below_more _ _ (known.noted earlier longs firsts was)
          (λ d. subst (λ (a : Running). IsRunning (facts_at f frame.row.rights.now frame.size place ∷ earlier place) a)
          (sym (known.rest place (omega arith) d))
          (stays_noted (facts_at f frame.row.rights.now frame.size place) (earlier place)
          (get_or c.args.accounts.now place d)
          (firsts c.if-frame.true place below before) (was place first d)));
      stand = below_more _ _ known.stand
          (λ d. subst (λ (a : Running). RunsAt (frame.at + 1) a) (sym (known.rest place (omega arith) d))
          (stays_at frame.at (get_or c.args.accounts.now place d) stays.some (c.requires.stand place first d)));
      wanted = below_more _ _ known.wanted
          (known.rest_wants place (omega arith) ∙ stays.wanted place below
          ∙ ap (λ (s : Sight). wanted_by (flag_at f.conditions place) frame.paused
          (stands_alone (condition_at f.conditions place) s.truth s.hits).valid) before
          ∙ (λ i. wanted_by (flag_at f.conditions place) (paused i) (stands i).valid));
      seen_too = below_more _ _ known.seen_too here;
      rest = λ j above d. known.rest j (omega arith) d;
      rest_wants = λ j above. known.rest_wants j (omega arith);
      rest_seen = λ j above. known.rest_seen j (omega arith);
    }

pub loop-place-preserved : goal.loop-place-preserved
loop-place-preserved c =
    let frame = c.args.frame.now in
    let f : Frame = frame_in frame in
    let place = c.loop-place.place in
    let known = c.loop-place.invariant in
    let below : place < length f.conditions = omega (arith, c.loop-place-test.true) in
    let olds = c.loop-place.accounts in
    let new = c.note.new.self in
    let within : place < length olds = omega (arith, c.loop-place-test.true, c.loop-place.auto.accounts) in
    let first : place < length c.args.accounts.now = omega (arith, c.loop-place-test.true) in
    let own = sym (known.rest place (omega arith) c.index-accounts-place.result) in
    let stands = c.stand_alone-standing.ensures
    ∙ ap (λ (s : Sight). stands_alone (condition_at f.conditions place) s.truth s.hits) c.sight_in-sight.ensures
    ∙ stands_apart f place c.requires.alone below in
    let paused = c.requires.paused in
    record {
      noted = λ earlier longs firsts was. each_set
          (λ j a. IsRunning (facts_at f frame.row.rights.now frame.size j ∷ earlier j) a)
          olds place new within (known.noted earlier longs firsts was)
          (subst (λ (x : Facts). IsRunning (x ∷ earlier place) new) c.fact_of-fact.ensures
          (c.note.ensures.noted (earlier place) (longs place below)
          (subst (λ (a : Running). IsRunning (earlier place) a) own (was place first c.index-accounts-place.result))));
      stand = each_set (λ j a. RunsAt (frame.at + 1) a) olds place new within known.stand c.note.ensures.stands;
      wanted = each_told (wanted_at f) c.loop-place.wants place false known.wanted
          (omega (arith, c.loop-place-test.true, c.loop-place.auto.wants))
          (c.is_wanted.ensures ∙ (λ i. wanted_by (flag_at f.conditions place) (paused i) (stands i).valid));
      seen_too = each_told (sight_at (row_in frame.row)) c.loop-place.seen place no_sight known.seen_too
          (omega (arith, c.loop-place-test.true, c.loop-place.auto.seen)) c.sight_in-sight.ensures;
      rest = λ j above d. get_or-set_other olds place j new d (omega arith) ∙ known.rest j (omega arith) d;
      rest_wants = λ j above. get_or-set_other c.loop-place.wants place j _ false (omega arith)
          ∙ known.rest_wants j (omega arith);
      rest_seen = λ j above. get_or-set_other c.loop-place.seen place j _ no_sight (omega arith)
          ∙ known.rest_seen j (omega arith);
    }

pub returns-clause-noted : goal.returns-clause-noted
returns-clause-noted c = λ earlier longs firsts was j below d.
    c.loop-place.invariant.noted earlier longs firsts was j
    (omega (arith, c.loop-place-test.false, c.loop-place.auto.accounts)) d
