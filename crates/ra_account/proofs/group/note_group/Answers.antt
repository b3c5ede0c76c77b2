use Rattle.std.proofs.Common.{◌≡◌, ℕ, ◌+◌, ◌<◌, ◌∷◌, ◌&&◌, Bool, length, false}
use Rattle.std.proofs.Common.{get_or-set_other, sym, ap, ◌∙◌, subst, arith}
use Rattle.ra_condition.specs.Contents.{flag_at}
use Rattle.std.specs.List.{list_any, range_with_len}
use Rattle.ra_condition.specs.Flags.{is_reset}
use Rattle.ra_group.specs.declared.standing.Standing.{Standing}
use Rattle.ra_group.specs.Equations.{Frame, settled_at}
use Rattle.ra_account.specs.declared.running.Running.{Running}
use Rattle.ra_account.specs.declared.facts.Facts.{Facts}
use Rattle.ra_account.specs.Running.{IsRunning, RunsAt}
use Rattle.ra_account.specs.Facts.{facts_at, wanted_at, wanted_by}
use Rattle.ra_account.specs.Noting.{frame_in}
use Rattle.ra_account.proofs.GroupLemmas.{each_set, each_told}
use Rattle.ra_account.proofs.AloneLemmas.{any_more}
use Rattle.ra_account.proofs.group.note_group.Goals as goal

pub loop-place-preserved : goal.loop-place-preserved
loop-place-preserved c =
    let frame = c.args.frame.now in
    let f : Frame = frame_in frame in
    let place = c.loop-place.place in
    let known = c.loop-place.invariant in
    let below : place < length f.conditions = omega (arith, c.loop-place-test.true) in
    let stands = c.requires.stood place below in
    let paused = c.requires.paused in
    let resets : ℕ → Bool = λ j. is_reset (flag_at f.conditions j) && (settled_at f j).valid in
    let olds = c.loop-place.accounts in
    let new = c.note.new.self in
    let within : place < length olds = omega (arith, c.loop-place-test.true, c.loop-place.auto.accounts) in
    let first : place < length c.args.accounts.now = omega (arith, c.loop-place-test.true) in
    let own = sym (known.rest place (omega arith) c.index-accounts-place.result) in
    record {
      resets_too = any_more resets place c.loop-place.resets c.is_valid_reset-resets.result known.resets_too
          (c.is_valid_reset-resets.ensures
          ∙ ap (λ (s : Standing). is_reset (flag_at f.conditions place) && s.valid) stands);
      wanted = each_told (wanted_at f) c.loop-place.wants place false known.wanted
          (omega (arith, c.loop-place-test.true, c.loop-place.auto.wants))
          (c.is_wanted.ensures ∙ (λ i. wanted_by (flag_at f.conditions place) (paused i) (stands i).valid));
      stand = each_set (λ j a. RunsAt (frame.at + 1) a) olds place new within known.stand c.note.ensures.stands;
      noted = λ earlier longs was. each_set
          (λ j a. IsRunning (facts_at f frame.row.rights.now frame.size j ∷ earlier j) a)
          olds place new within (known.noted earlier longs was)
          (subst (λ (x : Facts). IsRunning (x ∷ earlier place) new) c.fact_of-fact.ensures
          (c.note.ensures.noted (earlier place) (longs place below)
          (subst (λ (a : Running). IsRunning (earlier place) a) own (was place first c.index-accounts-place.result))));
      rest = λ j above d. get_or-set_other olds place j new d (omega arith) ∙ known.rest j (omega arith) d;
    }

pub returns-clause-noted : goal.returns-clause-noted
returns-clause-noted c = λ earlier longs was j below d.
    c.loop-place.invariant.noted earlier longs was j
    (omega (arith, c.loop-place-test.false, c.loop-place.auto.accounts)) d

pub returns-clause-resets : goal.returns-clause-resets
returns-clause-resets c =
    let f : Frame = frame_in c.args.frame.now in
    let resets : ℕ → Bool = λ j. is_reset (flag_at f.conditions j) && (settled_at f j).valid in
    let all : c.loop-place.place ≡ length f.conditions = omega (arith, c.loop-place-test.false) in
    c.loop-place.invariant.resets_too ∙ ap (λ n. list_any resets (range_with_len 0 n)) all
