use Rattle.std.proofs.Common.{◌≡◌, ◌∷◌, ◌&&◌, not, List, length, map, get_or, sym, ap, ◌∙◌, subst, arith}
use Rattle.std.proofs.lemmas.List.{length-map}
use Rattle.ra_group.specs.Standings.{no_standing}
use Rattle.ra_group.specs.declared.standing.Standing.{Standing}
use Rattle.ra_account.specs.declared.running.Running.{Running}
use Rattle.ra_account.specs.Running.{AreRunning}
use Rattle.ra_account.specs.Groups.{row_in, shown}
use Rattle.ra_account.proofs.GroupLemmas.{wants_group}
use Rattle.ra_account.proofs.RefillLemmas.{refilled}
use Rattle.ra_account.proofs.group_account.GroupAccount.note_chained.Goals as goal

pub note_group-resets-requires-clause-stood : goal.note_group-resets-requires-clause-stood
note_group-resets-requires-clause-stood c = λ j below.
    let t = c.args.self.now in
    let new = c.stand_group-paused.new.standings in
    let all : t.room.len ≡ length new = sym (c.stand_group-paused.auto.standings ∙ c.deref_mut.ensures.len) in
    ap (λ (xs : List Standing). get_or xs j no_standing)
    (c.deref-2.ensures.value ∙ refilled t.room.len new t.room.items all)
    ∙ c.stand_group-paused.ensures.stand j below

pub returns-clause-noted : goal.returns-clause-noted
returns-clause-noted c = λ earlier was.
    let cs = c.args.conditions.now in
    let size = c.args.frame.now.size in
    let t = c.args.self.now in
    let new = c.note_group-resets.new.accounts in
    let accounts = subst (λ (xs : List Running). AreRunning (λ j. map (shown cs size j) earlier) xs)
    (sym c.deref_mut-3.ensures.value) was.each in
    let noted = c.note_group-resets.ensures.noted (λ j. map (shown cs size j) earlier)
    (λ j below. length-map earlier (shown cs size j) ∙ sym was.count ∙ c.requires.ready.stands.frames_too) accounts in
    let all : t.conditions.len ≡ length new = sym (c.note_group-resets.auto.accounts ∙ c.deref_mut-3.ensures.len) in
    record {
      count = omega (arith, was.count);
      each = subst (λ (xs : List Running). AreRunning
          (λ j. map (shown cs size j) (row_in c.args.frame.now.row ∷ earlier)) xs)
          (sym (refilled t.conditions.len new t.conditions.items all)) noted;
      last = λ yes. absurd (cc);
    }

pub returns-clause-wants : goal.returns-clause-wants
returns-clause-wants c =
    let t = c.args.self.now in
    let new = c.note_group-resets.new.wants in
    let all : t.wants.len ≡ length new = sym (c.note_group-resets.auto.wants ∙ c.deref_mut-2.ensures.len) in
    let many : length new ≡ length c.args.conditions.now =
    c.note_group-resets.auto.wants ∙ ap length c.deref_mut-2.ensures.value ∙ c.requires.ready.fits.wants in
    refilled t.wants.len new t.wants.items all
    ∙ wants_group c.args.conditions.now (row_in c.args.frame.now.row) new many c.note_group-resets.ensures.wanted

pub returns-clause-stops : goal.returns-clause-stops
returns-clause-stops c =
    let paused = c.stand_group-paused.ensures.paused in
    let resets = c.note_group-resets.ensures.resets in
    c.stops_by.ensures ∙ (λ i. record { paused = paused i; reset = not (paused i) && resets i })
