use Rattle.std.proofs.Common.{◌≡◌, ◌+◌, ◌∷◌, ◌&&◌, not, Bool, List, length, map, get_or, false, sym, ap, ◌∙◌}
use Rattle.std.proofs.Common.{subst, arith}
use Rattle.std.proofs.lemmas.List.{length-map}
use Rattle.ra_account.specs.declared.running.Running.{Running}
use Rattle.ra_account.specs.declared.sight.Sight.{Sight}
use Rattle.ra_account.specs.Groups.{GroupRow, no_sight, row_in, shown}
use Rattle.ra_account.specs.Noting.{PointAlike}
use Rattle.ra_account.specs.Running.{AllRunAt, AreRunning}
use Rattle.ra_account.proofs.GroupLemmas.{wants_group}
use Rattle.ra_account.proofs.NotingLemmas.{first_shown, wanted_alone, wanted_as}
use Rattle.ra_account.proofs.RefillLemmas.{refilled}
use Rattle.ra_account.proofs.group_account.GroupAccount.note_apart.Goals as goal

pub note_others-requires-clause-stays : goal.note_others-requires-clause-stays
note_others-requires-clause-stays c = λ steady.
    record {
      some = c.requires.ready.stands.some (c.is_steady.ensures.kept steady);
      wanted = wanted_as c.args.conditions.now _ _ _ _ _ _ (c.is_steady.ensures.paused steady)
          (sym c.deref_mut.ensures.value) (sym c.deref_mut-2.ensures.value)
          (c.requires.ready.fits.wanted (c.is_steady.ensures.kept steady));
    }

pub returns-clause-noted : goal.returns-clause-noted
returns-clause-noted c = λ earlier was.
    let cs = c.args.conditions.now in let size = c.args.frame.now.size in let t = c.args.self.now in
    let row : GroupRow = row_in c.args.frame.now.row in
    let new = c.note_others.new in
    let paused = c.found_in-found.ensures.paused in
    let noted = c.note_others.ensures.noted (λ j. map (shown cs size j) earlier)
    (λ j below. length-map earlier (shown cs size j) ∙ sym was.count ∙ c.requires.ready.stands.frames_too)
    (λ steady j below here. first_shown cs size row earlier t c.requires.alone
    (was.last (c.is_steady.ensures.kept steady)) (c.is_steady.ensures.paused steady ∙ paused)
    (subst (λ (xs : List Sight). PointAlike cs xs row) c.deref.ensures.value
    (c.found_in-found.ensures.moved (c.is_steady.ensures.moved steady)))
    j below (ap (λ (xs : List Sight). get_or xs j no_sight) (sym c.deref_mut.ensures.value) ∙ here))
    (subst (λ (xs : List Running). AreRunning (λ j. map (shown cs size j) earlier) xs)
    (sym c.deref_mut-3.ensures.value) was.each) in
    let all : t.conditions.len ≡ length new.accounts = sym (c.note_others.auto.accounts ∙ c.deref_mut-3.ensures.len) in
    let seen : t.seen.len ≡ length new.seen = sym (c.note_others.auto.seen ∙ c.deref_mut.ensures.len) in
    record {
      count = omega (arith, was.count);
      each = subst (λ (xs : List Running). AreRunning (λ j. map (shown cs size j) (row ∷ earlier)) xs)
          (sym (refilled t.conditions.len new.accounts t.conditions.items all)) noted;
      last = λ yes. record {
        paused_too = paused;
        seen_too = λ j below. ap (λ (xs : List Sight). get_or xs j no_sight)
            (refilled t.seen.len new.seen t.seen.items seen)
            ∙ c.note_others.ensures.seen j below;
      };
    }

pub returns-clause-ready : goal.returns-clause-ready
returns-clause-ready c =
    let cs = c.args.conditions.now in let t = c.args.self.now in
    let fits = c.requires.ready.fits in
    let new = c.note_others.new in
    let accounts = refilled t.conditions.len new.accounts t.conditions.items
    (sym (c.note_others.auto.accounts ∙ c.deref_mut-3.ensures.len)) in
    let wants = refilled t.wants.len new.wants t.wants.items
    (sym (c.note_others.auto.wants ∙ c.deref_mut-2.ensures.len)) in
    let seen = refilled t.seen.len new.seen t.seen.items (sym (c.note_others.auto.seen ∙ c.deref_mut.ensures.len)) in
    record {
      fits = record {
        few = fits.few;
        many = ap length accounts ∙ c.note_others.auto.accounts ∙ ap length c.deref_mut-3.ensures.value ∙ fits.many;
        wants = ap length wants ∙ c.note_others.auto.wants ∙ ap length c.deref_mut-2.ensures.value ∙ fits.wants;
        pausings = fits.pausings;
        pausing = fits.pausing;
        room = fits.room;
        alone = fits.alone;
        calm = fits.calm;
        seen = ap length seen ∙ c.note_others.auto.seen ∙ ap length c.deref_mut.ensures.value ∙ fits.seen;
        wanted = λ yes. wanted_alone cs (row_in c.args.frame.now.row) _ _ _ c.requires.alone
            c.found_in-found.ensures.paused
            (λ j below. ap (λ (xs : List Sight). get_or xs j no_sight) seen ∙ c.note_others.ensures.seen j below)
            (λ j below. ap (λ (xs : List Bool). get_or xs j false) wants ∙ c.note_others.ensures.wanted j below);
      };
      stands = record {
        frames_too = ap (λ n. n + 1) c.requires.ready.stands.frames_too;
        each_stands = subst (λ (xs : List Running). AllRunAt (c.args.frame.now.at + 1) xs) (sym accounts)
            c.note_others.ensures.stand;
        some = λ yes. omega arith;
      };
    }

pub returns-clause-wants : goal.returns-clause-wants
returns-clause-wants c =
    let t = c.args.self.now in let new = c.note_others.new in
    let many : length new.wants ≡ length c.args.conditions.now =
    c.note_others.auto.wants ∙ ap length c.deref_mut-2.ensures.value ∙ c.requires.ready.fits.wants in
    refilled t.wants.len new.wants t.wants.items (sym (c.note_others.auto.wants ∙ c.deref_mut-2.ensures.len))
    ∙ wants_group c.args.conditions.now (row_in c.args.frame.now.row) new.wants many c.note_others.ensures.wanted

pub returns-clause-stops : goal.returns-clause-stops
returns-clause-stops c =
    let paused = c.found_in-found.ensures.paused in
    let resets = c.found_in-found.ensures.resets in
    c.stops_by.ensures ∙ (λ i. record { paused = paused i; reset = not (paused i) && resets i })
