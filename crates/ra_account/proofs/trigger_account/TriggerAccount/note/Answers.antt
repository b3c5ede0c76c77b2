use Rattle.std.proofs.Common.{◌≡◌, ◌+◌, ◌∷◌, ◌++◌, not, Bool, List, length, map, sym, ap, ap₂, ◌∙◌}
use Rattle.std.proofs.Common.{subst, arith}
use Rattle.std.proofs.lemmas.List.{length-map}
use Rattle.std.proofs.lemmas.List.Sums.{sum_by-cons}
use Rattle.ra_condition.specs.Contents.{group_contents, trigger_contents}
use Rattle.ra_account.specs.declared.group_account.GroupAccount.{GroupAccount}
use Rattle.ra_account.specs.Groups.{GroupRow, AllFit, AllGroupsStandAt, AreGroupAccounts, IsGroupAccount, cut_row}
use Rattle.ra_account.specs.Groups.{part_of, row_frame, row_in, wants_of}
use Rattle.ra_account.specs.declared.moment.Moment.{Moment}
use Rattle.ra_account.specs.Counting.{times_of}
use Rattle.ra_account.specs.Stops.{stops_of}
use Rattle.ra_account.specs.Nearness.{IsNearest, Lack}
use Rattle.ra_account.specs.Wanting.{of_alts}
use Rattle.ra_account.proofs.WantLemmas.{wants_by, wants_room, wants_told}
use Rattle.ra_account.specs.Triggers.{TriggerRow, lack_of}
use Rattle.ra_account.proofs.StopLemmas.{moment_told}
use Rattle.ra_account.proofs.GroupLemmas.{alts_told, whole_row}
use Rattle.ra_account.proofs.RefillLemmas.{refilled}
use Rattle.ra_account.proofs.trigger_account.TriggerAccount.note.Goals as goal

pub note-requires-4 : goal.note-requires-4
note-requires-4 c =
    let t = c.args.self.now in let new = c.note_groups-alts.new.accounts in
    let core = group_contents c.args.text.now.core in let alts = map group_contents c.args.text.now.alts.items in
    let all : t.alts.len ≡ length new = sym (c.note_groups-alts.auto.accounts ∙ c.deref_mut.ensures.len) in
    let ready = c.note_groups-alts.ensures.ready in
    record {
      many = sym (c.requires.ready.nearest_many ∙ sum_by-cons length core alts
          ∙ ap₂ (λ m n. m + n) (sym c.note-core.ensures.ready.fits.wants)
          (wants_room alts _ new c.deref-2.result.now ready.as_many ready.fit
          (ap (map group_contents) c.deref.ensures.value)
          (c.deref-2.ensures.value ∙ refilled t.alts.len new t.alts.items all)));
    }

pub returns-clause-ready : goal.returns-clause-ready
returns-clause-ready c =
    let t = c.args.self.now in let alts = map group_contents c.args.text.now.alts.items in
    let new = c.note_groups-alts.new.accounts in
    let same = refilled _ new t.alts.items (sym (c.note_groups-alts.auto.accounts ∙ c.deref_mut.ensures.len)) in
    let texts : map group_contents c.deref.result.now ≡ alts = ap (map group_contents) c.deref.ensures.value in
    let ready = c.note_groups-alts.ensures.ready in
    record {
      few = c.requires.ready.few;
      core_fits = c.note-core.ensures.ready.fits;
      core_stands = c.note-core.ensures.ready.stands;
      many = ap length same ∙ ready.as_many ∙ ap length texts;
      alts_fit = subst (λ (xs : List GroupAccount). AllFit alts xs) (sym same)
          (subst (λ gs. AllFit gs new) texts ready.fit);
      alts_stand = subst (λ (xs : List GroupAccount). AllGroupsStandAt (t.frames + 1) xs) (sym same) ready.stand;
      resets_few = c.note.ensures.within;
      paused_few = c.note-2.ensures.within;
      waited_few = c.note-3.ensures.within;
      nearest_many = c.note-4.ensures.many ∙ c.requires.ready.nearest_many;
    }

pub returns-clause-noted : goal.returns-clause-noted
returns-clause-noted c = λ earlier known.
    let t = c.args.self.now in let size = c.args.size in
    let core = group_contents c.args.text.now.core in let alts = map group_contents c.args.text.now.alts.items in
    let count : c.len-count.result ≡ length core = omega
    (arith, c.len-count.ensures, c.args.text.now.core.conditions.ok.0) in
    let row : GroupRow = row_in c.args.row.now in let rows : List GroupRow = map (λ (f : TriggerRow). f.row) earlier in
    let part = c.part.ensures ∙ whole_row c.len-count.result row in
    let cut : row_in c.part.result ≡ cut_row (length core) 0 row = part ∙ ap (λ n. cut_row n 0 row) count in
    let texts : map group_contents c.deref.result.now ≡ alts = ap (map group_contents) c.deref.ensures.value in
    let new_alts = alts_told _ alts c.len-count.result (length core) size row rows c.deref_mut.result.now
    c.note_groups-alts.new.accounts (c.note_groups-alts.ensures.noted rows) texts count
    (subst (λ (xs : List GroupAccount). AreGroupAccounts alts (length core) size rows xs)
    (sym c.deref_mut.ensures.value) known.alts) in
    let same = refilled t.alts.len c.note_groups-alts.new.accounts t.alts.items
    (sym (c.note_groups-alts.auto.accounts ∙ c.deref_mut.ensures.len)) in
    let wanted = ap (λ xs. c.note-core.new.self.wants.items ++ of_alts (wants_by xs)) (c.deref-2.ensures.value ∙ same)
    ∙ wants_told core _ alts c.len-count.result row c.note-core.new.self.wants.items
    c.note_groups-alts.new.accounts (c.note-core.ensures.wants ∙ ap (wants_of core) cut)
    c.note_groups-alts.ensures.ready.as_many c.note_groups-alts.ensures.wants texts count in
    let moment = c.moment_of-now.ensures
    ∙ moment_told core alts _ c.len-count.result row c.args.waited c.note-core.result c.note_groups-alts.result _ _
    (c.note-core.ensures.stops ∙ ap (λ (r : GroupRow). stops_of (row_frame core r)) part)
    c.note_groups-alts.ensures.stops count texts
    (omega (arith, c.args.text.now.alts.ok.0, length-map c.args.text.now.alts.items group_contents))
    (ap not c.is_empty.ensures) in
    let lack = lack_of (trigger_contents c.args.text.now) in
    let many = λ (has : TriggerRow → Bool). length-map earlier has ∙ sym known.count in
    record {
      count = omega (arith, known.count);
      core = subst (λ (r : GroupRow). IsGroupAccount core size (r ∷ map (part_of core 0) rows) c.note-core.new.self) cut
          (c.note-core.ensures.noted (map (part_of core 0) rows) known.core);
      alts = subst (λ (xs : List GroupAccount). AreGroupAccounts alts (length core) size (row ∷ rows) xs)
          (sym same) new_alts;
      resets = c.note.ensures.noted (map (λ f. f.moment.reset) earlier) (many (λ f. f.moment.reset)) known.resets
          ∙ ap (λ (m : Moment). times_of (m.reset ∷ map (λ f. f.moment.reset) earlier)) moment;
      paused = c.note-2.ensures.noted (map (λ f. f.moment.paused) earlier) (many (λ f. f.moment.paused)) known.paused
          ∙ ap (λ (m : Moment). times_of (m.paused ∷ map (λ f. f.moment.paused) earlier)) moment;
      nearest = subst (λ (l : Lack). IsNearest (l ∷ map lack earlier) c.note-4.new.self)
          (λ i. record { reset = (moment i).reset; wants = wanted i })
          (c.note-4.ensures.noted (map lack earlier) (length-map earlier lack ∙ sym known.count) known.nearest);
      waited = c.note-3.ensures.noted (map (λ f. f.moment.waited) earlier) (many (λ f. f.moment.waited)) known.waited
          ∙ ap (λ (m : Moment). times_of (m.waited ∷ map (λ f. f.moment.waited) earlier)) moment;
    }
