use Rattle.std.proofs.Common.{◌≡◌, ◌∙◌, Ok, Some, ap, sym, subst}
use Rattle.ra_io.specs.Sink.{grown}
use Rattle.ra_trace.specs.Entries.{entry_of}
use Rattle.ra_trace.specs.Reading.{ReaderSeen}
use Rattle.ra_meaning.specs.Play.{moved, earned_next}
use Rattle.ra_jobs.specs.Writing.{GrewByPart}
use Rattle.ra_session.specs.Playing.{TakesNext}
use Rattle.ra_session.proofs.NextLemmas.{next_refused, next_empty, next_played, next_cut, ok_at, end_is, other_is}
use Rattle.ra_session.proofs.playing.play_next.Goals as goal
use Rattle.ra_session.proofs.playing.play_next.Goals.{in-End, in_default}

pub returns-in_err-record-clause-next : goal.returns-in_err-record-clause-next
returns-in_err-record-clause-next g c = λ bytes set o m earned left is_told stands is.
    next_refused bytes set o m earned left c.args.reader.now is
    (g.F.Files.content c.args.files.now c.args.reader.now.name) c.next_record.follows.lender-at-none
    c.args.player.now.runtime _ (g.K.Sink.text c.args.out.now) c.in_err-record.field-0.0
    c.from_residual.result is_told c.in_err-record.ensures.err c.from_residual.ensures.1

pub returns-in_err-write_all-in-Ok-clause-next : goal.returns-in_err-write_all-in-Ok-clause-next
returns-in_err-write_all-in-Ok-clause-next g c = λ bytes set o m earned left is_told stands is.
    let ends = c.next_record.follows.holds-at-none in
    let now : c.match-matches.reader ≡ c.next_record.follows.lender-at-none =
    elim c.match-matches.branch [ in-End w ↦ w.reader-is | in_default w ↦ w.reader-is ] in
    subst (λ reader. TakesNext bytes set o m earned left reader c.play.new.self.runtime
    c.play.new.self.slots.items (g.K.Sink.text c.args.out.now)
    (g.K.Sink.text c.write_all.new.out) c.from_residual-in_err-write_all-in-Ok.result) (sym now)
    (next_cut bytes set o m earned left c.args.reader.now is (entry_of c.in_ok-record.record)
    (g.F.Files.content c.args.files.now c.args.reader.now.name) is_told c.in_ok-record.ensures.ok
    c.play.new.self.runtime _ c.play.new.text.items (c.in-Ok.ensures.played set o m earned stands)
    c.next_record.follows.lender-at-none (g.K.Sink.text c.args.out.now) (g.K.Sink.text
    c.write_all.new.out) (ok_at _ _ c.in_ok-record.record c.in_ok-record.was ends.moved)
    (ok_at _ _ c.in_ok-record.record c.in_ok-record.was ends.holds bytes is_told is.holds)
    (subst (GrewByPart (g.K.Sink.text c.args.out.now) (g.K.Sink.text c.write_all.new.out))
    c.as_slice.ensures.value c.in_err-write_all-in-Ok.ensures.part)
    c.in_err-write_all-in-Ok.field-0.0 c.from_residual-in_err-write_all-in-Ok.result
    c.from_residual-in_err-write_all-in-Ok.ensures.1)

pub returns-in_ok-write_all-in-Ok-clause-next : goal.returns-in_ok-write_all-in-Ok-clause-next
returns-in_ok-write_all-in-Ok-clause-next g c = λ bytes set o m earned left is_told stands is.
    let ends = c.next_record.follows.holds-at-none in
    let now : c.match-matches.reader ≡ c.next_record.follows.lender-at-none =
    elim c.match-matches.branch [ in-End w ↦ w.reader-is | in_default w ↦ w.reader-is ] in
    subst (λ reader. TakesNext bytes set o m earned left reader c.play.new.self.runtime
    c.play.new.self.slots.items (g.K.Sink.text c.args.out.now) (g.K.Sink.text c.write_all.new.out)
    (Ok c.match-matches.matches)) (sym now)
    (next_played bytes set o m earned left c.args.reader.now is (entry_of c.in_ok-record.record)
    (g.F.Files.content c.args.files.now c.args.reader.now.name) is_told c.in_ok-record.ensures.ok
    c.play.new.self.runtime _ c.play.new.text.items (c.in-Ok.ensures.played set o m earned stands)
    c.next_record.follows.lender-at-none (g.K.Sink.text c.args.out.now) (g.K.Sink.text
    c.write_all.new.out) (ok_at _ _ c.in_ok-record.record c.in_ok-record.was ends.moved)
    (ok_at _ _ c.in_ok-record.record c.in_ok-record.was ends.holds bytes is_told is.holds)
    (c.in_ok-write_all-in-Ok.ensures.ok
    ∙ ap (grown (g.K.Sink.text c.args.out.now)) c.as_slice.ensures.value) c.match-matches.matches
    (elim c.match-matches.branch [
      | in-End w ↦ w.matches-is
          ∙ sym (end_is c.in_ok-record.record w.in-End.is)
      | in_default w ↦ w.matches-is
          ∙ sym (other_is c.in_ok-record.record w.in_default.not-End)
    ]))

pub returns-in-Err-EmptySlot-clause-next : goal.returns-in-Err-EmptySlot-clause-next
returns-in-Err-EmptySlot-clause-next g c = λ bytes set o m earned left is_told stands is.
    let moved = ok_at _ _ c.in_ok-record.record c.in_ok-record.was c.next_record.follows.holds-at-none.moved in
    next_empty bytes set o m earned left c.args.reader.now is (entry_of c.in_ok-record.record)
    (g.F.Files.content c.args.files.now c.args.reader.now.name) is_told c.in_ok-record.ensures.ok
    (g.K.Sink.text c.args.out.now) c.place.result (c.place.ensures ∙ moved.last)
    (c.in-Err-EmptySlot.ensures.empty c.in-Err-EmptySlot.field-0-is set o m earned stands)

pub returns-in_ok-write_all-in-Ok-clause-may : goal.returns-in_ok-write_all-in-Ok-clause-may
returns-in_ok-write_all-in-Ok-clause-may g c =
    let at = c.requires.stands in
    let entry = entry_of c.in_ok-record.record in
    let now : c.match-matches.reader ≡ c.next_record.follows.lender-at-none =
    elim c.match-matches.branch [ in-End w ↦ w.reader-is | in_default w ↦ w.reader-is ] in
    let further = ok_at _ _ c.in_ok-record.record c.in_ok-record.was c.next_record.follows.holds-at-none.moved in
    record {
      size = ap (λ (r : ReaderSeen). r.size) now ∙ further.sized ∙ c.requires.size
          ∙ ap Some (sym c.in-Ok.ensures.image);
      stands = record {
        set = at.set;
        opening = at.opening;
        moment = moved entry at.moment;
        earned = earned_next at.set at.opening entry (moved entry at.moment) at.earned;
        stands = (c.in-Ok.ensures.played at.set at.opening at.moment at.earned at.stands).stands;
      };
    }
