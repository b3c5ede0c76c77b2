-- What reading and playing the next record does.
use Rattle.std.proofs.Common.{◌≡◌, ap, sym, subst, refl, ◌∙◌, ℕ, length, nat_le, List, [], ◌++◌, Bool, true, false}
use Rattle.std.proofs.Common.{Option, Some, IfSome, Result, Ok, Err, IfOk}
use Rattle.std.specs.Bool.{⊤}
use Rattle.std.specs.List.{concat}
use Rattle.std.specs.Result.{IsErrAnd}
use Rattle.ra_io.specs.Sink.{grown}
use Rattle.ra_set.specs.Contents.{SetContents}
use Rattle.ra_progress.specs.Contents.{Opening}
use Rattle.ra_trace.specs.declared.error.Why.TheVariants.{EmptySlot}
use Rattle.ra_trace.specs.declared.error.TraceError.{TraceError}
use Rattle.ra_trace.specs.declared.error.TraceError.TheVariants as errors
use Rattle.ra_trace.specs.declared.record.Record.{Record}
use Rattle.ra_trace.specs.declared.record.Record.TheVariants as trace
use Rattle.ra_trace.specs.Entries.{Entry, entry_of, Written, Framed, Saved, Restored, Shown, Ended}
use Rattle.ra_trace.specs.Cutting.{Pieces, RefusedAt, stop_within}
use Rattle.ra_trace.specs.Reading.{ReaderSeen, Holds, Stands, IsBehindRecord, IsStop, next_stop}
use Rattle.ra_meaning.specs.Runtime.{RuntimeSeen}
use Rattle.ra_meaning.specs.Earned.{Earned}
use Rattle.ra_meaning.specs.Play.{Moment, moved, printed, pieces_from, earned_next}
use Rattle.ra_runtime.specs.Keeping.{KeptSeen}
use Rattle.ra_replay.specs.Left.{IsEmptySlot, IsLeft, trace_limit}
use Rattle.ra_session.specs.Endings.{ending_of}
use Rattle.ra_session.specs.declared.ending.Ending.TheVariants.{BadTrace}
use Rattle.ra_session.specs.Closing.{EndsBefore}
use Rattle.ra_session.specs.Failures.{ending_of_trace, trace_failed, trace_unwritten}
use Rattle.ra_io.specs.declared.sink.SinkFailed.{SinkFailed}
use Rattle.ra_io.specs.declared.sink.SinkFailed.TheVariants as write
use Rattle.ra_session.specs.Playing.{StandsAt, Plays, TakesNext, GoesOn, IsAtEnd, says_from}
use Rattle.ra_jobs.specs.Writing.{GrewByPart}
use Rattle.ra_session.specs.declared.failures.TraceFailed.{TraceFailed}
use Rattle.ra_jobs.proofs.Pieces.{grown-nil}
use Rattle.ra_jobs.proofs.Parts.{part_after}
use Rattle.ra_session.proofs.ReadLemmas.{left_read}
use Rattle.ra_replay.proofs.LeftLemmas.{left_empty, left_ends, left_behind}
use Rattle.ra_session.proofs.LeftLemmas.{left_refused}

pub told : {T : Type 0} (o : Option T) (P : T → Type 0) (x : T) → o ≡ Some x → IfSome o P → P x
told {T} o P x is h = subst (λ (o : Option T). IfSome o P) is h

-- a record that is read is the end, or it is another
pub is_end : Entry → Bool
is_end Ended = true
is_end _ = false

was_end : (entry : Entry) → is_end entry ≡ true → entry ≡ Ended
unfolding is_end
was_end Ended is = refl
was_end (Written at bytes) is = let bad : false ≡ true = is in absurd (cc)
was_end Framed is = let bad : false ≡ true = is in absurd (cc)
was_end (Saved slot) is = let bad : false ≡ true = is in absurd (cc)
was_end (Restored slot) is = let bad : false ≡ true = is in absurd (cc)
was_end Shown is = let bad : false ≡ true = is in absurd (cc)

not_end : (entry : Entry) → is_end entry ≡ false → entry ≡ Ended → ⊥
unfolding is_end
not_end entry is end = let bad : true ≡ false = sym (ap is_end end) ∙ is in absurd (cc)

module _ (bytes : List ℕ) (set : SetContents) (o : Opening) (m : Moment) (earned : Earned)
    (left : Pieces) (reader : ReaderSeen) (is : IsLeft bytes m reader left) where
  abbrev full : Bool
  full = nat_le trace_limit (length bytes)

  stopped : (why : TraceError) (old : Option (List ℕ))
      → IsStop why (next_stop trace_limit is.size reader.next bytes) → EndsBefore
      (says_from bytes set o m earned left) ⊤ ⊤ ⊤ (ending_of_trace (trace_failed why)) old old
  stopped errors.Read old stop = (tt, (0, left_read bytes set o m earned left reader is, sym (grown-nil old)))
  stopped (errors.Refused at why) old stop =
      let refused = left_refused bytes m reader left is (errors.Refused at why) stop (λ read. absurd (cc)) in
      (refused.1, sym (grown-nil old) ∙ ap (λ es. grown old (concat (pieces_from set o m earned es))) (sym refused.0))
  stopped errors.TooLong old stop =
      let refused = left_refused bytes m reader left is errors.TooLong stop (λ read. absurd (cc)) in
      (refused.1, sym (grown-nil old) ∙ ap (λ es. grown old (concat (pieces_from set o m earned es))) (sym refused.0))

  -- no record was read
  pub next_refused : (content : Option (List ℕ)) (new : ReaderSeen) (runtime : RuntimeSeen)
      (slots : List (Option KeptSeen)) (old : Option (List ℕ)) (why : TraceError)
      (r : Result Bool TraceFailed) → content ≡ Some bytes
      → IfSome content (λ bytes. Holds reader bytes → IfSome reader.size (λ size. IsStop why
      (next_stop reader.limit size reader.next bytes))) → IsErrAnd r (λ e. e ≡ trace_failed why)
      → TakesNext bytes set o m earned left new runtime slots old old r
  next_refused content new runtime slots old why (Ok end) is_told err res = absurd res
  next_refused content new runtime slots old why (Err e) is_told err res =
      let at = told reader.size (λ size. IsStop why (next_stop reader.limit size reader.next bytes))
      is.size is.sized (told content _ bytes is_told err is.holds) in
      let stop = subst (λ limit. IsStop why (next_stop limit is.size reader.next bytes)) is.limit at in
      subst (λ (s : TraceFailed). EndsBefore (says_from bytes set o m earned left) ⊤ ⊤ ⊤
      (ending_of_trace s) old old) (sym res) (stopped why old stop)

  module _ (entry : Entry) (content : Option (List ℕ)) (is_told : content ≡ Some bytes)
      (ok : IfSome content (λ bytes. Holds reader bytes
      → IfSome reader.size (λ size. Stands reader.limit size reader.next entry bytes))) where
    stands_there : Stands trace_limit is.size reader.next entry bytes
    stands_there = subst (λ limit. Stands limit is.size reader.next entry bytes) is.limit
        (told reader.size (λ size. Stands reader.limit size reader.next entry bytes) is.size
        is.sized (told content _ bytes is_told ok is.holds))

    -- the record restores an empty slot
    pub next_empty : (old : Option (List ℕ)) (at : ℕ) → at ≡ reader.next → IsEmptySlot entry m
        → (ending_of (stop_within full left.stop) ≡ BadTrace at EmptySlot)
        × (old ≡ grown old (concat (pieces_from set o m earned left.entries)))
    next_empty old at place empty =
        let end = left_empty bytes m reader left is entry stands_there empty in (
          ap (λ (p : Pieces). ending_of (stop_within full p.stop)) end
              ∙ ap (λ n. ending_of (stop_within full (RefusedAt n EmptySlot))) (sym place),
          sym (grown-nil old) ∙ ap
              (λ (p : Pieces). grown old (concat (pieces_from set o m earned p.entries))) (sym end),
        )

    module _ (runtime : RuntimeSeen) (slots : List (Option KeptSeen)) (text : List ℕ)
        (plays : Plays set o entry m earned runtime slots text) where
      -- the record was the end
      pub next_ends : (old now : Option (List ℕ)) → entry ≡ Ended → now ≡ grown old text
          → IsAtEnd set o m earned left runtime slots old now
      next_ends old now end grew =
          let nothing : text ≡ [] = plays.prints ∙ ap (λ e. printed set o e (moved e m) earned) end in
          record {
            at = reader.next;
            last = left_ends bytes m reader left is entry stands_there plays.filled end;
            stands = subst (λ (e : Entry). StandsAt set o (moved e m)
                (earned_next set o e (moved e m) earned) runtime slots) end plays.stands;
            text = grew ∙ ap (grown old) nothing ∙ grown-nil old;
          }

      -- the record was another one
      pub next_goes_on : (new : ReaderSeen) (old now : Option (List ℕ)) → (entry ≡ Ended → ⊥)
          → IsBehindRecord entry reader new → Holds new bytes → now ≡ grown old text
          → GoesOn bytes set o m earned left new runtime slots old now
      next_goes_on new old now other behind holds grew =
          let (rest, first, is_rest) = left_behind bytes m reader left is entry stands_there
          plays.filled new other behind holds in
          record {
            entry = entry;
            rest = rest;
            first = first;
            behind = is_rest;
            stands = plays.stands;
            text = grew ∙ ap (grown old) plays.prints;
          }

      -- what it prints is a front of what is left
      pub next_part : (new : ReaderSeen) (old now : Option (List ℕ)) → (entry ≡ Ended → ⊥)
          → IsBehindRecord entry reader new → Holds new bytes → GrewByPart old now text
          → GrewByPart old now (concat (pieces_from set o m earned left.entries))
      next_part new old now other behind holds part =
          let (rest, first, is_rest) = left_behind bytes m reader left is entry stands_there
          plays.filled new other behind holds in
          let whole : text ++ concat (pieces_from set o (moved entry m) (earned_next set o entry
          (moved entry m) earned) rest.entries) ≡ concat (pieces_from set o m earned left.entries) =
          ap (λ t. t ++ concat (pieces_from set o (moved entry m)
          (earned_next set o entry (moved entry m) earned) rest.entries)) plays.prints
          ∙ ap (λ (p : Pieces). concat (pieces_from set o m earned p.entries)) (sym first) in
          part_after old old now [] text (concat (pieces_from set o (moved entry m)
          (earned_next set o entry (moved entry m) earned) rest.entries))
          (concat (pieces_from set o m earned left.entries)) (sym (grown-nil old)) part whole

      pub next_part_at_end : (old now : Option (List ℕ)) → entry ≡ Ended → GrewByPart old now text
          → GrewByPart old now (concat (pieces_from set o m earned left.entries))
      next_part_at_end old now end part =
          let last = left_ends bytes m reader left is entry stands_there plays.filled end in
          let nothing : text ≡ [] = plays.prints ∙ ap (λ e. printed set o e (moved e m) earned) end in
          let whole : text ++ [] ≡ concat (pieces_from set o m earned left.entries) =
          ap (λ t. t ++ []) nothing
          ∙ ap (λ (p : Pieces). concat (pieces_from set o m earned p.entries)) (sym last) in
          part_after old old now [] text [] (concat (pieces_from set o m earned left.entries))
          (sym (grown-nil old)) part whole

      -- how the next record ended, once its text was written
      pub next_played : (new : ReaderSeen) (old now : Option (List ℕ)) → IsBehindRecord entry reader
          new → Holds new bytes → now ≡ grown old text → (end : Bool) → end ≡ is_end entry
          → TakesNext bytes set o m earned left new runtime slots old now (Ok end)
      next_played new old now behind holds grew true is = next_ends old now (was_end entry (sym is)) grew
      next_played new old now behind holds grew false is =
          next_goes_on new old now (not_end entry (sym is)) behind holds grew

      cut_by : (new : ReaderSeen) (old now : Option (List ℕ)) → IsBehindRecord entry reader new
          → Holds new bytes → GrewByPart old now text → (end : Bool) → end ≡ is_end entry
          → GrewByPart old now (concat (pieces_from set o m earned left.entries))
      cut_by new old now behind holds part true is = next_part_at_end old now (was_end entry (sym is)) part
      cut_by new old now behind holds part false is = next_part new old now (not_end entry (sym is)) behind holds part

      -- its text was cut short
      cut_so : (new : ReaderSeen) (old now : Option (List ℕ)) → IsBehindRecord entry reader new
          → Holds new bytes → GrewByPart old now text → (s : SinkFailed) → EndsBefore
          (says_from bytes set o m earned left) ⊤ ⊤ ⊤ (ending_of_trace (trace_unwritten s)) old now
      cut_so new old now behind holds part write.Memory = cut_by new old now behind holds part _ refl
      cut_so new old now behind holds part write.Failed = (tt, cut_by new old now behind holds part _ refl)

      pub next_cut : (new : ReaderSeen) (old now : Option (List ℕ))
          → IsBehindRecord entry reader new → Holds new bytes → GrewByPart old now text
          → (s : SinkFailed) (r : Result Bool TraceFailed) → IsErrAnd r (λ e. e ≡ trace_unwritten s)
          → TakesNext bytes set o m earned left new runtime slots old now r
      next_cut new old now behind holds part s (Ok end) is = absurd is
      next_cut new old now behind holds part s (Err e) is =
          subst (λ (k : TraceFailed). EndsBefore (says_from bytes set o m earned left) ⊤ ⊤ ⊤
          (ending_of_trace k) old now) (sym is) (cut_so new old now behind holds part s)

pub ok_at : {T E : Type 0} (r : Result T E) (P : T → Type 0) (x : T) → r ≡ Ok x → IfOk r P → P x
ok_at {T} {E} r P x is h = subst (λ (r : Result T E). IfOk r P) is h

-- the end record is the end, and no other is
pub end_is : (r : Record) → r ≡ trace.End → is_end (entry_of r) ≡ true
unfolding is_end
end_is r is = ap (λ (r : Record). is_end (entry_of r)) is

pub other_is : (r : Record) → (r ≡ trace.End → ⊥) → is_end (entry_of r) ≡ false
unfolding is_end
other_is (trace.Write at bytes) other = refl
other_is trace.Frame other = refl
other_is (trace.Save slot) other = refl
other_is (trace.Restore slot) other = refl
other_is trace.Show other = refl
other_is trace.End other = absurd (other refl)
