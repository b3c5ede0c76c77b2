-- What reading and taking the next record does, and where the records so far have led.
use Rattle.std.proofs.Common.{◌≡◌, ℕ, length, nat_le, Bool, true, false, Option, Some, IfSome, Result, Ok, Err, List}
use Rattle.std.proofs.Common.{refl, sym, ap, subst, ◌∙◌}
use Rattle.std.specs.Result.{IsErrAnd}
use Rattle.ra_trace.specs.declared.error.Why.TheVariants.{EmptySlot}
use Rattle.ra_trace.specs.declared.error.TraceError.{TraceError}
use Rattle.ra_trace.specs.declared.error.TraceError.TheVariants as errors
use Rattle.ra_trace.specs.Entries.{Entry, Framed, Ended}
use Rattle.ra_trace.specs.Cutting.{Pieces, RefusedAt, stop_within}
use Rattle.ra_trace.specs.Reading.{ReaderSeen, Holds, Stands, IsBehindRecord, IsStop, next_stop}
use Rattle.ra_meaning.specs.Play.{Moment, moved}
use Rattle.ra_explain.specs.Recorders.{RecorderSeen}
use Rattle.ra_replay.specs.Left.{IsEmptySlot, IsLeft, trace_limit}
use Rattle.ra_session.specs.Endings.{ending_of}
use Rattle.ra_session.specs.Explaining.{Reason, AtRows}
use Rattle.ra_session.specs.declared.ending.Ending.{Ending}
use Rattle.ra_replay.proofs.LeftLemmas.{left_empty, left_ends, left_behind}
use Rattle.ra_session.proofs.LeftLemmas.{left_refused}
use Rattle.ra_session.proofs.NextLemmas.{told}
use Rattle.ra_explain_job.specs.Watching.{Follows, TakesEntry, PassesRows, reason_at, stop_of, IsReason, TakesNext}
use Rattle.ra_explain_job.specs.Watching.{EndsFor}
use Rattle.ra_explain_job.specs.declared.failed.WatchFailed.{WatchFailed}
use Rattle.ra_explain_job.specs.declared.failed.WatchFailed.TheVariants as watch
use Rattle.ra_explain_job.specs.declared.taking.Taken.{Taken}
use Rattle.ra_explain_job.specs.declared.taking.Taken.TheVariants.{On, Unlock, End}

-- ---- the next record

module _ (bytes : List ℕ) (m : Moment) (left : Pieces) (reader : ReaderSeen)
    (is : IsLeft bytes m reader left) (old : RecorderSeen) where
  abbrev reason : Reason
  reason = reason_at old m left.entries

  stopped : (why : TraceError) → IsStop why (next_stop trace_limit is.size reader.next bytes)
      → IsReason reason (stop_of bytes left) (watch.Trace why)
  stopped errors.Read stop = tt
  stopped (errors.Refused at why) stop =
      let refused = left_refused bytes m reader left is (errors.Refused at why) stop
      (λ read. absurd (cc)) in (ap (reason_at old m) refused.0, refused.1)
  stopped errors.TooLong stop =
      let refused = left_refused bytes m reader left is errors.TooLong stop (λ read. absurd (cc)) in
      (ap (reason_at old m) refused.0, refused.1)

  -- no record was read
  pub next_refused : (content : Option (List ℕ)) (reader' : ReaderSeen) (new : RecorderSeen)
      (why : TraceError) (r : Result Taken WatchFailed) → content ≡ Some bytes
      → IfSome content (λ bytes. Holds reader bytes
      → IfSome reader.size (λ size. IsStop why (next_stop reader.limit size reader.next bytes)))
      → IsErrAnd r (λ e. e ≡ watch.Trace why) → TakesNext bytes m left reader' old new r
  next_refused content reader' new why (Ok taken) is_told err res = absurd res
  next_refused content reader' new why (Err e) is_told err res =
      let at = told reader.size (λ size. IsStop why (next_stop reader.limit size reader.next bytes))
      is.size is.sized (told content _ bytes is_told err is.holds) in
      let stop = subst (λ limit. IsStop why (next_stop limit is.size reader.next bytes)) is.limit at in
      subst (IsReason reason (stop_of bytes left)) (sym res) (stopped why stop)

  module _ (entry : Entry) (content : Option (List ℕ)) (is_told : content ≡ Some bytes)
      (ok : IfSome content (λ bytes. Holds reader bytes
      → IfSome reader.size (λ size. Stands reader.limit size reader.next entry bytes))) where
    stands_there : Stands trace_limit is.size reader.next entry bytes
    stands_there = subst (λ limit. Stands limit is.size reader.next entry bytes) is.limit
        (told reader.size (λ size. Stands reader.limit size reader.next entry bytes) is.size
        is.sized (told content _ bytes is_told ok is.holds))

    -- the record restores an empty slot
    pub next_empty : (at : ℕ) → at ≡ reader.next → IsEmptySlot entry m
        → IsReason reason (stop_of bytes left) (watch.Trace (errors.Refused at EmptySlot))
    next_empty at place empty =
        let full = nat_le trace_limit (length bytes) in
        let end = left_empty bytes m reader left is entry stands_there empty in (
          ap (λ (p : Pieces). reason_at old m p.entries) end,
          ap (stop_of bytes) end ∙ ap (λ n. ending_of (stop_within full (RefusedAt n EmptySlot))) (sym place),
        )

    framed_filled : entry ≡ Framed → IsEmptySlot entry m → ⊥
    framed_filled framed empty = subst (λ (e : Entry). IsEmptySlot e m) framed empty

    framed_other : entry ≡ Framed → entry ≡ Ended → ⊥
    framed_other framed end = let bad : Framed ≡ Ended = sym framed ∙ end in absurd (cc)

    module _ (new : ReaderSeen) (behind : IsBehindRecord entry reader new) (holds : Holds new bytes) where
      -- the record is the frame whose rows are too many
      pub next_rows : (found : ℕ) → PassesRows old entry m found → reason ≡ AtRows found
      next_rows found past =
          let (rest, first, is_rest) = left_behind bytes m reader left is entry stands_there
          (framed_filled past.framed) new (framed_other past.framed) behind holds in
          ap (λ (p : Pieces). reason_at old m p.entries) first ∙ past.decides rest.entries

      -- the record was taken
      pub next_taken : (taken : Taken) (now : RecorderSeen) → TakesEntry old now entry m taken
          → TakesNext bytes m left new old now (Ok taken)
      next_taken On now goes =
          let (rest, first, is_rest) = left_behind bytes m reader left is entry stands_there
          goes.filled new goes.other behind holds in
          record { entry = entry; rest = rest; first = first; behind = is_rest; goes = goes }
      next_taken Unlock now unlocks =
          let (rest, first, is_rest) = left_behind bytes m reader left is entry stands_there
          (framed_filled unlocks.framed) new (framed_other unlocks.framed) behind holds in
          record {
            image = m.image;
            earlier = m.behind;
            stands = unlocks.stands;
            is = ap (λ (p : Pieces). reason_at old m p.entries) first ∙ unlocks.decides rest.entries;
          }
      next_taken End now end =
          ap (λ (p : Pieces). reason_at old m p.entries) (left_ends bytes m reader left is entry
          stands_there (λ empty. subst (λ (e : Entry). IsEmptySlot e m) end empty) end)

-- ---- the records so far

-- the records so far have decided nothing, and what is left decides
pub record LeadsTo (bytes : List ℕ) (first : RecorderSeen) (m : Moment) (all : Pieces)
    (reader : ReaderSeen) (now : RecorderSeen) : Type 0 where
  pub moment : Moment
  pub rest : Pieces
  pub left : IsLeft bytes moment reader rest
  pub follows : Follows now moment
  pub decides : reason_at first m all.entries ≡ reason_at now moment rest.entries
  pub stop : rest.stop ≡ all.stop

pub leads_none : (bytes : List ℕ) (first : RecorderSeen) (m : Moment) (all : Pieces)
    (reader : ReaderSeen) → Follows first m → IsLeft bytes m reader all
    → LeadsTo bytes first m all reader first
leads_none bytes first m all reader follows left =
    record { moment = m; rest = all; left = left; follows = follows; decides = refl; stop = refl }

module _ (bytes : List ℕ) (first : RecorderSeen) (m : Moment) (all : Pieces) (reader : ReaderSeen)
    (now : RecorderSeen) (to : LeadsTo bytes first m all reader now) where
  -- a record more
  pub leads_on : (reader' : ReaderSeen) (new : RecorderSeen) (taken : Taken) → taken ≡ On
      → TakesNext bytes to.moment to.rest reader' now new (Ok taken)
      → LeadsTo bytes first m all reader' new
  leads_on reader' new On same on = record {
    moment = moved on.entry to.moment;
    rest = on.rest;
    left = on.behind;
    follows = on.goes.follows;
    decides = to.decides ∙ ap (λ (p : Pieces). reason_at now to.moment p.entries) on.first
        ∙ on.goes.decides on.rest.entries;
    stop = ap (λ (p : Pieces). p.stop) (sym on.first) ∙ to.stop;
  }
  leads_on reader' new Unlock same on = absurd (cc)
  leads_on reader' new End same on = absurd (cc)

  -- the unlock
  pub ends_unlocked : (reader' : ReaderSeen) (new : RecorderSeen) (taken : Taken) → taken ≡ Unlock
      → TakesNext bytes to.moment to.rest reader' now new (Ok taken)
      → EndsFor (reason_at first m all.entries) (stop_of bytes all) new (Ok true)
  ends_unlocked reader' new Unlock same at =
      record { image = at.image; earlier = at.earlier; stands = at.stands; is = to.decides ∙ at.is }
  ends_unlocked reader' new On same at = absurd (cc)
  ends_unlocked reader' new End same at = absurd (cc)

  -- the end record
  pub ends_ended : (reader' : ReaderSeen) (new : RecorderSeen) (taken : Taken) → taken ≡ End
      → TakesNext bytes to.moment to.rest reader' now new (Ok taken)
      → EndsFor (reason_at first m all.entries) (stop_of bytes all) new (Ok false)
  ends_ended reader' new End same is = to.decides ∙ is
  ends_ended reader' new On same is = absurd (cc)
  ends_ended reader' new Unlock same is = absurd (cc)

  -- no further
  pub ends_failed : (reader' : ReaderSeen) (new : RecorderSeen) (failed : WatchFailed)
      (r : Result Bool WatchFailed) → IsErrAnd r (λ e. e ≡ failed)
      → TakesNext bytes to.moment to.rest reader' now new (Err failed)
      → EndsFor (reason_at first m all.entries) (stop_of bytes all) new r
  ends_failed reader' new failed (Ok unlocked) res at = absurd res
  ends_failed reader' new failed (Err e) res at =
      let full = nat_le trace_limit (length bytes) in
      subst (λ (f : WatchFailed). IsReason (reason_at first m all.entries) (stop_of bytes all) f) (sym res)
      (subst (λ (r : Reason). IsReason r (stop_of bytes all) failed) (sym to.decides)
      (subst (λ (g : Ending). IsReason (reason_at now to.moment to.rest.entries) g failed)
      (ap (λ s. ending_of (stop_within full s)) to.stop) at))
