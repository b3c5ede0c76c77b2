-- What reading and taking the next record does, and where the records so far have led.
use Rattle.std.proofs.Common.{◌≡◌, ◌+◌, ◌≤◌, ◌<◌, ℕ, zero, suc, length, Bool, true, false, cond, Option, Some, IfSome}
use Rattle.std.proofs.Common.{IfOk, Result, Ok, Err, List, ◌∷◌, refl, sym, ap, subst, ◌∙◌, arith}
use Rattle.std.specs.Result.{IsErrAnd, IsErrOf}
use Rattle.ra_condition.specs.Contents.{TriggerContents, trigger_contents}
use Rattle.ra_memory.specs.Image.{History}
use Rattle.ra_trace.specs.declared.error.Why.TheVariants.{EmptySlot}
use Rattle.ra_trace.specs.declared.error.TraceError.{TraceError}
use Rattle.ra_trace.specs.declared.error.TraceError.TheVariants as errors
use Rattle.ra_trace.specs.Cutting.{Pieces, RefusedAt, Stop}
use Rattle.ra_trace.specs.Entries.{Entry, Written, Framed, Saved, Restored, Shown, Ended}
use Rattle.ra_trace.specs.Reading.{ReaderSeen, Holds, Stands as StandsHere, IsBehindRecord, IsStop, next_stop}
use Rattle.ra_meaning.specs.Play.{Moment, moved}
use Rattle.ra_why.specs.Taking.{Follows, GoesTo, is_unlock}
use Rattle.ra_replay.specs.Left.{IsEmptySlot, IsLeft, stop_of, trace_limit}
use Rattle.ra_why.specs.Watching.{IsWatching, MayStep, Stands, trigger_in}
use Rattle.ra_why.specs.declared.watcher.Watcher.{Watcher}
use Rattle.ra_why.proofs.FollowLemmas.{more_watching}
use Rattle.ra_why_job.specs.Says.{frames_to}
use Rattle.ra_why_job.specs.Watching.{EndsFor, IsReached, IsReason, TakesNext, Watches}
use Rattle.ra_why_job.specs.declared.failed.WatchFailed.{WatchFailed}
use Rattle.ra_why_job.specs.declared.failed.WatchFailed.TheVariants as watch
use Rattle.ra_replay.proofs.LeftLemmas.{left_refused, left_empty, left_ends, left_behind}

-- what holds of a value that is there
pub told : {T : Type 0} (o : Option T) (P : T → Type 0) (x : T) → o ≡ Some x → IfSome o P → P x
told {T} o P x is h = subst (λ (o : Option T). IfSome o P) is h

-- what holds of a value that was answered
pub ok_at : {T E : Type 0} (r : Result T E) (P : T → Type 0) (x : T) → r ≡ Ok x → IfOk r P → P x
ok_at r P x is h = subst (λ k. IfOk k P) is h

-- an error that is handed on
pub err_from : {T U E : Type 0} (x e : E) (P : Type 0) (r : Result T E) → IsErrAnd r (λ k. k ≡ x)
    → (IsErrOf {T = U} (Err x) e → P) → IsErrOf r e → P
err_from x e P (Ok done) is f of = absurd is
err_from x e P (Err k) is f of = let same : k ≡ e = cc of in f (ap Err (sym is ∙ same))

-- accounts of few frames are accounts of at most more
more_by : (k most : ℕ) (w : Watcher) → IsWatching most w → IsWatching (most + k) w
more_by zero most w is = let same : most ≡ most + 0 = omega arith in subst (λ n. IsWatching n w) same is
more_by (suc k) most w is = let same : most + k + 1 ≡ most + suc k = omega arith in
    subst (λ n. IsWatching n w) same (more_watching (most + k) w (more_by k most w is))

pub watching_to : (most n : ℕ) (w : Watcher) → most ≤ n → IsWatching most w → IsWatching n w
watching_to most n w le is = let more = apart most n le in
    subst (λ k. IsWatching k w) (sym more.1) (more_by more.0 most w is)
  where
    apart : (a b : ℕ) → a ≤ b → (k : ℕ) × (b ≡ a + k)
    apart zero b le = (b, omega arith)
    apart (suc a) zero le = absurd (omega (arith, le))
    apart (suc a) (suc b) le = let more = apart a b (omega (arith, le)) in (more.0, omega (arith, more.1))

-- it watches the same behind a record more
pub watched_more : (old new : Watcher) (t : TriggerContents) (size most : ℕ) → new.text ≡ old.text
    → length new.memory ≡ length old.memory → Watches t size most old → IsWatching (most + 1) new
    → Watches t size (most + 1) new
watched_more old new t size most text long is watches = record
    { trigger = ap trigger_contents text ∙ is.trigger; long = long ∙ is.long; watches = watches }

-- it watches behind a byte more
pub watched_on : (t : TriggerContents) (size most n : ℕ) (w : Watcher) → most < n
    → Watches t size (most + 1) w → Watches t size n w
watched_on t size most n w less is =
    record {
      trigger = is.trigger;
      long = is.long;
      watches = watching_to (most + 1) n w (omega (arith, less)) is.watches;
    }

-- and may step within a trace
pub may_step : (most : ℕ) (w : Watcher) → most ≤ trace_limit → IsWatching most w → MayStep w
may_step most w few is = record { most = most; few = omega (arith, few); watches = is }

-- ---- the frames that are looked for

-- behind a record that is not the end
frames_on : (t : TriggerContents) (m : Moment) (entry : Entry) (entries : List Entry) → (entry ≡ Ended → ⊥)
    → frames_to t m (entry ∷ entries)
    ≡ cond (is_unlock t entry m) (Some (moved entry m).behind) (frames_to t (moved entry m) entries)
frames_on t m Ended entries other = absurd (other refl)
frames_on t m (Written at bytes) entries other = refl
frames_on t m Framed entries other = refl
frames_on t m (Saved slot) entries other = refl
frames_on t m (Restored slot) entries other = refl
frames_on t m Shown entries other = refl

frames_by : (t : TriggerContents) (m : Moment) (entry : Entry) (entries : List Entry) (b : Bool)
    → (entry ≡ Ended → ⊥) → is_unlock t entry m ≡ b
    → frames_to t m (entry ∷ entries) ≡ cond b (Some (moved entry m).behind) (frames_to t (moved entry m) entries)
frames_by t m entry entries b other is =
    frames_on t m entry entries other
    ∙ ap (λ b. cond b (Some (moved entry m).behind) (frames_to t (moved entry m) entries)) is

-- ---- the next record

module _ (bytes : List ℕ) (m : Moment) (left : Pieces) (reader : ReaderSeen)
    (is : IsLeft bytes m reader left) (old : Watcher) where
  abbrev found : Option History
  found = frames_to (trigger_in old) m left.entries

  stopped : (why : TraceError) → IsStop why (next_stop trace_limit is.size reader.next bytes)
      → IsReason found (stop_of bytes left) (watch.Trace why)
  stopped errors.Read stop = tt
  stopped (errors.Refused at why) stop =
      let refused = left_refused bytes m reader left is (errors.Refused at why) stop
      (λ read. absurd (cc)) in (ap (frames_to (trigger_in old) m) refused.0, refused.1)
  stopped errors.TooLong stop =
      let refused = left_refused bytes m reader left is errors.TooLong stop (λ read. absurd (cc)) in
      (ap (frames_to (trigger_in old) m) refused.0, refused.1)

  -- no record was read
  pub next_refused : (content : Option (List ℕ)) (reader' : ReaderSeen) (new : Watcher)
      (why : TraceError) (r : Result Bool WatchFailed) → content ≡ Some bytes
      → IfSome content (λ bytes. Holds reader bytes
      → IfSome reader.size (λ size. IsStop why (next_stop reader.limit size reader.next bytes)))
      → IsErrAnd r (λ e. e ≡ watch.Trace why) → TakesNext bytes m left reader' old new r
  next_refused content reader' new why (Ok on) is_told err res = absurd res
  next_refused content reader' new why (Err e) is_told err res =
      let at = told reader.size (λ size. IsStop why (next_stop reader.limit size reader.next bytes))
      is.size is.sized (told content _ bytes is_told err is.holds) in
      let stop = subst (λ limit. IsStop why (next_stop limit is.size reader.next bytes)) is.limit at in
      subst (IsReason found (stop_of bytes left)) (sym res) (stopped why stop)

  -- memory ran out
  pub next_memory : (reader' : ReaderSeen) (new : Watcher) (r : Result Bool WatchFailed)
      → IsErrAnd r (λ e. e ≡ watch.Memory) → TakesNext bytes m left reader' old new r
  next_memory reader' new (Ok on) res = absurd res
  next_memory reader' new (Err e) res = subst (IsReason found (stop_of bytes left)) (sym res) tt

  module _ (entry : Entry) (content : Option (List ℕ)) (is_told : content ≡ Some bytes)
      (ok : IfSome content (λ bytes. Holds reader bytes
      → IfSome reader.size (λ size. StandsHere reader.limit size reader.next entry bytes))) where
    stands_there : StandsHere trace_limit is.size reader.next entry bytes
    stands_there = subst (λ limit. StandsHere limit is.size reader.next entry bytes) is.limit
        (told reader.size (λ size. StandsHere reader.limit size reader.next entry bytes) is.size
        is.sized (told content _ bytes is_told ok is.holds))

    -- the record restores an empty slot
    pub next_empty : (at : ℕ) → at ≡ reader.next → IsEmptySlot entry m
        → IsReason found (stop_of bytes left) (watch.Trace (errors.Refused at EmptySlot))
    next_empty at place empty =
        let end = left_empty bytes m reader left is entry stands_there empty in (
          ap (λ (p : Pieces). frames_to (trigger_in old) m p.entries) end,
          ap (λ s. Some s) (ap (stop_of bytes) end ∙ ap (λ n. RefusedAt n EmptySlot) (sym place)),
        )

    module _ (new : ReaderSeen) (behind : IsBehindRecord entry reader new) (holds : Holds new bytes) where
      -- the record was taken, and it was neither an unlock nor the end
      pub next_on : (now : Watcher) → GoesTo old now entry m false → TakesNext bytes m left new old now (Ok true)
      next_on now goes =
          let (rest, first, is_rest) = left_behind bytes m reader left is entry stands_there
          goes.filled new goes.other behind holds in
          record { entry = entry; rest = rest; first = first; behind = is_rest; goes = goes }

      -- it was the frame of an unlock
      pub next_unlock : (now : Watcher) → GoesTo old now entry m true → TakesNext bytes m left new old now (Ok false)
      next_unlock now goes =
          let (rest, first, is_rest) = left_behind bytes m reader left is entry stands_there
          goes.filled new goes.other behind holds in
          record {
            history = (moved entry m).behind;
            is = ap (λ (p : Pieces). frames_to (trigger_in old) m p.entries) first
                ∙ frames_by (trigger_in old) m entry rest.entries true goes.other goes.unlocks;
            stands = goes.follows.stands;
          }

    -- it was the end record
    pub next_end : (new : ReaderSeen) (now : Watcher) → Follows old m
        → (entry ≡ Ended) × (now ≡ old) → TakesNext bytes m left new old now (Ok false)
    next_end new now follows end = record {
      history = m.behind;
      is = ap (λ (p : Pieces). frames_to (trigger_in old) m p.entries)
          (left_ends bytes m reader left is entry stands_there
          (λ empty. subst (λ (e : Entry). IsEmptySlot e m) end.0 empty) end.0);
      stands = subst (λ (w : Watcher). Stands w m.behind) (sym end.1) follows.stands;
    }

-- ---- the records so far

-- the records so far have reached nothing, and what is left leads to the same
pub record LeadsTo (bytes : List ℕ) (first : Watcher) (m : Moment) (all : Pieces)
    (reader : ReaderSeen) (now : Watcher) : Type 0 where
  pub moment : Moment
  pub rest : Pieces
  pub left : IsLeft bytes moment reader rest
  pub follows : Follows now moment
  pub leads : frames_to (trigger_in first) m all.entries ≡ frames_to (trigger_in now) moment rest.entries
  pub stop : stop_of bytes rest ≡ stop_of bytes all

pub leads_none : (bytes : List ℕ) (first : Watcher) (m : Moment) (all : Pieces)
    (reader : ReaderSeen) → Follows first m → IsLeft bytes m reader all
    → LeadsTo bytes first m all reader first
leads_none bytes first m all reader follows left =
    record { moment = m; rest = all; left = left; follows = follows; leads = refl; stop = refl }

module _ (bytes : List ℕ) (first : Watcher) (m : Moment) (all : Pieces) (reader : ReaderSeen)
    (now : Watcher) (to : LeadsTo bytes first m all reader now) where
  -- a record more
  pub leads_on : (reader' : ReaderSeen) (new : Watcher) → trigger_in new ≡ trigger_in now
      → (on : Bool) → on ≡ true → TakesNext bytes to.moment to.rest reader' now new (Ok on)
      → LeadsTo bytes first m all reader' new
  leads_on reader' new same true is on = record {
    moment = moved on.entry to.moment;
    rest = on.rest;
    left = on.behind;
    follows = on.goes.follows;
    leads = to.leads ∙ ap (λ (p : Pieces). frames_to (trigger_in now) to.moment p.entries) on.first
        ∙ frames_by (trigger_in now) to.moment on.entry on.rest.entries false on.goes.other on.goes.unlocks
        ∙ ap (λ t. frames_to t (moved on.entry to.moment) on.rest.entries) (sym same);
    stop = ap (stop_of bytes) (sym on.first) ∙ to.stop;
  }
  leads_on reader' new same false is on = absurd (cc)

  -- the history is reached
  pub ends_reached : (reader' : ReaderSeen) (new : Watcher) (on : Bool) → on ≡ false
      → TakesNext bytes to.moment to.rest reader' now new (Ok on)
      → IsReached (frames_to (trigger_in first) m all.entries) new
  ends_reached reader' new false is at = record { history = at.history; is = to.leads ∙ at.is; stands = at.stands }
  ends_reached reader' new true is at = absurd (cc)

  -- no further
  pub ends_failed : {T : Type 0} (reader' : ReaderSeen) (new : Watcher) (failed : WatchFailed)
      (r : Result T WatchFailed) → IsErrAnd r (λ e. e ≡ failed)
      → TakesNext bytes to.moment to.rest reader' now new (Err failed)
      → EndsFor (frames_to (trigger_in first) m all.entries) (stop_of bytes all) new r
  ends_failed reader' new failed (Ok done) res at = absurd res
  ends_failed reader' new failed (Err e) res at =
      subst (λ (f : WatchFailed). IsReason (frames_to (trigger_in first) m all.entries) (stop_of bytes all) f) (sym res)
      (subst (λ (r : Option History). IsReason r (stop_of bytes all) failed) (sym to.leads)
      (subst (λ (s : Stop). IsReason (frames_to (trigger_in now) to.moment to.rest.entries) s failed) to.stop at))
