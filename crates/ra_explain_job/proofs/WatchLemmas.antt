-- A trace file that is watched from the plain opening on.
use Rattle.std.proofs.Common.{◌≡◌, ℕ, zero, suc, length, take, nat_le, replicate, slice_index_or, Bool, true, false}
use Rattle.std.proofs.Common.{Option, None, Some, Result, Ok, Err, List, [], is_some, if◌then◌else◌, refl, sym, ap}
use Rattle.std.proofs.Common.{subst, ◌∙◌}
use Rattle.std.specs.Result.{IsErrAnd}
use Rattle.std.proofs.lemmas.List.{length-replicate}
use Rattle.std.proofs.lemmas.Option.{none-some}
use Rattle.ra_condition.specs.Contents.{TriggerContents}
use Rattle.ra_memory.specs.Image.{History}
use Rattle.ra_trace.specs.declared.error.Why.TheVariants.{Header}
use Rattle.ra_trace.specs.declared.error.TraceError.{TraceError}
use Rattle.ra_trace.specs.declared.error.TraceError.TheVariants as errors
use Rattle.ra_trace.specs.Cutting.{Stop, RefusedAt, header_size, no_slots, trace_behind, stop_within}
use Rattle.ra_trace.specs.Reading.{IsStop, header_stop}
use Rattle.ra_meaning.specs.Play.{first_moment}
use Rattle.ra_explain.specs.Recorders.{RecorderSeen, KeptRows, IsNew}
use Rattle.ra_replay.specs.Left.{trace_limit}
use Rattle.ra_session.specs.Endings.{ending_of}
use Rattle.ra_session.specs.Expected.{decided_in, trace_in}
use Rattle.ra_session.specs.Explaining.{Reason, decided_from}
use Rattle.ra_session.specs.declared.ending.Ending.{Ending}
use Rattle.ra_replay.proofs.LeftLemmas.{pieces_of}
use Rattle.ra_explain_job.specs.Watching.{Follows, IsReason, EndsFor, EndsWatch, WatchedTo, reason_at, stop_of}
use Rattle.ra_explain_job.specs.declared.failed.WatchFailed.{WatchFailed}
use Rattle.ra_explain_job.specs.declared.failed.WatchFailed.TheVariants as watch
use Rattle.ra_explain_job.specs.declared.watch.Watch.{Watch}

-- an empty slot stays empty
none_at : {T : Type 0} (n k : ℕ) → slice_index_or (replicate {A = Option T} n None) k None ≡ None
none_at zero k = refl
none_at (suc n) zero = refl
none_at (suc n) (suc k) = none_at n k

module _ (t : TriggerContents) (size : ℕ) (r : RecorderSeen) (new : IsNew t size r) where
  -- a new recorder follows the first moment
  pub follows_first : Follows r (first_moment size [])
  follows_first = record {
    image = new.image;
    stands = new.stands;
    sixteen = ap length new.slots ∙ length-replicate {A = Option KeptRows} 16 None;
    sixteen_too = length-replicate {A = Option History} 16 None;
    filled = λ slot kept here. absurd (none-some kept (sym (none_at 16 slot) ∙ here));
    empty = λ slot none. ap (λ ss. slice_index_or ss slot None) new.slots ∙ none_at 16 slot;
  }

module _ (t : TriggerContents) (bytes : List ℕ) where
  abbrev full : Bool
  full = nat_le trace_limit (length bytes)

  abbrev seen : List ℕ
  seen = take trace_limit bytes

  abbrev reason_by : Option ℕ → Reason
  reason_by header = (decided_from t (first_moment (trace_behind no_slots header seen).size []) 0
      (trace_behind no_slots header seen).entries).reason

  abbrev stop_by : Option ℕ → Ending
  stop_by header = ending_of (stop_within full (trace_behind no_slots header seen).stop)

  some_same : (x y : Stop) → Some x ≡ Some y → x ≡ y
  some_same x y same = cc

  -- a header that is refused
  pub bad_header : (why : TraceError) → IsStop why (header_stop trace_limit bytes)
      → IsReason (decided_in t bytes).reason (ending_of (trace_in bytes).stop) (watch.Trace why)
  bad_header why stop = by_header why (header_size seen) refl stop
    where
      stop_of_header : Option ℕ → Option Stop
      stop_of_header header = if is_some header then None else Some (RefusedAt 0 Header)

      by_header : (why : TraceError) (header : Option ℕ) → header_size seen ≡ header
          → IsStop why (stop_of_header header)
          → IsReason (reason_by (header_size seen)) (stop_by (header_size seen)) (watch.Trace why)
      by_header errors.Read header is stop = tt
      by_header (errors.Refused at w) None is stop =
          (ap reason_by is, ap stop_by is ∙ ap ending_of (some_same (RefusedAt 0 Header) (RefusedAt at w) stop))
      by_header errors.TooLong None is stop = absurd (cc)
      by_header (errors.Refused at w) (Some size) is stop = absurd (cc)
      by_header errors.TooLong (Some size) is stop = absurd (cc)

  -- behind a good header the records decide
  pub watched_behind : (size : ℕ) (first new : RecorderSeen) (r : Result Bool WatchFailed)
      → header_size seen ≡ Some size → IsNew t size first
      → EndsFor (reason_at first (first_moment size []) (pieces_of size bytes).entries)
      (stop_of bytes (pieces_of size bytes)) new r
      → EndsFor (decided_in t bytes).reason (ending_of (trace_in bytes).stop) new r
  watched_behind size first new r is made ends =
      let plain : reason_at first (first_moment size []) (pieces_of size bytes).entries
      ≡ reason_by (Some size) = (λ i. (decided_from (made.trigger i) (first_moment size [])
      (made.frames i) (pieces_of size bytes).entries).reason) in
      subst (λ header. EndsFor (reason_by header) (stop_by header) new r) (sym is)
      (subst (λ (k : Reason). EndsFor k (stop_by (Some size)) new r) plain ends)

-- why a trace is watched no further is handed on
pub failed_watch : (t : TriggerContents) (bytes : List ℕ) (failed : WatchFailed)
    (r : Result Watch WatchFailed) → IsErrAnd r (λ e. e ≡ failed) → IsReason
    (decided_in t bytes).reason (ending_of (trace_in bytes).stop) failed → EndsWatch t bytes r
failed_watch t bytes failed (Ok w) is why = absurd is
failed_watch t bytes failed (Err e) is why =
    subst (IsReason (decided_in t bytes).reason (ending_of (trace_in bytes).stop)) (sym is) why

-- an end of watching is where it was watched to
pub watched_to : (reason : Reason) (stop : Ending) (new : RecorderSeen) (unlocked : Bool)
    → EndsFor reason stop new (Ok unlocked) → WatchedTo unlocked new reason
watched_to reason stop new true ends = ends
watched_to reason stop new false ends = ends
