-- How a run ends where what is left of its trace is refused.
use Rattle.std.proofs.Common.{◌≡◌, ap, refl, ℕ, nat_le, length, Some, List, []}
use Rattle.ra_trace.specs.declared.error.TraceError.{TraceError}
use Rattle.ra_trace.specs.declared.error.TraceError.TheVariants as errors
use Rattle.ra_trace.specs.Cutting.{Stop, RefusedAt, PastLimit, Pieces, stop_within}
use Rattle.ra_trace.specs.Reading.{ReaderSeen, IsStop, next_stop}
use Rattle.ra_meaning.specs.Play.{Moment}
use Rattle.ra_replay.specs.Left.{IsLeft, stop_of, trace_limit}
use Rattle.ra_replay.proofs.LeftLemmas.{left_refused as left_stopped}
use Rattle.ra_session.specs.Endings.{ending_of}
use Rattle.ra_session.specs.Failures.{ending_of_trace, trace_failed}

some_same : {A : Type 0} (x y : A) → Some x ≡ Some y → x ≡ y
some_same x y same = cc

-- how a reader is stopped, and how the trace ends there
stopped_as : (why : TraceError) (stop : Stop) → IsStop why (Some stop) → (why ≡ errors.Read → ⊥)
    → ending_of stop ≡ ending_of_trace (trace_failed why)
stopped_as (errors.Refused at why) stop is other = ap ending_of (some_same stop (RefusedAt at why) is)
stopped_as errors.TooLong stop is other = ap ending_of (some_same stop PastLimit is)
stopped_as errors.Read stop is other = absurd (other refl)

-- a reader that is stopped is stopped as the trace says, and so ends the run
pub left_refused : (bytes : List ℕ) (m : Moment) (reader : ReaderSeen) (left : Pieces)
    (is : IsLeft bytes m reader left) (why : TraceError)
    → IsStop why (next_stop trace_limit is.size reader.next bytes) → (why ≡ errors.Read → ⊥)
    → (left.entries ≡ []) × (ending_of (stop_within (nat_le trace_limit (length bytes)) left.stop)
    ≡ ending_of_trace (trace_failed why))
left_refused bytes m reader left is why stop other =
    let stopped = left_stopped bytes m reader left is why stop other in
    (stopped.0, stopped_as why (stop_of bytes left) stopped.1 other)
