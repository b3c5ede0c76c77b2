-- A trace file that is watched from the plain opening on.
use Rattle.std.proofs.Common.{◌≡◌, ℕ, zero, suc, length, take, nat_le, replicate, slice_index_or, Bool, Option, None}
use Rattle.std.proofs.Common.{Some, Result, Ok, Err, IfOk, List, [], is_some, if◌then◌else◌, refl, sym, ap, subst, ◌∙◌}
use Rattle.std.proofs.Common.{arith}
use Rattle.std.specs.Result.{IsErrAnd}
use Rattle.std.proofs.lemmas.List.{length-replicate}
use Rattle.ra_condition.specs.Contents.{TriggerContents}
use Rattle.ra_jobs.specs.declared.reading.ReadFailed.{ReadFailed}
use Rattle.ra_memory.specs.Image.{History}
use Rattle.ra_trace.specs.declared.error.Why.TheVariants.{Header}
use Rattle.ra_trace.specs.declared.error.TraceError.{TraceError}
use Rattle.ra_trace.specs.declared.error.TraceError.TheVariants as errors
use Rattle.ra_trace.specs.declared.error.Why.{Why}
use Rattle.ra_trace.specs.Cutting.{Stop, RefusedAt, PastLimit, header_size, no_slots, trace_behind, stop_within}
use Rattle.ra_trace.specs.Reading.{IsBehindHeader, IsStop, ReaderSeen, header_stop}
use Rattle.ra_meaning.specs.Play.{first_moment}
use Rattle.ra_account.specs.Triggers.{IsTriggerAccount, TriggerRow}
use Rattle.ra_why.specs.Frames.{frames_of}
use Rattle.ra_why.specs.Taking.{Follows}
use Rattle.ra_why.specs.Text.{text_by, why_text}
use Rattle.ra_why.specs.Watching.{IsMade, IsWatching, SlotMeets, Stands, trigger_in}
use Rattle.ra_why.specs.declared.kept.Kept.{Kept}
use Rattle.ra_why.specs.declared.watcher.Watcher.{Watcher}
use Rattle.ra_replay.specs.Left.{stop_of, trace_limit}
use Rattle.ra_why_job.specs.Says.{TraceSays, accounts, frames_to, history_in, long_line, passes_limit, refused_line}
use Rattle.ra_why_job.specs.Says.{refuses_trace, trace_in}
use Rattle.ra_why_job.specs.Watching.{EndsWatch, IsReady, IsReason, IsReply, IsWatchedTo}
use Rattle.ra_why_job.specs.declared.reply.Reply.{Reply}
use Rattle.ra_why_job.specs.declared.failed.WatchFailed.{WatchFailed}
use Rattle.ra_why_job.specs.declared.failed.WatchFailed.TheVariants as watch
use Rattle.ra_replay.proofs.LeftLemmas.{pieces_of}
use Rattle.ra_why_job.proofs.NextLemmas.{watching_to}

-- an empty slot stays empty
none_at : {T : Type 0} (n k : ℕ) → slice_index_or (replicate {A = Option T} n None) k None ≡ None
none_at zero k = refl
none_at (suc n) zero = refl
none_at (suc n) (suc k) = none_at n k

-- a new watcher follows the first moment
pub follows_first : (t : TriggerContents) (size : ℕ) (w : Watcher) → IsMade t size w → Stands w []
    → Follows w (first_moment size [])
follows_first t size w made stands = record {
  image = made.memory;
  stands = stands;
  sixteen = length-replicate {A = Option History} 16 None;
  slots = λ k. subst (λ (s : Option Kept). SlotMeets (trigger_in w) (length w.memory) s
      (slice_index_or (replicate {A = Option History} 16 None) k None))
      (sym (ap (λ (ss : List (Option Kept)). slice_index_or ss k None) made.slots ∙ none_at 16 k))
      (subst (λ (h : Option History). SlotMeets (trigger_in w) (length w.memory) None h) (sym (none_at 16 k)) tt);
}

-- the memory of a new watcher is as long as said
pub length_made : (size : ℕ) (memory : List ℕ) → memory ≡ replicate size 0 → length memory ≡ size
length_made size memory is = ap length is ∙ length-replicate size 0

-- behind the header a new watcher is ready
pub ready_so : (t : TriggerContents) (size : ℕ) (old reader : ReaderSeen) (w : Watcher) → old.limit
    ≡ trace_limit → IsBehindHeader size old reader → IsMade t size w → IsWatching 0 w
    → IsReady reader w
ready_so t size old reader w limit behind made watches = record {
  size = behind.sized ∙ ap (λ n. Some n) (sym (length_made size w.memory made.memory));
  limit = behind.same.limit ∙ limit;
  within = omega (arith, behind.next);
  watches = watching_to 0 reader.next w (omega arith) watches;
}

module _ (t : TriggerContents) (bytes : List ℕ) where
  abbrev full : Bool
  full = nat_le trace_limit (length bytes)

  abbrev seen : List ℕ
  seen = take trace_limit bytes

  abbrev found_by : Option ℕ → Option History
  found_by header = frames_to t (first_moment (trace_behind no_slots header seen).size [])
      (trace_behind no_slots header seen).entries

  abbrev stop_by : Option ℕ → Stop
  stop_by header = stop_within full (trace_behind no_slots header seen).stop

  -- a header that is refused
  pub bad_header : (why : TraceError) → IsStop why (header_stop trace_limit bytes)
      → IsReason (history_in t bytes) (trace_in bytes).stop (watch.Trace why)
  bad_header why stop = by_header why (header_size seen) refl stop
    where
      stop_of_header : Option ℕ → Option Stop
      stop_of_header header = if is_some header then None else Some (RefusedAt 0 Header)

      by_header : (why : TraceError) (header : Option ℕ) → header_size seen ≡ header
          → IsStop why (stop_of_header header)
          → IsReason (found_by (header_size seen)) (stop_by (header_size seen)) (watch.Trace why)
      by_header errors.Read header is stop = tt
      by_header (errors.Refused at w) None is stop = (ap found_by is, ap (λ h. Some (stop_by h)) is ∙ stop)
      by_header errors.TooLong None is stop = absurd (cc)
      by_header (errors.Refused at w) (Some size) is stop = absurd (cc)
      by_header errors.TooLong (Some size) is stop = absurd (cc)

  -- behind a good header the records lead to what is looked for
  pub watched_behind : (P : Option History → Stop → Type 0) (size : ℕ) (own : TriggerContents)
      → header_size seen ≡ Some size → own ≡ t
      → P (frames_to own (first_moment size []) (pieces_of size bytes).entries)
      (stop_of bytes (pieces_of size bytes)) → P (history_in t bytes) (trace_in bytes).stop
  watched_behind P size own is same holds =
      let mine : P (found_by (Some size)) (stop_by (Some size)) =
      subst (λ k. P (frames_to k (first_moment size []) (pieces_of size bytes).entries)
      (stop_of bytes (pieces_of size bytes))) same holds in
      subst (λ header. P (found_by header) (stop_by header)) (sym is) mine

  -- and the memory has the size of the header
  pub sized_so : (size : ℕ) → header_size seen ≡ Some size → (trace_in bytes).size ≡ size
  sized_so size is = ap (λ header. (trace_behind no_slots header seen).size) is

-- why a trace is watched no further is handed on
pub failed_watch : (t : TriggerContents) (bytes : List ℕ) (failed : WatchFailed)
    (r : Result Watcher WatchFailed) → IsErrAnd r (λ e. e ≡ failed)
    → IsReason (history_in t bytes) (trace_in bytes).stop failed → EndsWatch t bytes r
failed_watch t bytes failed (Ok w) is why = absurd is
failed_watch t bytes failed (Err e) is why = subst (IsReason (history_in t bytes) (trace_in bytes).stop) (sym is) why

-- the text of a watcher that stands for a history is that of the history
pub account_is : (id : ℕ) (w : Watcher) (history : History) (text : List ℕ) → Stands w history
    → ((size : ℕ) (rows : List TriggerRow) → IsTriggerAccount (trigger_in w) size rows w.account
    → text ≡ text_by id (trigger_in w) size w.run.trigger rows)
    → text ≡ why_text id (trigger_in w) (length w.memory) history
account_is id w history text stands says =
    says (length w.memory) (frames_of (trigger_in w) history) stands.account_too
    ∙ ap (λ k. text_by id (trigger_in w) (length w.memory) k (frames_of (trigger_in w) history)) stands.kept.trigger

-- what a reply says where a trace stops
module _ (id : ℕ) (t : TriggerContents) (bytes : List ℕ) (r : Reply) where
  reply_says : (status : ℕ) (text : List ℕ) → IsReply status text r
      → TraceSays id t bytes status text → TraceSays id t bytes r.status r.text.items
  reply_says status text is says = subst (λ n. TraceSays id t bytes n r.text.items) (sym is.0)
      (subst (TraceSays id t bytes status) (sym is.1) says)

  some_stop : (a b : Stop) → Some a ≡ Some b → a ≡ b
  some_stop a b same = cc

  pub refused_says : (at : ℕ) (why : Why) → IsReason (history_in t bytes) (trace_in bytes).stop
      (watch.Trace (errors.Refused at why)) → IsReply 7 (refused_line at why) r
      → TraceSays id t bytes r.status r.text.items
  refused_says at why reason is = reply_says 7 (refused_line at why) is
      (refuses_trace at why reason.0 (some_stop (trace_in bytes).stop (RefusedAt at why) reason.1))

  pub long_says : IsReason (history_in t bytes) (trace_in bytes).stop (watch.Trace errors.TooLong)
      → IsReply 8 long_line r → TraceSays id t bytes r.status r.text.items
  long_says reason is = reply_says 8 long_line is
      (passes_limit reason.0 (some_stop (trace_in bytes).stop PastLimit reason.1))

  -- and where it was watched to its history
  pub watched_says : (w : Watcher) → trigger_in w ≡ t → IsWatchedTo t bytes w → r.status ≡ 0
      → ((history : History) → Stands w history → r.text.items ≡ why_text id (trigger_in w)
      (length w.memory) history) → TraceSays id t bytes r.status r.text.items
  watched_says w same to done says =
      reply_says 0 (why_text id t (trace_in bytes).size to.reached.history) (
        done,
        says to.reached.history to.reached.stands ∙ (λ i. why_text id (same i) (to.size i) to.reached.history),
      ) (accounts to.reached.history to.reached.is)

-- a reply about a trace whose bytes may be told
module _ (id : ℕ) (t : TriggerContents) (content : Option (List ℕ)) where
  -- where it was watched to its history
  pub told_watched : (w : Watcher) → trigger_in w ≡ t → ((bytes : List ℕ) → content ≡ Some bytes
      → IsWatchedTo t bytes w) → (r : Result Reply ReadFailed) → IfOk r (λ r. r.status ≡ 0)
      → ((history : History) → Stands w history
      → IfOk r (λ r. r.text.items ≡ why_text id (trigger_in w) (length w.memory) history))
      → IfOk r (λ r. (bytes : List ℕ) → content ≡ Some bytes → TraceSays id t bytes r.status r.text.items)
  told_watched w same to (Ok r) done says = λ bytes told. watched_says id t bytes r w same (to bytes told) done says
  told_watched w same to (Err e) done says = tt

  -- and where it stops before
  pub told_failed : (failed : WatchFailed) → ((bytes : List ℕ) → content ≡ Some bytes
      → IsReason (history_in t bytes) (trace_in bytes).stop failed) → (r : Result Reply ReadFailed)
      → ((id : ℕ) (t : TriggerContents) (bytes : List ℕ) → IsReason (history_in t bytes)
      (trace_in bytes).stop failed → IfOk r (λ r. TraceSays id t bytes r.status r.text.items))
      → IfOk r (λ r. (bytes : List ℕ) → content ≡ Some bytes → TraceSays id t bytes r.status r.text.items)
  told_failed failed why (Ok r) says = λ bytes told. says id t bytes (why bytes told)
  told_failed failed why (Err e) says = tt
