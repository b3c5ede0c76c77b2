-- The job `explain`: it has no set, no achievement of the id, a trace that is watched no further, or a text that is
-- printed.
use Rattle.std.proofs.Common.{arith, ◌≡◌, ℕ, zero, suc, ◌+◌, take, length, replicate, nat_lt, if◌then◌else◌, Bool, true}
use Rattle.std.proofs.Common.{false, Option, Some, None, List, [], ◌∷◌, ◌++◌, refl, sym, ap, subst, ◌∙◌, inl, inr}
use Rattle.std.specs.List.{concat}
use Rattle.std.proofs.lemmas.List.{length-append, length-replicate}
use Rattle.std.proofs.lemmas.Option.{none-some}
use Rattle.ra_io.specs.Causes.{Rose}
use Rattle.ra_io.specs.Sink.{grown}
use Rattle.ra_condition.specs.Contents.{TriggerContents}
use Rattle.ra_memory.specs.Image.{History}
use Rattle.ra_set.specs.Accepted.{IsSet}
use Rattle.ra_set.specs.Contents.{SetContents}
use Rattle.ra_set.specs.Refusals.{Refuses}
use Rattle.ra_set.specs.declared.refused.SetRefused.{SetRefused}
use Rattle.ra_set.proofs.AnswerLemmas.{one-refusal, set-not_refused, same-set}
use Rattle.ra_trace.specs.declared.error.TraceError.TheVariants as errors
use Rattle.ra_trace.specs.Cutting.{Stop, Reached, RefusedAt, PastLimit}
use Rattle.ra_trace.specs.Entries.{Entry, Written, Framed, Saved, Restored, Shown, Ended}
use Rattle.ra_meaning.specs.Earned.{Earned, none_earned}
use Rattle.ra_meaning.specs.Openings.{plain_opening}
use Rattle.ra_meaning.specs.Play.{Moment, moved, first_moment, pieces_from, earned_next}
use Rattle.ra_explain.specs.Explains.{ExplanationContents}
use Rattle.ra_explain.specs.Recorders.{RecorderSeen, unlocks_at, most_rows}
use Rattle.ra_explain.specs.Unlocks.{IsExplanation}
use Rattle.ra_args.specs.Words.{Job, Explain}
use Rattle.ra_session.specs.Endings.{ending_of}
use Rattle.ra_session.specs.Expected.{Expected, IsReadBehind, JobSays, ExplainSays, refuses_set, lacks, explains}
use Rattle.ra_session.specs.Expected.{TraceSays, ReasonSays, at_unlock, at_rows, at_end, at_stop, prints_behind}
use Rattle.ra_session.specs.Expected.{prints_line, prints_nothing, trace_in, decided_in}
use Rattle.ra_goals.specs.Choosing.{trigger_of}
use Rattle.ra_session.specs.Explaining.{Reason, AtUnlock, AtRows, AtEnd, AtStop, Decided, decided, behind_record}
use Rattle.ra_session.specs.Explaining.{rows_with, decided_from, explanation_text, no_unlock_text}
use Rattle.ra_session.specs.Closing.{EndsBefore, EndsJob}
use Rattle.ra_session.specs.Failures.{ending_of_set}
use Rattle.ra_session.specs.Loading.{HasNoSet, IsTaken}
use Rattle.ra_jobs.specs.Outside.{Outside, ReadsRose, SinkRose, AreTold}
use Rattle.ra_session.specs.Running.{Ran, IsTold, IsCounted, PrintsSoFar, deciding}
use Rattle.ra_session.specs.declared.ending.Ending.{Ending}
use Rattle.ra_session.specs.declared.ending.Ending.TheVariants.{Done, NoMemory, NoJob, BadSet, ReadFault, SinkFault}
use Rattle.ra_session.specs.declared.ending.Ending.TheVariants.{BadProgress, BadTrace, LongTrace, SaveFault}
use Rattle.ra_session.specs.declared.ending.Ending.TheVariants.{NoAchievement, ManyRows}
use Rattle.ra_session.specs.declared.failures.SetFailed.{SetFailed}
use Rattle.ra_session.specs.declared.failures.SetFailed.TheVariants as set_failed
use Rattle.ra_jobs.proofs.Pieces.{grown-nil}
use Rattle.ra_jobs.proofs.Parts.{part_none}
use Rattle.ra_session.proofs.ReadLemmas.{played_read}
use Rattle.ra_session.proofs.LoadLemmas.{never_bad, stop_decides}
use Rattle.ra_session.proofs.RunLemmas.{any_first, any_later, file_of, set_read_of}
use Rattle.ra_jobs.specs.Writing.{GrewByPart}
use Rattle.ra_explain_job.specs.Failures.{ending_of_watch}
use Rattle.ra_explain_job.specs.Printing.{EndsText, PrintsUnlock, PrintsWatched}
use Rattle.ra_explain_job.specs.Watching.{IsReason, StandsAtIt, WatchedTo}
use Rattle.ra_explain_job.specs.declared.failed.WatchFailed.{WatchFailed}
use Rattle.ra_explain_job.specs.declared.failed.WatchFailed.TheVariants as watch

-- ---- what is said where the trace is read no further

-- what is printed at records that print nothing
concat_behind : (n : ℕ) (pieces : List (List ℕ)) → concat (replicate n [] ++ pieces) ≡ concat pieces
concat_behind zero pieces = refl
concat_behind (suc n) pieces = concat_behind n pieces

same_image : (a b : List ℕ) (c d : History) → AtUnlock a c ≡ AtUnlock b d → a ≡ b
same_image a b c d same = cc

same_earlier : (a b : List ℕ) (c d : History) → AtUnlock a c ≡ AtUnlock b d → c ≡ d
same_earlier a b c d same = cc

same_found : (a b : ℕ) → AtRows a ≡ AtRows b → a ≡ b
same_found a b same = cc

-- an unlock says an explanation of it
pub record SaysUnlock (id : ℕ) (t : TriggerContents) (records : ℕ) (image : List ℕ)
    (earlier : History) (e : Expected) : Type 0 where
  pub contents : ExplanationContents
  pub is : IsExplanation t image earlier contents
  pub says : e ≡ prints_behind records (explanation_text id t contents ∷ []) Done

module _ (id : ℕ) (t : TriggerContents) (stop : Ending) (records : ℕ) where
  unlock_says : (reason : Reason) (e : Expected) (image : List ℕ) (earlier : History)
      → ReasonSays id t stop records reason e → reason ≡ AtUnlock image earlier
      → SaysUnlock id t records image earlier e
  unlock_says reason e image earlier (at_unlock i h x is) same = record {
    contents = x;
    is = subst (λ k. IsExplanation t k earlier x) (same_image i image h earlier same)
        (subst (λ k. IsExplanation t i k x) (same_earlier i image h earlier same) is);
    says = refl;
  }
  unlock_says reason e image earlier (at_rows found) same = absurd (cc)
  unlock_says reason e image earlier at_end same = absurd (cc)
  unlock_says reason e image earlier at_stop same = absurd (cc)

  rows_say : (reason : Reason) (e : Expected) (found : ℕ) → ReasonSays id t stop records reason e
      → reason ≡ AtRows found → e ≡ prints_behind records [] (ManyRows found)
  rows_say reason e found (at_unlock i h x is) same = absurd (cc)
  rows_say reason e found (at_rows n) same = ap (λ k. prints_behind records [] (ManyRows k)) (same_found n found same)
  rows_say reason e found at_end same = absurd (cc)
  rows_say reason e found at_stop same = absurd (cc)

  end_says : (reason : Reason) (e : Expected) → ReasonSays id t stop records reason e → reason
      ≡ AtEnd → e ≡ prints_behind records (no_unlock_text id ∷ []) Done
  end_says reason e (at_unlock i h x is) same = absurd (cc)
  end_says reason e (at_rows n) same = absurd (cc)
  end_says reason e at_end same = refl
  end_says reason e at_stop same = absurd (cc)

  stop_says : (reason : Reason) (e : Expected) → ReasonSays id t stop records reason e → reason
      ≡ AtStop → e ≡ prints_behind records [] stop
  stop_says reason e (at_unlock i h x is) same = absurd (cc)
  stop_says reason e (at_rows n) same = absurd (cc)
  stop_says reason e at_end same = absurd (cc)
  stop_says reason e at_stop same = refl

-- where a trace stops before its end all its records lie before
all_before : (t : TriggerContents) (m : Moment) (frames : ℕ) (entries : List Entry) → (decided_from
    t m frames entries).reason ≡ AtStop → (decided_from t m frames entries).records ≡ length entries
all_before t m frames [] is = refl
all_before t m frames (Ended ∷ entries) is = absurd (cc)
all_before t m frames (Framed ∷ entries) is =
    by_cases (all_before t (moved Framed m) (frames + 1) entries)
    (nat_lt most_rows (rows_with t frames)) (unlocks_at t m.image m.behind) is
  where
    next : Decided
    next = decided_from t (moved Framed m) (frames + 1) entries

    at : Bool → Bool → Decided
    at many unlock = if many then decided (AtRows (rows_with t frames)) else if unlock
        then decided (AtUnlock m.image m.behind) else behind_record next

    by_cases : (next.reason ≡ AtStop → next.records ≡ length entries) → (many unlock : Bool)
        → (at many unlock).reason ≡ AtStop → (at many unlock).records ≡ suc (length entries)
    by_cases rest true unlock is = absurd (cc)
    by_cases rest false true is = absurd (cc)
    by_cases rest false false is = let same = rest is in omega (arith, same)
all_before t m frames (Written at bytes ∷ entries) is = let rest =
    all_before t (moved (Written at bytes) m) frames entries is in omega (arith, rest)
all_before t m frames (Saved slot ∷ entries) is = let rest =
    all_before t (moved (Saved slot) m) frames entries is in omega (arith, rest)
all_before t m frames (Restored slot ∷ entries) is = let rest =
    all_before t (moved (Restored slot) m) frames entries is in omega (arith, rest)
all_before t m frames (Shown ∷ entries) is = let rest =
    all_before t (moved Shown m) frames entries is in omega (arith, rest)

-- a set has as many pieces as there are records, whatever is earned
many_pieces : (s : SetContents) (m : Moment) (earned : Earned) (entries : List Entry)
    → length (pieces_from s (plain_opening s) m earned entries) ≡ length entries
many_pieces s m earned [] = refl
many_pieces s m earned (entry ∷ entries) =
    ap suc (many_pieces s (moved entry m) (earned_next s (plain_opening s) entry (moved entry m) earned) entries)

-- a read may come before all that is said
trace_read : (s : SetContents) (id : ℕ) (t : TriggerContents) (bytes : List ℕ) (e : Expected)
    → TraceSays id t bytes e → IsReadBehind e 0
trace_read s id t bytes e says = by_reason (decided_in t bytes).reason e refl says
  where
    by_reason : (reason : Reason) (e : Expected) → (decided_in t bytes).reason ≡ reason
        → ReasonSays id t (ending_of (trace_in bytes).stop) (decided_in t bytes).records reason e
        → IsReadBehind e 0
    by_reason reason e is (at_unlock image earlier x x_is) =
        record {
          there = omega arith;
          before_end = λ done. omega
              (arith, length-append (replicate (decided_in t bytes).records []) (explanation_text id t x ∷ []));
        }
    by_reason reason e is (at_rows found) = record { there = omega arith; before_end = λ done. absurd (cc) }
    by_reason reason e is at_end =
        record {
          there = omega arith;
          before_end = λ done. omega
              (arith, length-append (replicate (decided_in t bytes).records []) (no_unlock_text id ∷ []));
        }
    by_reason reason e is at_stop = record {
      there = omega arith;
      before_end = λ done.
          let m = first_moment (trace_in bytes).size [] in
          let some = (played_read s (plain_opening s) [] (none_earned s) bytes).before_end done in
          let all = all_before t m 0 (trace_in bytes).entries is in
          omega (
            arith,
            some,
            all,
            many_pieces s m (none_earned s) (trace_in bytes).entries,
            length-append (replicate {A = List ℕ} (decided_in t bytes).records []) [],
            length-replicate {A = List ℕ} (decided_in t bytes).records [],
          );
    }

-- ---- a text that is all that is printed

-- it is printed behind records that print nothing
shifted : (records : ℕ) (text : List ℕ) (reads trace puts sink : Type 0) (ending : Ending)
    (old new : Option (List ℕ)) → EndsBefore (prints_line text) ⊥ ⊥ sink ending old new
    → EndsJob (prints_behind records (text ∷ []) Done) reads trace puts sink ending old new
shifted records text reads trace puts sink ReadFault old new before = absurd before.0
shifted records text reads trace puts sink SaveFault old new before = absurd before.0
shifted records text reads trace puts sink NoMemory old new before =
    subst (GrewByPart old new) (sym (concat_behind records (text ∷ []))) before
shifted records text reads trace puts sink SinkFault old new before =
    (before.0, subst (GrewByPart old new) (sym (concat_behind records (text ∷ []))) before.1)
shifted records text reads trace puts sink _ old new before =
    (before.0, before.1 ∙ ap (grown old) (sym (concat_behind records (text ∷ []))))

-- a told ending of it is that it is done
line_done : (text : List ℕ) (sink : Type 0) (ending : Ending) (old new : Option (List ℕ))
    → IsTold ending → EndsBefore (prints_line text) ⊥ ⊥ sink ending old new → ending ≡ Done
line_done text sink NoMemory old new told before = absurd told
line_done text sink NoJob old new told before = absurd told
line_done text sink ReadFault old new told before = absurd told
line_done text sink SinkFault old new told before = absurd told
line_done text sink SaveFault old new told before = absurd told
line_done text sink _ old new told before = sym before.0

-- ---- the job

module _ (set trace : List ℕ) (id : ℕ) (old new : Outside) where
  abbrev job : Job
  job = Explain set trace id

  set_decides : (ending : Ending) → Rose (old.read_faults set) (new.read_faults set)
      → ReadsRose (deciding ending job) old new
  set_decides (BadSet why) rose = any_first _ set [] rose
  set_decides (BadProgress why) rose = any_first _ set [] rose
  set_decides (NoAchievement n) rose = any_first _ set [] rose
  set_decides _ rose = any_first _ set (trace ∷ []) rose

  never_set : (file : List ℕ) (s : SetContents) (why : SetRefused) → IsSet file s → Refuses (take 4194305 file) why → ⊥
  never_set file s why is refuses = set-not_refused (take 4194305 file) s why
      (set_read_of (take 4194305 file) file s refl is) refuses

  says_read : (e : Expected) → ExplainSays old.content set trace id e → IsReadBehind e 0
  says_read e (refuses_set file why told refuses) = record { there = omega arith; before_end = λ done. absurd (cc) }
  says_read e (lacks file s told is none) = record { there = omega arith; before_end = λ done. absurd (cc) }
  says_read e (explains file bytes s t e' told told_trace is some says) = trace_read s id t bytes e' says

  -- the job has no set
  no_set_prints : (e : Expected) (failed : SetFailed) → HasNoSet (old.content set) (Rose
      (old.read_faults set) (new.read_faults set)) failed → ExplainSays old.content set trace id e
      → new.text ≡ old.text → PrintsSoFar job old new (ending_of_set failed) e
  no_set_prints e set_failed.Memory none says same = part_none old.text new.text (concat e.pieces) same
  no_set_prints e set_failed.Read none says same = (set_decides e.ending none, inl (says_read e says, same))
  no_set_prints e (set_failed.Refused why) none (refuses_set file found told refuses) same =
      (ap BadSet (one-refusal (take 4194305 file) found why refuses (none file told)), same ∙ sym (grown-nil old.text))
  no_set_prints e (set_failed.Refused why) none (lacks file s told is lack) same =
      absurd (never_set file s why is (none file told))
  no_set_prints e (set_failed.Refused why) none (explains file bytes s t e' told told_trace is some
      says) same = absurd (never_set file s why is (none file told))

  no_set_said : (failed : SetFailed) → HasNoSet (old.content set) (Rose (old.read_faults set)
      (new.read_faults set)) failed → IsTold (ending_of_set failed) → AreTold old.content
      (deciding (ending_of_set failed) job) → (e : Expected) × JobSays old.content job e
  no_set_said (set_failed.Refused why) none is told = let file = file_of old.content set told.0 in
      (prints_nothing (BadSet why), refuses_set file.0 why file.1 (none file.0 file.1))
  no_set_said set_failed.Memory none is told = absurd is
  no_set_said set_failed.Read none is told = absurd is

  no_set_counted : (failed : SetFailed) → HasNoSet (old.content set) (Rose (old.read_faults set)
      (new.read_faults set)) failed → IsCounted job old new (ending_of_set failed)
  no_set_counted set_failed.Read none = any_first _ set (trace ∷ []) none
  no_set_counted set_failed.Memory none = tt
  no_set_counted (set_failed.Refused why) none = tt

  pub ran_no_set : (failed : SetFailed) (ending : Ending) → ending ≡ ending_of_set failed
      → HasNoSet (old.content set) (Rose (old.read_faults set) (new.read_faults set)) failed
      → new.text ≡ old.text → Ran job old new ending
  ran_no_set failed ending is none same = subst (Ran job old new) (sym is) (record {
    printed = λ e says. no_set_prints e failed none says same;
    said = λ told files. no_set_said failed none told files;
    counted = no_set_counted failed none;
  })

  module _ (c : SetContents) (taken : IsTaken (old.content set) c) where
    -- the set has no achievement of the id
    lacking_prints : (e : Expected) → trigger_of id c.items ≡ None → ExplainSays old.content set
        trace id e → new.text ≡ old.text → PrintsSoFar job old new (NoAchievement id) e
    lacking_prints e none (refuses_set file why told refuses) same =
        absurd (never_bad (old.content set) c taken file why told refuses)
    lacking_prints e none (lacks file s told is lack) same = (refl, same ∙ sym (grown-nil old.text))
    lacking_prints e none (explains file bytes s t e' told told_trace is some says) same =
        absurd (none-some t (sym none ∙ ap (λ (k : SetContents). trigger_of id k.items)
        (same-set file c s (taken.is_set file told) is) ∙ some))

    pub ran_lacking : trigger_of id c.items ≡ None → new.text ≡ old.text → Ran job old new (NoAchievement id)
    ran_lacking none same = record {
      printed = λ e says. lacking_prints e none says same;
      said = λ told files. let file = file_of old.content set files.0 in
          (prints_nothing (NoAchievement id), lacks file.0 c file.1 (taken.is_set file.0 file.1) none);
      counted = tt;
    }

    module _ (t : TriggerContents) (some : trigger_of id c.items ≡ Some t) where
      -- what is said over the trace
      record SaysOver (e : Expected) : Type 0 where
        bytes : List ℕ
        told : old.content trace ≡ Some bytes
        says : TraceSays id t bytes e

      over_of : (e : Expected) → ExplainSays old.content set trace id e → SaysOver e
      over_of e (refuses_set file why told refuses) = absurd (never_bad (old.content set) c taken file why told refuses)
      over_of e (lacks file s told is lack) =
          absurd (none-some t (sym lack ∙ ap (λ (k : SetContents). trigger_of id k.items)
          (sym (same-set file c s (taken.is_set file told) is)) ∙ some))
      over_of e (explains file bytes s t' e' told told_trace is some' says) =
          let one : t' ≡ t = some_one t' t (sym some' ∙ ap (λ (k : SetContents). trigger_of id
          k.items) (sym (same-set file c s (taken.is_set file told) is)) ∙ some) in
          record { bytes = bytes; told = told_trace; says = subst (λ k. TraceSays id k bytes e') one says }
        where
          some_one : (x y : TriggerContents) → Some x ≡ Some y → x ≡ y
          some_one x y same = cc

      -- files that are told say what is said over the trace
      said_over : (bytes : List ℕ) (e : Expected) → old.content trace ≡ Some bytes
          → AreTold old.content (set ∷ trace ∷ []) → TraceSays id t bytes e
          → (e : Expected) × JobSays old.content job e
      said_over bytes e told files says = let file = file_of old.content set files.0 in
          (e, explains file.0 bytes c t e file.1 told (taken.is_set file.0 file.1) some says)

      -- ---- the trace is watched no further

      trace_decides : (bytes : List ℕ) (e : Expected) → TraceSays id t bytes e
          → deciding e.ending job ≡ set ∷ trace ∷ []
      trace_decides bytes e says = by_reason (decided_in t bytes).reason e says
        where
          by_reason : (reason : Reason) (e : Expected)
              → ReasonSays id t (ending_of (trace_in bytes).stop)
              (decided_in t bytes).records reason e → deciding e.ending job ≡ set ∷ trace ∷ []
          by_reason reason e (at_unlock image earlier x is) = refl
          by_reason reason e (at_rows found) = refl
          by_reason reason e at_end = refl
          by_reason reason e at_stop = stop_decides (trace_in bytes).stop job

      nothing_printed : (records : ℕ) (ending : Ending) → new.text ≡ old.text → new.text
          ≡ grown old.text (concat (prints_behind records [] ending).pieces)
      nothing_printed records ending same =
          same ∙ sym (grown-nil old.text) ∙ ap (grown old.text) (sym (concat_behind records []))

      stopped_prints : (bytes : List ℕ) (e : Expected) (ending : Ending) → TraceSays id t bytes e
          → ((decided_in t bytes).reason ≡ AtStop) × (ending_of (trace_in bytes).stop ≡ ending) →
          new.text ≡ old.text → (e.ending ≡ ending) × (new.text ≡ grown old.text (concat e.pieces))
      stopped_prints bytes e ending says at same =
          let stop = ending_of (trace_in bytes).stop in
          let is = stop_says id t stop (decided_in t bytes).records (decided_in t bytes).reason e says at.0 in (
            ap (λ (k : Expected). k.ending) is ∙ at.1,
            nothing_printed (decided_in t bytes).records stop same
                ∙ ap (λ (k : Expected). grown old.text (concat k.pieces)) (sym is),
          )

      failed_prints : (e : Expected) (failed : WatchFailed) → SaysOver e
          → ((bytes : List ℕ) → old.content trace ≡ Some bytes
          → IsReason (decided_in t bytes).reason (ending_of (trace_in bytes).stop) failed)
          → (failed ≡ watch.Trace errors.Read → Rose (old.read_faults trace) (new.read_faults
          trace)) → new.text ≡ old.text → PrintsSoFar job old new (ending_of_watch failed) e
      failed_prints e watch.Memory over why rose same = part_none old.text new.text (concat e.pieces) same
      failed_prints e (watch.Rows found) over why rose same =
          let is = rows_say id t (ending_of (trace_in over.bytes).stop)
          (decided_in t over.bytes).records (decided_in t over.bytes).reason e found over.says
          (why over.bytes over.told) in (
            ap (λ (k : Expected). k.ending) is,
            nothing_printed (decided_in t over.bytes).records (ManyRows found) same
                ∙ ap (λ (k : Expected). grown old.text (concat k.pieces)) (sym is),
          )
      failed_prints e (watch.Trace errors.Read) over why rose same = (
        subst (λ names. ReadsRose names old new) (sym (trace_decides over.bytes e over.says))
            (any_later _ set (trace ∷ []) (any_first _ trace [] (rose refl))),
        inr (
          any_first _ trace [] (rose refl),
          (0, trace_read c id t over.bytes e over.says, same ∙ sym (grown-nil old.text)),
        ),
      )
      failed_prints e (watch.Trace (errors.Refused at w)) over why rose same =
          stopped_prints over.bytes e (BadTrace at w) over.says (why over.bytes over.told) same
      failed_prints e (watch.Trace errors.TooLong) over why rose same =
          stopped_prints over.bytes e LongTrace over.says (why over.bytes over.told) same

      says_by : (bytes : List ℕ) (reason : Reason) (e : Expected) → (decided_in t bytes).reason
          ≡ reason → ReasonSays id t (ending_of (trace_in bytes).stop)
          (decided_in t bytes).records reason e → TraceSays id t bytes e
      says_by bytes reason e is says = subst (λ r. ReasonSays id t (ending_of (trace_in bytes).stop)
          (decided_in t bytes).records r e) (sym is) says

      failed_said : (failed : WatchFailed) → ((bytes : List ℕ) → old.content trace ≡ Some bytes
          → IsReason (decided_in t bytes).reason (ending_of (trace_in bytes).stop) failed)
          → IsTold (ending_of_watch failed) → AreTold old.content
          (deciding (ending_of_watch failed) job) → (e : Expected) × JobSays old.content job e
      failed_said watch.Memory why is files = absurd is
      failed_said (watch.Trace errors.Read) why is files = absurd is
      failed_said (watch.Rows found) why is files =
          let file = file_of old.content trace files.1.0 in
          said_over file.0 _ file.1 files (says_by file.0 (AtRows found) _ (why file.0 file.1) (at_rows found))
      failed_said (watch.Trace (errors.Refused at w)) why is files =
          let file = file_of old.content trace files.1.0 in
          said_over file.0 _ file.1 files (says_by file.0 AtStop _ (why file.0 file.1).0 at_stop)
      failed_said (watch.Trace errors.TooLong) why is files =
          let file = file_of old.content trace files.1.0 in
          said_over file.0 _ file.1 files (says_by file.0 AtStop _ (why file.0 file.1).0 at_stop)

      failed_counted : (failed : WatchFailed) → (failed ≡ watch.Trace errors.Read
          → Rose (old.read_faults trace) (new.read_faults trace))
          → IsCounted job old new (ending_of_watch failed)
      failed_counted watch.Memory rose = tt
      failed_counted (watch.Rows found) rose = tt
      failed_counted (watch.Trace errors.Read) rose = any_later _ set (trace ∷ []) (any_first _ trace [] (rose refl))
      failed_counted (watch.Trace (errors.Refused at w)) rose = tt
      failed_counted (watch.Trace errors.TooLong) rose = tt

      pub ran_unwatched : (failed : WatchFailed) (ending : Ending) → ending ≡ ending_of_watch failed
          → ((bytes : List ℕ) → old.content trace ≡ Some bytes
          → IsReason (decided_in t bytes).reason (ending_of (trace_in bytes).stop) failed)
          → (failed ≡ watch.Trace errors.Read → Rose (old.read_faults trace)
          (new.read_faults trace)) → new.text ≡ old.text → Ran job old new ending
      ran_unwatched failed ending is why rose same = subst (Ran job old new) (sym is) (record {
        printed = λ e says. failed_prints e failed (over_of e says) why rose same;
        said = λ told files. failed_said failed why told files;
        counted = failed_counted failed rose;
      })

      -- ---- a text is printed

      text_prints : (bytes : List ℕ) (e : Expected) (text : List ℕ) (ending : Ending)
          → TraceSays id t bytes e → e ≡ prints_behind (decided_in t bytes).records (text ∷ []) Done
          → EndsBefore (prints_line text) ⊥ ⊥ (SinkRose old new) ending old.text new.text
          → PrintsSoFar job old new ending e
      text_prints bytes e text ending says is before =
          subst (PrintsSoFar job old new ending) (sym is) (shifted (decided_in t bytes).records text
          _ _ _ (SinkRose old new) ending old.text new.text before)

      module _ (r : RecorderSeen) (trigger : r.trigger ≡ t) (ending : Ending) where
        unlock_prints : (e : Expected) → SaysOver e → ((bytes : List ℕ) → old.content trace
            ≡ Some bytes → StandsAtIt r (decided_in t bytes).reason) → PrintsUnlock id r
            (SinkRose old new) ending old.text new.text → PrintsSoFar job old new ending e
        unlock_prints e over at prints =
            let here = at over.bytes over.told in
            let says = unlock_says id t (ending_of (trace_in over.bytes).stop)
            (decided_in t over.bytes).records
            (decided_in t over.bytes).reason e here.image here.earlier over.says here.is in
            let is : IsExplanation r.trigger here.image here.earlier says.contents = subst
            (λ k. IsExplanation k here.image here.earlier says.contents) (sym trigger) says.is in
            text_prints over.bytes e (explanation_text id t says.contents) ending over.says says.says
            (subst (λ k. EndsBefore (prints_line (explanation_text id k says.contents)) ⊥ ⊥
            (SinkRose old new) ending old.text new.text) trigger
            (prints.prints here.image here.earlier says.contents here.stands is))

        text_counted : (ending : Ending) → EndsText (SinkRose old new) ending → IsCounted job old new ending
        text_counted Done ends = tt
        text_counted NoMemory ends = tt
        text_counted SinkFault ends = ends
        text_counted ReadFault ends = absurd ends
        text_counted SaveFault ends = absurd ends
        text_counted NoJob ends = absurd ends
        text_counted _ ends = absurd ends

        text_done : (ending : Ending) → EndsText (SinkRose old new) ending → IsTold ending → ending ≡ Done
        text_done Done ends told = refl
        text_done NoMemory ends told = absurd told
        text_done SinkFault ends told = absurd told
        text_done _ ends told = absurd ends

        pub ran_unlocked : ((bytes : List ℕ) → old.content trace ≡ Some bytes
            → StandsAtIt r (decided_in t bytes).reason)
            → PrintsUnlock id r (SinkRose old new) ending old.text new.text → Ran job old new ending
        ran_unlocked at prints = record {
          printed = λ e says. unlock_prints e (over_of e says) at prints;
          said = λ told files.
              let done = text_done ending prints.ends told in
              let names : AreTold old.content (set ∷ trace ∷ []) =
              subst (λ k. AreTold old.content (deciding k job)) done files in
              let file = file_of old.content trace names.1.0 in
              let here = at file.0 file.1 in
              let one = prints.one here.image here.earlier done here.stands in
              said_over file.0 _ file.1 names (says_by file.0
              (AtUnlock here.image here.earlier) _ here.is (at_unlock here.image here.earlier one.0
              (subst (λ k. IsExplanation k here.image here.earlier one.0) trigger one.1)));
          counted = text_counted ending prints.ends;
        }

      line_counted : (text : List ℕ) (ending : Ending) → EndsBefore (prints_line text) ⊥ ⊥
          (SinkRose old new) ending old.text new.text → IsCounted job old new ending
      line_counted text ReadFault before = absurd before.0
      line_counted text SaveFault before = absurd before.0
      line_counted text SinkFault before = before.0
      line_counted text NoJob before = absurd (let bad = before.0 in cc)
      line_counted text _ before = tt

      pub ran_none : (ending : Ending) → ((bytes : List ℕ) → old.content trace ≡ Some bytes
          → (decided_in t bytes).reason ≡ AtEnd) → EndsBefore (prints_line (no_unlock_text id)) ⊥ ⊥
          (SinkRose old new) ending old.text new.text → Ran job old new ending
      ran_none ending at before = record {
        printed = λ e says.
            let over = over_of e says in
            text_prints over.bytes e (no_unlock_text id) ending over.says
            (end_says id t (ending_of (trace_in over.bytes).stop) (decided_in t over.bytes).records
            (decided_in t over.bytes).reason e over.says (at over.bytes over.told)) before;
        said = λ told files.
            let done = line_done (no_unlock_text id) (SinkRose old new) ending old.text new.text told before in
            let names : AreTold old.content (set ∷ trace ∷ []) =
            subst (λ k. AreTold old.content (deciding k job)) done files in
            let file = file_of old.content trace names.1.0 in
            said_over file.0 _ file.1 names (says_by file.0 AtEnd _ (at file.0 file.1) at_end);
        counted = line_counted (no_unlock_text id) ending before;
      }

      -- the unlock or that there was none is printed
      pub ran_watched : (unlocked : Bool) (r : RecorderSeen) (ending : Ending) → r.trigger ≡ t
          → ((bytes : List ℕ) → old.content trace ≡ Some bytes
          → WatchedTo unlocked r (decided_in t bytes).reason)
          → PrintsWatched id unlocked r (SinkRose old new) ending old.text new.text → Ran job old new ending
      ran_watched true r ending trigger at prints = ran_unlocked r trigger ending at prints
      ran_watched false r ending trigger at prints = ran_none ending at prints
