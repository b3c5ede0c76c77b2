-- A workload that is made, played and told in one line.
use Rattle.std.proofs.Common.{arith, ◌≡◌, ap, sym, refl, ◌∙◌, ℕ, nat_le, length, take, List, [], Option, Some, Err}
use Rattle.std.proofs.Common.{unwrap_or}
use Rattle.std.specs.Bool.{⊤}
use Rattle.std.specs.List.{concat}
use Rattle.std.specs.Result.{IsErrOf}
use Rattle.std.proofs.lemmas.List.{take_all}
use Rattle.ra_io.specs.Causes.{Rose}
use Rattle.ra_io.specs.Held.{Names, bytes_under}
use Rattle.ra_set.specs.Accepted.{IsSet}
use Rattle.ra_set.specs.Contents.{SetContents}
use Rattle.ra_set.proofs.AnswerLemmas.{same-set, set-not_refused}
use Rattle.ra_trace.specs.Cutting.{Trace, no_slots, trace_with, stop_within}
use Rattle.ra_trace.specs.Workload.{made_set, made_trace}
use Rattle.ra_trace.proofs.MadeTrace.{made_cut, made_short}
use Rattle.ra_meaning.specs.Openings.{plain_opening}
use Rattle.ra_args.specs.Words.{Make}
use Rattle.ra_meaning.specs.Earned.{none_earned}
use Rattle.ra_replay.specs.Left.{trace_limit}
use Rattle.ra_session.specs.Endings.{ending_of}
use Rattle.ra_session.specs.Expected.{Expected, MakeSays, made, make_line, played, prints_line}
use Rattle.ra_session.specs.Closing.{EndsBefore}
use Rattle.ra_session.specs.Failures.{ending_of_set, ending_of_trace}
use Rattle.ra_session.specs.Loading.{HasNoSet}
use Rattle.ra_session.specs.Making.{IsMadeText}
use Rattle.ra_jobs.specs.Outside.{Outside, SinkRose}
use Rattle.ra_session.specs.Running.{Ran}
use Rattle.ra_session.specs.declared.ending.Ending.{Ending}
use Rattle.ra_session.specs.declared.ending.Ending.TheVariants.{Done, NoMemory}
use Rattle.ra_session.specs.declared.failures.SetFailed.{SetFailed}
use Rattle.ra_session.specs.declared.failures.SetFailed.TheVariants as set_failed
use Rattle.ra_session.specs.declared.failures.TraceFailed.{TraceFailed}
use Rattle.ra_session.specs.declared.failures.TraceFailed.TheVariants as failed
use Rattle.ra_session.proofs.CheckLemmas.{ran_line}
use Rattle.ra_session.proofs.RunLemmas.{set_read_of}

-- ---- the text of a workload

-- the trace of a workload is lacks longer than a run may take, and reaches its end
pub made_end : (set : SetContents) (number : ℕ)
    → (played set (plain_opening set) [] (none_earned set) (made_trace number)).ending ≡ Done
made_end set number =
    let bytes = made_trace number in
    let whole : take trace_limit bytes ≡ bytes =
    take_all trace_limit bytes (let short = made_short number in omega (arith, short)) in
    ap (λ seen. ending_of (stop_within (nat_le trace_limit (length bytes)) (trace_with no_slots seen).stop)) whole
    ∙ ap (λ (t : Trace). ending_of (stop_within (nat_le trace_limit (length bytes)) t.stop)) (made_cut number)

-- a run that would reach its end was stopped, and not by a fault: it wanted memory
pub wanted_memory : {T : Type 0} (e : Expected) (s : TraceFailed) (old new : Option (List ℕ))
    → e.ending ≡ Done → (IsErrOf {T = T} (Err s) failed.Read → ⊥) → (IsErrOf {T = T}
    (Err s) failed.Write → ⊥) → EndsBefore e ⊤ ⊤ ⊤ (ending_of_trace s) old new → ending_of_trace s
    ≡ NoMemory
wanted_memory e failed.Memory old new end read write before = refl
wanted_memory e failed.Read old new end read write before = absurd (read refl)
wanted_memory e failed.Write old new end read write before = absurd (write refl)
wanted_memory e (failed.Refused at why) old new end read write before = absurd (let bad = before.0 in cc (end, bad))
wanted_memory e failed.TooLong old new end read write before = absurd (let bad = before.0 in cc (end, bad))

-- lacks count of faults rises that is 0 before and after
pub none_rose : Rose 0 0 → ⊥
none_rose rose = absurd (omega (arith, rose))

-- a set that is accepted was not read, and not by a fault: there was lacks memory
pub no_memory_for_set : (bytes : List ℕ) (c : SetContents) (s : SetFailed) → IsSet bytes c
    → HasNoSet (Some bytes) (Rose 0 0) s → ending_of_set s ≡ NoMemory
no_memory_for_set bytes c set_failed.Memory is lacks = refl
no_memory_for_set bytes c set_failed.Read is lacks = absurd (none_rose lacks)
no_memory_for_set bytes c (set_failed.Refused why) is lacks = absurd (set-not_refused (take 4194305
    bytes) c why (set_read_of (take 4194305 bytes) bytes c refl is) (lacks bytes refl))

-- a file in memory is told
pub told_name : (names : Names) (name bytes : List ℕ) → names name ≡ Some bytes
    → Some (bytes_under names name) ≡ Some bytes
told_name names name bytes is = ap (λ o. Some (unwrap_or o [])) is

-- all that was printed of a run to its end
pub printed_whole : (e : Expected) (text : List ℕ) → EndsBefore e ⊤ ⊤ ⊤ Done (Some []) (Some text)
    → text ≡ concat e.pieces
printed_whole e text before = let grew : Some text ≡ Some (concat e.pieces) = before.1 in cc grew

-- ---- the line

-- what `make` says is the line of what was played
make_says : (number : ℕ) (text : List ℕ) → IsMadeText number text → (e : Expected)
    → MakeSays number e → e ≡ prints_line (make_line number text)
make_says number text played_so e (made c is) =
    ap (λ t. prints_line (make_line number t))
    (ap (λ (s : SetContents). concat (played s (plain_opening s) [] (none_earned s)
    (made_trace number)).pieces) (same-set (made_set number) c played_so.set is played_so.accepted)
    ∙ sym played_so.all)

-- a job whose line was written, or a front of it
pub ran_made : (number : ℕ) (text : List ℕ) (old new : Outside) (ending : Ending)
    → IsMadeText number text → EndsBefore (prints_line (make_line number text)) ⊥ ⊥
    (SinkRose old new) ending old.text new.text → Ran (Make number) old new ending
ran_made number text old new ending played_so before =
    ran_line (Make number) old new (prints_line (make_line number text)) refl ending
    (make_says number text played_so) (λ told. (_, made played_so.set played_so.accepted)) before
