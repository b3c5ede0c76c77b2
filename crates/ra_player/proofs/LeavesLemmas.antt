-- What a call leaves of the files, by its status.
use Rattle.std.proofs.Common.{arith, ◌≡◌, ◌≢◌, ◌⊎◌, ap, inl, inr, sym, subst, refl, ◌∙◌, ℕ, List, Option, Some}
use Rattle.std.specs.List.{AllByRecursion}
use Rattle.ra_args.specs.Words.{Job, puts_in}
use Rattle.ra_args.specs.JobWords.{job_of}
use Rattle.ra_session.specs.Endings.{status_of}
use Rattle.ra_session.specs.Expected.{JobSays}
use Rattle.ra_session.specs.Closing.{Finishes}
use Rattle.ra_jobs.specs.Outside.{Outside, PutsRose}
use Rattle.ra_session.specs.Running.{Leaves, HasSaved}
use Rattle.ra_session.specs.declared.ending.Ending.{Ending}
use Rattle.ra_session.specs.declared.ending.Ending.TheVariants.{Done, NoMemory, SinkFault}
use Rattle.ra_player.specs.Statuses.{LeavesFiles}
use Rattle.ra_player.proofs.AnswerLemmas.{same_job}
use Rattle.ra_player.proofs.StatusLemmas.{by_done}

-- a status of 0 is that of a job that was done
done_by : (ending : Ending) (mid new : Option (List ℕ)) (sink : Type 0) (status : ℕ)
    → Finishes ending mid new sink status → status ≡ 0 → ending ≡ Done
done_by ending mid new sink status (inl own) zero = by_done (λ g. g ≡ Done) refl ending (sym own.0 ∙ zero)
done_by ending mid new sink status (inr (inl memory)) zero = absurd (let one = memory.0 in omega (arith, one, zero))
done_by ending mid new sink status (inr (inr fault)) zero = absurd (let five = fault.0 in omega (arith, five, zero))

-- and 1 or 5 is that of a job whose line was not written whole
cut_by : (ending : Ending) (mid new : Option (List ℕ)) (sink : Type 0) (status : ℕ)
    → Finishes ending mid new sink status → (ending ≡ NoMemory) ⊎ (ending ≡ SinkFault)
    → (status ≡ 1) ⊎ (status ≡ 5)
cut_by ending mid new sink status (inl own) (inl memory) = inl (own.0 ∙ ap status_of memory)
cut_by ending mid new sink status (inl own) (inr fault) = inr (own.0 ∙ ap status_of fault)
cut_by ending mid new sink status (inr (inl memory)) cut = inl memory.0
cut_by ending mid new sink status (inr (inr fault)) cut = inr fault.0

-- what the files of a job are, by the words
pub leaves_job : (words : List (List ℕ)) (old mid : Outside) (text : Option (List ℕ)) (faults : ℕ)
    (job : Job) (ending : Ending) (sink : Type 0) (status : ℕ) → job_of words ≡ Some job → Leaves
    job old mid ending → (ending ≡ Done → status ≡ 0) → Finishes ending mid.text text sink status
    → LeavesFiles words old (record mid { text = text; faults = faults }) status
leaves_job words old mid text faults job ending sink status is_job leaves done finishes = record {
  others = λ name other. leaves.others name
      (subst (λ (o : Option Job). AllByRecursion (λ put. name ≢ put) (puts_in o)) is_job other);
  only = elim leaves.only [
    | inl end ↦ inl (done end)
    | inr rest ↦ elim rest [
      | inl rose ↦ inr (inl (subst (λ (o : Option Job). PutsRose (puts_in o) old mid) (sym is_job) rose))
      | inr (inl same) ↦ inr (inr (inl same))
      | inr (inr put) ↦ inr (inr (inr (record {
        job = job;
        is_job = is_job;
        behind = put.behind;
        cut = cut_by ending mid.text text sink status finishes put.cut;
        done = put.done;
        saved = put.saved;
      })))
    ]
  ];
  saved = λ zero other e is says.
      subst (λ (j : Job). JobSays old.content j e → HasSaved j e old.content mid.content)
      (same_job words job other is_job is)
      (leaves.saved (done_by ending mid.text text sink status finishes zero) e) says;
}
