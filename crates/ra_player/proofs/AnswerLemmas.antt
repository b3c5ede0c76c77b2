-- The status of a call and its cause.
use Rattle.std.proofs.Common.{arith, ◌≡◌, ◌≤◌, inl, inr, ap, sym, subst, refl, ◌∙◌, ℕ, List, [], ◌++◌, Option, Some}
use Rattle.std.proofs.Common.{None}
use Rattle.std.specs.List.{concat}
use Rattle.ra_io.specs.Sink.{grown}
use Rattle.ra_args.specs.Words.{Job, puts_of}
use Rattle.ra_args.specs.JobWords.{job_of}
use Rattle.ra_session.specs.Endings.{status_of, last_line}
use Rattle.ra_session.specs.Expected.{Expected, JobSays}
use Rattle.ra_session.specs.Closing.{Finishes, EndsJob}
use Rattle.ra_jobs.specs.Outside.{Outside, ReadsRose, PutsRose, SinkRose}
use Rattle.ra_session.specs.Running.{Ran, IsTold, deciding, trace_of}
use Rattle.ra_session.specs.declared.ending.Ending.{Ending}
use Rattle.ra_session.specs.declared.ending.Ending.TheVariants.{Done, NoMemory, NoJob, BadSet, ReadFault, SinkFault}
use Rattle.ra_session.specs.declared.ending.Ending.TheVariants.{BadProgress, BadTrace, LongTrace, SaveFault}
use Rattle.ra_session.specs.declared.ending.Ending.TheVariants.{BadDocument, LongNormal, NoAchievement, ManyRows}
use Rattle.ra_jobs.proofs.Pieces.{grown-grown, grown-nil}
use Rattle.ra_player.specs.Headline.{PlaysAs, as_expected, no_memory}
use Rattle.ra_player.specs.Statuses.{EndsAsSaid, Cause, Answers}
use Rattle.ra_player.proofs.EndLemmas.{ends_with_line, no_job_ends}

some_job : (job : Job) → None ≡ Some job → ⊥
some_job job is = absurd (cc)

abbrev job_in : Job → Option Job → Job
job_in other None = other
job_in other (Some job) = job

pub same_job : (words : List (List ℕ)) (job other : Job) → job_of words ≡ Some job → job_of words
    ≡ Some other → job ≡ other
same_job words job other is_job is = ap (job_in job) (sym is_job ∙ is)

-- an ending whose last line was written, or that of the fault that it met
pub ending_behind : (ending : Ending) (mid new : Option (List ℕ)) (sink : Type 0) (status : ℕ)
    → Finishes ending mid new sink status → (P : Ending → Type 0)
    → (new ≡ grown mid (last_line ending) → P ending) → P NoMemory → (sink → P SinkFault)
    → (last : Ending) × (status ≡ status_of last) × P last
ending_behind ending mid new sink status (inl own) P written memory fault = (ending, own.0, written own.1)
ending_behind ending mid new sink status (inr (inl none)) P written memory fault = (NoMemory, none.0, memory)
ending_behind ending mid new sink status (inr (inr bad)) P written memory fault = (SinkFault, bad.0, fault bad.1)

-- with more faults of the sink
pub finishes_in : (ending : Ending) (mid new : Option (List ℕ)) (sink all : Type 0) (status : ℕ)
    → (sink → all) → Finishes ending mid new sink status → Finishes ending mid new all status
finishes_in ending mid new sink all status f (inl own) = inl own
finishes_in ending mid new sink all status f (inr (inl none)) = inr (inl none)
finishes_in ending mid new sink all status f (inr (inr bad)) = inr (inr (bad.0, f bad.1, bad.2))

-- the answer to words that are no job
pub answers_no_job : (words : List (List ℕ)) (old new : Outside) (status : ℕ) → job_of words ≡ None
    → Finishes NoJob old.text new.text (SinkRose old new) status → Answers words old new status
answers_no_job words old new status none finishes =
    let ends = no_job_ends (SinkRose old new) old.text new.text status finishes in
    let last = ending_behind NoJob old.text new.text (SinkRose old new) status finishes
    (Cause words old new) (λ text. record { no_job = none; text = text }) tt (λ rose. rose) in
    record {
      ending = last.0;
      is = last.1;
      cause = last.2;
      printed =
          record {
            no_job = λ is. (ends.more, ends.grew, ends.ends);
            job = λ job e is says. absurd (some_job job (sym none ∙ is));
          };
    }

-- the answer where there was no memory to read the words
pub answers_no_memory : (words : List (List ℕ)) (old new : Outside) (status : ℕ) → status ≡ 1
    → new.text ≡ old.text → Answers words old new status
answers_no_memory words old new status one same =
    let grew : new.text ≡ grown old.text [] = same ∙ sym (grown-nil old.text) in
    subst (Answers words old new) (sym one) (record {
      ending = NoMemory;
      is = refl;
      cause = tt;
      printed = record {
        no_job = λ is. ([], grew, no_memory NoJob (last_line NoJob) as_expected (last_line NoJob, refl));
        job = λ job e is says. (
          [],
          grew,
          no_memory e.ending (concat e.pieces ++ last_line e.ending) as_expected
              (concat e.pieces ++ last_line e.ending, refl),
        );
      };
    })

module _ (words : List (List ℕ)) (old mid : Outside) (text : Option (List ℕ)) (faults : ℕ)
    (job : Job) (is_job : job_of words ≡ Some job) (later : mid.faults ≤ faults) where
  -- what is seen once the last line was written
  abbrev new : Outside
  new = record mid { text = text; faults = faults }

  -- what the told files say of an ending
  said : (ending : Ending) → IsTold ending → ((e : Expected) → JobSays old.content job e
      → (e.ending ≡ ending) × (mid.text ≡ grown old.text (concat e.pieces)))
      → Ran job old mid ending → text ≡ grown mid.text (last_line ending)
      → EndsAsSaid words old new (deciding ending) (λ g. g ≡ ending)
  said ending is prints ran line = record {
    job = job;
    is_job = is_job;
    said = λ told.
        let (e, says) = ran.said is told in
        let (ends, so_far) = prints e says in (
          e,
          says,
          ends,
          line ∙ ap (λ o. grown o (last_line ending)) so_far
              ∙ grown-grown old.text (concat e.pieces) (last_line ending)
              ∙ ap (λ g. grown old.text (concat e.pieces ++ last_line g)) (sym ends),
        );
  }

  own_cause : (ending : Ending) → Ran job old mid ending → text ≡ grown mid.text (last_line ending)
      → Cause words old new ending
  own_cause NoMemory ran line = tt
  own_cause NoJob ran line = absurd ran.counted
  own_cause ReadFault ran line = record
      { job = job; is_job = is_job; rose = ran.counted; decided = λ e says. (ran.printed e says).0 }
  own_cause SinkFault ran line = let rose = ran.counted in omega (arith, rose, later)
  own_cause SaveFault ran line = record { job = job; is_job = is_job; rose = ran.counted }
  own_cause Done ran line = said Done tt ran.printed ran line
  own_cause (BadSet why) ran line = said (BadSet why) tt ran.printed ran line
  own_cause (BadProgress why) ran line = said (BadProgress why) tt ran.printed ran line
  own_cause (BadTrace at why) ran line = said (BadTrace at why) tt ran.printed ran line
  own_cause LongTrace ran line = said LongTrace tt ran.printed ran line
  own_cause (BadDocument why) ran line = said (BadDocument why) tt ran.printed ran line
  own_cause (LongNormal which found) ran line = said (LongNormal which found) tt ran.printed ran line
  own_cause (NoAchievement id) ran line = said (NoAchievement id) tt ran.printed ran line
  own_cause (ManyRows found) ran line = said (ManyRows found) tt ran.printed ran line

  -- with the faults of the sink up to the last line
  ends_later : (e : Expected) (reads trace puts : Type 0) (ending : Ending)
      → EndsJob e reads trace puts (SinkRose old mid) ending old.text mid.text
      → EndsJob e reads trace puts (SinkRose old new) ending old.text mid.text
  ends_later e reads trace puts SinkFault before = (let rose = before.0 in omega (arith, rose, later), before.1)
  ends_later e reads trace puts _ before = before

  -- the answer to a job
  pub answers_job : (ending : Ending) (status : ℕ) → Ran job old mid ending
      → Finishes ending mid.text text (SinkRose old new) status → Answers words old new status
  answers_job ending status ran finishes =
      let last = ending_behind ending mid.text text (SinkRose old new) status finishes
      (Cause words old new) (own_cause ending ran) tt (λ rose. rose) in
      let ends : (e : Expected) → JobSays old.content job e → PlaysAs deciding job e old new status = λ e says.
      let reads = ReadsRose (deciding e.ending job) old new in
      let trace = ReadsRose (trace_of job) old new in
      let puts = PutsRose (puts_of job) old new in
      let grew = ends_with_line e reads trace puts (SinkRose old new) old.text mid.text text status
      ending (ends_later e reads trace puts ending (ran.printed e says)) finishes in
      (grew.more, grew.grew, grew.ends) in
      record {
        ending = last.0;
        is = last.1;
        cause = last.2;
        printed = record {
          no_job = λ none. absurd (some_job job (sym none ∙ is_job));
          job = λ other e is says. subst (λ (j : Job). JobSays old.content j e → PlaysAs deciding j
              e old new status) (same_job words job other is_job is) (ends e) says;
        };
      }
