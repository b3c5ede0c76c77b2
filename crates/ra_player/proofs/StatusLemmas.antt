-- What each status says, by the cause of its ending.
use Rattle.std.proofs.Common.{arith, ◌≡◌, ◌⊎◌, inl, inr, ap, refl, sym, subst, ◌∙◌, ℕ, zero, suc, List, [], ◌∷◌, ◌++◌}
use Rattle.std.proofs.Common.{Any}
use Rattle.std.specs.List.{concat}
use Rattle.ra_io.specs.Sink.{grown}
use Rattle.ra_args.specs.Words.{Job, Run, Check, Make, Import, Lint, Normal, Explain, file_in, reads_of, set_read}
use Rattle.ra_args.specs.Words.{first_reads}
use Rattle.ra_session.specs.Endings.{status_of, last_line}
use Rattle.ra_session.specs.Expected.{Expected}
use Rattle.ra_jobs.specs.Outside.{Outside, ReadsRose, SinkRose}
use Rattle.ra_session.specs.Running.{deciding}
use Rattle.ra_session.specs.declared.ending.Ending.{Ending}
use Rattle.ra_session.specs.declared.ending.Ending.TheVariants.{Done, NoJob, BadSet, ReadFault, SinkFault, BadProgress}
use Rattle.ra_session.specs.declared.ending.Ending.TheVariants.{BadTrace, LongTrace, SaveFault, BadDocument, LongNormal}
use Rattle.ra_session.specs.declared.ending.Ending.TheVariants.{NoAchievement, ManyRows}
use Rattle.ra_player.specs.Headline.{Decides, as_expected, save_failed, read_failed, trace_failed, Ends, whole}
use Rattle.ra_player.specs.Headline.{sink_failed, no_memory}
use Rattle.ra_player.specs.Statuses.{IsStatus, IsBadSet, IsBadProgress, IsBadTrace, IsBadDocument, IsLongNormal}
use Rattle.ra_player.specs.Statuses.{IsNoAchievement, IsManyRows, IsNoJob, MeetsReadFault, MeetsSaveFault, EndsAsSaid}
use Rattle.ra_player.specs.Statuses.{Cause, PlaysWords, IsWhole, Answers, SaysEachStatus}

-- which ending has a status
pub by_done : (P : Ending → Type 0) → P Done → (ending : Ending) → status_of ending ≡ 0 → P ending
by_done P p Done is = p
by_done P p _ is = absurd (omega (arith, is))

by_no_job : (P : Ending → Type 0) → P NoJob → (ending : Ending) → status_of ending ≡ 2 → P ending
by_no_job P p NoJob is = p
by_no_job P p _ is = absurd (omega (arith, is))

by_set : (P : Ending → Type 0) → ((why : _) → P (BadSet why)) → (ending : Ending) → status_of ending ≡ 3 → P ending
by_set P p (BadSet why) is = p why
by_set P p _ is = absurd (omega (arith, is))

by_read : (P : Ending → Type 0) → P ReadFault → (ending : Ending) → status_of ending ≡ 4 → P ending
by_read P p ReadFault is = p
by_read P p _ is = absurd (omega (arith, is))

by_sink : (P : Ending → Type 0) → P SinkFault → (ending : Ending) → status_of ending ≡ 5 → P ending
by_sink P p SinkFault is = p
by_sink P p _ is = absurd (omega (arith, is))

by_progress : (P : Ending → Type 0) → ((why : _) → P (BadProgress why)) → (ending : Ending)
    → status_of ending ≡ 6 → P ending
by_progress P p (BadProgress why) is = p why
by_progress P p _ is = absurd (omega (arith, is))

by_trace : (P : Ending → Type 0) → ((at : ℕ) (why : _) → P (BadTrace at why)) → (ending : Ending)
    → status_of ending ≡ 7 → P ending
by_trace P p (BadTrace at why) is = p at why
by_trace P p _ is = absurd (omega (arith, is))

by_long : (P : Ending → Type 0) → P LongTrace → (ending : Ending) → status_of ending ≡ 8 → P ending
by_long P p LongTrace is = p
by_long P p _ is = absurd (omega (arith, is))

by_save : (P : Ending → Type 0) → P SaveFault → (ending : Ending) → status_of ending ≡ 9 → P ending
by_save P p SaveFault is = p
by_save P p _ is = absurd (omega (arith, is))

by_document : (P : Ending → Type 0) → ((why : _) → P (BadDocument why)) → (ending : Ending)
    → status_of ending ≡ 10 → P ending
by_document P p (BadDocument why) is = p why
by_document P p _ is = absurd (omega (arith, is))

by_normal : (P : Ending → Type 0) → ((which found : _) → P (LongNormal which found))
    → (ending : Ending) → status_of ending ≡ 11 → P ending
by_normal P p (LongNormal which found) is = p which found
by_normal P p _ is = absurd (omega (arith, is))

by_explain : (P : Ending → Type 0) → ((id : ℕ) → P (NoAchievement id))
    → ((found : ℕ) → P (ManyRows found)) → (ending : Ending) → status_of ending ≡ 12 → P ending
by_explain P p q (NoAchievement id) is = p id
by_explain P p q (ManyRows found) is = q found
by_explain P p q _ is = absurd (omega (arith, is))

-- one ending is left where no fault decides, and memory that was wanting
module _ (e : Expected) (reads trace puts sink : Type 0) (no_read : reads → ⊥) (no_put : e.ending
    ≡ Done → puts → ⊥) (no_write : sink → ⊥) where
  decided : (ending : Ending) (text : List ℕ) → Decides e reads trace puts ending text
      → (status_of ending ≡ status_of e.ending) × (text ≡ concat e.pieces ++ last_line e.ending)
  decided ending text as_expected = (refl, refl)
  decided ending text (save_failed put is) = absurd (no_put is put)
  decided ending text (read_failed read behind) = absurd (no_read read)
  decided ending text (trace_failed read trace records behind) = absurd (no_read read)

  ended : (status : ℕ) (more : List ℕ) → Ends e reads trace puts sink status more → (status ≡ 1)
      ⊎ ((status ≡ status_of e.ending) × (more ≡ concat e.pieces ++ last_line e.ending))
  ended status more (whole {ending} {text} decides) = inr (decided ending text decides)
  ended status more (sink_failed rose ending all decides front) = absurd (no_write rose)
  ended status more (no_memory ending all decides front) = inl refl

-- what is printed whatever the status is printed whole where no fault was met
pub whole_of : (words : List (List ℕ)) (old new : Outside) (deciding : Ending → Job → List (List ℕ))
    (status : ℕ) → PlaysWords words old new deciding status → IsWhole words old new deciding status
whole_of words old new deciding status plays job e is says met =
    let played = plays.job job e is says in
    elim (ended e _ _ _ _ met.read met.put met.write status played.0 played.2) [
      | inl memory ↦ inl memory
      | inr done ↦ inr (done.0, played.1 ∙ ap (grown old.text) done.1)
    ]

any_first : (P : List ℕ → Type 0) (a : List ℕ) (rest : List (List ℕ)) → Any P (a ∷ []) → Any P (a ∷ rest)
any_first P a rest (zero, x, below, is, p) = (zero, x, omega arith, is, p)
any_first P a rest (suc k, x, below, is, p) = absurd (omega (arith, below))

any_between : (P : List ℕ → Type 0) (a b : List ℕ) (rest : List (List ℕ)) → Any P (a ∷ rest) → Any P (a ∷ b ∷ rest)
any_between P a b rest (zero, x, below, is, p) = (zero, x, omega arith, is, p)
any_between P a b rest (suc k, x, below, is, p) = (suc (suc k), x, omega (arith, below), is, p)

-- the files that decide are files of the job
decides_of_job : (old new : Outside) (ending : Ending) (job : Job)
    → ReadsRose (deciding ending job) old new → ReadsRose (reads_of job) old new
decides_of_job old new (BadSet why) (Run set trace restore save) rose = any_first _ set (trace ∷ file_in restore) rose
decides_of_job old new (BadSet why) (Check set) rose = rose
decides_of_job old new (BadSet why) (Make number) rose = rose
decides_of_job old new (BadSet why) (Import file set) rose = rose
decides_of_job old new (BadSet why) (Lint set) rose = rose
decides_of_job old new (BadSet why) (Normal set out) rose = rose
decides_of_job old new (BadSet why) (Explain set trace id) rose = any_first _ set (trace ∷ []) rose
decides_of_job old new (BadProgress why) (Run set trace restore save) rose =
    any_between _ set trace (file_in restore) rose
decides_of_job old new (BadProgress why) (Check set) rose = rose
decides_of_job old new (BadProgress why) (Make number) rose = rose
decides_of_job old new (BadProgress why) (Import file set) rose = rose
decides_of_job old new (BadProgress why) (Lint set) rose = rose
decides_of_job old new (BadProgress why) (Normal set out) rose = rose
decides_of_job old new (BadProgress why) (Explain set trace id) rose = any_first _ set (trace ∷ []) rose
decides_of_job old new (NoAchievement n) (Run set trace restore save) rose =
    any_first _ set (trace ∷ file_in restore) rose
decides_of_job old new (NoAchievement n) (Check set) rose = rose
decides_of_job old new (NoAchievement n) (Make number) rose = rose
decides_of_job old new (NoAchievement n) (Import file set) rose = rose
decides_of_job old new (NoAchievement n) (Lint set) rose = rose
decides_of_job old new (NoAchievement n) (Normal set out) rose = rose
decides_of_job old new (NoAchievement n) (Explain set trace id) rose = any_first _ set (trace ∷ []) rose
decides_of_job old new _ job rose = rose

module _ (e : Expected) (reads all trace puts sink : Type 0) (f : reads → all) where
  decides_in : (ending : Ending) (text : List ℕ) → Decides e reads trace puts ending text
      → Decides e all trace puts ending text
  decides_in ending text as_expected = as_expected
  decides_in ending text (save_failed put is) = save_failed put is
  decides_in ending text (read_failed read behind) = read_failed (f read) behind
  decides_in ending text (trace_failed read trace records behind) = trace_failed (f read) trace records behind

  ends_in : (status : ℕ) (more : List ℕ) → Ends e reads trace puts sink status more
      → Ends e all trace puts sink status more
  ends_in status more (whole {ending} {text} decides) = whole (decides_in ending text decides)
  ends_in status more (sink_failed rose ending all decides front) =
      sink_failed rose ending all (decides_in ending all decides) front
  ends_in status more (no_memory ending all decides front) = no_memory ending all (decides_in ending all decides) front

-- what is printed, by all files that the job reads
plays_in : (words : List (List ℕ)) (old new : Outside) (status : ℕ) → PlaysWords words old new
    deciding status → PlaysWords words old new (λ ending. reads_of) status
plays_in words old new status plays = record {
  no_job = plays.no_job;
  job = λ job e is says.
      let played = plays.job job e is says in
      (played.0, played.1, ends_in e _ _ _ _ _ (decides_of_job old new e.ending job) status played.0 played.2);
}

module _ (words : List (List ℕ)) (old new : Outside) where
  -- what ends so ends in such a way
  said_so : (names : Job → List (List ℕ)) (P Q : Ending → Type 0) → ((ending : Ending) → P ending
      → Q ending) → EndsAsSaid words old new names P → EndsAsSaid words old new names Q
  said_so names P Q f said = record {
    job = said.job;
    is_job = said.is_job;
    said = λ told. let s = said.said told in (s.0, s.1, f s.0.ending s.2, s.3);
  }

  is_status : (ending : Ending) → IsStatus (status_of ending)
  is_status Done = omega arith
  is_status _ = omega arith

  -- each status says its cause
  pub says_each : (status : ℕ) → Answers words old new status → SaysEachStatus words old new status
  says_each status answers =
      let printed = plays_in words old new status answers.printed in
      let at : (s : ℕ) → status ≡ s → status_of answers.ending ≡ s = λ s is. sym answers.is ∙ is in
      record {
        known = subst IsStatus (sym answers.is) (is_status answers.ending);
        printed = printed;
        whole = whole_of words old new (λ ending. reads_of) status printed;
        done = λ is. by_done (λ g. Cause words old new g → EndsAsSaid words old new reads_of (λ k. k
            ≡ Done)) (λ cause. cause) answers.ending (at 0 is) answers.cause;
        no_job = λ is. by_no_job (λ g. Cause words old new g → IsNoJob words old new)
            (λ cause. cause) answers.ending (at 2 is) answers.cause;
        set = λ is. by_set (λ g. Cause words old new g → EndsAsSaid words old new set_read IsBadSet)
            (λ why. said_so set_read (λ g. g ≡ BadSet why) IsBadSet
            (λ g same. subst IsBadSet (sym same) tt)) answers.ending (at 3 is) answers.cause;
        read = λ is. by_read (λ g. Cause words old new g → MeetsReadFault words old new)
            (λ cause. cause) answers.ending (at 4 is) answers.cause;
        write = λ is. by_sink (λ g. Cause words old new g → SinkRose old new)
            (λ cause. cause) answers.ending (at 5 is) answers.cause;
        progress = λ is. by_progress (λ g. Cause words old new g → EndsAsSaid words old new first_reads IsBadProgress)
            (λ why. said_so first_reads (λ g. g ≡ BadProgress why) IsBadProgress
            (λ g same. subst IsBadProgress (sym same) tt)) answers.ending (at 6 is) answers.cause;
        trace = λ is. by_trace (λ g. Cause words old new g → EndsAsSaid words old new reads_of IsBadTrace)
            (λ place why. said_so reads_of (λ g. g ≡ BadTrace place why) IsBadTrace
            (λ g same. subst IsBadTrace (sym same) tt)) answers.ending (at 7 is) answers.cause;
        long = λ is. by_long (λ g. Cause words old new g → EndsAsSaid words old new reads_of (λ k. k
            ≡ LongTrace)) (λ cause. cause) answers.ending (at 8 is) answers.cause;
        save = λ is. by_save (λ g. Cause words old new g → MeetsSaveFault words old new)
            (λ cause. cause) answers.ending (at 9 is) answers.cause;
        document = λ is. by_document (λ g. Cause words old new g → EndsAsSaid words old new reads_of IsBadDocument)
            (λ why. said_so reads_of (λ g. g ≡ BadDocument why) IsBadDocument
            (λ g same. subst IsBadDocument (sym same) tt)) answers.ending (at 10 is) answers.cause;
        normal = λ is. by_normal (λ g. Cause words old new g → EndsAsSaid words old new reads_of IsLongNormal)
            (λ which found. said_so reads_of (λ g. g ≡ LongNormal which found) IsLongNormal
            (λ g same. subst IsLongNormal (sym same) tt)) answers.ending (at 11 is) answers.cause;
        explain = λ is. by_explain (λ g. Cause words old new g → EndsAsSaid words old new set_read
            IsNoAchievement ⊎ EndsAsSaid words old new reads_of IsManyRows)
            (λ id cause. inl (said_so set_read (λ g. g ≡ NoAchievement id) IsNoAchievement
            (λ g same. subst IsNoAchievement (sym same) tt) cause))
            (λ found cause. inr (said_so reads_of (λ g. g ≡ ManyRows found) IsManyRows (λ g same.
            subst IsManyRows (sym same) tt) cause)) answers.ending (at 12 is) answers.cause;
      }
