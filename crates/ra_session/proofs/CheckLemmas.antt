-- A job that prints one text: a line, or a text of a set.
use Rattle.std.proofs.Common.{◌≡◌, ap, sym, subst, refl, ◌∙◌, ℕ, take, List, [], ◌∷◌, Option, inl}
use Rattle.std.specs.List.{concat}
use Rattle.ra_set.proofs.AnswerLemmas.{one-refusal, set-not_refused, same-set}
use Rattle.ra_set.specs.Contents.{SetContents}
use Rattle.ra_args.specs.Words.{Job, Check, Lint, reads_of}
use Rattle.ra_session.specs.Expected.{Expected, JobSays, SetSays, refuses_set, tells, check_line, prints_line}
use Rattle.ra_session.specs.Expected.{prints_nothing}
use Rattle.ra_session.specs.Linting.{lint_text}
use Rattle.ra_session.specs.Closing.{EndsBefore}
use Rattle.ra_session.specs.Failures.{ending_of_set}
use Rattle.ra_session.specs.Loading.{HasNoSet, IsTaken}
use Rattle.ra_jobs.specs.Outside.{Outside, ReadsRose, SinkRose, AreTold}
use Rattle.ra_io.specs.Causes.{Rose}
use Rattle.ra_session.specs.Running.{Ran, IsTold, IsCounted, PrintsSoFar, deciding}
use Rattle.ra_session.specs.declared.ending.Ending.{Ending}
use Rattle.ra_session.specs.declared.ending.Ending.TheVariants.{Done, NoMemory, NoJob, BadSet, ReadFault, SinkFault}
use Rattle.ra_session.specs.declared.ending.Ending.TheVariants.{BadProgress, SaveFault, NoAchievement}
use Rattle.ra_session.specs.declared.failures.SetFailed.{SetFailed}
use Rattle.ra_session.specs.declared.failures.SetFailed.TheVariants as set_failed
use Rattle.ra_jobs.proofs.Pieces.{grown-nil}
use Rattle.ra_jobs.proofs.Parts.{part_none}
use Rattle.ra_session.proofs.ReadLemmas.{set_told}
use Rattle.ra_session.proofs.LoadLemmas.{never_bad}
use Rattle.ra_session.proofs.RunLemmas.{any_first, file_of, set_read_of}

-- ---- a line that is all that a job prints

module _ (job : Job) (old new : Outside) (line : Expected) (done : line.ending ≡ Done) where
  -- what is counted of it, whatever the job counts
  line_counted : (ending : Ending) → EndsBefore line ⊥ ⊥ (SinkRose old new) ending old.text new.text
      → IsCounted job old new ending
  line_counted ReadFault before = absurd before.0
  line_counted SaveFault before = absurd before.0
  line_counted SinkFault before = before.0
  line_counted NoJob before = absurd (let bad = sym done ∙ before.0 in cc)
  line_counted _ before = tt

  line_prints : (e : Expected) (ending : Ending) → e ≡ line → EndsBefore line ⊥ ⊥
      (SinkRose old new) ending old.text new.text → PrintsSoFar job old new ending e
  line_prints e ending is before = subst (PrintsSoFar job old new ending) (sym is) (with_faults ending before)
    where
      with_faults : (ending : Ending) → EndsBefore line ⊥ ⊥
          (SinkRose old new) ending old.text new.text → PrintsSoFar job old new ending line
      with_faults ReadFault before = absurd before.0
      with_faults SaveFault before = absurd before.0
      with_faults _ before = before

  -- a job of which its line was written, or a front of it
  pub ran_line : (ending : Ending) → ((e : Expected) → JobSays old.content job e → e ≡ line)
      → (AreTold old.content (deciding ending job) → (e : Expected) × JobSays old.content job e)
      → EndsBefore line ⊥ ⊥ (SinkRose old new) ending old.text new.text → Ran job old new ending
  ran_line ending says said before = record {
    printed = λ e is. line_prints e ending (says e is) before;
    said = λ told files. said files;
    counted = line_counted ending before;
  }

-- ---- a text of a set

-- A job reads one set and no other file, and prints a text of its contents.
pub record TellsSet (job : Job) (text : SetContents → List ℕ) (set : List ℕ) : Type 0 where
  pub reads : reads_of job ≡ set ∷ []
  pub decides : (ending : Ending) → deciding ending job ≡ set ∷ []
  pub says : (content : List ℕ → Option (List ℕ)) (e : Expected) → JobSays content job e → SetSays text content set e
  pub said : (content : List ℕ → Option (List ℕ)) (e : Expected) → SetSays text content set e → JobSays content job e

-- the set decides each ending of a check
check_decides : (set : List ℕ) (ending : Ending) → deciding ending (Check set) ≡ set ∷ []
check_decides set (BadSet why) = refl
check_decides set (BadProgress why) = refl
check_decides set (NoAchievement id) = refl
check_decides set _ = refl

pub check_tells : (set : List ℕ) → TellsSet (Check set) check_line set
check_tells set =
    record { reads = refl; decides = check_decides set; says = λ content e says. says; said = λ content e says. says }

-- and of the warnings on it
lint_decides : (set : List ℕ) (ending : Ending) → deciding ending (Lint set) ≡ set ∷ []
lint_decides set (BadSet why) = refl
lint_decides set (BadProgress why) = refl
lint_decides set (NoAchievement id) = refl
lint_decides set _ = refl

pub lint_tells : (set : List ℕ) → TellsSet (Lint set) lint_text set
lint_tells set =
    record { reads = refl; decides = lint_decides set; says = λ content e says. says; said = λ content e says. says }

module _ (job : Job) (text : SetContents → List ℕ) (set : List ℕ)
    (tells_set : TellsSet job text set) (old new : Outside) where
  rose_here : Rose (old.read_faults set) (new.read_faults set) → ReadsRose (set ∷ []) old new
  rose_here rose = any_first _ set [] rose

  no_set_prints : (e : Expected) (failed : SetFailed) → HasNoSet (old.content set) (Rose
      (old.read_faults set) (new.read_faults set)) failed → SetSays text old.content set e
      → new.text ≡ old.text → PrintsSoFar job old new (ending_of_set failed) e
  no_set_prints e set_failed.Memory lacks says same = part_none old.text new.text (concat e.pieces) same
  no_set_prints e set_failed.Read lacks says same = (
    subst (λ names. ReadsRose names old new) (sym (tells_set.decides e.ending)) (rose_here lacks),
    inl (set_told text old.content set e says, same),
  )
  no_set_prints e (set_failed.Refused why) lacks (refuses_set file found told refuses) same =
      (ap BadSet (one-refusal (take 4194305 file) found why refuses (lacks file told)), same ∙ sym (grown-nil old.text))
  no_set_prints e (set_failed.Refused why) lacks (tells file c told is) same =
      absurd (set-not_refused (take 4194305 file) c why
      (set_read_of (take 4194305 file) file c refl is) (lacks file told))

  no_set_said : (failed : SetFailed) → HasNoSet (old.content set)
      (Rose (old.read_faults set) (new.read_faults set)) failed → IsTold (ending_of_set failed)
      → AreTold old.content (set ∷ []) → (e : Expected) × SetSays text old.content set e
  no_set_said (set_failed.Refused why) lacks is told = let file = file_of old.content set told.0 in
      (prints_nothing (BadSet why), refuses_set file.0 why file.1 (lacks file.0 file.1))
  no_set_said set_failed.Memory lacks is told = absurd is
  no_set_said set_failed.Read lacks is told = absurd is

  no_set_counted : (failed : SetFailed) → HasNoSet (old.content set) (Rose (old.read_faults set)
      (new.read_faults set)) failed → IsCounted job old new (ending_of_set failed)
  no_set_counted set_failed.Read lacks =
      subst (λ names. ReadsRose names old new) (sym tells_set.reads) (rose_here lacks)
  no_set_counted set_failed.Memory lacks = tt
  no_set_counted (set_failed.Refused why) lacks = tt

  -- a job that has no set
  pub told_no_set : (failed : SetFailed) (ending : Ending) → ending ≡ ending_of_set failed
      → HasNoSet (old.content set) (Rose (old.read_faults set) (new.read_faults set)) failed
      → new.text ≡ old.text → Ran job old new ending
  told_no_set failed ending is lacks same = subst (Ran job old new) (sym is) (record {
    printed = λ e says. no_set_prints e failed lacks (tells_set.says old.content e says) same;
    said = λ told files.
        let so = no_set_said failed lacks told
        (subst (AreTold old.content) (tells_set.decides (ending_of_set failed)) files) in
        (so.0, tells_set.said old.content so.0 so.1);
    counted = no_set_counted failed lacks;
  })

  set_says : (c : SetContents) → IsTaken (old.content set) c → (e : Expected)
      → SetSays text old.content set e → e ≡ prints_line (text c)
  set_says c taken e (refuses_set file why told refuses) =
      absurd (never_bad (old.content set) c taken file why told refuses)
  set_says c taken e (tells file d told is) =
      ap (λ (s : SetContents). prints_line (text s)) (same-set file d c is (taken.is_set file told))

  -- a job whose set was accepted
  pub told_set : (c : SetContents) (ending : Ending) → IsTaken (old.content set) c
      → EndsBefore (prints_line (text c)) ⊥ ⊥ (SinkRose old new) ending old.text new.text
      → Ran job old new ending
  told_set c ending taken before = ran_line job old new (prints_line (text c)) refl ending
      (λ e says. set_says c taken e (tells_set.says old.content e says)) (λ told.
      let file = file_of old.content set (subst (AreTold old.content) (tells_set.decides ending) told).0 in (
        prints_line (text c),
        tells_set.said old.content (prints_line (text c)) (tells file.0 c file.1 (taken.is_set file.0 file.1)),
      )) before
