-- A job that puts a file, and prints a line behind it.
use Rattle.std.proofs.Common.{◌≡◌, ◌≢◌, inl, inr, ap, sym, subst, refl, ◌∙◌, ℕ, List, [], ◌∷◌, Option, Some, None, Err}
use Rattle.std.proofs.Common.{is_some, true, IfSome}
use Rattle.std.specs.List.{concat, AllByRecursion}
use Rattle.std.specs.Result.{IsErrOf}
use Rattle.ra_io.specs.Causes.{Rose}
use Rattle.ra_io.specs.Files.{SameContent}
use Rattle.ra_io.specs.declared.files.PutFailed.{PutFailed}
use Rattle.ra_io.specs.declared.files.PutFailed.TheVariants as put
use Rattle.ra_args.specs.Words.{Job, puts_of}
use Rattle.ra_session.specs.Expected.{Expected, JobSays, prints_line, puts_then_prints}
use Rattle.ra_session.specs.Closing.{EndsBefore}
use Rattle.ra_session.specs.Failures.{ending_of_put}
use Rattle.ra_jobs.specs.Outside.{Outside, PutsRose, SinkRose, AreTold}
use Rattle.ra_session.specs.Running.{Ran, Leaves, HasBytes, IsTold, IsCounted, IsSaved, OnlyThen, PrintsBehindPut}
use Rattle.ra_session.specs.Running.{PrintsSoFar, deciding}
use Rattle.ra_session.specs.declared.ending.Ending.{Ending}
use Rattle.ra_session.specs.declared.ending.Ending.TheVariants.{Done, NoMemory, ReadFault, SinkFault, SaveFault}
use Rattle.ra_jobs.proofs.Pieces.{grown-nil}
use Rattle.ra_jobs.proofs.Parts.{part_none}
use Rattle.ra_session.proofs.CheckLemmas.{ran_line}
use Rattle.ra_session.proofs.RunLemmas.{any_first}

-- a put of a name whose bytes were told
some_put : {P : Type 0} (o : Option (List ℕ)) → is_some o ≡ true → IfSome o (λ bytes. P) → P
some_put (Some bytes) told put = put
some_put None told put = cc

pub has_bytes : (bytes : List ℕ) (old mid new : List ℕ → Option (List ℕ)) (name : List ℕ)
    → SameContent old mid → IfSome (mid name) (λ before. new name ≡ Some bytes)
    → HasBytes bytes old new name
has_bytes bytes old mid new name same put = λ told. some_put (mid name) (ap is_some (same.each name) ∙ told) put

module _ (job : Job) (name : List ℕ) (puts : puts_of job ≡ name ∷ []) (behind : PrintsBehindPut job)
    (old new : Outside) where
  -- a put of the file failed
  rose_there : Rose (old.put_faults name) (new.put_faults name) → PutsRose (puts_of job) old new
  rose_there rose = subst (λ names. PutsRose names old new) (sym puts) (any_first _ name [] rose)

  not_the_file : (other : List ℕ) → AllByRecursion (λ put. other ≢ put) (puts_of job) → other ≢ name
  not_the_file other each = (subst (AllByRecursion (λ put. other ≢ put)) puts each).0

  -- what a job leaves that did not put its file
  pub leaves_unput : (f : PutFailed) (ending : Ending) → ending ≡ ending_of_put f → (IsErrOf
      {T = Unit {0}} (Err f) put.Failed → Rose (old.put_faults name) (new.put_faults name))
      → (IsErrOf {T = Unit {0}} (Err f) put.Memory → SameContent old.content new.content) → ((other
      : List ℕ) → other ≢ name → new.content other ≡ old.content other) → Leaves job old new ending
  leaves_unput put.Failed ending is rose same others =
      record {
        others = λ other each. others other (not_the_file other each);
        only = inr (inl (rose_there (rose refl)));
        saved = λ done. absurd (let bad = sym is ∙ done in cc);
      }
  leaves_unput put.Memory ending is rose same others =
      record {
        others = λ other each. others other (not_the_file other each);
        only = inr (inr (inl (same refl)));
        saved = λ done. absurd (let bad = sym is ∙ done in cc);
      }

  -- the job says this file and this line
  module _ (text line : List ℕ) (says : (e : Expected) → JobSays old.content job e → e
      ≡ puts_then_prints text line) where
    -- a line behind a put ends as a line does
    behind_put : (ending : Ending) → EndsBefore (prints_line line) ⊥ ⊥ (SinkRose old new) ending old.text new.text
        → EndsBefore (puts_then_prints text line) ⊥ ⊥ (SinkRose old new) ending old.text new.text
    behind_put SaveFault before = absurd before.0
    behind_put ReadFault before = absurd before.0
    behind_put _ before = before

    -- a job whose line was printed behind its put, or a front of it
    pub ran_put : (ending : Ending) → (AreTold old.content (deciding ending job)
        → (e : Expected) × JobSays old.content job e) → EndsBefore (prints_line line) ⊥ ⊥
        (SinkRose old new) ending old.text new.text → Ran job old new ending
    ran_put ending said before = ran_line job old new
        (puts_then_prints text line) refl ending says said (behind_put ending before)

    not_put_prints : (f : PutFailed) (e : Expected)
        → (IsErrOf {T = Unit {0}} (Err f) put.Failed → Rose (old.put_faults name)
        (new.put_faults name)) → new.text ≡ old.text → e ≡ puts_then_prints text line
        → PrintsSoFar job old new (ending_of_put f) e
    not_put_prints put.Memory e rose same is = part_none old.text new.text (concat e.pieces) same
    not_put_prints put.Failed e rose same is =
        subst (PrintsSoFar job old new SaveFault) (sym is)
        (rose_there (rose refl), refl, same ∙ sym (grown-nil old.text))

    not_put_counted : (f : PutFailed) → (IsErrOf {T = Unit {0}} (Err f) put.Failed → Rose
        (old.put_faults name) (new.put_faults name)) → IsCounted job old new (ending_of_put f)
    not_put_counted put.Memory rose = tt
    not_put_counted put.Failed rose = rose_there (rose refl)

    not_put_told : (f : PutFailed) → IsTold (ending_of_put f) → ⊥
    not_put_told put.Failed told = told
    not_put_told put.Memory told = told

    -- a job whose file was not put
    pub ran_unput : (f : PutFailed) (ending : Ending) → ending ≡ ending_of_put f
        → (IsErrOf {T = Unit {0}} (Err f) put.Failed → Rose (old.put_faults name)
        (new.put_faults name)) → new.text ≡ old.text → Ran job old new ending
    ran_unput f ending ends rose same = subst (Ran job old new) (sym ends) (record {
      printed = λ e is. not_put_prints f e rose same (says e is);
      said = λ told. absurd (not_put_told f told);
      counted = not_put_counted f rose;
    })

    -- the file has the text
    has_text : HasBytes text old.content new.content name → IsSaved job old new
    has_text has e is =
        subst (AllByRecursion (HasBytes e.saved old.content new.content)) (sym puts)
        (subst (λ (x : Expected). AllByRecursion (HasBytes x.saved old.content new.content)
        (name ∷ [])) (sym (says e is)) (has, tt))

    says_done : (e : Expected) → JobSays old.content job e → e.ending ≡ Done
    says_done e is = ap (λ (x : Expected). x.ending) (says e is)

    -- what a job leaves that put its file: the line behind the put was written, or a front of it
    pub leaves_put : (ending : Ending) → EndsBefore (prints_line line) ⊥ ⊥
        (SinkRose old new) ending old.text new.text → HasBytes text old.content new.content name
        → ((other : List ℕ) → other ≢ name → new.content other ≡ old.content other) → Leaves job old new ending
    leaves_put ending before has others = record {
      others = λ other each. others other (not_the_file other each);
      only = only_then ending before;
      saved = λ done. has_text has;
    }
      where
        only_then : (ending : Ending) → EndsBefore (prints_line line) ⊥ ⊥
            (SinkRose old new) ending old.text new.text → OnlyThen job old new ending
        only_then Done before = inl refl
        only_then NoMemory before = inr (inr (inr
            (record { behind = behind; cut = inl refl; done = says_done; saved = has_text has })))
        only_then SinkFault before = inr (inr (inr
            (record { behind = behind; cut = inr refl; done = says_done; saved = has_text has })))
        only_then ReadFault before = absurd before.0
        only_then SaveFault before = absurd before.0
        only_then _ before = absurd (let bad = before.0 in cc)
