-- A run up to its last line, by where it ended.
use Rattle.std.proofs.Common.{◌≡◌, ◌≢◌, inl, inr, ap, sym, subst, refl, ◌∙◌, ℕ, List, [], ◌∷◌, is_some, if◌then◌else◌}
use Rattle.std.proofs.Common.{false, Option, Some, IfSome, Result, Ok, Err, take}
use Rattle.std.specs.Bool.{⊤}
use Rattle.std.specs.List.{concat, AllByRecursion}
use Rattle.std.specs.Result.{IsErrOf}
use Rattle.ra_io.specs.Causes.{Rose}
use Rattle.ra_io.specs.Sink.{grown}
use Rattle.ra_io.specs.Files.{SameContent}
use Rattle.ra_io.specs.declared.files.PutFailed.{PutFailed}
use Rattle.ra_io.specs.declared.files.PutFailed.TheVariants as put
use Rattle.ra_memory.specs.Image.{History}
use Rattle.ra_set.specs.Contents.{SetContents}
use Rattle.ra_progress.specs.Contents.{Opening}
use Rattle.ra_args.specs.Words.{Job, Run, file_in, puts_of, reads_of}
use Rattle.ra_meaning.specs.Earned.{Earned}
use Rattle.ra_meaning.specs.Play.{first_moment}
use Rattle.ra_trace.specs.Cutting.{header_size}
use Rattle.ra_trace.specs.Reading.{ReaderSeen, Holds, IsBehindHeader, opened}
use Rattle.ra_replay.specs.Left.{IsLeft, trace_limit}
use Rattle.ra_session.specs.Expected.{Expected, RunSays, played}
use Rattle.ra_session.specs.Closing.{EndsBefore, EndsJob}
use Rattle.ra_session.specs.Failures.{ending_at, ending_of_load, ending_of_put, ending_of_trace}
use Rattle.ra_session.specs.Loading.{BeginsAt, IsLoaded}
use Rattle.ra_jobs.specs.Outside.{Outside, ReadsRose, PutsRose, SinkRose, AreTold}
use Rattle.ra_session.specs.Running.{Ran, Leaves, HasBytes, IsTold, IsCounted, PrintsSoFar, deciding, trace_of}
use Rattle.ra_session.specs.declared.ending.Ending.{Ending}
use Rattle.ra_session.specs.declared.ending.Ending.TheVariants.{Done}
use Rattle.ra_session.specs.declared.failures.LoadFailed.{LoadFailed}
use Rattle.ra_session.specs.declared.failures.LoadFailed.TheVariants as load
use Rattle.ra_session.specs.declared.failures.ProgressFailed.TheVariants as progress
use Rattle.ra_session.specs.declared.failures.SetFailed.TheVariants as set_failed
use Rattle.ra_session.specs.declared.failures.TraceFailed.{TraceFailed}
use Rattle.ra_session.specs.declared.failures.TraceFailed.TheVariants as failed
use Rattle.ra_jobs.proofs.Parts.{part_all}
use Rattle.ra_replay.proofs.LeftLemmas.{left_whole, pieces_of}
use Rattle.ra_session.proofs.NextLemmas.{told}
use Rattle.ra_session.proofs.RunLemmas.{any_first, any_later, file_of}
use Rattle.ra_session.proofs.LoadLemmas.{PlaysFrom, loaded_says, loaded_said, stop_decides}

-- behind a good header of a trace that is told all its records are left
pub behind_header : (name bytes : List ℕ) (size : ℕ) (behind : History) (old new : ReaderSeen)
    (before now : List ℕ → Option (List ℕ)) → old ≡ opened name trace_limit → before name ≡ Some bytes
    → SameContent before now → IfSome (before old.name) (λ bytes. header_size (take old.limit bytes) ≡ Some size)
    → IfSome (before old.name) (Holds new) → IsBehindHeader size old new
    → (header_size (take trace_limit bytes) ≡ Some size) × (now new.name ≡ Some bytes)
    × IsLeft bytes (first_moment size behind) new (pieces_of size bytes)
behind_header name bytes size behind old new before now is is_told same ok held seen =
    let there = ap (λ (r : ReaderSeen). before r.name) is ∙ is_told in
    let limit = ap (λ (r : ReaderSeen). r.limit) is in (
      subst (λ l. header_size (take l bytes) ≡ Some size) limit (told _ _ bytes there ok),
      ap now seen.same.name ∙ same.each old.name ∙ there,
      left_whole bytes size behind old new limit seen (told _ _ bytes there held),
    )

-- a job that is not done, and changed no file
pub leaves_same : (job : Job) (old new : Outside) (ending : Ending) → (ending ≡ Done → ⊥)
    → SameContent old.content new.content → Leaves job old new ending
leaves_same job old new ending never same = record {
  others = λ name other. same.each name;
  only = inr (inr (inl same));
  saved = λ done. absurd (never done);
}

-- and one that puts none
pub leaves_none : (job : Job) (old new : Outside) (ending : Ending) → puts_of job ≡ []
    → SameContent old.content new.content → Leaves job old new ending
leaves_none job old new ending none same = record {
  others = λ name other. same.each name;
  only = inr (inr (inl same));
  saved = λ done e says. subst (AllByRecursion (HasBytes e.saved old.content new.content)) (sym none) tt;
}

-- a run that did not begin, or was stopped in its trace, is not done
pub load_not_done : (f : LoadFailed) → ending_of_load f ≡ Done → ⊥
load_not_done (load.Set set_failed.Memory) is = absurd (cc)
load_not_done (load.Set _) is = absurd (cc)
load_not_done (load.Progress progress.Memory) is = absurd (cc)
load_not_done (load.Progress _) is = absurd (cc)

pub trace_not_done : (f : TraceFailed) → ending_of_trace f ≡ Done → ⊥
trace_not_done failed.Memory is = absurd (cc)
trace_not_done _ is = absurd (cc)

-- with the causes that a run counts
with_causes : {T : Type 0} (e : Expected) (reads trace puts sink : Type 0)
    (old new : Option (List ℕ)) (r : Result T TraceFailed) → (IsErrOf r failed.Read → reads × trace)
    → (IsErrOf r failed.Write → sink) → EndsBefore e ⊤ ⊤ ⊤ (ending_at r) old new
    → EndsJob e reads trace puts sink (ending_at r) old new
with_causes e reads trace puts sink old new (Err failed.Read) read wrote before = let rose =
    read refl in (rose.0, inr (rose.1, before.1))
with_causes e reads trace puts sink old new (Err failed.Write) read wrote before = (wrote refl, before.1)
with_causes e reads trace puts sink old new _ read wrote before = before

module _ (set trace : List ℕ) (restore save : Option (List ℕ)) (old new : Outside) where
  abbrev job : Job
  job = Run set trace restore save

  -- What was played of a set and a progress file that were accepted.
  pub record PlayedSet {T : Type 0} (c : SetContents) (progress : Option (List ℕ))
      (r : Result T TraceFailed) : Type 0 where
    pub loaded : IsLoaded old.content set restore c progress
    pub printed : (bytes : List ℕ) (o : Opening) (behind : History) (earned : Earned)
        → old.content trace ≡ Some bytes → BeginsAt c progress o behind earned
        → EndsBefore (played c o behind earned bytes) ⊤ ⊤ ⊤ (ending_at r) old.text new.text
    pub read : IsErrOf r failed.Read → Rose (old.read_faults trace) (new.read_faults trace)
    pub wrote : IsErrOf r failed.Write → SinkRose old new

  -- of a trace played behind a load that changed no file
  pub plays_loaded : {T : Type 0} (c : SetContents) (progress : Option (List ℕ)) (r : Result T TraceFailed)
      (mid : List ℕ → Option (List ℕ)) → IsLoaded old.content set restore c progress → SameContent old.content mid
      → ((bytes : List ℕ) (o : Opening) (behind : History) (earned : Earned) → mid trace ≡ Some bytes
      → BeginsAt c progress o behind earned
      → EndsBefore (played c o behind earned bytes) ⊤ ⊤ ⊤ (ending_at r) old.text new.text)
      → (IsErrOf r failed.Read → Rose (old.read_faults trace) (new.read_faults trace))
      → (IsErrOf r failed.Write → SinkRose old new) → PlayedSet {T = T} c progress r
  plays_loaded c progress r mid loaded same printed read wrote = record {
    loaded = loaded;
    printed = λ bytes o behind earned told at. printed bytes o behind earned (same.each trace ∙ told) at;
    read = read;
    wrote = wrote;
  }

  trace_rose : Rose (old.read_faults trace) (new.read_faults trace) → ReadsRose (reads_of job) old new
  trace_rose rose = any_later _ set (trace ∷ file_in restore) (any_first _ trace (file_in restore) rose)

  all_decide : {T : Type 0} (r : Result T TraceFailed) → deciding (ending_at r) job ≡ reads_of job
  all_decide (Ok x) = refl
  all_decide (Err failed.Memory) = refl
  all_decide (Err _) = refl

  module _ {T : Type 0} (c : SetContents) (progress : Option (List ℕ)) (r : Result T TraceFailed)
      (p : PlayedSet {T = T} c progress r) where
    from_there : (e : Expected) → RunSays old.content set trace restore e → PlaysFrom old.content trace c progress e
    from_there e says = loaded_says old.content set trace restore c progress e p.loaded says

    played_prints : (e : Expected) → RunSays old.content set trace restore e → PrintsSoFar job old new (ending_at r) e
    played_prints e says =
        let from = from_there e says in
        let decides : deciding e.ending job ≡ reads_of job =
        ap (λ (e : Expected). deciding e.ending job) from.is ∙ stop_decides _ job in
        with_causes e (ReadsRose (deciding e.ending job) old new) (ReadsRose (trace_of job) old new)
        (PutsRose (puts_of job) old new) (SinkRose old new) old.text new.text r
        (λ is. (
          subst (λ names. ReadsRose names old new) (sym decides) (trace_rose (p.read is)),
          any_first _ trace [] (p.read is),
        )) p.wrote
        (subst (λ (e : Expected). EndsBefore e ⊤ ⊤ ⊤ (ending_at r) old.text new.text) (sym from.is)
        (p.printed from.file from.opening from.behind from.earned from.told from.at))

    played_said : AreTold old.content (reads_of job) → (e : Expected) × RunSays old.content set trace restore e
    played_said told =
        let file = file_of old.content trace told.1.0 in
        loaded_said old.content set trace restore c progress file.0 p.loaded told file.1

  played_counted : {T : Type 0} (r : Result T TraceFailed)
      → (IsErrOf r failed.Read → Rose (old.read_faults trace) (new.read_faults trace))
      → (IsErrOf r failed.Write → SinkRose old new) → IsCounted job old new (ending_at r)
  played_counted (Err failed.Read) read wrote = trace_rose (read refl)
  played_counted (Err failed.Write) read wrote = wrote refl
  played_counted _ read wrote = tt

  -- a run that was stopped in its trace, or is at its end
  pub ran_on : {T : Type 0} (c : SetContents) (progress : Option (List ℕ))
      (r : Result T TraceFailed) (ending : Ending) → ending ≡ ending_at r
      → PlayedSet {T = T} c progress r → Ran job old new ending
  ran_on c progress r ending is p = subst (Ran job old new) (sym is) (record {
    printed = λ e says. played_prints c progress r p e says;
    said = λ is told. played_said c progress r p (subst (AreTold old.content) (all_decide r) told);
    counted = played_counted r p.read p.wrote;
  })

  -- a run at its end, once its progress was put or was not
  module _ {T : Type 0} (c : SetContents) (progress : Option (List ℕ)) (player : T)
      (p : PlayedSet {T = T} c progress (Ok player)) where
    not_put_prints : (e : Expected) (f : PutFailed) → e.puts_first ≡ false
        → (IsErrOf {T = Unit {0}} (Err f) put.Failed → PutsRose (puts_of job) old new)
        → PrintsSoFar job old new Done e → PrintsSoFar job old new (ending_of_put f) e
    not_put_prints e put.Failed after rose end =
        (rose refl, end.0, end.1 ∙ ap (λ first. grown old.text (concat (if first then [] else e.pieces))) (sym after))
    not_put_prints e put.Memory after rose end = part_all old.text new.text (concat e.pieces) end.1

    not_put_counted : (f : PutFailed) → (IsErrOf {T = Unit {0}} (Err f) put.Failed
        → PutsRose (puts_of job) old new) → IsCounted job old new (ending_of_put f)
    not_put_counted put.Failed rose = rose refl
    not_put_counted put.Memory rose = tt

    not_put_told : (f : PutFailed) → IsTold (ending_of_put f) → ⊥
    not_put_told put.Failed is = is
    not_put_told put.Memory is = is

    -- a run whose file was not put
    pub ran_not_put : (f : PutFailed) (ending : Ending) → ending ≡ ending_of_put f → (IsErrOf
        {T = Unit {0}} (Err f) put.Failed → PutsRose (puts_of job) old new) → Ran job old new ending
    ran_not_put f ending is rose = subst (Ran job old new) (sym is) (record {
      printed = λ e says. not_put_prints e f (ap (λ (e : Expected). e.puts_first) (from_there c
          progress (Ok player) p e says).is) rose (played_prints c progress (Ok player) p e says);
      said = λ is. absurd (not_put_told f is);
      counted = not_put_counted f rose;
    })

    -- the file that is put has the bytes of what is kept
    pub leaves_put : (bytes : List ℕ) → AllByRecursion (HasBytes bytes old.content new.content)
        (file_in save) → ((name : List ℕ) → AllByRecursion (λ put. name ≢ put) (file_in save)
        → new.content name ≡ old.content name)
        → ((file : List ℕ) (o : Opening) (behind : History) (earned : Earned) → old.content trace
        ≡ Some file → BeginsAt c progress o behind earned → bytes
        ≡ (played c o behind earned file).saved) → Leaves job old new Done
    leaves_put bytes saved others kept = record {
      others = others;
      only = inl refl;
      saved = λ done e says.
          let from = from_there c progress (Ok player) p e says in
          let same : bytes ≡ e.saved = kept from.file from.opening from.behind from.earned from.told
          from.at ∙ ap (λ (e : Expected). e.saved) (sym from.is) in
          subst (λ (b : List ℕ). AllByRecursion (HasBytes b old.content new.content) (file_in save)) same saved;
    }

  -- what a run leaves whose file was not put
  pub leaves_not_put : (f : PutFailed) (ending : Ending) → ending ≡ ending_of_put f → ((name : List
      ℕ) → AllByRecursion (λ put. name ≢ put) (file_in save) → new.content name ≡ old.content name)
      → (IsErrOf {T = Unit {0}} (Err f) put.Failed → PutsRose (puts_of job) old new)
      → (IsErrOf {T = Unit {0}} (Err f) put.Memory → SameContent old.content new.content)
      → Leaves job old new ending
  leaves_not_put put.Failed ending is others rose same =
      record { others = others; only = inr (inl (rose refl)); saved = λ done. absurd (let bad = sym is ∙ done in cc) }
  leaves_not_put put.Memory ending is others rose same =
      record {
        others = others;
        only = inr (inr (inl (same refl)));
        saved = λ done. absurd (let bad = sym is ∙ done in cc);
      }

-- the contents before a put are those at the call
pub others_since : (old mid new : List ℕ → Option (List ℕ)) (names : List (List ℕ))
    → SameContent old mid → ((name : List ℕ) → AllByRecursion (λ put. name ≢ put) names → new name
    ≡ mid name) → (name : List ℕ) → AllByRecursion (λ put. name ≢ put) names → new name ≡ old name
others_since old mid new names same others name other = others name other ∙ same.each name

pub bytes_since : (bytes : List ℕ) (old mid new : List ℕ → Option (List ℕ)) (names : List (List ℕ))
    → SameContent old mid → AllByRecursion (HasBytes bytes mid new) names
    → AllByRecursion (HasBytes bytes old new) names
bytes_since bytes old mid new [] same has = tt
bytes_since bytes old mid new (name ∷ names) same has =
    ((λ told. has.0 (ap is_some (same.each name) ∙ told)), bytes_since bytes old mid new names same has.1)
