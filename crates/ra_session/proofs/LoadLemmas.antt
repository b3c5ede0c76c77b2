-- What a run begins with, and what its files then say.
use Rattle.std.proofs.Common.{◌≡◌, ap, sym, subst, refl, ◌∙◌, ℕ, ◌+◌, take, List, [], ◌∷◌, Option, Some, None, inl}
use Rattle.std.specs.List.{concat}
use Rattle.std.proofs.lemmas.Option.{none-some}
use Rattle.ra_io.specs.Causes.{Rose}
use Rattle.ra_io.specs.Files.{SameContent}
use Rattle.ra_memory.specs.Image.{History, AreImages}
use Rattle.ra_set.specs.declared.refused.SetRefused.{SetRefused}
use Rattle.ra_set.specs.Accepted.{IsSet}
use Rattle.ra_set.specs.Contents.{SetContents}
use Rattle.ra_set.specs.Refusals.{Refuses}
use Rattle.ra_set.proofs.AnswerLemmas.{one-refusal, set-not_refused, same-set}
use Rattle.ra_progress.specs.declared.refused.ProgressRefused.{ProgressRefused}
use Rattle.ra_progress.specs.Contents.{Opening, IsOpening}
use Rattle.ra_progress.specs.Spelling.{progress_bytes}
use Rattle.ra_progress.specs.Reading.{refusal}
use Rattle.ra_progress.specs.Laws.{IsShape}
use Rattle.ra_progress.specs.Saying.{says}
use Rattle.ra_trace.specs.Cutting.{Stop, Reached, RefusedAt, PastLimit}
use Rattle.ra_meaning.specs.Order.{shape_of}
use Rattle.ra_meaning.specs.Earned.{Earned, HoldTriggered, earned_in, none_earned, with_earned}
use Rattle.ra_meaning.specs.Openings.{snapshot, plain_opening}
use Rattle.ra_args.specs.Words.{Job, Run, file_in, reads_of}
use Rattle.ra_session.specs.Endings.{ending_of}
use Rattle.ra_session.specs.Expected.{Expected, RunSays, refuses_set, refuses_file, begins, goes_on, takes_up, played}
use Rattle.ra_session.specs.Expected.{prints_nothing, progress_limit, set_limit}
use Rattle.ra_session.specs.Failures.{ending_of_load}
use Rattle.ra_session.specs.Loading.{BeginsAt, AreAccepted, AreOfFile, RefusesFile, IsTaken, HasNoProgress, IsLoaded}
use Rattle.ra_session.specs.Loading.{IsNotLoaded}
use Rattle.ra_jobs.specs.Outside.{Outside, AnyRose, AreTold}
use Rattle.ra_session.specs.Playing.{IsPlayable}
use Rattle.ra_session.specs.Running.{IsTold, deciding, PrintsSoFar, IsCounted, Ran}
use Rattle.ra_session.specs.declared.ending.Ending.{Ending}
use Rattle.ra_session.specs.declared.ending.Ending.TheVariants.{BadSet, BadProgress, NoAchievement}
use Rattle.ra_session.specs.declared.failures.SetFailed.TheVariants as no_set
use Rattle.ra_session.specs.declared.failures.ProgressFailed.{ProgressFailed}
use Rattle.ra_session.specs.declared.failures.ProgressFailed.TheVariants as no_file
use Rattle.ra_session.specs.declared.failures.LoadFailed.{LoadFailed}
use Rattle.ra_session.specs.declared.failures.LoadFailed.TheVariants as load
use Rattle.ra_jobs.proofs.Parts.{part_none}
use Rattle.ra_jobs.proofs.Pieces.{grown-nil}
use Rattle.ra_session.proofs.ReadLemmas.{run_read}
use Rattle.ra_session.proofs.RunLemmas.{any_first, any_later, file_of, set_read_of}
use Rattle.ra_session.proofs.StandLemmas.{comes_back_of}
use Rattle.ra_session.proofs.SaysLemmas.{says_begins, whole_accepted}

same_in : {T : Type 0} (x y : T) → Some x ≡ Some y → x ≡ y
same_in x y same = cc

-- a set that was accepted is not refused
pub never_bad : (file : Option (List ℕ)) (c : SetContents) → IsTaken file c → (bytes : List ℕ)
    (why : SetRefused) → file ≡ Some bytes → Refuses (take (set_limit + 1) bytes) why → ⊥
never_bad file c taken bytes why told refuses =
    set-not_refused (take 4194305 bytes) c why
    (set_read_of (take 4194305 bytes) bytes c refl (taken.is_set bytes told)) refuses

-- What a run says whose set is this one.
pub data SaysOf (content : List ℕ → Option (List ℕ)) (trace : List ℕ) (c : SetContents) : Option
    (List ℕ) → Expected → Type 0 where
  bad_file : (name file : List ℕ) (why : ProgressRefused) → content name ≡ Some file
      → refusal (shape_of c) (take progress_limit file) ≡ Some why
      → SaysOf content trace c (Some name) (prints_nothing (BadProgress why))
  anew : (file : List ℕ) → content trace ≡ Some file
      → SaysOf content trace c None (played c (plain_opening c) [] (none_earned c) file)
  again : (name file : List ℕ) (o : Opening) (behind : History) (earned : Earned) → content trace
      ≡ Some file → content name ≡ Some (progress_bytes (shape_of c)
      (with_earned (snapshot c o behind) earned)) → IsOpening (shape_of c) o → AreImages behind
      → HoldTriggered earned (snapshot c o behind).items
      → SaysOf content trace c (Some name) (played c o behind earned file)
  taken_up : (name kept file : List ℕ) → content trace ≡ Some file → content name ≡ Some kept
      → refusal (shape_of c) kept ≡ None → SaysOf content trace c (Some name)
      (played c (says (shape_of c) kept) [] (earned_in (says (shape_of c) kept)) file)

pub says_of : (content : List ℕ → Option (List ℕ)) (set trace : List ℕ) (restore : Option (List ℕ))
    (c : SetContents) (e : Expected) → IsTaken (content set) c → RunSays content set trace restore e
    → SaysOf content trace c restore e
says_of content set trace restore c e taken (refuses_set file why told refuses) =
    absurd (never_bad (content set) c taken file why told refuses)
says_of content set trace restore c e taken (refuses_file name set_file file d why told_set told_file is refused) =
    subst (λ (s : SetContents). refusal (shape_of s) (take progress_limit file) ≡ Some why
    → SaysOf content trace c (Some name) (prints_nothing (BadProgress why)))
    (same-set set_file c d (taken.is_set set_file told_set) is)
    (λ lacks. bad_file name file why told_file lacks) refused
says_of content set trace restore c e taken (begins set_file trace_file d told_set told_trace is) =
    subst (λ (s : SetContents). SaysOf content trace c None
    (played s (plain_opening s) [] (none_earned s) trace_file))
    (same-set set_file c d (taken.is_set set_file told_set) is) (anew trace_file told_trace)
says_of content set trace restore c e taken (goes_on name set_file trace_file d o behind earned
    told_set told_trace told_file is opening images holds) =
    subst (λ (s : SetContents). content name ≡ Some (progress_bytes (shape_of s) (with_earned
    (snapshot s o behind) earned)) → IsOpening (shape_of s) o → HoldTriggered earned (snapshot s o
    behind).items → SaysOf content trace c (Some name) (played s o behind earned trace_file))
    (same-set set_file c d (taken.is_set set_file told_set) is) (λ told fits. again name trace_file
    o behind earned told_trace told fits images) told_file opening holds
says_of content set trace restore c e taken
    (takes_up name set_file file trace_file d told_set told_trace told_file is accepted) =
    subst (λ (s : SetContents). refusal (shape_of s) file ≡ None → SaysOf content trace c (Some
    name) (played s (says (shape_of s) file) [] (earned_in (says (shape_of s) file)) trace_file))
    (same-set set_file c d (taken.is_set set_file told_set) is)
    (λ none. taken_up name file trace_file told_trace told_file none) accepted

-- all files of a job decide how its trace ends
pub stop_decides : (s : Stop) (job : Job) → deciding (ending_of s) job ≡ reads_of job
stop_decides (Reached at) job = refl
stop_decides (RefusedAt at why) job = refl
stop_decides PastLimit job = refl

module _ (set trace : List ℕ) (save : Option (List ℕ)) (old new : Outside) where
  abbrev job : Option (List ℕ) → Job
  job restore = Run set trace restore save

  abbrev Rises : List (List ℕ) → Type 0
  Rises names = AnyRose old.read_faults new.read_faults names

  -- the set decides each ending
  set_decides : (restore : Option (List ℕ)) (ending : Ending)
      → Rose (old.read_faults set) (new.read_faults set) → Rises (deciding ending (job restore))
  set_decides restore (BadSet why) rose = any_first _ set [] rose
  set_decides restore (BadProgress why) rose = any_first _ set (file_in restore) rose
  set_decides restore (NoAchievement id) rose = any_first _ set [] rose
  set_decides restore _ rose = any_first _ set (trace ∷ file_in restore) rose

  -- and so does the progress file, where the set is accepted
  file_decides : (c : SetContents) (restore : Option (List ℕ)) (e : Expected) → SaysOf old.content
      trace c restore e → Rises (file_in restore) → Rises (deciding e.ending (job restore))
  file_decides c _ e (bad_file name file why told refused) rose = any_later _ set (file_in (Some name)) rose
  file_decides c _ e (anew file told) rose = subst Rises (sym (stop_decides _ (job None)))
      (any_later _ set (trace ∷ []) (any_later _ trace [] rose))
  file_decides c _ e (again name file o behind earned told kept opening images holds) rose =
      subst Rises (sym (stop_decides _ (job (Some name))))
      (any_later _ set (trace ∷ name ∷ []) (any_later _ trace (name ∷ []) rose))
  file_decides c _ e (taken_up name kept file told is accepted) rose =
      subst Rises (sym (stop_decides _ (job (Some name))))
      (any_later _ set (trace ∷ name ∷ []) (any_later _ trace (name ∷ []) rose))

  -- why bytes are refused has one answer
  refused_so : (c : SetContents) (restore : Option (List ℕ)) (e : Expected)
      (found : ProgressRefused) → IsTaken (old.content set) c → SaysOf old.content trace c restore e
      → RefusesFile c old.content restore found → new.text ≡ old.text
      → PrintsSoFar (job restore) old new (BadProgress found) e
  refused_so c _ e found taken (bad_file name file why told refused) at same =
      let here = at.refused file (ap old.content (sym (same_in name at.name at.named)) ∙ told) in
      (ap BadProgress (same_in why found (sym refused ∙ here)), same ∙ sym (grown-nil old.text))
  refused_so c _ e found taken (anew file told) at same = absurd (none-some at.name at.named)
  refused_so c _ e found taken (again name file o behind earned told kept opening images holds) at same =
      let good = whole_accepted c (progress_bytes (shape_of c)
      (with_earned (snapshot c o behind) earned))
      (comes_back_of c o behind earned taken.playable at.shape opening images holds).accepted in
      absurd (none-some found (sym good ∙ at.refused _ (ap old.content (sym (same_in name at.name at.named)) ∙ kept)))
  refused_so c _ e found taken (taken_up name kept file told is accepted) at same =
      absurd (none-some found (sym (whole_accepted c kept accepted)
      ∙ at.refused kept (ap old.content (sym (same_in name at.name at.named)) ∙ is)))

  never_set : (file : List ℕ) (d : SetContents) (why : SetRefused) → old.content set ≡ Some file
      → IsSet file d → Refuses (take (set_limit + 1) file) why → ⊥
  never_set file d why told is refuses = set-not_refused (take 4194305 file) d why
      (set_read_of (take 4194305 file) file d refl is) refuses

  abbrev Lacks : Option (List ℕ) → LoadFailed → Type 0
  Lacks restore failed = IsNotLoaded old.content old.read_faults new.read_faults set restore failed

  -- what a run has printed that has no set
  no_set_prints : (restore : Option (List ℕ)) (e : Expected) (why : SetRefused)
      → Lacks restore (load.Set (no_set.Refused why)) → RunSays old.content set trace restore e
      → new.text ≡ old.text → PrintsSoFar (job restore) old new (BadSet why) e
  no_set_prints restore e why lacks (refuses_set file found told refuses) same =
      (ap BadSet (one-refusal (take 4194305 file) found why refuses (lacks file told)), same ∙ sym (grown-nil old.text))
  no_set_prints restore e why lacks (refuses_file name set_file file d found told_set told_file is
      refused) same = absurd (never_set set_file d why told_set is (lacks set_file told_set))
  no_set_prints restore e why lacks (begins set_file trace_file d told_set told_trace is) same =
      absurd (never_set set_file d why told_set is (lacks set_file told_set))
  no_set_prints restore e why lacks (goes_on name set_file trace_file d o behind earned told_set
      told_trace told_file is opening images holds) same =
      absurd (never_set set_file d why told_set is (lacks set_file told_set))
  no_set_prints restore e why lacks (takes_up name set_file file trace_file d told_set told_trace
      told_file is accepted) same =
      absurd (never_set set_file d why told_set is (lacks set_file told_set))

  -- what a run has printed that did not begin
  not_begun : (restore : Option (List ℕ)) (e : Expected) (failed : LoadFailed)
      → Lacks restore failed → RunSays old.content set trace restore e → new.text ≡ old.text
      → PrintsSoFar (job restore) old new (ending_of_load failed) e
  not_begun restore e (load.Set no_set.Memory) lacks says same = part_none old.text new.text (concat e.pieces) same
  not_begun restore e (load.Set no_set.Read) lacks says same =
      (set_decides restore e.ending lacks, inl (run_read old.content set trace restore e says, same))
  not_begun restore e (load.Set (no_set.Refused why)) lacks says same = no_set_prints restore e why lacks says same
  not_begun restore e (load.Progress no_file.Memory) lacks says same =
      part_none old.text new.text (concat e.pieces) same
  not_begun restore e (load.Progress no_file.Read) lacks says same = (
    file_decides lacks.0 restore e (says_of old.content set trace restore lacks.0 e lacks.1 says) lacks.2,
    inl (run_read old.content set trace restore e says, same),
  )
  not_begun restore e (load.Progress (no_file.Refused why)) lacks says same =
      refused_so lacks.0 restore e why lacks.1
      (says_of old.content set trace restore lacks.0 e lacks.1 says) lacks.2 same

  -- its files say so
  not_begun_said : (restore : Option (List ℕ)) (failed : LoadFailed) → Lacks restore failed
      → IsTold (ending_of_load failed) → AreTold old.content (deciding (ending_of_load failed)
      (job restore)) → (e : Expected) × RunSays old.content set trace restore e
  not_begun_said restore (load.Set (no_set.Refused why)) lacks is told =
      let file = file_of old.content set told.0 in
      (prints_nothing (BadSet why), refuses_set file.0 why file.1 (lacks file.0 file.1))
  not_begun_said restore (load.Progress (no_file.Refused why)) lacks is told =
      let (c, taken, at) = lacks in
      let set_file = file_of old.content set told.0 in
      let named = subst (λ (r : Option (List ℕ)). AreTold old.content (file_in r)) at.named told.1 in
      let file = file_of old.content at.name named.0 in (
        prints_nothing (BadProgress why),
        subst (λ (r : Option (List ℕ)). RunSays old.content set trace r
            (prints_nothing (BadProgress why))) (sym at.named)
            (refuses_file at.name set_file.0 file.0 c why set_file.1 file.1
            (taken.is_set set_file.0 set_file.1) (at.refused file.0 file.1)),
      )
  not_begun_said restore (load.Set no_set.Memory) lacks is told = absurd is
  not_begun_said restore (load.Set no_set.Read) lacks is told = absurd is
  not_begun_said restore (load.Progress no_file.Memory) lacks is told = absurd is
  not_begun_said restore (load.Progress no_file.Read) lacks is told = absurd is

  not_begun_counted : (restore : Option (List ℕ)) (failed : LoadFailed) → Lacks restore failed
      → IsCounted (job restore) old new (ending_of_load failed)
  not_begun_counted restore (load.Set no_set.Memory) lacks = tt
  not_begun_counted restore (load.Set no_set.Read) lacks = any_first _ set (trace ∷ file_in restore) lacks
  not_begun_counted restore (load.Set (no_set.Refused why)) lacks = tt
  not_begun_counted restore (load.Progress no_file.Memory) lacks = tt
  not_begun_counted restore (load.Progress no_file.Read) lacks =
      any_later _ set (trace ∷ file_in restore) (any_later _ trace (file_in restore) lacks.2)
  not_begun_counted restore (load.Progress (no_file.Refused why)) lacks = tt

  -- a run that did not begin
  pub ran_not_begun : (restore : Option (List ℕ)) (failed : LoadFailed) (ending : Ending) → ending
      ≡ ending_of_load failed → Lacks restore failed → new.text ≡ old.text
      → Ran (job restore) old new ending
  ran_not_begun restore failed ending is lacks same = subst (Ran (job restore) old new) (sym is) (record {
    printed = λ e says. not_begun restore e failed lacks says same;
    said = λ told files. not_begun_said restore failed lacks told files;
    counted = not_begun_counted restore failed lacks;
  })

-- what judged bytes say of their file
pub refused_at : (content : List ℕ → Option (List ℕ)) (c : SetContents) (name bytes : List ℕ)
    (why : ProgressRefused) → IsShape (shape_of c) → refusal (shape_of c) bytes ≡ Some why
    → ((file : List ℕ) → content name ≡ Some file → bytes ≡ take progress_limit file)
    → RefusesFile c content (Some name) why
refused_at content c name bytes why shape is read = record {
  name = name;
  named = refl;
  refused = λ file told. ap (refusal (shape_of c)) (sym (read file told)) ∙ is;
  shape = shape;
}

-- the contents after a read are those before
pub not_progress_since : (a b : List ℕ → Option (List ℕ)) (c : SetContents)
    (restore : Option (List ℕ)) (some all : Type 0) (failed : ProgressFailed) → SameContent a b
    → (some → all) → HasNoProgress c b restore some failed → HasNoProgress c a restore all failed
not_progress_since a b c restore some all no_file.Memory same f lacks = lacks
not_progress_since a b c restore some all no_file.Read same f lacks = f lacks
not_progress_since a b c restore some all (no_file.Refused why) same f lacks =
    record {
      name = lacks.name;
      named = lacks.named;
      refused = λ file told. lacks.refused file (same.each lacks.name ∙ told);
      shape = lacks.shape;
    }

pub of_file_since : (a b : List ℕ → Option (List ℕ)) (restore progress : Option (List ℕ))
    → SameContent a b → AreOfFile b restore progress → AreOfFile a restore progress
of_file_since a b None progress same of_file = of_file
of_file_since a b (Some name) progress same (bytes, is, whole) =
    (bytes, is, λ file told. whole file (same.each name ∙ told))

-- What a run says that is played from where it begins.
pub record PlaysFrom (content : List ℕ → Option (List ℕ)) (trace : List ℕ) (c : SetContents)
    (progress : Option (List ℕ)) (e : Expected) : Type 0 where
  pub opening : Opening
  pub behind : History
  pub earned : Earned
  pub file : List ℕ
  pub at : BeginsAt c progress opening behind earned
  pub told : content trace ≡ Some file
  pub is : e ≡ played c opening behind earned file

-- a run begins somewhere
pub begins_somewhere : (c : SetContents) (progress : Option (List ℕ)) → IsPlayable c
    → AreAccepted c progress → (o : Opening) × (behind : History) × (earned : Earned)
    × BeginsAt c progress o behind earned
begins_somewhere c None playable accepted = (plain_opening c, [], none_earned c, (refl, refl, refl))
begins_somewhere c (Some bytes) playable accepted =
    (says (shape_of c) bytes, [], earned_in (says (shape_of c) bytes), says_begins c bytes playable accepted)

-- what the files of a run say whose set and progress file were accepted
plays_from : (content : List ℕ → Option (List ℕ)) (trace : List ℕ) (restore : Option (List ℕ))
    (c : SetContents) (progress : Option (List ℕ)) (e : Expected) → SaysOf content trace c restore e
    → IsPlayable c → AreAccepted c progress → AreOfFile content restore progress
    → PlaysFrom content trace c progress e
plays_from content trace _ c progress e (bad_file name file why told refused) playable accepted (bytes, is, whole) =
    let own : AreAccepted c (Some bytes) = subst (AreAccepted c) is accepted in
    let none : refusal (shape_of c) file ≡ None = ap (refusal (shape_of c)) (sym (whole file told)) ∙ own.2 in
    absurd (none-some why (sym (whole_accepted c file none) ∙ refused))
plays_from content trace _ c progress e (anew file told) playable accepted none = record {
  opening = plain_opening c;
  behind = [];
  earned = none_earned c;
  file = file;
  at = subst (λ (p : Option (List ℕ)). BeginsAt c p (plain_opening c) [] (none_earned c)) (sym none) (refl, refl, refl);
  told = told;
  is = refl;
}
plays_from content trace _ c progress e (again name file o behind earned told kept opening images
    holds) playable accepted (bytes, is, whole) =
    let own : AreAccepted c (Some bytes) = subst (AreAccepted c) is accepted in
    let said : says (shape_of c) bytes ≡ with_earned (snapshot c o behind) earned =
    ap (says (shape_of c)) (whole _ kept)
    ∙ (comes_back_of c o behind earned playable own.0 opening images holds).says_it in
    record {
      opening = o;
      behind = behind;
      earned = earned;
      file = file;
      at = subst (λ (p : Option (List ℕ)). BeginsAt c p o behind earned) (sym is) (opening, images, holds, said);
      told = told;
      is = refl;
    }
plays_from content trace _ c progress e (taken_up name kept file told there none) playable accepted (bytes, is, whole) =
    let own : AreAccepted c (Some bytes) = subst (AreAccepted c) is accepted in
    let at : BeginsAt c (Some bytes) (says (shape_of c) kept) [] (earned_in (says (shape_of c)
    kept)) = subst (λ (f : List ℕ). BeginsAt c (Some bytes) (says (shape_of c) f) [] (earned_in
    (says (shape_of c) f))) (whole kept there) (says_begins c bytes playable own) in
    record {
      opening = says (shape_of c) kept;
      behind = [];
      earned = earned_in (says (shape_of c) kept);
      file = file;
      at = subst (λ (p : Option (List ℕ)). BeginsAt c p (says (shape_of c) kept) []
          (earned_in (says (shape_of c) kept))) (sym is) at;
      told = told;
      is = refl;
    }

module _ (content : List ℕ → Option (List ℕ)) (set trace : List ℕ) where
  pub loaded_says : (restore : Option (List ℕ)) (c : SetContents) (progress : Option (List ℕ))
      (e : Expected) → IsLoaded content set restore c progress → RunSays content set trace restore e
      → PlaysFrom content trace c progress e
  loaded_says restore c progress e loaded says =
      plays_from content trace restore c progress e (says_of content set trace restore c e
      loaded.taken says) loaded.taken.playable loaded.accepted loaded.of_file

  -- and they say something: what is played from the plain opening, or from what the progress file says
  pub loaded_said : (restore : Option (List ℕ)) (c : SetContents) (progress : Option (List ℕ))
      (trace_file : List ℕ) → IsLoaded content set restore c progress
      → AreTold content (set ∷ trace ∷ file_in restore) → content trace ≡ Some trace_file
      → (e : Expected) × RunSays content set trace restore e
  loaded_said None c progress trace_file loaded told told_trace =
      let set_file = file_of content set told.0 in (
        played c (plain_opening c) [] (none_earned c) trace_file,
        begins set_file.0 trace_file c set_file.1 told_trace (loaded.taken.is_set set_file.0 set_file.1),
      )
  loaded_said (Some name) c progress trace_file loaded told told_trace =
      let set_file = file_of content set told.0 in
      let (bytes, is, whole) = loaded.of_file in
      let file = file_of content name told.1.1.0 in
      let own : AreAccepted c (Some bytes) = subst (AreAccepted c) is loaded.accepted in
      let none : refusal (shape_of c) file.0 ≡ None = ap (refusal (shape_of c)) (sym (whole file.0 file.1)) ∙ own.2 in (
        played c (says (shape_of c) file.0) [] (earned_in (says (shape_of c) file.0)) trace_file,
        takes_up name set_file.0 file.0 trace_file c set_file.1 told_trace file.1
            (loaded.taken.is_set set_file.0 set_file.1) none,
      )
