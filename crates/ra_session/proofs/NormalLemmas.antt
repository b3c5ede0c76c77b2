-- A normal text: its set gives none, it is not put, or its line is printed behind the put.
use Rattle.std.proofs.Common.{◌≡◌, ◌≢◌, ◌∙◌, ap, sym, subst, refl, ℕ, length, take, List, [], ◌∷◌, Option, Some, Err}
use Rattle.std.proofs.Common.{string_bytes, inl}
use Rattle.std.specs.List.{concat}
use Rattle.std.specs.Result.{IsErrOf}
use Rattle.ra_io.specs.Causes.{Rose}
use Rattle.ra_io.specs.declared.files.PutFailed.{PutFailed}
use Rattle.ra_io.specs.declared.files.PutFailed.TheVariants as put
use Rattle.ra_set.proofs.AnswerLemmas.{one-refusal, same-set, set-not_refused}
use Rattle.ra_set.specs.declared.refused.Which.{Which}
use Rattle.ra_set.specs.declared.refused.SetRefused.{SetRefused}
use Rattle.ra_set.specs.Accepted.{IsSet}
use Rattle.ra_set.specs.Refusals.{Refuses}
use Rattle.ra_set.specs.Contents.{SetContents}
use Rattle.ra_normal.specs.Text.{IsNormal, IsPastLimit}
use Rattle.ra_normal.specs.declared.refused.NormalRefused.{NormalRefused}
use Rattle.ra_normal.specs.declared.refused.NormalRefused.TheVariants as normal
use Rattle.ra_normal.proofs.LimitLemmas.{one_limit, one_normal, normal_within}
use Rattle.ra_args.specs.Words.{Job, Normal}
use Rattle.ra_session.specs.Expected.{Expected, NormalSays, refuses_set, passes_limit, puts_text, normal_line}
use Rattle.ra_session.specs.Expected.{prints_line, puts_then_prints}
use Rattle.ra_session.specs.Closing.{EndsBefore}
use Rattle.ra_session.specs.Failures.{ending_of_normal, ending_of_put}
use Rattle.ra_session.specs.Normalizing.{HasNoNormal, IsNormalized, IsUnset}
use Rattle.ra_jobs.specs.Outside.{Outside, ReadsRose, SinkRose, AreTold}
use Rattle.ra_session.specs.Running.{Ran, Leaves, HasBytes, IsTold, IsCounted, PrintsSoFar, deciding}
use Rattle.ra_session.specs.declared.document.Document.{Document}
use Rattle.ra_session.specs.declared.ending.Ending.{Ending}
use Rattle.ra_session.specs.declared.ending.Ending.TheVariants.{Done, BadSet, BadProgress, LongNormal, NoAchievement}
use Rattle.ra_session.specs.declared.failures.NormalFailed.{NormalFailed}
use Rattle.ra_session.specs.declared.failures.NormalFailed.TheVariants as no_normal
use Rattle.ra_session.specs.declared.failures.SetFailed.{SetFailed}
use Rattle.ra_session.specs.declared.failures.SetFailed.TheVariants as no_set
use Rattle.ra_jobs.proofs.Pieces.{grown-nil}
use Rattle.ra_jobs.proofs.Parts.{part_none}
use Rattle.ra_session.proofs.PutLemmas.{leaves_put, ran_put, ran_unput}
use Rattle.ra_session.proofs.ReadLemmas.{normal_read}
use Rattle.ra_session.proofs.RunLemmas.{any_first, file_of, read_all, set_read_of}

-- a set that is accepted is not refused by what is read of its file
not_refused : (file : List ℕ) (s : SetContents) (why : SetRefused) → IsSet file s → Refuses (take 4194305 file) why → ⊥
not_refused file s why is refuses = set-not_refused (take 4194305 file) s why
    (set_read_of (take 4194305 file) file s refl is) refuses

module _ (set out : List ℕ) (old new : Outside) where
  abbrev job : Job
  job = Normal set out

  -- the set decides each ending
  normal_decides : (ending : Ending) → deciding ending job ≡ set ∷ []
  normal_decides (BadSet why) = refl
  normal_decides (BadProgress why) = refl
  normal_decides (NoAchievement id) = refl
  normal_decides _ = refl

  rose_here : (e : Expected) → Rose (old.read_faults set) (new.read_faults set)
      → ReadsRose (deciding e.ending job) old new
  rose_here e rose = subst (λ names. ReadsRose names old new) (sym (normal_decides e.ending)) (any_first _ set [] rose)

  refused_prints : (e : Expected) (why : SetRefused)
      → ((file : List ℕ) → old.content set ≡ Some file → Refuses (take 4194305 file) why)
      → NormalSays old.content set e → new.text ≡ old.text → PrintsSoFar job old new (BadSet why) e
  refused_prints e why lacks (refuses_set file found told refuses) same =
      (ap BadSet (one-refusal (take 4194305 file) found why refuses (lacks file told)), same ∙ sym (grown-nil old.text))
  refused_prints e why lacks (passes_limit file s which found told is past) same =
      absurd (not_refused file s why is (lacks file told))
  refused_prints e why lacks (puts_text file s text told is text_is) same =
      absurd (not_refused file s why is (lacks file told))

  limit_prints : (e : Expected) (which : Which) (found : ℕ) → ((file : List ℕ) → old.content set
      ≡ Some file → (s : SetContents) × IsSet file s × IsPastLimit file s (normal.Limit which
      found)) → NormalSays old.content set e → new.text ≡ old.text
      → PrintsSoFar job old new (LongNormal which found) e
  limit_prints e which found lacks (refuses_set file why told refuses) same = let p =
      lacks file told in absurd (not_refused file p.0 why p.1 refuses)
  limit_prints e which found lacks (passes_limit file s which' found' told is past) same =
      let p = lacks file told in
      let one = one_limit file s which' which found' found past (subst
      (λ s. IsPastLimit file s (normal.Limit which found)) (same-set file p.0 s p.1 is) p.2) in
      ((λ i. LongNormal (one.0 i) (one.1 i)), same ∙ sym (grown-nil old.text))
  limit_prints e which found lacks (puts_text file s text told is text_is) same =
      let p = lacks file told in
      absurd (normal_within file s text which found text_is
      (subst (λ s. IsPastLimit file s (normal.Limit which found)) (same-set file p.0 s p.1 is) p.2))

  no_normal_prints : (e : Expected) (failed : NormalFailed) → HasNoNormal (old.content set)
      (Rose (old.read_faults set) (new.read_faults set)) failed → NormalSays old.content set e
      → new.text ≡ old.text → PrintsSoFar job old new (ending_of_normal failed) e
  no_normal_prints e (no_normal.Set no_set.Memory) lacks says same = part_none old.text new.text (concat e.pieces) same
  no_normal_prints e (no_normal.Set no_set.Read) lacks says same =
      (rose_here e lacks, inl (normal_read old.content set e says, same))
  no_normal_prints e (no_normal.Set (no_set.Refused why)) lacks says same = refused_prints e why lacks says same
  no_normal_prints e (no_normal.Refused normal.Memory) lacks says same =
      part_none old.text new.text (concat e.pieces) same
  no_normal_prints e (no_normal.Refused (normal.Limit which found)) lacks says same =
      limit_prints e which found lacks says same

  no_normal_said : (failed : NormalFailed) → HasNoNormal (old.content set)
      (Rose (old.read_faults set) (new.read_faults set)) failed → IsTold (ending_of_normal failed)
      → AreTold old.content (deciding (ending_of_normal failed) job)
      → (e : Expected) × NormalSays old.content set e
  no_normal_said (no_normal.Set no_set.Memory) lacks is told = absurd is
  no_normal_said (no_normal.Set no_set.Read) lacks is told = absurd is
  no_normal_said (no_normal.Set (no_set.Refused why)) lacks is told = let file =
      file_of old.content set told.0 in (_, refuses_set file.0 why file.1 (lacks file.0 file.1))
  no_normal_said (no_normal.Refused normal.Memory) lacks is told = absurd is
  no_normal_said (no_normal.Refused (normal.Limit which found)) lacks is told =
      let file = file_of old.content set told.0 in
      let p = lacks file.0 file.1 in
      (_, passes_limit file.0 p.0 which found file.1 p.1 p.2)

  no_normal_counted : (failed : NormalFailed) → HasNoNormal (old.content set) (Rose (old.read_faults
      set) (new.read_faults set)) failed → IsCounted job old new (ending_of_normal failed)
  no_normal_counted (no_normal.Set no_set.Memory) lacks = tt
  no_normal_counted (no_normal.Set no_set.Read) lacks = any_first _ set [] lacks
  no_normal_counted (no_normal.Set (no_set.Refused why)) lacks = tt
  no_normal_counted (no_normal.Refused normal.Memory) lacks = tt
  no_normal_counted (no_normal.Refused (normal.Limit which found)) lacks = tt

  -- a job that has no normal text
  pub ran_no_normal : (failed : NormalFailed) (ending : Ending) → ending ≡ ending_of_normal failed
      → HasNoNormal (old.content set) (Rose (old.read_faults set) (new.read_faults set)) failed
      → new.text ≡ old.text → Ran job old new ending
  ran_no_normal failed ending is lacks same = subst (Ran job old new) (sym is) (record {
    printed = λ e says. no_normal_prints e failed lacks says same;
    said = λ told files. no_normal_said failed lacks told files;
    counted = no_normal_counted failed lacks;
  })

  module _ (d : Document) (is : IsNormalized (old.content set) d) where
    -- what a job says whose set has a normal text
    normal_says : (e : Expected) → NormalSays old.content set e → e
        ≡ puts_then_prints d.text.items (string_bytes d.line)
    normal_says e (refuses_set file why told refuses) =
        absurd (not_refused file is.set why (is.accepted file told) refuses)
    normal_says e (passes_limit file s which found told accepted past) =
        absurd (normal_within file is.set d.text.items which found (is.normal file told)
        (subst (λ s. IsPastLimit file s (normal.Limit which found))
        (same-set file s is.set accepted (is.accepted file told)) past))
    normal_says e (puts_text file s text told accepted text_is) =
        let set_is : s ≡ is.set = same-set file s is.set accepted (is.accepted file told) in
        let same : text ≡ d.text.items = one_normal file is.set text d.text.items
        (subst (λ s. IsNormal file s text) set_is text_is) (is.normal file told) in
        (λ i. puts_then_prints (same i) (normal_line (set_is i) (length (same i))))
        ∙ ap (puts_then_prints d.text.items) (sym is.line)

    normal_said : (ending : Ending) → AreTold old.content (deciding ending job)
        → (e : Expected) × NormalSays old.content set e
    normal_said ending told =
        let file = file_of old.content set (subst (AreTold old.content) (normal_decides ending) told).0 in
        (_, puts_text file.0 is.set d.text.items file.1 (is.accepted file.0 file.1) (is.normal file.0 file.1))

    -- a normal text whose line was printed behind its put, or a front of it
    pub ran_normal : (ending : Ending) → EndsBefore (prints_line (string_bytes d.line)) ⊥ ⊥
        (SinkRose old new) ending old.text new.text → Ran job old new ending
    ran_normal ending before = ran_put job out refl tt old new d.text.items
        (string_bytes d.line) normal_says ending (normal_said ending) before

    -- a normal text that was not put
    pub ran_no_put : (f : PutFailed) (ending : Ending) → ending ≡ ending_of_put f
        → (IsErrOf {T = Unit {0}} (Err f) put.Failed → Rose (old.put_faults out)
        (new.put_faults out)) → new.text ≡ old.text → Ran job old new ending
    ran_no_put f ending ends rose same = ran_unput job out refl tt old new d.text.items
        (string_bytes d.line) normal_says f ending ends rose same

    -- what is left where it was put
    pub leaves_normal : (ending : Ending) → EndsBefore (prints_line (string_bytes d.line)) ⊥ ⊥
        (SinkRose old new) ending old.text new.text
        → HasBytes d.text.items old.content new.content out
        → ((name : List ℕ) → name ≢ out → new.content name ≡ old.content name) → Leaves job old new ending
    leaves_normal ending before has others = leaves_put job out refl tt old new d.text.items
        (string_bytes d.line) normal_says ending before has others

-- what is read of the file of a set gives none
pub unset_so : (content : Option (List ℕ)) (rose : Type 0) (bytes : List ℕ) (why : SetFailed)
    → ((file : List ℕ) → content ≡ Some file → bytes ≡ take 4194305 file) → IsUnset bytes why
    → HasNoNormal content rose (no_normal.Set why)
unset_so content rose bytes no_set.Memory read unset = tt
unset_so content rose bytes no_set.Read read unset = absurd unset
unset_so content rose bytes (no_set.Refused why) read unset =
    λ file told. subst (λ b. Refuses b why) (read file told) unset

-- what is read of the file of a set gives one whose normal text passes a limit
pub limit_so : (content : Option (List ℕ)) (rose : Type 0) (bytes : List ℕ) (s : SetContents)
    (why : NormalRefused) → ((file : List ℕ) → content ≡ Some file → bytes ≡ take 4194305 file)
    → IsSet bytes s → IsPastLimit bytes s why → HasNoNormal content rose (no_normal.Refused why)
limit_so content rose bytes s normal.Memory read is past = tt
limit_so content rose bytes s (normal.Limit which found) read is past = λ file told.
    let same = read_all bytes file (read file told) is.size in
    (s, subst (λ b. IsSet b s) same is, subst (λ b. IsPastLimit b s (normal.Limit which found)) same past)

-- what is read of the file of a set gives one with a normal text
pub normal_so : (content : Option (List ℕ)) (bytes : List ℕ) (s : SetContents) (d : Document)
    → ((file : List ℕ) → content ≡ Some file → bytes ≡ take 4194305 file) → IsSet bytes s
    → IsNormal bytes s d.text.items
    → string_bytes d.line ≡ normal_line s (length d.text.items) → IsNormalized content d
normal_so content bytes s d read is text line = record {
  set = s;
  line = line;
  accepted = λ file told. subst (λ b. IsSet b s) (read_all bytes file (read file told) is.size) is;
  normal = λ file told. subst (λ b. IsNormal b s d.text.items) (read_all bytes file (read file told) is.size) text;
}

-- a job that has no normal text is not done
pub normal_not_done : (failed : NormalFailed) → ending_of_normal failed ≡ Done → ⊥
normal_not_done (no_normal.Set no_set.Memory) is = absurd (cc)
normal_not_done (no_normal.Set no_set.Read) is = absurd (cc)
normal_not_done (no_normal.Set (no_set.Refused why)) is = absurd (cc)
normal_not_done (no_normal.Refused normal.Memory) is = absurd (cc)
normal_not_done (no_normal.Refused (normal.Limit which found)) is = absurd (cc)
