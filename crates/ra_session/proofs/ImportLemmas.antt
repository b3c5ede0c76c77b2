-- An import: its document gives no set, its set is not put, or its line is printed behind the put.
use Rattle.std.proofs.Common.{arith, ◌≡◌, ◌≢◌, ◌⊎◌, inl, inr, ap, sym, subst, refl, ◌∙◌, ℕ, ◌+◌, take, List, [], ◌∷◌}
use Rattle.std.proofs.Common.{Option, Some, Err, string_bytes}
use Rattle.std.specs.List.{concat}
use Rattle.std.specs.Result.{IsErrOf}
use Rattle.std.proofs.lemmas.List.{take_all, length-take}
use Rattle.ra_io.specs.Causes.{Rose}
use Rattle.ra_io.specs.declared.files.PutFailed.{PutFailed}
use Rattle.ra_io.specs.declared.files.PutFailed.TheVariants as put
use Rattle.ra_set.proofs.AnswerLemmas.{same-set}
use Rattle.ra_set.specs.Accepted.{IsSet}
use Rattle.ra_patch.specs.Answers.{document_limit, Imports, RefusesDocument}
use Rattle.ra_patch.specs.declared.refused.PatchRefused.{PatchRefused}
use Rattle.ra_patch.specs.declared.refused.PatchRefused.TheVariants as patch
use Rattle.ra_patch.proofs.AnswerLemmas.{same-text, one-document_refusal, imported-not_refused}
use Rattle.ra_args.specs.Words.{Job, Import}
use Rattle.ra_session.specs.Expected.{Expected, ImportSays, IsOfDocument, refuses_document, refuses_set, imports}
use Rattle.ra_session.specs.Expected.{import_line, prints_line, prints_nothing, puts_then_prints}
use Rattle.ra_session.specs.Closing.{EndsBefore}
use Rattle.ra_session.specs.Failures.{document_refused, ending_of_document, ending_of_put, ending_of_refused}
use Rattle.ra_session.specs.Importing.{HasNoDocument, IsDocument}
use Rattle.ra_jobs.specs.Outside.{Outside, ReadsRose, SinkRose, AreTold}
use Rattle.ra_session.specs.Running.{Ran, Leaves, HasBytes, IsTold, IsCounted, PrintsSoFar, deciding}
use Rattle.ra_session.specs.declared.document.Document.{Document}
use Rattle.ra_session.specs.declared.ending.Ending.{Ending}
use Rattle.ra_session.specs.declared.ending.Ending.TheVariants.{Done, BadSet, BadProgress, BadDocument, NoAchievement}
use Rattle.ra_session.specs.declared.ending.Ending.TheVariants.{NoMemory, ReadFault, SinkFault, SaveFault}
use Rattle.ra_session.specs.declared.failures.DocumentFailed.{DocumentFailed}
use Rattle.ra_session.specs.declared.failures.DocumentFailed.TheVariants as no_document
use Rattle.ra_jobs.proofs.Pieces.{grown-nil}
use Rattle.ra_jobs.proofs.Parts.{part_none}
use Rattle.ra_session.proofs.PutLemmas.{leaves_put, ran_put, ran_unput}
use Rattle.ra_session.proofs.ReadLemmas.{import_read}
use Rattle.ra_session.proofs.RunLemmas.{any_first, file_of}

-- a document that gives a set was read whole
pub whole_document : (bytes text : List ℕ) → Imports (take (document_limit + 1) bytes) text
    → take (document_limit + 1) bytes ≡ bytes
whole_document bytes text is = take_all (document_limit + 1) bytes (let few = is.document.few in
    omega (arith, length-take (document_limit + 1) bytes, few))

pub document_read : (bytes text : List ℕ) → Imports bytes text → take (document_limit + 1) bytes ≡ bytes
document_read bytes text is = take_all (document_limit + 1) bytes (let few = is.document.few in omega (arith, few))

-- a document that gives a set in what is read of it gives it as a whole
pub imports_whole : (bytes file text : List ℕ) → bytes ≡ take (document_limit + 1) file
    → Imports bytes text → Imports file text
imports_whole bytes file text is gives =
    let read : Imports (take (document_limit + 1) file) text = subst (λ b. Imports b text) is gives in
    subst (λ b. Imports b text) (whole_document file text read) read

-- what is read of a document is refused
pub refused_so : (content : Option (List ℕ)) (rose : Type 0) (bytes : List ℕ) (why : PatchRefused)
    → ((file : List ℕ) → content ≡ Some file → bytes ≡ take (document_limit + 1) file)
    → why ≡ patch.Memory ⊎ RefusesDocument bytes why → HasNoDocument content rose (document_refused why)
refused_so content rose bytes why read (inl memory) =
    subst (λ w. HasNoDocument content rose (document_refused w)) (sym memory) tt
refused_so content rose bytes why read (inr refused) = by_why why refused
  where
    by_why : (why : PatchRefused) → RefusesDocument bytes why → HasNoDocument content rose (document_refused why)
    by_why patch.Memory refused = tt
    by_why (patch.Bytes found) refused =
        λ file told. subst (λ b. RefusesDocument b (patch.Bytes found)) (read file told) refused
    by_why patch.NotJson refused = λ file told. subst (λ b. RefusesDocument b patch.NotJson) (read file told) refused
    by_why (patch.Field list index field) refused = λ file told. subst
        (λ b. RefusesDocument b (patch.Field list index field)) (read file told) refused
    by_why (patch.Break list index) refused = λ file told. subst
        (λ b. RefusesDocument b (patch.Break list index)) (read file told) refused
    by_why (patch.Set cause) refused =
        λ file told. subst (λ b. RefusesDocument b (patch.Set cause)) (read file told) refused

-- how a refusal of the document itself ends
ends_as : (why : PatchRefused) → IsOfDocument why → ending_of_refused why ≡ BadDocument why
ends_as (patch.Set why) of = absurd of
ends_as patch.Memory of = absurd of
ends_as _ of = refl

module _ (file set : List ℕ) (old new : Outside) where
  abbrev job : Job
  job = Import file set

  -- the document decides each ending of an import
  import_decides : (ending : Ending) → deciding ending job ≡ file ∷ []
  import_decides (BadSet why) = refl
  import_decides (BadProgress why) = refl
  import_decides (NoAchievement id) = refl
  import_decides _ = refl

  refused_prints : (e : Expected) (why : PatchRefused)
      → HasNoDocument (old.content file) (Rose (old.read_faults file) (new.read_faults file))
      (no_document.Refused why) → ImportSays old.content file e
      → new.text ≡ old.text → PrintsSoFar job old new (ending_of_refused why) e
  refused_prints e why lacks (refuses_document bytes other told of is) same =
      subst (λ g. PrintsSoFar job old new g (prints_nothing (BadDocument other)))
      (sym (ends_as other of) ∙ ap ending_of_refused (one-document_refusal (take (document_limit
      + 1) bytes) other why is (lacks bytes told))) (refl, same ∙ sym (grown-nil old.text))
  refused_prints e why lacks (refuses_set bytes other told is) same =
      subst (λ g. PrintsSoFar job old new g (prints_nothing (BadSet other)))
      (ap ending_of_refused (one-document_refusal (take (document_limit + 1) bytes)
      (patch.Set other) why is (lacks bytes told))) (refl, same ∙ sym (grown-nil old.text))
  refused_prints e why lacks (imports bytes text c told gives is) same =
      absurd (imported-not_refused bytes text why gives
      (subst (λ b. RefusesDocument b why) (document_read bytes text gives) (lacks bytes told)))

  no_document_prints : (e : Expected) (failed : DocumentFailed) → HasNoDocument (old.content file)
      (Rose (old.read_faults file) (new.read_faults file)) failed → ImportSays old.content file e
      → new.text ≡ old.text → PrintsSoFar job old new (ending_of_document failed) e
  no_document_prints e no_document.Memory lacks says same = part_none old.text new.text (concat e.pieces) same
  no_document_prints e no_document.Read lacks says same = (
    subst (λ names. ReadsRose names old new) (sym (import_decides e.ending)) (any_first _ file [] lacks),
    inl (import_read old.content file e says, same),
  )
  no_document_prints e (no_document.Refused why) lacks says same = refused_prints e why lacks says same

  refused_said : (why : PatchRefused) (bytes : List ℕ) → old.content file ≡ Some bytes
      → RefusesDocument (take (document_limit + 1) bytes) why → IsTold (ending_of_refused why)
      → (e : Expected) × ImportSays old.content file e
  refused_said patch.Memory bytes told is ended = absurd ended
  refused_said (patch.Set why) bytes told is ended = (_, refuses_set bytes why told is)
  refused_said (patch.Bytes found) bytes told is ended = (_, refuses_document bytes (patch.Bytes found) told tt is)
  refused_said patch.NotJson bytes told is ended = (_, refuses_document bytes patch.NotJson told tt is)
  refused_said (patch.Field list index field) bytes told is ended =
      (_, refuses_document bytes (patch.Field list index field) told tt is)
  refused_said (patch.Break list index) bytes told is ended =
      (_, refuses_document bytes (patch.Break list index) told tt is)

  no_document_said : (failed : DocumentFailed) → HasNoDocument (old.content file) (Rose
      (old.read_faults file) (new.read_faults file)) failed → IsTold (ending_of_document failed)
      → AreTold old.content (deciding (ending_of_document failed) job)
      → (e : Expected) × ImportSays old.content file e
  no_document_said (no_document.Refused why) lacks is told =
      let bytes = file_of old.content file
      (subst (AreTold old.content) (import_decides (ending_of_refused why)) told).0 in
      refused_said why bytes.0 bytes.1 (lacks bytes.0 bytes.1) is
  no_document_said no_document.Memory lacks is told = absurd is
  no_document_said no_document.Read lacks is told = absurd is

  refused_counted : (why : PatchRefused) → IsCounted job old new (ending_of_refused why)
  refused_counted patch.Memory = tt
  refused_counted (patch.Set why) = tt
  refused_counted _ = tt

  no_document_counted : (failed : DocumentFailed)
      → HasNoDocument (old.content file) (Rose (old.read_faults file) (new.read_faults file)) failed
      → IsCounted job old new (ending_of_document failed)
  no_document_counted no_document.Read lacks = any_first _ file [] lacks
  no_document_counted no_document.Memory lacks = tt
  no_document_counted (no_document.Refused why) lacks = refused_counted why

  -- an import that has no document
  pub ran_no_document : (failed : DocumentFailed) (ending : Ending) → ending
      ≡ ending_of_document failed
      → HasNoDocument (old.content file) (Rose (old.read_faults file) (new.read_faults file)) failed
      → new.text ≡ old.text → Ran job old new ending
  ran_no_document failed ending is lacks same = subst (Ran job old new) (sym is) (record {
    printed = λ e says. no_document_prints e failed lacks says same;
    said = λ told files. no_document_said failed lacks told files;
    counted = no_document_counted failed lacks;
  })

  module _ (d : Document) (is : IsDocument (old.content file) d) where
    -- what an import says whose document gives a set
    import_says : (e : Expected) → ImportSays old.content file e → e
        ≡ puts_then_prints d.text.items (string_bytes d.line)
    import_says e (refuses_document bytes why told of refused) =
        absurd (imported-not_refused bytes d.text.items why (is.imports bytes told) (subst (λ b.
        RefusesDocument b why) (document_read bytes d.text.items (is.imports bytes told)) refused))
    import_says e (refuses_set bytes why told refused) =
        absurd (imported-not_refused bytes d.text.items (patch.Set why) (is.imports bytes told)
        (subst (λ b. RefusesDocument b (patch.Set why))
        (document_read bytes d.text.items (is.imports bytes told)) refused))
    import_says e (imports bytes text c told gives accepted) =
        let text_is : text ≡ d.text.items = same-text bytes text d.text.items gives (is.imports bytes told) in
        let set_is : c ≡ is.set =
        same-set d.text.items c is.set (subst (λ t. IsSet t c) text_is accepted) is.accepted in
        ap (λ t. puts_then_prints t (import_line c)) text_is
        ∙ ap (puts_then_prints d.text.items) (ap import_line set_is ∙ sym is.line)

    import_said : (ending : Ending) → AreTold old.content (deciding ending job)
        → (e : Expected) × ImportSays old.content file e
    import_said ending told =
        let bytes = file_of old.content file (subst (AreTold old.content) (import_decides ending) told).0 in
        (_, imports bytes.0 d.text.items is.set bytes.1 (is.imports bytes.0 bytes.1) is.accepted)

    -- an import whose line was printed behind its put, or a front of it
    pub ran_import : (ending : Ending) → EndsBefore (prints_line (string_bytes d.line)) ⊥ ⊥
        (SinkRose old new) ending old.text new.text → Ran job old new ending
    ran_import ending before = ran_put job set refl tt old new d.text.items
        (string_bytes d.line) import_says ending (import_said ending) before

    -- an import whose set was not put
    pub ran_no_put : (f : PutFailed) (ending : Ending) → ending ≡ ending_of_put f
        → (IsErrOf {T = Unit {0}} (Err f) put.Failed → Rose (old.put_faults set)
        (new.put_faults set)) → new.text ≡ old.text → Ran job old new ending
    ran_no_put f ending ends rose same = ran_unput job set refl tt old new d.text.items
        (string_bytes d.line) import_says f ending ends rose same

    -- what an import leaves that put its set
    pub leaves_import : (ending : Ending) → EndsBefore (prints_line (string_bytes d.line)) ⊥ ⊥
        (SinkRose old new) ending old.text new.text
        → HasBytes d.text.items old.content new.content set
        → ((name : List ℕ) → name ≢ set → new.content name ≡ old.content name) → Leaves job old new ending
    leaves_import ending before has others = leaves_put job set refl tt old new d.text.items
        (string_bytes d.line) import_says ending before has others

-- an import that has no document is not done
pub document_not_done : (f : DocumentFailed) → ending_of_document f ≡ Done → ⊥
document_not_done no_document.Memory is = absurd (cc)
document_not_done no_document.Read is = absurd (cc)
document_not_done (no_document.Refused patch.Memory) is = absurd (cc)
document_not_done (no_document.Refused (patch.Set why)) is = absurd (cc)
document_not_done (no_document.Refused _) is = absurd (cc)
