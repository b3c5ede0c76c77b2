-- A document has one answer.
use Rattle.std.proofs.Common.{◌≡◌, ◌<◌, ◌≤◌, ℕ, ◌⊎◌, inl, inr, List, [], length, Option, Some, Result, Ok, Err, IfOk}
use Rattle.std.proofs.Common.{IfErr, MatchResult, IsErrAnd, refl, ap, sym, subst, ◌∙◌, arith}
use Rattle.std.proofs.lemmas.Option.{none-some}
use Rattle.std.specs.Prelude.{slice_get}
use Rattle.serde_json.specs.Data.{Data}
use Rattle.ra_set.specs.Accepted.{IsSet}
use Rattle.ra_set.specs.Refusals.{Refuses}
use Rattle.ra_set.specs.declared.refused.SetRefused.{SetRefused}
use Rattle.ra_set.proofs.AnswerLemmas.{one-refusal, set-not_refused}
use Rattle.ra_patch.specs.declared.refused.PatchRefused.{PatchRefused}
use Rattle.ra_patch.specs.declared.refused.PatchRefused.TheVariants.{Bytes, NotJson, Field, Break, Set, Memory}
use Rattle.ra_patch.specs.Answers.{IsFirst, GivesSet, RefusesValue, IsDocument, Imports, RefusesRead, RefusesDocument}
use Rattle.ra_patch.specs.Faults.{faults_of}
use Rattle.ra_patch.specs.Fields.{Reads}
use Rattle.ra_patch.specs.Lines.{set_text}

-- ---- values

-- a value is refused for its first fault, or else as its set file is
data ValueCause (d : Data) (why : PatchRefused) : Type 0 where
  fault : IsFirst (faults_of d) why → ValueCause d why
  file : (cause : SetRefused) → why ≡ Set cause → faults_of d ≡ [] → Refuses (set_text d) cause → ValueCause d why

value-cause : (d : Data) (why : PatchRefused) → RefusesValue d why → ValueCause d why
value-cause d (Field list index field) r = fault r
value-cause d (Break list index) r = fault r
value-cause d (Set cause) r = file cause refl r.0 r.1
value-cause d (Bytes found) r = absurd r
value-cause d NotJson r = absurd r
value-cause d Memory r = absurd r

no-first : (faults : List PatchRefused) (why : PatchRefused) → faults ≡ [] → IsFirst faults why → ⊥
no-first faults why none first = none-some why (sym (ap (λ f. slice_get f 0) none) ∙ first)

same-value_cause : (d : Data) (a b : PatchRefused) → ValueCause d a → ValueCause d b → a ≡ b
same-value_cause d a b (fault f) (fault g) =
    let same : ◌≡◌ {A = Option PatchRefused} (Some a) (Some b) = sym f ∙ g in cc same
same-value_cause d a b (fault f) (file cause e none r) = absurd (no-first (faults_of d) a none f)
same-value_cause d a b (file cause e none r) (fault g) = absurd (no-first (faults_of d) b none g)
same-value_cause d a b (file cause e none r) (file cause' e' none' r') =
    e ∙ ap (λ c. Set c) (one-refusal (set_text d) cause cause' r r') ∙ sym e'

one-value_refusal : (d : Data) (a b : PatchRefused) → RefusesValue d a → RefusesValue d b → a ≡ b
one-value_refusal d a b x y = same-value_cause d a b (value-cause d a x) (value-cause d b y)

given-not_refused : (d : Data) (text : List ℕ) (why : PatchRefused) → GivesSet d text → RefusesValue d why → ⊥
given-not_refused d text why given r = elim (value-cause d why r) [
  | fault f ↦ no-first (faults_of d) why given.whole f
  | file cause e none refuses ↦ set-not_refused (set_text d) given.set cause
      (subst (λ t. IsSet t given.set) given.is given.accepted) refuses
]

-- ---- documents

pub same-read : (bytes : List ℕ) (d e : Data) → Reads bytes d → Reads bytes e → d ≡ e
same-read bytes d e x y = let same : ◌≡◌ {A = Option Data} (Some d) (Some e) = sym x.1 ∙ y.1 in cc same

-- a document is refused for its length, as no JSON, or as its value is
data Cause (bytes : List ℕ) (why : PatchRefused) : Type 0 where
  too_long : 16777216 < length bytes → why ≡ Bytes (length bytes) → Cause bytes why
  no_json : length bytes ≤ 16777216 → ((d : Data) → Reads bytes d → ⊥) → why ≡ NotJson → Cause bytes why
  was_read : RefusesRead bytes why → Cause bytes why

cause : (bytes : List ℕ) (why : PatchRefused) → RefusesDocument bytes why → Cause bytes why
cause bytes (Bytes found) r = too_long r.0 (ap (λ n. Bytes n) r.1)
cause bytes NotJson r = no_json r.0 r.1 refl
cause bytes (Field list index field) r = was_read r
cause bytes (Break list index) r = was_read r
cause bytes (Set why) r = was_read r
cause bytes Memory r = was_read r

same-cause : (bytes : List ℕ) (a b : PatchRefused) → Cause bytes a → Cause bytes b → a ≡ b
same-cause bytes a b (too_long l e) (too_long l' e') = e ∙ sym e'
same-cause bytes a b (too_long l e) (no_json le none e') = absurd (omega arith)
same-cause bytes a b (too_long l e) (was_read r) = absurd (let few = r.document.few in omega arith)
same-cause bytes a b (no_json le none e) (too_long l e') = absurd (omega arith)
same-cause bytes a b (no_json le none e) (no_json le' none' e') = e ∙ sym e'
same-cause bytes a b (no_json le none e) (was_read r) = absurd (none r.value r.document.reads)
same-cause bytes a b (was_read r) (too_long l e') = absurd (let few = r.document.few in omega arith)
same-cause bytes a b (was_read r) (no_json le none e') = absurd (none r.value r.document.reads)
same-cause bytes a b (was_read r) (was_read s) =
    one-value_refusal r.value a b r.refuses
    (subst (λ d. RefusesValue d b) (same-read bytes s.value r.value s.document.reads r.document.reads) s.refuses)

-- the same document is not refused for two reasons
pub one-document_refusal : (bytes : List ℕ) (a b : PatchRefused) → RefusesDocument bytes a → RefusesDocument bytes b
    → a ≡ b
one-document_refusal bytes a b x y = same-cause bytes a b (cause bytes a x) (cause bytes b y)

-- it does not give two set files
pub same-text : (bytes a b : List ℕ) → Imports bytes a → Imports bytes b → a ≡ b
same-text bytes a b x y =
    x.gives.is ∙ ap set_text (same-read bytes x.value y.value x.document.reads y.document.reads) ∙ sym y.gives.is

-- and it does not both give one and be refused
pub imported-not_refused : (bytes text : List ℕ) (why : PatchRefused) → Imports bytes text → RefusesDocument bytes why
    → ⊥
imported-not_refused bytes text why x r = elim (cause bytes why r) [
  | too_long l e ↦ let few = x.document.few in omega arith
  | no_json le none e ↦ none x.value x.document.reads
  | was_read r ↦ given-not_refused x.value text why x.gives
      (subst (λ d. RefusesValue d why) (same-read bytes r.value x.value r.document.reads x.document.reads) r.refuses)
]

-- ---- answers

-- a document that is read is refused as its value is
pub refuses-read : (bytes : List ℕ) (d : Data) (why : PatchRefused) → IsDocument bytes d → RefusesValue d why
    → RefusesDocument bytes why
refuses-read bytes d (Bytes found) document r = absurd r
refuses-read bytes d NotJson document r = absurd r
refuses-read bytes d (Field list index field) document r = record { value = d; document = document; refuses = r }
refuses-read bytes d (Break list index) document r = record { value = d; document = document; refuses = r }
refuses-read bytes d (Set why) document r = record { value = d; document = document; refuses = r }
refuses-read bytes d Memory document r = record { value = d; document = document; refuses = r }

module _ {V : Type 0} (items : V → List ℕ) (bytes : List ℕ) where
  -- what is said of a value, said of its document
  pub imported-read : (d : Data) (r : Result V PatchRefused) → IsDocument bytes d → IfOk r (λ v. GivesSet d (items v))
      → IfOk r (λ v. Imports bytes (items v))
  imported-read d (Ok v) document gives = record { value = d; document = document; gives = gives }
  imported-read d (Err why) document gives = tt

  pub refused-read : (d : Data) (r : Result V PatchRefused) → IsDocument bytes d
      → IfErr r (λ why. why ≡ Memory ⊎ RefusesValue d why)
      → IfErr r (λ why. why ≡ Memory ⊎ RefusesDocument bytes why)
  refused-read d (Ok v) document refuses = tt
  refused-read d (Err why) document (inl memory) = inl memory
  refused-read d (Err why) document (inr refuses) = inr (refuses-read bytes d why document refuses)

  -- what an answer says of a document that gives a set file
  pub answer-imported : (r : Result V PatchRefused) → IfOk r (λ v. Imports bytes (items v))
      → IfErr r (λ why. why ≡ Memory ⊎ RefusesDocument bytes why)
      → (text : List ℕ) → Imports bytes text → MatchResult r (λ v. items v ≡ text) (λ why. why ≡ Memory)
  answer-imported (Ok v) ok err text x = same-text bytes (items v) text ok x
  answer-imported (Err why) ok (inl memory) text x = memory
  answer-imported (Err why) ok (inr refuses) text x = absurd (imported-not_refused bytes text why x refuses)

  -- and of one that is refused
  pub answer-refused : (r : Result V PatchRefused) → IfOk r (λ v. Imports bytes (items v))
      → IfErr r (λ why. why ≡ Memory ⊎ RefusesDocument bytes why)
      → (why : PatchRefused) → RefusesDocument bytes why → IsErrAnd r (λ e. e ≡ Memory ⊎ e ≡ why)
  answer-refused (Ok v) ok err why r = absurd (imported-not_refused bytes (items v) why ok r)
  answer-refused (Err e) ok (inl memory) why r = inl memory
  answer-refused (Err e) ok (inr refuses) why r = inr (one-document_refusal bytes e why refuses r)
