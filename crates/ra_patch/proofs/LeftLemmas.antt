-- A document has one answer where something is left of it.
use Rattle.std.proofs.Common.{◌≡◌, ◌∙◌, ℕ, ◌+◌, ◌<◌, ◌≤◌, ◌⊎◌, inl, inr, List, [], length, Option, Some, None, Result}
use Rattle.std.proofs.Common.{Ok, Err, IfOk, IfErr, MatchResult, IsErrAnd, refl, sym, ap, subst, arith}
use Rattle.serde_json.specs.Data.{Data}
use Rattle.ra_patch.specs.declared.document_refused.DocumentRefused.{DocumentRefused}
use Rattle.ra_patch.specs.declared.document_refused.DocumentRefused.TheVariants.{Bytes, NotJson, Root, Memory}
use Rattle.ra_patch.specs.declared.document_refused.RootField.{RootField}
use Rattle.ra_patch.specs.declared.left_out.LeftOut.{LeftOut}
use Rattle.ra_patch.specs.Answers.{Imports, IsDocument}
use Rattle.ra_patch.specs.Fields.{Reads}
use Rattle.ra_patch.specs.LeftAnswers.{HasOwnLists, KeepsGrammar, LeavesDocument, LeavesFew, LeavesNothing}
use Rattle.ra_patch.specs.LeftAnswers.{LeavesOfficial, LeavesValue, LeavesWanted}
use Rattle.ra_patch.specs.Official.{unofficial_among}
use Rattle.ra_patch.specs.Patches.{items_in, wrong_field}
use Rattle.ra_patch.specs.declared.item_kind.ItemKind.TheVariants.{Achievement}
use Rattle.ra_patch.specs.declared.scope.Scope.{Scope}
use Rattle.ra_patch.specs.declared.scope.Scope.TheVariants.{All, Official}
use Rattle.ra_patch.proofs.AnswerLemmas.{same-read}
use Rattle.ra_patch.proofs.KeptLemmas.{kept-grammar}
use Rattle.ra_patch.proofs.LeavingLemmas.{one-lists}
use Rattle.ra_patch.proofs.WholeLemmas.{left-imported}
use Rattle.ra_set.specs.Accepted.{IsSet}
use Rattle.ra_set.specs.Contents.{SetContents}

-- why nothing is left: its length, no JSON, or no patch
data Cause (bytes : List ℕ) (why : DocumentRefused) : Type 0 where
  too_long : 16777216 < length bytes → why ≡ Bytes (length bytes) → Cause bytes why
  no_json : length bytes ≤ 16777216 → ((d : Data) → Reads bytes d → ⊥) → why ≡ NotJson → Cause bytes why
  no_patch : (field : RootField) (d : Data) → IsDocument bytes d → wrong_field d ≡ Some field → why ≡ Root field
      → Cause bytes why

cause : (bytes : List ℕ) (why : DocumentRefused) → LeavesNothing bytes why → Cause bytes why
cause bytes (Bytes found) r = too_long r.0 (ap (λ n. Bytes n) r.1)
cause bytes NotJson r = no_json r.0 r.1 refl
cause bytes (Root field) r = no_patch field r.0 r.1 r.2 refl
cause bytes Memory r = absurd r

same-cause : (bytes : List ℕ) (a b : DocumentRefused) → Cause bytes a → Cause bytes b → a ≡ b
same-cause bytes a b (too_long l e) (too_long l' e') = e ∙ sym e'
same-cause bytes a b (too_long l e) (no_json le none e') = absurd (omega arith)
same-cause bytes a b (too_long l e) (no_patch field d document w e') = absurd (let few = document.few in omega arith)
same-cause bytes a b (no_json le none e) (too_long l e') = absurd (omega arith)
same-cause bytes a b (no_json le none e) (no_json le' none' e') = e ∙ sym e'
same-cause bytes a b (no_json le none e) (no_patch field d document w e') = absurd (none d document.reads)
same-cause bytes a b (no_patch field d document w e) (too_long l e') = absurd (let few = document.few in omega arith)
same-cause bytes a b (no_patch field d document w e) (no_json le none e') = absurd (none d document.reads)
same-cause bytes a b (no_patch field d document w e) (no_patch field' d' document' w' e') =
    let read = same-read bytes d d' document.reads document'.reads in
    let one : ◌≡◌ {A = Option RootField} (Some field) (Some field') = sym w ∙ ap wrong_field read ∙ w' in
    let same : field ≡ field' = cc one in e ∙ ap (λ f. Root f) same ∙ sym e'

-- nothing is left for one reason
pub one-refusal : (bytes : List ℕ) (a b : DocumentRefused) → LeavesNothing bytes a → LeavesNothing bytes b → a ≡ b
one-refusal bytes a b x y = same-cause bytes a b (cause bytes a x) (cause bytes b y)

-- one set file is left, and the same is left out
pub one-left : (bytes text text' : List ℕ) (out out' : List LeftOut) → LeavesDocument bytes text out
    → LeavesDocument bytes text' out'
    → (text ≡ text') × (out ≡ out')
one-left bytes text text' out out' x y =
    let read = same-read bytes y.value x.value y.document.reads x.document.reads in
    let there : LeavesValue x.value text' out' = subst (λ d. LeavesValue d text' out') read y.leaves in
    one-lists _ _ _ text text' out out' x.leaves.lists there.lists

-- the same without the unofficial achievements
pub one-official : (bytes text text' : List ℕ) (out out' : ℕ) → LeavesOfficial bytes text out
    → LeavesOfficial bytes text' out'
    → (text ≡ text') × (out ≡ out')
one-official bytes text text' out out' x y =
    let read = same-read bytes y.value x.value y.document.reads x.document.reads in
    let there : LeavesFew x.value text' out' = subst (λ d. LeavesFew d text' out') read y.leaves in
    let one = one-lists _ _ _ text text' x.leaves.rows there.rows x.leaves.leaves.lists there.leaves.lists in (
      one.0,
      x.leaves.counted ∙ ap (λ rows. length rows + unofficial_among (items_in Achievement x.value)) one.1
          ∙ sym there.counted,
    )

-- a document with this value, which has a patch, is not refused
whole-not_refused : (bytes : List ℕ) (value : Data) (why : DocumentRefused) → IsDocument bytes value
    → wrong_field value ≡ None
    → LeavesNothing bytes why → ⊥
whole-not_refused bytes value why document whole r = elim (cause bytes why r) [
  | too_long l e ↦ let few = document.few in omega arith
  | no_json le none e ↦ none value document.reads
  | no_patch field d other w e ↦
      let read = same-read bytes d value other.reads document.reads in
      let none : wrong_field d ≡ None = ap wrong_field read ∙ whole in cc (w, none)
]

-- so where something is left nothing is refused
pub left-not_refused : (bytes text : List ℕ) (out : List LeftOut) (why : DocumentRefused)
    → LeavesDocument bytes text out
    → LeavesNothing bytes why → ⊥
left-not_refused bytes text out why x r = whole-not_refused bytes x.value why x.document x.leaves.whole r

pub official-not_refused : (bytes text : List ℕ) (out : ℕ) (why : DocumentRefused) → LeavesOfficial bytes text out
    → LeavesNothing bytes why → ⊥
official-not_refused bytes text out why x r = whole-not_refused bytes x.value why x.document x.leaves.leaves.whole r

-- ---- answers

-- what an answer says, where one thing alone is left of the document and then it is not refused
module _ {V R : Type 0} (text_of : V → List ℕ) (rest_of : V → R) (bytes : List ℕ) (IsLeft : List ℕ → R → Type 0)
    (one : (t t' : List ℕ) (r r' : R) → IsLeft t r → IsLeft t' r' → (t ≡ t') × (r ≡ r'))
    (not_refused : (t : List ℕ) (r : R) (why : DocumentRefused) → IsLeft t r → LeavesNothing bytes why → ⊥) where
  -- of a document of which this is left
  pub answer-left : (r : Result V DocumentRefused) → IfOk r (λ v. IsLeft (text_of v) (rest_of v))
      → IfErr r (λ why. why ≡ Memory ⊎ LeavesNothing bytes why) → (text : List ℕ) (rest : R) → IsLeft text rest
      → MatchResult r (λ v. (text_of v ≡ text) × (rest_of v ≡ rest)) (λ why. why ≡ Memory)
  answer-left (Ok v) ok err text rest x = one (text_of v) text (rest_of v) rest ok x
  answer-left (Err why) ok (inl memory) text rest x = memory
  answer-left (Err why) ok (inr refuses) text rest x = absurd (not_refused text rest why x refuses)

  -- and of one of which nothing is left
  pub answer-refused : (r : Result V DocumentRefused) → IfOk r (λ v. IsLeft (text_of v) (rest_of v))
      → IfErr r (λ why. why ≡ Memory ⊎ LeavesNothing bytes why) → (why : DocumentRefused) → LeavesNothing bytes why
      → IsErrAnd r (λ e. e ≡ Memory ⊎ e ≡ why)
  answer-refused (Ok v) ok err why r = absurd (not_refused (text_of v) (rest_of v) why ok r)
  answer-refused (Err e) ok (inl memory) why r = inl memory
  answer-refused (Err e) ok (inr refuses) why r = inr (one-refusal bytes e why refuses r)

-- nothing is left of a document as nothing is left of its value
pub refused-read : {V : Type 0} (bytes : List ℕ) (d : Data) (r : Result V DocumentRefused) → IsDocument bytes d
    → IfErr r (λ why. why ≡ Memory ⊎ ((field : RootField) × (why ≡ Root field) × (wrong_field d ≡ Some field)))
    → IfErr r (λ why. why ≡ Memory ⊎ LeavesNothing bytes why)
refused-read bytes d (Ok v) document refuses = tt
refused-read bytes d (Err why) document (inl memory) = inl memory
refused-read bytes d (Err why) document (inr r) = inr (subst (LeavesNothing bytes) (sym r.1) (d, document, r.2))

-- what is left is refused for nothing but a limit
pub wanted-accepted : (scope : Scope) (d : Data) (text : List ℕ) (out : List LeftOut)
    → LeavesWanted scope d text out
    → KeepsGrammar text
wanted-accepted scope d text out leaves = kept-grammar _ _ _ text out leaves.lists

-- what is said of a value, said of its document
pub official-read : {V : Type 0} (items : V → List ℕ) (many : V → ℕ) (bytes : List ℕ) (d : Data)
    (r : Result V DocumentRefused)
    → IsDocument bytes d → IfOk r (λ v. LeavesFew d (items v) (many v))
    → IfOk r (λ v. LeavesOfficial bytes (items v) (many v))
official-read items many bytes d (Ok v) document leaves = record { value = d; document = document; leaves = leaves }
official-read items many bytes d (Err why) document leaves = tt

pub official-accepted : {V : Type 0} (items : V → List ℕ) (many : V → ℕ) (d : Data) (r : Result V DocumentRefused)
    → IfOk r (λ v. LeavesFew d (items v) (many v))
    → IfOk r (λ v. KeepsGrammar (items v))
official-accepted items many d (Ok v) leaves = wanted-accepted Official d (items v) leaves.rows leaves.leaves
official-accepted items many d (Err why) leaves = tt

module _ {V : Type 0} (items : V → List ℕ) (rows : V → List LeftOut) (bytes : List ℕ) where
  -- what is said of a value, said of its document
  pub left-read : (d : Data) (r : Result V DocumentRefused) → IsDocument bytes d
      → IfOk r (λ v. LeavesValue d (items v) (rows v))
      → IfOk r (λ v. LeavesDocument bytes (items v) (rows v))
  left-read d (Ok v) document leaves = record { value = d; document = document; leaves = leaves }
  left-read d (Err why) document leaves = tt

  pub answer-accepted : (d : Data) (r : Result V DocumentRefused) → IfOk r (λ v. LeavesValue d (items v) (rows v))
      → IfOk r (λ v. KeepsGrammar (items v))
  answer-accepted d (Ok v) leaves = wanted-accepted All d (items v) (rows v) leaves
  answer-accepted d (Err why) leaves = tt

  -- where nothing is left out the document gives the set file
  pub answer-whole : (r : Result V DocumentRefused) → IfOk r (λ v. LeavesDocument bytes (items v) (rows v))
      → IfOk r (λ v. rows v ≡ [] → HasOwnLists bytes → (set : SetContents) → IsSet (items v) set
      → Imports bytes (items v))
  answer-whole (Ok v) leaves = left-imported bytes (items v) (rows v) leaves
  answer-whole (Err why) leaves = tt
