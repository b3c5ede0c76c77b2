-- What is said of a file, by what was read of it.
use Rattle.std.proofs.Common.{◌≡◌, ◌∙◌, ◌⊎◌, inl, inr, refl, sym, ap, subst, ℕ, ◌+◌, ◌==◌, ◌||◌, Bool, true, false}
use Rattle.std.proofs.Common.{List, ◌++◌, append_assoc, take, Option, Some, None, is_some, Result, Ok, Err, IfOk}
use Rattle.std.proofs.Common.{IfSome}
use Rattle.std.proofs.lemmas.Bool.{eqb-true}
use Rattle.std.proofs.lemmas.Result.{IfOk-weaker}
use Rattle.ra_args.specs.AuthorWords.{Review, Why, Import, Help, Version}
use Rattle.ra_author_jobs.specs.Texts.{help_text, version_text}
use Rattle.ra_author_jobs.specs.Expected.{Expected, ImportSays, IsAnswer, IsOfDocument, IsOwn, ReviewSays, SaysOfBytes}
use Rattle.ra_author_jobs.specs.Expected.{SaysOfLeft, expected_of, imported, imports, is_refusal, leaves, of_bytes}
use Rattle.ra_author_jobs.specs.Expected.{prints, refuses_document, refuses_set, review_status, reviews}
use Rattle.ra_author_jobs.specs.Importing.{refused_document}
use Rattle.ra_author_jobs.proofs.OneAnswer.{one_answer, same_expected}
use Rattle.ra_jobs.specs.Outside.{AreTold}
use Rattle.ra_why_job.specs.Says.{WhySays, decided_by, is_own, is_traced}
use Rattle.ra_author_jobs.specs.declared.answer.Answer.{Answer}
use Rattle.ra_patch.specs.Answers.{document_limit}
use Rattle.ra_patch.specs.LeftAnswers.{IsLimit, LeavesDocument, LeavesNothing}
use Rattle.ra_patch.specs.declared.document_refused.DocumentRefused.{DocumentRefused}
use Rattle.ra_patch.specs.declared.document_refused.DocumentRefused.TheVariants as none
use Rattle.ra_patch.specs.declared.left_out.LeftOut.{LeftOut}
use Rattle.ra_review.specs.Reviews.{IsReview, Said, refused_line}
use Rattle.ra_set.specs.Accepted.{IsSet}
use Rattle.ra_set.specs.Contents.{SetContents}
use Rattle.ra_set.specs.Limits.{most_bytes}
use Rattle.ra_set.specs.Refusals.{Refuses}
use Rattle.ra_set.specs.declared.refused.SetRefused.{SetRefused}
use Rattle.ra_set.specs.declared.refused.SetRefused.TheVariants as set

-- a text behind which two parts were written
pub two_parts : (start a b x y : List ℕ) → x ≡ start ++ a → y ≡ x ++ b → y ≡ start ++ (a ++ b)
two_parts start a b x y p q = q ∙ ap (λ t. t ++ b) p ∙ append_assoc start a b

-- a text behind which three parts were written
pub three_parts : (start a b c x y z : List ℕ) → x ≡ start ++ a → y ≡ x ++ b → z ≡ y ++ c → z ≡ start ++ (a ++ (b ++ c))
three_parts start a b c x y z p q r = r ∙ ap (λ t. t ++ c) (two_parts start a b x y p q)
    ∙ append_assoc start (a ++ b) c ∙ ap (λ t. start ++ t) (append_assoc a b c)

told : {T : Type 0} (o : Option T) (P : T → Type 0) (x : T) → o ≡ Some x → IfSome o P → P x
told {T} o P x is h = subst (λ (o : Option T). IfSome o P) is h

-- what was said has a status of its own
own_so : (e : Expected) (a : Answer) → IsOwn e → expected_of a ≡ e → IsOwn (expected_of a)
own_so e a own is = subst IsOwn (sym is) own

module _ {E : Type 0} where
  -- a set file that is left and refused passes a limit
  pub set_says : (r : Result Answer E) (text : List ℕ) (rows : List LeftOut) (why : SetRefused)
      → why ≡ set.Memory ⊎ Refuses text why
      → IfOk r (λ a. IsLimit why) → IfOk r (λ a. expected_of a ≡ prints 3 (refused_line why))
      → IfOk r (λ a. SaysOfLeft text rows (expected_of a)) × IfOk r (λ a. IsOwn (expected_of a))
  set_says (Ok a) text rows why (inl memory) limit is = absurd (subst IsLimit memory limit)
  set_says (Ok a) text rows why (inr refuses) limit is =
      (subst (SaysOfLeft text rows) (sym is) (refuses_set why refuses), own_so _ a (inr (refl, refl)) is)
  set_says (Err e) text rows why refuses limit is = (tt, tt)

  -- and one that is accepted is put
  pub import_says : (r : Result Answer E) (text : List ℕ) (rows : List LeftOut) (s : SetContents) → IsSet text s
      → IfOk r (λ a. expected_of a ≡ imported s text rows)
      → IfOk r (λ a. SaysOfLeft text rows (expected_of a)) × IfOk r (λ a. IsOwn (expected_of a))
  import_says (Ok a) text rows s accepted is =
      (subst (SaysOfLeft text rows) (sym is) (imports s accepted), own_so _ a (inl refl) is)
  import_says (Err e) text rows s accepted is = (tt, tt)

  -- a document of which nothing is left
  pub document_says : (r : Result Answer E) (bytes : List ℕ) (why : DocumentRefused) → why
      ≡ none.Memory ⊎ LeavesNothing bytes why
      → IfOk r (λ a. IsOfDocument why) → IfOk r (λ a. expected_of a ≡ prints 10 (refused_document why))
      → IfOk r (λ a. SaysOfBytes bytes (expected_of a)) × IfOk r (λ a. IsOwn (expected_of a))
  document_says (Ok a) bytes why (inl memory) of is = absurd (subst IsOfDocument memory of)
  document_says (Ok a) bytes why (inr nothing) of is =
      (subst (SaysOfBytes bytes) (sym is) (refuses_document why nothing), own_so _ a (inr (refl, refl)) is)
  document_says (Err e) bytes why refused of is = (tt, tt)

  -- and one of which something is
  pub left_says : (r : Result Answer E) (bytes text : List ℕ) (rows : List LeftOut) → LeavesDocument bytes text rows
      → IfOk r (λ a. SaysOfLeft text rows (expected_of a)) → IfOk r (λ a. SaysOfBytes bytes (expected_of a))
  left_says (Ok a) bytes text rows left of = leaves text rows (expected_of a) left of
  left_says (Err e) bytes text rows left of = tt

-- what is said of what is read of a document is said of its file
pub file_says : (content : List ℕ → Option (List ℕ)) (name bytes : List ℕ) (e : Expected)
    → IfSome (content name) (λ all. bytes ≡ take (document_limit + 1) all)
    → SaysOfBytes bytes e → (file : List ℕ) → content name ≡ Some file → ImportSays content name e
file_says content name bytes e read of file is =
    of_bytes file e is (subst (λ b. SaysOfBytes b e) (told (content name) _ file is read) of)

-- and the review of what is read of a set
pub review_says : (content : List ℕ → Option (List ℕ)) (name bytes : List ℕ) (said : Said)
    (e : Expected) → IfSome (content name) (λ all. bytes ≡ take (most_bytes + 1) all)
    → IsReview bytes said → e ≡ prints (review_status said.refused said.limit) said.text
    → (file : List ℕ) → content name ≡ Some file → ReviewSays content name e
review_says content name bytes said e read is same file there =
    subst (ReviewSays content name) (sym same) (reviews file said there
    (subst (λ b. IsReview b said) (told (content name) _ file there read) is))

file_of : (o : Option (List ℕ)) → is_some o ≡ true → (file : List ℕ) × (o ≡ Some file)
file_of (Some file) is = (file, refl)
file_of None is = absurd (cc is)

module _ {E : Type 0} (content : List ℕ → Option (List ℕ)) where
  -- an answer by the file that a job reads
  pub review_answers : (set : List ℕ) (r : Result Answer E)
      → IfOk r (λ a. (file : List ℕ) → content set ≡ Some file → ReviewSays content set
      (expected_of a)) → IfOk r (λ a. IsAnswer content (Review set) (expected_of a))
  review_answers set (Ok a) says = record {
    said = λ names. let file = file_of (content set) names.0 in says file.0 file.1;
    one = λ other is. one_answer content (Review set) (expected_of a) other (by_file other is) is;
  }
    where
      by_file : (other : Expected) → ReviewSays content set other → ReviewSays content set (expected_of a)
      by_file other (reviews file said told is) = says file told
  review_answers set (Err e) says = tt

  pub import_answers : (file set : List ℕ) (r : Result Answer E)
      → IfOk r (λ a. (bytes : List ℕ) → content file ≡ Some bytes → ImportSays content file
      (expected_of a)) → IfOk r (λ a. IsAnswer content (Import file set) (expected_of a))
  import_answers file set (Ok a) says = record {
    said = λ names. let bytes = file_of (content file) names.0 in says bytes.0 bytes.1;
    one = λ other is. one_answer content (Import file set) (expected_of a) other (by_file other is) is;
  }
    where
      by_file : (other : Expected) → ImportSays content file other → ImportSays content file (expected_of a)
      by_file other (of_bytes bytes x told is) = says bytes told
  import_answers file set (Err e) says = tt

-- what `why` says, which reads two files
pub why_answers : (content : List ℕ → Option (List ℕ)) (set trace : List ℕ) (id status : ℕ)
    (text : List ℕ)
    → (AreTold content (decided_by set trace status) → WhySays content set trace id status text)
    → ((s : ℕ) (t : List ℕ) → WhySays content set trace id s t → (status ≡ s) × (text ≡ t))
    → IsAnswer content (Why set trace id) (prints status text)
why_answers content set trace id status text says one = record {
  said = λ names. (says names, refl);
  one = λ other is.
      let same = one other.status other.text is.0 in
      same_expected status other.status text other.text None other.saved same.0 same.1 (sym is.1);
}

-- an answer for which no file is read is handed on
unread_so : {E F : Type 0} (before : Result Answer E) (r : Result Answer F) (e : Expected) → IfOk r
    (λ a. before ≡ Ok a) → IfOk before (λ a. expected_of a ≡ e) → IfOk r (λ a. expected_of a ≡ e)
unread_so {E} before (Ok a) e same is = subst (λ (k : Result Answer E). IfOk k (λ a. expected_of a ≡ e)) same is
unread_so before (Err x) e same is = tt

module _ {E F : Type 0} (content : List ℕ → Option (List ℕ)) (before : Result Answer E)
    (r : Result Answer F) (same : IfOk r (λ a. before ≡ Ok a)) where
  pub help_answers : IfOk before (λ a. expected_of a ≡ prints 0 help_text)
      → IfOk r (λ a. IsAnswer content Help (expected_of a))
  help_answers is = IfOk-weaker r _ _ (λ a so. record
      { said = λ names. so; one = λ other says. so ∙ sym says })
      (unread_so before r (prints 0 help_text) same is)

  pub version_answers : IfOk before (λ a. expected_of a ≡ prints 0 version_text)
      → IfOk r (λ a. IsAnswer content Version (expected_of a))
  version_answers is = IfOk-weaker r _ _ (λ a so. record
      { said = λ names. so; one = λ other says. so ∙ sym says })
      (unread_so before r (prints 0 version_text) same is)

either : (a b : Bool) → (a || b) ≡ true → (a ≡ true) ⊎ (b ≡ true)
either true b is = inl refl
either false b is = inr is

-- a status of `why` is one of its own
pub why_owns : (status : ℕ) (text : List ℕ) → is_own status ≡ true → IsOwn (prints status text)
why_owns status text is = elim (either (is_traced status) _ is) [
  | inl traced ↦ elim (either (status == 0) _ traced) [
    | inl e ↦ inl (eqb-true status 0 e)
    | inr more ↦ elim (either (status == 7) _ more) [
      | inl e ↦ inr (ap is_refusal (eqb-true status 7 e), refl)
      | inr e ↦ inr (ap is_refusal (eqb-true status 8 e), refl)
    ]
  ]
  | inr more ↦ elim (either (status == 3) _ more) [
    | inl e ↦ inr (ap is_refusal (eqb-true status 3 e), refl)
    | inr e ↦ inr (ap is_refusal (eqb-true status 12 e), refl)
  ]
]
