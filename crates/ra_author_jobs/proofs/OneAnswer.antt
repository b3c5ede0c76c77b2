-- A job says one thing over told files.
use Rattle.std.proofs.Common.{◌≡◌, ◌∙◌, ℕ, ◌+◌, List, take, length, Option, Some, refl, sym, ap, subst}
use Rattle.ra_args.specs.AuthorWords.{AuthorJob, Review, Why, Import, Help, Version}
use Rattle.ra_author_jobs.specs.Expected.{Expected, ImportSays, JobSays, ReviewSays, SaysOfBytes, SaysOfLeft, imported}
use Rattle.ra_author_jobs.specs.Expected.{imports, leaves, prints, refuses_document, refuses_set, review_status}
use Rattle.ra_author_jobs.specs.Expected.{reviews, of_bytes}
use Rattle.ra_author_jobs.specs.Importing.{refused_document}
use Rattle.ra_author_jobs.proofs.OneReview.{one_review}
use Rattle.ra_patch.specs.Answers.{document_limit}
use Rattle.ra_why_job.proofs.SayLemmas.{one_why}
use Rattle.ra_patch.specs.declared.left_out.LeftOut.{LeftOut}
use Rattle.ra_patch.proofs.LeftLemmas.{left-not_refused, one-left, one-refusal as one-document}
use Rattle.ra_review.specs.Reviews.{IsReview, Said, refused_line}
use Rattle.ra_set.proofs.AnswerLemmas.{one-refusal, same-set, set-not_refused}
use Rattle.ra_set.specs.Contents.{SetContents}
use Rattle.ra_set.specs.Limits.{most_bytes}

same_some : (a b : List ℕ) → ◌≡◌ {A = Option (List ℕ)} (Some a) (Some b) → a ≡ b
same_some a b e = cc e

one_of_review : (content : List ℕ → Option (List ℕ)) (set : List ℕ) (a b : Expected)
    → ReviewSays content set a → ReviewSays content set b → a ≡ b
one_of_review content set a b (reviews file s told is) (reviews file' t told' is') =
    let same = same_some file' file (sym told' ∙ told) in
    ap (λ (r : Said). prints (review_status r.refused r.limit) r.text) (one_review (take
    (most_bytes + 1) file) s t is (subst (λ f. IsReview (take (most_bytes + 1) f) t) same is'))

one_of_left : (text : List ℕ) (rows : List LeftOut) (a b : Expected) → SaysOfLeft text rows a
    → SaysOfLeft text rows b → a ≡ b
one_of_left text rows a b (refuses_set why is) (refuses_set other is') =
    ap (λ w. prints 3 (refused_line w)) (one-refusal text why other is is')
one_of_left text rows a b (refuses_set why is) (imports set is') = absurd (set-not_refused text set why is' is)
one_of_left text rows a b (imports set is) (refuses_set why is') = absurd (set-not_refused text set why is is')
one_of_left text rows a b (imports set is) (imports other is') =
    ap (λ (s : SetContents). imported s text rows) (same-set text set other is is')

one_of_bytes : (bytes : List ℕ) (a b : Expected) → SaysOfBytes bytes a → SaysOfBytes bytes b → a ≡ b
one_of_bytes bytes a b (refuses_document why is) (refuses_document other is') =
    ap (λ w. prints 10 (refused_document w)) (one-document bytes why other is is')
one_of_bytes bytes a b (refuses_document why is) (leaves text rows e left of) =
    absurd (left-not_refused bytes text rows why left is)
one_of_bytes bytes a b (leaves text rows e left of) (refuses_document why is) =
    absurd (left-not_refused bytes text rows why left is)
one_of_bytes bytes a b (leaves text rows e left of) (leaves text' rows' e' left' of') =
    let same = one-left bytes text' text rows' rows left' left in
    let there = subst (λ t. SaysOfLeft t rows' b) same.0 of' in
    one_of_left text rows a b of (subst (λ r. SaysOfLeft text r b) same.1 there)

one_of_import : (content : List ℕ → Option (List ℕ)) (file : List ℕ) (a b : Expected)
    → ImportSays content file a → ImportSays content file b → a ≡ b
one_of_import content file a b (of_bytes bytes e told is) (of_bytes bytes' e' told' is') =
    let same = same_some bytes' bytes (sym told' ∙ told) in
    one_of_bytes (take (document_limit + 1) bytes) a b is
    (subst (λ f. SaysOfBytes (take (document_limit + 1) f) b) same is')

-- what is said in the same words is the same
pub same_expected : (n m : ℕ) (s t : List ℕ) (x y : Option (List ℕ)) → n ≡ m → s ≡ t → x ≡ y
    → ◌≡◌ {A = Expected} (record { status = n; text = s; saved = x })
    (record { status = m; text = t; saved = y })
same_expected n m s t x y status text saved = (λ i. record { status = status i; text = text i; saved = saved i })

one_of_why : (content : List ℕ → Option (List ℕ)) (set trace : List ℕ) (id : ℕ) (a b : Expected)
    → JobSays content (Why set trace id) a → JobSays content (Why set trace id) b → a ≡ b
one_of_why content set trace id a b x y =
    let same = one_why content set trace id a.status b.status a.text b.text x.0 y.0 in
    same_expected a.status b.status a.text b.text a.saved b.saved same.0 same.1 (x.1 ∙ sym y.1)

-- a job says one thing
pub one_answer : (content : List ℕ → Option (List ℕ)) (job : AuthorJob) (a b : Expected)
    → JobSays content job a → JobSays content job b → a ≡ b
one_answer content (Review set) a b x y = one_of_review content set a b x y
one_answer content (Why set trace id) a b x y = one_of_why content set trace id a b x y
one_answer content (Import file set) a b x y = one_of_import content file a b x y
one_answer content Help a b x y = x ∙ sym y
one_answer content Version a b x y = x ∙ sym y
