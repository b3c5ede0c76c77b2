-- A review has status 0 exactly where its file is a set.
use Rattle.std.proofs.Common.{◌≡◌, ◌∙◌, ◌↔◌, inl, inr, ℕ, zero, suc, ◌+◌, ◌<◌, ◌≤◌, List, length, take, Option, None}
use Rattle.std.proofs.Common.{Some, refl, sym, ap, subst, arith}
use Rattle.std.proofs.lemmas.Bool.{cases_lt}
use Rattle.std.proofs.lemmas.List.{length-take-le, take_all}
use Rattle.ra_set.specs.Accepted.{IsSet}
use Rattle.ra_set.specs.Contents.{SetContents}
use Rattle.ra_set.specs.Limits.{most_bytes}
use Rattle.ra_set.specs.declared.refused.SetRefused.{SetRefused}
use Rattle.ra_review.specs.Reviews.{IsReview, Said}
use Rattle.ra_review.proofs.ReviewedSets.{reviewed_set, set_reviewed}
use Rattle.ra_author_jobs.specs.Expected.{Expected, ReviewSays, reviews, review_status}

-- the status is 0 where nothing is refused and no limit is passed
passed : (refused : ℕ) (limit : Option SetRefused) → review_status refused limit ≡ 0 → (refused ≡ 0) × (limit ≡ None)
passed zero None e = (refl, refl)
passed zero (Some why) e = absurd (cc e)
passed (suc n) limit e = absurd (cc e)

passes : (refused : ℕ) (limit : Option SetRefused) → (refused ≡ 0) × (limit ≡ None) → review_status refused limit ≡ 0
passes refused limit none = ap (λ n. review_status n limit) none.0 ∙ ap (review_status 0) none.1

-- a set is no longer than what is read of a file
cut-set : (file : List ℕ) (s : SetContents) → IsSet file s → IsSet (take (most_bytes + 1) file) s
cut-set file s h =
    let fits : length file ≤ most_bytes + 1 = (let size = h.size in omega (arith, size)) in
    subst (λ t. IsSet t s) (sym (take_all (most_bytes + 1) file fits)) h

whole-set : (file : List ℕ) (s : SetContents) → IsSet (take (most_bytes + 1) file) s → IsSet file s
whole-set file s h = elim (cases_lt most_bytes (length file)) [
  | inl long ↦ absurd (let size = h.size in let count =
      length-take-le (most_bytes + 1) file (omega (arith, long)) in omega (arith, size, count))
  | inr fits ↦ subst (λ t. IsSet t s) (take_all (most_bytes + 1) file (omega (arith, fits))) h
]

-- what is read of a file, where it is told
module _ (file : List ℕ) (said : Said) (is : IsReview (take (most_bytes + 1) file) said) where
  to-set : review_status said.refused said.limit ≡ 0 → (s : SetContents) × IsSet file s
  to-set e = let s = reviewed_set (take (most_bytes + 1) file) said is
      (passed said.refused said.limit e) in (s.0, whole-set file s.0 s.1)

  from-set : (s : SetContents) × IsSet file s → review_status said.refused said.limit ≡ 0
  from-set s = passes said.refused said.limit
      (set_reviewed (take (most_bytes + 1) file) said is (s.0, cut-set file s.0 s.1))

pub review-passes : (content : List ℕ → Option (List ℕ)) (set file : List ℕ) (e : Expected) → content set ≡ Some file
    → ReviewSays content set e → (e.status ≡ 0) ↔ ((s : SetContents) × IsSet file s)
review-passes content set file e is (reviews told said there review) =
    let same : told ≡ file = (let both : Some told ≡ Some file = sym there ∙ is in cc both) in
    let here : IsReview (take (most_bytes + 1) file) said =
    subst (λ t. IsReview (take (most_bytes + 1) t) said) same review in
    (to-set file said here, from-set file said here)
