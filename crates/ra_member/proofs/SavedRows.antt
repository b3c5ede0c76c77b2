-- Rows of a member that are put behind others, and put back.
use Rattle.std.proofs.Common.{◌≡◌, ℕ, ◌+◌, ◌*◌, List, [], ◌∷◌, ◌++◌, length, sym, ◌∙◌, ap, ap₂, append_assoc}
use Rattle.ra_text.specs.Words.{words_at}
use Rattle.ra_member.specs.declared.member.Member.{Member}
use Rattle.ra_member.specs.Members.{saved_hits, saved_numbers}
use Rattle.ra_member.specs.MemberRuns.{FitWords, PutsBehind, kept_by}
use Rattle.ra_member.proofs.Lengths.{hits_of_tests, hits_of_values, numbers_of_values, hits_row, numbers_row}
use Rattle.ra_member.proofs.Lengths.{length_hits, length_numbers}
use Rattle.ra_text.proofs.Rows.{words_row}

fit_both : (xs ys : List ℕ) → FitWords xs → FitWords ys → FitWords (xs ++ ys)
fit_both [] ys front behind = behind
fit_both (x ∷ xs) ys front behind = (front.0, fit_both xs ys front.1 behind)

-- numbers that are put behind others, one row and then another
pub behind_both : (first next last xs ys : List ℕ) → PutsBehind first next xs
    → PutsBehind next last ys → PutsBehind first last (xs ++ ys)
behind_both first next last xs ys front behind = record {
  all = behind.all ∙ ap (λ zs. zs ++ ys) front.all ∙ append_assoc first xs ys;
  fit = fit_both xs ys front.fit behind.fit;
}

-- the hits of a member, of which those of the tests and then those of the values are put back
pub hits_back : (bytes : List ℕ) (at next : ℕ) (old new : Member) → hits_of_tests new.tests.items
    ≡ words_at bytes at (length (hits_of_tests old.tests.items)) → hits_of_values new.values.items
    ≡ words_at bytes next (length (hits_of_values old.values.items)) → next
    ≡ at + 4 * length (hits_of_tests old.tests.items) → saved_hits (kept_by new)
    ≡ words_at bytes at (length (saved_hits (kept_by old)))
hits_back bytes at next old new tests values is =
    hits_row new
    ∙ ap₂ (λ xs ys. xs ++ ys) tests values
    ∙ words_row bytes at next (length (hits_of_tests old.tests.items)) (length (hits_of_values old.values.items)) is
    ∙ ap (words_at bytes at) (sym (length_hits old))

pub numbers_back : (bytes : List ℕ) (at : ℕ) (old new : Member) → numbers_of_values new.values.items
    ≡ words_at bytes at (length (numbers_of_values old.values.items)) → saved_numbers (kept_by new)
    ≡ words_at bytes at (length (saved_numbers (kept_by old)))
numbers_back bytes at old new values =
    numbers_row new ∙ values ∙ ap (words_at bytes at) (sym (length_numbers old))
