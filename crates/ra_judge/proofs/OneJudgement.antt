-- An item has one answer: the causes of a refusal come in order, and a set file has one answer.
use Rattle.std.proofs.Common.{◌≡◌, inl, inr, ℕ, ◌+◌, ◌<◌, Option, None, Some, List, length, refl, sym, ◌∙◌, ap, arith}
use Rattle.std.proofs.Common.{length-append}
use Rattle.ra_set.specs.Limits.{most_bytes}
use Rattle.ra_set.specs.declared.refused.SetRefused.TheVariants.{Limit}
use Rattle.ra_set.specs.declared.refused.Which.TheVariants.{Bytes}
use Rattle.ra_set.proofs.AnswerLemmas.{one-refusal, set-not_refused}
use Rattle.ra_judge.specs.Judging.{IsAccepted, IsRefused, break_in, file_of, head_of, item_reason, most_for, tail_of}
use Rattle.ra_judge.specs.Reasons.{syntax_reason}
use Rattle.ra_judge.specs.declared.judging.Kind.{Kind}
use Rattle.ra_judge.specs.declared.judging.Kind.TheVariants.{Achievement, Leaderboard, Presence}
use Rattle.ra_judge.specs.declared.refusal.Refusal.{Refusal}

-- the set file of an item is as long as its parts
file_long : (kind : Kind) (text : List ℕ)
    → length (file_of kind text) ≡ length (head_of kind) + (length text + length (tail_of kind))
file_long kind text =
    length-append (head_of kind) _ ∙ ap (λ n. length (head_of kind) + n) (length-append text (tail_of kind))

-- an item that is too long makes a file that is
long_file : (kind : Kind) (text : List ℕ) → most_for kind < length text → most_bytes < length (file_of kind text)
long_file Achievement text long = omega (arith, long, file_long Achievement text)
long_file Leaderboard text long = omega (arith, long, file_long Leaderboard text)
long_file Presence text long = omega (arith, long, file_long Presence text)

-- there is one place where a text ends its line
one_break : (found : Option ℕ) (a b : ℕ) → found ≡ Some a → found ≡ Some b → a ≡ b
one_break found a b x y = cc

not_both : (found : Option ℕ) (a : ℕ) → found ≡ Some a → found ≡ None → ⊥
not_both found a x y = cc

-- an item is refused for one reason
pub one_reason : (kind : Kind) (text : List ℕ) (a b : Refusal) → IsRefused kind text a → IsRefused kind text b → a ≡ b
one_reason kind text a b (inl x) (inl y) = x.1 ∙ sym y.1
one_reason kind text a b (inl x) (inr y) = absurd (omega (arith, x.0, y.0))
one_reason kind text a b (inr x) (inl y) = absurd (omega (arith, x.0, y.0))
one_reason kind text a b (inr (fits, inl x)) (inr (fits_too, inl y)) =
    x.2 ∙ ap (syntax_reason text) (one_break (break_in kind text) x.0 y.0 x.1 y.1) ∙ sym y.2
one_reason kind text a b (inr (fits, inl x)) (inr (fits_too, inr y)) =
    absurd (not_both (break_in kind text) x.0 x.1 y.0)
one_reason kind text a b (inr (fits, inr x)) (inr (fits_too, inl y)) =
    absurd (not_both (break_in kind text) y.0 y.1 x.0)
one_reason kind text a b (inr (fits, inr x)) (inr (fits_too, inr y)) =
    x.1.2 ∙ ap (item_reason kind text) (one-refusal (file_of kind text) x.1.0 y.1.0 x.1.1 y.1.1) ∙ sym y.1.2

-- an item that is accepted is not refused
pub accepted_alone : (kind : Kind) (text : List ℕ) (why : Refusal) → IsAccepted kind text → IsRefused kind text why → ⊥
accepted_alone kind text why is (inl x) =
    set-not_refused (file_of kind text) is.set (Limit Bytes (length (file_of kind text))) is.is
    (long_file kind text x.0, refl)
accepted_alone kind text why is (inr (fits, inl x)) = not_both (break_in kind text) x.0 x.1 is.whole
accepted_alone kind text why is (inr (fits, inr x)) =
    set-not_refused (file_of kind text) is.set x.1.0 is.is x.1.1
