-- Lines of conditions and groups, one more, and the width of columns.
use Rattle.std.proofs.Common.{◌≡◌, ℕ, suc, ◌+◌, ◌*◌, ◌^◌, ◌<◌, ◌≤◌, List, [], ◌∷◌, ◌++◌, inl, inr, append_assoc, sym}
use Rattle.std.proofs.Common.{ap, ◌∙◌, arith}
use Rattle.std.specs.List.{flat_map, range_with_len}
use Rattle.std.proofs.lemmas.Bool.{cases_eq}
use Rattle.std.proofs.lemmas.List.{append-nil}
use Rattle.std.proofs.lemmas.List.Concat.{flat_map-append}
use Rattle.ra_condition.proofs.Passes.{range_more}
use Rattle.ra_account.specs.Marks.{width_of}
use Rattle.ra_account.proofs.ToldLemmas.{one_width, width_is}

-- the lines of places up to one, and of that one
pub lines_more : (f : ℕ → List ℕ) (n : ℕ)
    → flat_map f (range_with_len 0 (n + 1)) ≡ flat_map f (range_with_len 0 n) ++ f n
lines_more f n =
    (let next : n + 1 ≡ suc n = omega arith in ap (λ k. flat_map f (range_with_len 0 k)) next)
    ∙ ap (flat_map f) (range_more 0 n)
    ∙ flat_map-append f (range_with_len 0 n) ((0 + n) ∷ [])
    ∙ ap (λ ys. flat_map f (range_with_len 0 n) ++ ys)
    (append-nil (f (0 + n)) ∙ (let same : 0 + n ≡ n = omega arith in ap f same))

-- a text of four parts, of which two are there first
pub four_parts : (a b c d start more all : List ℕ) → start ≡ a ++ b → more ≡ start ++ c → all ≡ more ++ d
    → all ≡ ((a ++ b) ++ c) ++ d
four_parts a b c d start more all first second third = third ∙ ap (λ xs. xs ++ d) (second ∙ ap (λ xs. xs ++ c) first)

-- a text with the lines of one place more
pub text_more : (start old new : List ℕ) (f : ℕ → List ℕ) (n : ℕ) → old ≡ start ++ flat_map f (range_with_len 0 n)
    → new ≡ old ++ f n → new ≡ start ++ flat_map f (range_with_len 0 (n + 1))
text_more start old new f n known more =
    more ∙ ap (λ xs. xs ++ f n) known ∙ append_assoc start (flat_map f (range_with_len 0 n)) (f n)
    ∙ ap (λ ys. start ++ ys) (sym (lines_more f n))

-- a power of two with which sixty columns have too little room, or just enough
pub record IsSoFar (frames width : ℕ) : Type 0 where
  pub exponent : ℕ
  pub power : width ≡ 2 ^ exponent
  pub least : (e : ℕ) → frames ≤ 60 * 2 ^ e → exponent ≤ e

pub one_so_far : (frames : ℕ) → IsSoFar frames 1
one_so_far frames = record { exponent = 0; power = omega arith; least = λ e fits. omega arith }

pub twice_so_far : (frames width : ℕ) → IsSoFar frames width → width * 60 < frames → IsSoFar frames (width * 2)
twice_so_far frames width known little = record {
  exponent = suc known.exponent;
  power = (let power = known.power in omega arith);
  least = λ e fits. elim (cases_eq e known.exponent) [
    | inl same ↦ (let again : 2 ^ e ≡ width =
        ap (λ k. 2 ^ k) same ∙ sym known.power in omega (arith, again, little, fits))
    | inr other ↦ (let from = known.least e fits in omega (arith, from, other))
  ];
}

pub enough_so_far : (frames width : ℕ) → IsSoFar frames width → frames ≤ width * 60 → width ≡ width_of frames
enough_so_far frames width known enough =
    one_width frames width (width_of frames)
    (record { exponent = known.exponent; power = known.power; enough = omega (arith, enough); least = known.least })
    (width_is frames)
