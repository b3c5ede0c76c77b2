-- Numbers of bytes that stand in one part of a row.
use Rattle.std.proofs.Common.{◌≡◌, ℕ, zero, suc, [], ◌+◌, ◌-◌, ◌*◌, ◌<◌, ◌≤◌, inl, inr, List, ◌++◌, drop, length}
use Rattle.std.proofs.Common.{get_or, refl, ap₂, ap, ◌∙◌, sym, arith}
use Rattle.std.proofs.Math.ListN.{get_or-append}
use Rattle.std.proofs.Math.Seq.{get_or-append_right}
use Rattle.std.proofs.lemmas.List.{append_assoc, length-append, at_drop_more}
use Rattle.ra_memory.specs.Image.{raw, IsReadWidth}
use Rattle.ra_banks.specs.declared.bank.Bank.{Bank}
use Rattle.ra_banks.specs.Banks.{bytes_of, IsPart}

-- in the first part
pub raw-append_left : (width : ℕ) (xs ys : List ℕ) (at : ℕ) → at + width ≤ length xs
    → raw width (xs ++ ys) at ≡ raw width xs at
raw-append_left zero xs ys at within = refl
raw-append_left (suc width) xs ys at within =
    ap₂ (λ b r. b + 256 * r) (get_or-append xs ys 0 at (omega (arith, within)))
    (raw-append_left width xs ys (suc at) (omega (arith, within)))

-- past the first part
pub raw-append_right : (width : ℕ) (xs ys : List ℕ) (at : ℕ) → length xs ≤ at
    → raw width (xs ++ ys) at ≡ raw width ys (at - length xs)
raw-append_right zero xs ys at past = refl
raw-append_right (suc width) xs ys at past =
    let e : suc at - length xs ≡ suc (at - length xs) = omega (arith, past) in
    ap₂ (λ b r. b + 256 * r) (get_or-append_right xs ys at 0 past)
    (raw-append_right width xs ys (suc at) (omega (arith, past)) ∙ ap (raw width ys) e)

-- the number of bytes that stand in a part
pub raw-part : (width : ℕ) (all here after : List ℕ) (start at : ℕ) → IsPart all here after start
    → start ≤ at → at - start + width ≤ length here → raw width all at ≡ raw width here (at - start)
raw-part width all here after start at part from within =
    ap (λ xs. raw width xs at) part.all_is
    ∙ raw-append_right width part.before (here ++ after) at (omega (arith, from, part.start_is))
    ∙ ap (λ n. raw width (here ++ after) (at - n)) part.start_is
    ∙ raw-append_left width here after (at - start) within

-- what is left of an address behind the first banks, of which these bytes are the others'
pub record AreLeft (all rest : List ℕ) (at left : ℕ) : Type 0 where
  pub before : List ℕ
  pub all_is : all ≡ before ++ rest
  pub left_is : length before + left ≡ at

module _ (banks : List Bank) (i : ℕ) (d : Bank) (below : i < length banks) (all : List ℕ)
    (at left : ℕ) (are : AreLeft all (bytes_of (drop i banks)) at left) where
  -- this bank and those behind it
  split : all ≡ are.before ++ ((get_or banks i d).bytes.now ++ bytes_of (drop (i + 1) banks))
  split = are.all_is ∙ ap (λ ys. are.before ++ ys) (at_drop_more bytes_of banks i d below)

  -- past one bank
  pub left_more : length (get_or banks i d).bytes.now ≤ left
      → AreLeft all (bytes_of (drop (i + 1) banks)) at (left - length (get_or banks i d).bytes.now)
  left_more past = record {
    before = are.before ++ (get_or banks i d).bytes.now;
    all_is = split ∙ sym (append_assoc are.before (get_or banks i d).bytes.now (bytes_of (drop (i + 1) banks)));
    left_is = omega (arith, length-append are.before (get_or banks i d).bytes.now, past, are.left_is);
  }

  -- in this bank
  pub left_part : IsPart all (get_or banks i d).bytes.now (bytes_of (drop (i + 1) banks)) (at - left)
  left_part = record {
    before = are.before;
    all_is = split;
    start_is = omega (arith, are.left_is);
  }

-- a part of the last bytes is a part of all
pub part_of_last : (all last here after : List ℕ) (start from : ℕ) → IsPart all [] last start
    → IsPart last here after from → IsPart all here after (start + from)
part_of_last all last here after start from outer inner = record {
  before = outer.before ++ inner.before;
  all_is = outer.all_is ∙ ap (λ xs. outer.before ++ xs) inner.all_is
      ∙ sym (append_assoc outer.before inner.before (here ++ after));
  start_is = omega (arith, length-append outer.before inner.before, outer.start_is, inner.start_is);
}

-- all bytes are the last of them from the first on, and those after a part are
pub part_first : (all : List ℕ) → IsPart all [] all 0
part_first all = record { before = []; all_is = refl; start_is = refl }

pub part_after : (all here after : List ℕ) (start : ℕ) → IsPart all here after start
    → IsPart all [] after (start + length here)
part_after all here after start part = record {
  before = part.before ++ here;
  all_is = part.all_is ∙ sym (append_assoc part.before here after);
  start_is = omega (arith, length-append part.before here, part.start_is);
}

-- a read takes four bytes at most
pub at_most_four : (width : ℕ) → IsReadWidth width → width ≤ 4
at_most_four width (inl one) = omega (arith, one)
at_most_four width (inr (inl two)) = omega (arith, two)
at_most_four width (inr (inr four)) = omega (arith, four)
