-- Going through a row of flags, part by part.
use Rattle.std.proofs.Common.{◌≡◌, ℕ, ◌+◌, ◌-◌, ◌*◌, ◌/◌, ◌%◌, ◌^◌, ◌<◌, ◌≤◌, inl, inr, Bool, true, false, List, length}
use Rattle.std.proofs.Common.{get_or, set, replicate, refl, ap, sym, ◌∙◌, arith, div-le_self, w64}
use Rattle.std.proofs.lemmas.List.{get_or-replicate, get_or-set_same, get_or-set_other, length-replicate, length-set}
use Rattle.std.proofs.lemmas.Bool.{cases_eq, cases_lt, false≢true}
use Rattle.std.proofs.lemmas.Nat.{shr-shr}
use Rattle.std.proofs.lemmas.Nat.Bits.{bit_at-trailing_zeros, bit_at-zero, bit_at_above, bit_at_ones}
use Rattle.std.specs.Int.{bit_at, trailing_zeros}
use Rattle.ra_memref.specs.Flags.{AreBlocked, AreWorded, FillsBetween, NoneSet, SetsBetween}

-- none is set up to a place, and none from there on
pub none_further : (flags : List Bool) (from at to : ℕ) → NoneSet flags from at → NoneSet flags at to
    → NoneSet flags from to
none_further flags from at to before behind = λ k low high. elim (cases_lt k at) [
  | inl less ↦ before k low less
  | inr more ↦ behind k more high
]

-- none is set up to a block, where no block before it is
pub none_to_block : (flags blocks : List Bool) → AreBlocked flags blocks → (from at block there : ℕ)
    → there ≤ length flags
    → NoneSet flags from at → NoneSet blocks (at / 64) block → ((k : ℕ) → at ≤ k → k < there → k < 64 * block)
    → NoneSet flags from there
none_to_block flags blocks blocked from at block there within before none below =
    none_further flags from at there before (λ k low high. by_flag k low high (get_or flags k true) refl)
  where
    by_flag : (k : ℕ) → at ≤ k → k < there → (flag : Bool) → get_or flags k true ≡ flag → get_or flags k true ≡ false
    by_flag k low high false is = is
    by_flag k low high true is =
        let under : k < 64 * block = below k low high in
        let after : at / 64 ≤ k / 64 = omega (arith, low) in
        let before : k / 64 < block = omega (arith, under) in
        absurd (false≢true (sym (none (k / 64) after before)
        ∙ blocked.covered k (omega (arith, high, within)) is))

-- a block in which none was found from a place on is one without where the place is not behind its start
pub block_gone : (flags blocks : List Bool) → AreBlocked flags blocks → (block at end : ℕ) → block < length blocks
    → NoneSet flags at end → ((k : ℕ) → k < length flags → k / 64 ≡ block → k < end) → (flag : Bool)
    → (flag ≡ false → at ≤ block * 64) → AreBlocked flags (set blocks block flag)
block_gone flags blocks blocked block at end inside none whole flag from = record {
  enough = omega (arith, blocked.enough, length-set blocks block flag);
  covered = λ k below is. elim (cases_eq (k / 64) block) [
    | inl here ↦
        ap (λ i. get_or (set blocks block flag) i true) here ∙ get_or-set_same blocks block flag true inside
        ∙ by_flag k below is here flag refl
    | inr apart ↦ get_or-set_other blocks block (k / 64) flag true apart ∙ blocked.covered k below is
  ];
}
  where
    by_flag : (k : ℕ) → k < length flags → get_or flags k true ≡ true → k / 64 ≡ block → (b : Bool)
        → flag ≡ b → b ≡ true
    by_flag k below is here true same = refl
    by_flag k below is here false same =
        let after : at ≤ k = omega (arith, from same, here) in
        absurd (false≢true (sym (none k after (whole k below here)) ∙ is))

-- no flag from a place on is set, and those before it are what they were, where the flags from there up
-- to another were taken back
pub record AreCleared (old new : List Bool) (from at : ℕ) : Type 0 where
  pub long : length new ≡ length old
  pub before : (k : ℕ) → k < from → get_or new k true ≡ get_or old k true
  pub none : NoneSet new from at

pub cleared_none : (flags : List Bool) (from : ℕ) → AreCleared flags flags from from
cleared_none flags from = record {
  long = refl;
  before = λ k low. refl;
  none = λ k low high. absurd (omega (arith, low, high));
}

pub cleared_more : (old new : List Bool) (from at : ℕ) → from ≤ at → at < length new → AreCleared old new from at
    → AreCleared old (set new at false) from (at + 1)
cleared_more old new from at after below are = record {
  long = length-set new at false ∙ are.long;
  before = λ k low. get_or-set_other new at k false true (λ same. absurd (omega (arith, same, low, after)))
      ∙ are.before k low;
  none = λ k low high. elim (cases_eq k at) [
    | inl here ↦ ap (λ i. get_or (set new at false) i true) here ∙ get_or-set_same new at false true below
    | inr apart ↦ get_or-set_other new at k false true apart ∙ are.none k low (omega (arith, high, apart))
  ];
}

-- and its words, of which those that lie past the place may be taken back too
pub cleared_worded : (old new : List Bool) (words left : List ℕ) (from first : ℕ) → AreCleared old new from (length old)
    → AreWorded old words → length left ≡ length words → from ≤ 64 * first
    → ((k : ℕ) → k < first → get_or left k 0 ≡ get_or words k 0) → AreWorded new left
cleared_worded old new words left from first are worded long past before = record {
  enough = omega (arith, worded.enough, are.long, long);
  covered = λ k below is. elim (cases_lt k from) [
    | inl low ↦
        let there : k / 64 < first = omega (arith, low, past) in
        ap (λ w. bit_at w (k % 64)) (before (k / 64) there)
        ∙ worded.covered k (omega (arith, below, are.long)) (sym (are.before k low) ∙ is)
    | inr beyond ↦ absurd (false≢true (sym (are.none k beyond (omega (arith, below, are.long))) ∙ is))
  ];
}

-- words with all bits cover every row that they are enough for
pub worded_full : (flags : List Bool) (words : List ℕ) (count : ℕ) → words ≡ replicate count (2 ^ 64 - 1)
    → length flags < 64 * count → AreWorded flags words
worded_full flags words count are enough = record {
  enough = omega (arith, enough, ap length are ∙ length-replicate count (2 ^ 64 - 1));
  covered = λ k below is. ap (λ all. bit_at (get_or all (k / 64) 0) (k % 64)) are
      ∙ ap (λ word. bit_at word (k % 64)) (get_or-replicate count (k / 64) (2 ^ 64 - 1) 0
      (omega (arith, below, enough)))
      ∙ bit_at_ones 64 (k % 64) (omega arith);
}

-- a bit of a word that is cut is one further up
pub bit_further : (word from k : ℕ) → from ≤ k → bit_at word k ≡ bit_at (word / 2 ^ from) (k - from)
bit_further word from k low =
    let there : from + (k - from) ≡ k = omega (arith, low) in
    sym (ap (λ x. x % 2) (shr-shr word from (k - from)) ∙ ap (bit_at word) there)

-- no bit of a word from one on is set where the word that is cut there is 0
pub none_from_bit : (word from : ℕ) → word / 2 ^ from ≡ 0 → (k : ℕ) → from ≤ k → bit_at word k ≡ 0
none_from_bit word from gone k low =
    bit_further word from k low ∙ ap (λ w. bit_at w (k - from)) gone ∙ bit_at-zero (k - from)

-- the first bit of a word from one on is the lowest of the word that is cut there
pub first_bit : (word from : ℕ) → word < 2 ^ 64 → 0 < word / 2 ^ from
    → (from + trailing_zeros w64 (word / 2 ^ from) ≤ 64)
    × ((k : ℕ) → from ≤ k → k < from + trailing_zeros w64 (word / 2 ^ from) → bit_at word k ≡ 0)
first_bit word from fits some =
    let rest : ℕ = word / 2 ^ from in
    let lowest = bit_at-trailing_zeros w64 rest some (omega (arith, fits, div-le_self word (2 ^ from))) in
    let at : ℕ = from + trailing_zeros w64 rest in (
      elim (cases_lt at 65) [
        | inl within ↦ omega (arith, within)
        | inr past ↦ absurd (omega (
          arith,
          lowest.1,
          bit_at_above word 64 at fits (omega (arith, past)),
          bit_further word from at (omega arith) ∙ ap (bit_at rest) (back from (trailing_zeros w64 rest)),
        ))
      ],
      λ k low high. bit_further word from k low ∙ lowest.2 (k - from) (omega (arith, low, high)),
    )
  where
    back : (a b : ℕ) → a + b - a ≡ b
    back a b = omega arith

-- the words of flags of which some in a row are set, and these words are full
pub worded_between : (old new : List Bool) (words left : List ℕ) (from to : ℕ) → from < to → SetsBetween from to old new
    → FillsBetween (from / 64) ((to - 1) / 64 + 1) words left → AreWorded old words → AreWorded new left
worded_between old new words left from to some sets fills worded = record {
  enough = omega (arith, worded.enough, sets.long, fills.long);
  covered = λ k below is. elim (cases_lt (k / 64) (from / 64)) [
    | inl low ↦ ap (λ w. bit_at w (k % 64)) (fills.before (k / 64) low)
        ∙ worded.covered k (omega (arith, below, sets.long)) (sym (sets.before k (omega (arith, low))) ∙ is)
    | inr high ↦ elim (cases_lt (k / 64) ((to - 1) / 64 + 1)) [
      | inl within ↦ ap (λ w. bit_at w (k % 64)) (fills.full (k / 64) high within)
          ∙ bit_at_ones 64 (k % 64) (omega arith)
      | inr past ↦ ap (λ w. bit_at w (k % 64)) (fills.after (k / 64) past)
          ∙ worded.covered k (omega (arith, below, sets.long)) (sym (sets.after k (omega (arith, past, some))) ∙ is)
    ]
  ];
}

-- and the blocks in which they stand
pub blocked_between : (old new blocks left : List Bool) (from to : ℕ) → from < to → SetsBetween from to old new
    → SetsBetween (from / 64) ((to - 1) / 64 + 1) blocks left → AreBlocked old blocks → AreBlocked new left
blocked_between old new blocks left from to some sets fills blocked = record {
  enough = omega (arith, blocked.enough, sets.long, fills.long);
  covered = λ k below is. elim (cases_lt (k / 64) (from / 64)) [
    | inl low ↦ fills.before (k / 64) low
        ∙ blocked.covered k (omega (arith, below, sets.long)) (sym (sets.before k (omega (arith, low))) ∙ is)
    | inr high ↦ elim (cases_lt (k / 64) ((to - 1) / 64 + 1)) [
      | inl within ↦ fills.set_there (k / 64) high within
      | inr past ↦ fills.after (k / 64) past
          ∙ blocked.covered k (omega (arith, below, sets.long)) (sym (sets.after k (omega (arith, past, some))) ∙ is)
    ]
  ];
}
