-- How a file is cut into lines, from the first one on.
use Rattle.std.proofs.Common.{◌≡◌, ◌∙◌, ℕ, zero, suc, ◌-◌, ◌<◌, ◌≤◌, ◌==◌, Bool, true, false, cond, if◌then◌else◌, List}
use Rattle.std.proofs.Common.{[], ◌∷◌, ◌++◌, length, take, drop, map, filter, get_or, Option, Some, None, option_map}
use Rattle.std.proofs.Common.{unwrap_or, Bor, refl, sym, ap, arith, le_refl, take_all, append-nil, append_assoc}
use Rattle.std.proofs.Common.{eqb-true}
use Rattle.std.proofs.lemmas.Bool.{false_from_ne_true}
use Rattle.md5.specs.Md5.{md5}
use Rattle.memchr.specs.Find.{IsFirstByte, is_byte}
use Rattle.ra_set.specs.Texts.{FirstLine, with_byte, first_line, without_return, text_of, is_item, is_script}
use Rattle.ra_set.specs.Texts.{lines_from, cut_file, item_texts, script_text}

-- ---- the first line

-- what stands behind the LF at the beginning of a text, where it has one
abbrev pub behind_end : List ℕ → Option (List ℕ)
behind_end [] = None
behind_end (byte ∷ bytes) = Some bytes

-- the first line of a text that begins with this byte, which is an LF or not
abbrev pub begun_by : Bool → ℕ → List ℕ → FirstLine
begun_by same byte bytes = if same then record { line = []; rest = Some bytes } else with_byte byte (first_line bytes)

-- the first line is no longer than its text
pub line-short : (text : List ℕ) → length (first_line text).line ≤ length text
line-short [] = le_refl 0
line-short (byte ∷ text) = cases (byte == 10) (line-short text) where
  cases : (same : Bool) → length (first_line text).line ≤ length text
      → length (begun_by same byte text).line ≤ suc (length text)
  cases true next = omega arith
  cases false next = omega (arith, next)

-- a text is its first line, and what is left begins at its LF
pub first-line_is : (text : List ℕ) → take (length (first_line text).line) text ≡ (first_line text).line
first-line_is [] = refl
first-line_is (byte ∷ bytes) = cases (byte == 10) (first-line_is bytes) where
  cases : (same : Bool) → take (length (first_line bytes).line) bytes ≡ (first_line bytes).line
      → take (length (begun_by same byte bytes).line) (byte ∷ bytes) ≡ (begun_by same byte bytes).line
  cases true next = refl
  cases false next = ap (λ t. byte ∷ t) next

pub first-rest_is : (text : List ℕ) → behind_end (drop (length (first_line text).line) text) ≡ (first_line text).rest
first-rest_is [] = refl
first-rest_is (byte ∷ bytes) = cases (byte == 10) (first-rest_is bytes) where
  cases : (same : Bool) → behind_end (drop (length (first_line bytes).line) bytes) ≡ (first_line bytes).rest
      → behind_end (drop (length (begun_by same byte bytes).line) (byte ∷ bytes)) ≡ (begun_by same byte bytes).rest
  cases true next = refl
  cases false next = next

-- what stands behind a line is shorter
pub first-shorter : (text rest : List ℕ) → (first_line text).rest ≡ Some rest → length rest < length text
first-shorter [] rest e = absurd (cc e)
first-shorter (byte ∷ bytes) rest e = cases (byte == 10) e (λ e. first-shorter bytes rest e) where
  cases : (same : Bool) → (begun_by same byte bytes).rest ≡ Some rest
      → ((first_line bytes).rest ≡ Some rest → length rest < length bytes) → length rest < suc (length bytes)
  cases true e next = let is : bytes ≡ rest = cc e in omega (arith, ap length is)
  cases false e next = let less = next e in omega (arith, less)

-- where a text is cut at the first LF, what is before it is the line, and what is behind it the rest
pub line-cut : (text front : List ℕ) (k : ℕ) → front ≡ take k text → k ≡ length (first_line text).line
    → front ≡ (first_line text).line
line-cut text front k is at = is ∙ ap (λ n. take n text) at ∙ first-line_is text

pub rest-cut : (text behind : List ℕ) (k : ℕ) → behind ≡ drop k text → k ≡ length (first_line text).line
    → behind_end behind ≡ (first_line text).rest
rest-cut text behind k is at = ap behind_end (is ∙ ap (λ n. drop n text) at) ∙ first-rest_is text

pub none-behind : (text : List ℕ) → length text < 1 → None ≡ behind_end text
none-behind [] less = refl
none-behind (byte ∷ text) less = absurd (omega (arith, less))

pub some-behind : (text : List ℕ) → 1 ≤ length text → Some (take (length text - 1) (drop 1 text)) ≡ behind_end text
some-behind [] some = absurd (omega (arith, some))
some-behind (byte ∷ text) some = let n : length (byte ∷ text) - 1 ≡ length text = omega arith in
    ap (λ n. Some (take n text)) n ∙ ap (λ t. Some t) (take_all (length text) text (le_refl (length text)))

-- a CR at the end of a line is cut, and another byte stays
pub return-last : (text : List ℕ) → 1 ≤ length text → get_or text (length text - 1) 0 ≡ 13
    → take (length text - 1) text ≡ without_return text
return-last [] some is = absurd (omega (arith, some))
return-last (c ∷ []) some is = rw is refl
return-last (c ∷ next ∷ text) some is =
    let n : suc (suc (length text)) - 1 ≡ suc (length text) = omega arith in
    let m : suc (length text) - 1 ≡ length text = omega arith in
    let others = return-last (next ∷ text) (omega arith)
    (ap (λ k. get_or (next ∷ text) k 0) m ∙ sym (ap (λ k. get_or (c ∷ next ∷ text) k 0) n) ∙ is) in
    ap (λ k. take k (c ∷ next ∷ text)) n ∙ ap (λ t. c ∷ t) (ap (λ k. take k (next ∷ text)) (sym m) ∙ others)

pub other-last : (text : List ℕ) → 1 ≤ length text → (get_or text (length text - 1) 0 ≡ 13 → ⊥)
    → text ≡ without_return text
other-last [] some is = absurd (omega (arith, some))
other-last (c ∷ []) some is = cases (c == 13) refl where
  cases : (same : Bool) → (c == 13) ≡ same → c ∷ [] ≡ (if same then [] else c ∷ [])
  cases true e = absurd (is (eqb-true c 13 e))
  cases false e = refl
other-last (c ∷ next ∷ text) some is =
    let n : suc (suc (length text)) - 1 ≡ suc (length text) = omega arith in
    let m : suc (length text) - 1 ≡ length text = omega arith in
    ap (λ t. c ∷ t) (other-last (next ∷ text) (omega arith)
    (λ last. is (ap (λ k. get_or (c ∷ next ∷ text) k 0) n ∙ sym (ap (λ k. get_or (next ∷ text) k 0) m) ∙ last)))

-- ---- the lines

-- what a line gives, and behind it the others
abbrev cut_on : Bool → FirstLine → (List ℕ → List (List ℕ) × Option (List ℕ)) → List (List ℕ) × Option (List ℕ)
cut_on script first others =
    if script then ([], Some (elim first.rest [ None ↦ [] | Some rest ↦ rest ]))
    else elim first.rest [
      | None ↦ (text_of first ∷ [], None)
      | Some rest ↦ (text_of first ∷ (others rest).0, (others rest).1)
    ]

on-same : (script : Bool) (first : FirstLine) (f g : List ℕ → List (List ℕ) × Option (List ℕ))
    → ((rest : List ℕ) → first.rest ≡ Some rest → f rest ≡ g rest)
    → cut_on script first f ≡ cut_on script first g
on-same true first f g same = refl
on-same false first f g same = cases first.line first.rest same where
  cases : (line : List ℕ) (rest : Option (List ℕ)) → ((t : List ℕ) → rest ≡ Some t → f t ≡ g t)
      → cut_on false (record { line = line; rest = rest }) f ≡ cut_on false (record { line = line; rest = rest }) g
  cases line None same = refl
  cases line (Some rest) same = ap (λ c. (without_return line ∷ c.0, c.1)) (same rest refl)

-- a bound that is great enough makes no difference
pub lines-enough : (most more : ℕ) (text : List ℕ) → length text < most → length text < more
    → lines_from most text ≡ lines_from more text
lines-enough zero more text a b = absurd (omega arith)
lines-enough (suc most) zero text a b = absurd (omega arith)
lines-enough (suc most) (suc more) text a b = on-same (is_script text) (first_line text) (lines_from most)
    (lines_from more)
    (λ rest e. let less = first-shorter text rest e in lines-enough most more rest (omega (arith, less))
    (omega (arith, less)))

-- the text of a line that has an end
more-on : (first : FirstLine) (rest : List ℕ) (others : List ℕ → List (List ℕ) × Option (List ℕ))
    → first.rest ≡ Some rest
    → cut_on false first others ≡ (text_of first ∷ (others rest).0, (others rest).1)
more-on first rest others e = cases first.line first.rest e where
  cases : (line : List ℕ) (behind : Option (List ℕ)) → behind ≡ Some rest
      → cut_on false (record { line = line; rest = behind })
      others ≡ (text_of (record { line = line; rest = behind }) ∷ (others rest).0, (others rest).1)
  cases line None e = absurd (cc e)
  cases line (Some behind) e = let is : behind ≡ rest = cc e in
      ap (λ t. (without_return line ∷ (others t).0, (others t).1)) is

-- and of one that has none
last-on : (first : FirstLine) (others : List ℕ → List (List ℕ) × Option (List ℕ)) → first.rest ≡ None
    → cut_on false first others ≡ (text_of first ∷ [], None)
last-on first others e = cases first.line first.rest e where
  cases : (line : List ℕ) (behind : Option (List ℕ)) → behind ≡ None
      → cut_on false (record { line = line; rest = behind })
      others ≡ (text_of (record { line = line; rest = behind }) ∷ [], None)
  cases line None e = refl
  cases line (Some behind) e = absurd (cc e)

module _ (text : List ℕ) (other : is_script text ≡ false) where
  -- a line that has an end stands before the lines behind it
  pub cut-more : (rest : List ℕ) → (first_line text).rest ≡ Some rest
      → cut_file text ≡ (text_of (first_line text) ∷ (cut_file rest).0, (cut_file rest).1)
  cut-more rest e =
      let less = first-shorter text rest e in
      ap (λ script. cut_on script (first_line text) (lines_from (length text))) other
      ∙ more-on (first_line text) rest (lines_from (length text)) e
      ∙ ap (λ c. (text_of (first_line text) ∷ c.0, c.1))
      (lines-enough (length text) (suc (length rest)) rest less (le_refl (suc (length rest))))

  -- a line without an end is the last
  pub cut-last : (first_line text).rest ≡ None → cut_file text ≡ (text_of (first_line text) ∷ [], None)
  cut-last e = ap (λ script. cut_on script (first_line text) (lines_from (length text))) other
      ∙ last-on (first_line text) (lines_from (length text)) e

-- the line "P" is the last, and a script stands behind it
pub cut-script : (text : List ℕ) → is_script text ≡ true
    → cut_file text ≡ ([], Some (elim (first_line text).rest [ None ↦ [] | Some rest ↦ rest ]))
cut-script text is = ap (λ script. cut_on script (first_line text) (lines_from (length text))) is

-- ---- the loops

-- the text of a line
pub text-more : (first : FirstLine) (rest line text : List ℕ) (some : Bool) → first.rest ≡ Some rest
    → line ≡ first.line → some ≡ true → text ≡ (if some then without_return line else line) → text ≡ text_of first
text-more first rest line text some is_rest is_line is_some is = is ∙ rw (is_some, is_line, is_rest) refl

pub text-last : (first : FirstLine) (line text : List ℕ) (some : Bool) → first.rest ≡ None → line ≡ first.line
    → some ≡ false → text ≡ (if some then without_return line else line) → text ≡ text_of first
text-last first line text some is_rest is_line is_some is = is ∙ rw (is_some, is_line, is_rest) refl

-- what stands behind a line, or nothing
pub behind-or : (behind : Option (Bor (List ℕ))) (other : Bor (List ℕ)) (rest : Option (List ℕ)) → other.now ≡ []
    → option_map (λ r. r.now) behind ≡ rest
    → (unwrap_or behind other).now ≡ elim rest [ None ↦ [] | Some rest ↦ rest ]
behind-or None other None empty e = empty
behind-or None other (Some rest) empty e = absurd (cc e)
behind-or (Some behind) other None empty e = absurd (cc e)
behind-or (Some behind) other (Some rest) empty e = cc e

-- the names with that of a text, if it is one of an item
abbrev pub AddsName : List (List ℕ) → (text : List ℕ) → List (List ℕ) → Type 0
AddsName old text new = new ≡ old ++ map md5 (filter is_item (text ∷ []))

-- the names of the lines so far, and the text that is left
pub record NamedSoFar (names : List (List ℕ)) (left text : List ℕ) : Type 0 where
  pub items : names ++ map md5 (item_texts left) ≡ map md5 (item_texts text)
  pub script : script_text left ≡ script_text text

-- a text before others, if it is one of an item
one-more : (b : Bool) (text : List ℕ) (texts : List (List ℕ))
    → map md5 (cond b (text ∷ []) []) ++ map md5 texts ≡ map md5 (cond b (text ∷ texts) texts)
one-more true text texts = refl
one-more false text texts = refl

module _ (names : List (List ℕ)) (left text : List ℕ) (so_far : NamedSoFar names left text) where
  -- a line before the others, whose text is one of an item or not
  pub next-named : is_script left ≡ false → (rest : List ℕ) → (first_line left).rest ≡ Some rest
      → (kept : List (List ℕ))
      → AddsName names (text_of (first_line left)) kept → NamedSoFar kept rest text
  next-named other rest e kept is = let cut = cut-more left other rest e in record {
    items = ap (λ k. k ++ map md5 (item_texts rest)) is ∙ append_assoc names _ (map md5 (item_texts rest))
        ∙ ap (λ xs. names ++ xs)
        (one-more (is_item (text_of (first_line left))) (text_of (first_line left)) (item_texts rest)
        ∙ ap (λ c. map md5 (filter is_item c.0)) (sym cut)) ∙ so_far.items;
    script = ap (λ c. c.1) (sym cut) ∙ so_far.script;
  }

  -- the last line
  pub last-named : is_script left ≡ false → (first_line left).rest ≡ None → (kept : List (List ℕ))
      → AddsName names (text_of (first_line left)) kept → kept ≡ map md5 (item_texts text)
  last-named other e kept is = is
      ∙ ap (λ xs. names ++ xs) (ap (λ c. map md5 (filter is_item c.0)) (sym (cut-last left other e))) ∙ so_far.items

  -- no script stands behind it
  pub last-unscripted : is_script left ≡ false → (first_line left).rest ≡ None
      → None ≡ option_map md5 (script_text text)
  last-unscripted other e = ap (λ c. option_map md5 c.1) (sym (cut-last left other e))
      ∙ ap (option_map md5) so_far.script

  -- the line "P", and its script
  pub script-named : is_script left ≡ true → (names ≡ map md5 (item_texts text))
      × (Some (md5 (elim (first_line left).rest [ None ↦ [] | Some rest ↦ rest ])) ≡ option_map md5 (script_text text))
  script-named is = let cut = cut-script left is in (
    sym (append-nil names) ∙ ap (λ xs. names ++ xs) (ap (λ c. map md5 (filter is_item c.0)) (sym cut)) ∙ so_far.items,
    ap (λ c. option_map md5 c.1) (sym cut) ∙ ap (option_map md5) so_far.script,
  )

-- whether no byte before a place of a text is an LF
abbrev pub HasNone : List ℕ → ℕ → Type 0
HasNone text end = (k : ℕ) → k < end → (get_or text k 0 == 10) ≡ false

-- a text without an LF is its first line
pub line-whole : (text : List ℕ) → HasNone text (length text) → length (first_line text).line ≡ length text
line-whole [] none = refl
line-whole (byte ∷ text) none =
    ap (λ same. length (begun_by same byte text).line) (none 0 (omega arith))
    ∙ ap suc (line-whole text (λ k within. none (suc k) (omega (arith, within))))

-- the first line ends at the first LF
pub line-ends_at : (text : List ℕ) (at : ℕ) → at < length text → HasNone text at
    → (get_or text at 0 == 10) ≡ true → length (first_line text).line ≡ at
line-ends_at [] at within none here = absurd (omega (arith, within))
line-ends_at (byte ∷ text) zero within none here = ap (λ same. length (begun_by same byte text).line) here
line-ends_at (byte ∷ text) (suc at) within none here =
    ap (λ same. length (begun_by same byte text).line) (none 0 (omega arith))
    ∙ ap suc (line-ends_at text at (omega (arith, within)) (λ k before. none (suc k) (omega (arith, before))) here)

-- the first line ends where an LF was looked for, or with the text
pub line-found : (text : List ℕ) (found : Option ℕ) → IsFirstByte (is_byte 10) text found
    → unwrap_or found (length text) ≡ length (first_line text).line
line-found text None nowhere = sym (line-whole text
    (λ k within. false_from_ne_true (get_or text k 0 == 10) (nowhere k (omega arith) within)))
line-found text (Some at) first =
    sym (line-ends_at text at first.0.high (λ k within. false_from_ne_true (get_or text k 0 == 10)
    (first.0.before k (omega arith) within)) first.1)
