-- A file for each set that has its structure, and the structure of what files spell.
use Rattle.std.proofs.Common.{◌≡◌, ℕ, zero, suc, ◌<◌, ◌≤◌, ◌^◌, Bool, true, false, not, List, [], ◌∷◌, ◌++◌, length}
use Rattle.std.proofs.Common.{map, if◌then◌else◌, get_or, Some, None, option_to_list, refl, sym, ap, subst, arith, lit<}
use Rattle.std.proofs.Common.{codes, append-nil, inl, inr}
use Rattle.std.specs.Fmt.{decimal}
use Rattle.std.specs.List.{AllByRecursion}
use Rattle.std.specs.Prelude.{All}
use Rattle.std.proofs.lemmas.Fmt.{decimal_is_IsNumeral, decimal_digit, first_decimal}
use Rattle.std.proofs.lemmas.List.Elements.{All-from_recursion, recursion_from_All}
use Rattle.ra_condition.specs.Canonical.{trigger_text}
use Rattle.ra_condition.specs.Grammar.{trigger}
use Rattle.ra_condition.proofs.Spelling.{trigger-spelled}
use Rattle.ra_leaderboard.specs.Grammar.{board}
use Rattle.ra_leaderboard.proofs.BoardStructure.{board_text, board-spelled}
use Rattle.ra_value_format.specs.declared.format.Format.{Format}
use Rattle.ra_value_format.specs.declared.format.Format.TheVariants.{Value, Score, Frames, Secs, Hundredths, Minutes}
use Rattle.ra_value_format.specs.declared.format.Format.TheVariants.{SecsAsMins, Unsigned, Tens, Hundreds, Thousands}
use Rattle.ra_value_format.specs.declared.format.Format.TheVariants.{Fixed, Float}
use Rattle.ra_value_format.specs.Formats.{HasDigits, format_of_name}
use Rattle.ra_set.specs.Contents.{ItemContents, Unlocks, Ranks, SetContents}
use Rattle.ra_set.specs.Grammar.{Line, ExactId, format_name, head, line, ended_line, items_of, SetFile}
use Rattle.ra_set.specs.Runs.{many, run_of}
use Rattle.ra_set.specs.Spelled.{IsItem, HasSmallId, IsSpelled, OptionalScript}
use Rattle.ra_set.proofs.ContentsLemmas.{lines-of_file}
use Rattle.ra_set.proofs.FileReaders.{empty-line}
use Rattle.ra_set.proofs.FrontLemmas.{file-of_lines}
use Rattle.ra_set.proofs.LineReaders.{in_name}
use Rattle.ra_set.proofs.RunLemmas.{only-byte}
use Rattle.ra_set.proofs.SetStructure.{contents-items}
use Rattle.ra_text.specs.declared.base.Base.TheVariants.{Ten}
use Rattle.ra_text.specs.Number.{digits, numeral}
use Rattle.ra_text.specs.Reading.{begins}
use Rattle.ra_text.specs.Table.{lookup, is_in, only}
use Rattle.ra_text.proofs.Items.{changed, one-byte}
use Rattle.ra_text.proofs.Numerals.{numeral-spelled}
use Rattle.ra_text.proofs.Tables.{all_pass}
use Rattle.ra_text.proofs.Spelled.{then-spelled, none-spelled, one-spelled, link-spelled}

-- ---- ids

not-zero : (t : List ℕ) → 48 < get_or t 0 0 → begins (is_in (only (codes "0"))) t ≡ false
not-zero [] more = refl
not-zero (c ∷ t) more = cases (is_in (only (codes "0")) c) refl where
  cases : (b : Bool) → is_in (only (codes "0")) c ≡ b → b ≡ false
  cases true e = absurd (let same : c ≡ 48 = only-byte 48 c e in omega (arith, more))
  cases false e = refl

-- no zero stands before other digits of a number
exact-decimal : (n : ℕ) → n < 2 ^ 32 → 1 < length (decimal n) → begins (is_in (only (codes "0"))) (decimal n) ≡ false
exact-decimal zero small longer = absurd (omega (arith, ap length (decimal_digit 0 (lit< tt))))
exact-decimal (suc n) small longer = not-zero (decimal (suc n)) (first_decimal (suc n) (omega arith) (omega arith))

-- the decimal digits of a number are an id
pub id-spelled : (n : ℕ) → n < 2 ^ 32 → ExactId (decimal n) n
id-spelled n small =
    let d = decimal_is_IsNumeral n (omega arith) in
    record {
      number = subst (λ m. numeral (lookup digits) 10 (decimal n) m) d.1 (numeral-spelled Ten (decimal n) d.0);
      exact = exact-decimal n small;
      fits = small;
    }

-- a letter, a space, an id and a space
abbrev pub head_text : ℕ → ℕ → List ℕ
head_text letter id = letter ∷ (32 ∷ (decimal id ++ codes " "))

-- a letter and the decimal digits of an id spell the head of a line
pub head-spelled : (letter id : ℕ) → only (letter ∷ []) letter ≡ Some tt → id < 2 ^ 32
    → head letter (head_text letter id) id
head-spelled letter id listed small = then-spelled (letter ∷ [])
    (32 ∷ (decimal id ++ codes " ")) tt refl (one-byte letter listed)
    (then-spelled (codes " ") (decimal id ++ codes " ") tt refl (one-byte 32 refl)
    (then-spelled (decimal id) (codes " ") id refl (id-spelled id small)
    (then-spelled (codes " ") [] tt refl (one-byte 32 refl) none-spelled)))

-- ---- names of formats

-- a byte other than a space and a line feed is one of a name
pub in-name : (c : ℕ) → not (is_in (only (codes " \n")) c) ≡ true → in_name c ≡ Some c
in-name c e = cases (is_in (only (codes " \n")) c) e where
  cases : (b : Bool) → not b ≡ true → (if b then None else Some c) ≡ Some c
  cases true e = absurd (cc e)
  cases false e = refl

both-true : (a b : Bool) → (if a then b else false) ≡ true → (a ≡ true) × (b ≡ true)
both-true true b e = (refl, e)
both-true false b e = absurd (cc e)

-- such bytes are a run of the class
pub run-spelled : (bytes : List ℕ) → all_pass (λ c. not (is_in (only (codes " \n")) c)) bytes ≡ true
    → run_of in_name bytes bytes
run-spelled [] all = (refl, refl)
run-spelled (c ∷ bytes) all =
    let e = both-true (not (is_in (only (codes " \n")) c))
    (all_pass (λ c. not (is_in (only (codes " \n")) c)) bytes) all in
    link-spelled c c [] bytes refl (in-name c e.0) none-spelled (run-spelled bytes e.1)

-- a name that spells a format
abbrev pub NameOf : Format → Type 0
NameOf format = (name : List ℕ) × format_name name format

-- such bytes are a name of the format that they stand for
pub named : (c : ℕ) (others : List ℕ) (format : Format) → in_name c ≡ Some c
    → all_pass (λ c. not (is_in (only (codes " \n")) c)) others ≡ true → format
    ≡ format_of_name (c ∷ others) → NameOf format
named c others format first all is = (
  c ∷ others,
  then-spelled (c ∷ []) others c refl (one-spelled c first) (then-spelled others [] others
      (sym (append-nil others)) (run-spelled others all) (record { empty = refl; is = is })),
)

-- each format that a name has has a name
pub name-of : (format : Format) → HasDigits format → NameOf format
name-of Value h = named 86 (codes "ALUE") Value refl refl refl
name-of Score h = named 83 (codes "CORE") Score refl refl refl
name-of Frames h = named 70 (codes "RAMES") Frames refl refl refl
name-of Secs h = named 83 (codes "ECS") Secs refl refl refl
name-of Hundredths h = named 77 (codes "ILLISECS") Hundredths refl refl refl
name-of Minutes h = named 77 (codes "INUTES") Minutes refl refl refl
name-of SecsAsMins h = named 83 (codes "ECS_AS_MINS") SecsAsMins refl refl refl
name-of Unsigned h = named 85 (codes "NSIGNED") Unsigned refl refl refl
name-of Tens h = named 84 (codes "ENS") Tens refl refl refl
name-of Hundreds h = named 72 (codes "UNDREDS") Hundreds refl refl refl
name-of Thousands h = named 84 (codes "HOUSANDS") Thousands refl refl refl
name-of (Fixed digits) h = fixed digits h.0 h.1 where
  fixed : (digits : ℕ) → 1 ≤ digits → digits ≤ 3 → NameOf (Fixed digits)
  fixed zero low high = absurd (omega arith)
  fixed (suc zero) low high = named 70 (codes "IXED1") (Fixed 1) refl refl refl
  fixed (suc (suc zero)) low high = named 70 (codes "IXED2") (Fixed 2) refl refl refl
  fixed (suc (suc (suc zero))) low high = named 70 (codes "IXED3") (Fixed 3) refl refl refl
  fixed (suc (suc (suc (suc digits)))) low high = absurd (omega arith)
name-of (Float n) h = float n h.0 h.1 where
  float : (n : ℕ) → 1 ≤ n → n ≤ 6 → NameOf (Float n)
  float zero low high = absurd (omega arith)
  float (suc zero) low high = named 70 (codes "LOAT1") (Float 1) refl refl refl
  float (suc (suc zero)) low high = named 70 (codes "LOAT2") (Float 2) refl refl refl
  float (suc (suc (suc zero))) low high = named 70 (codes "LOAT3") (Float 3) refl refl refl
  float (suc (suc (suc (suc zero)))) low high = named 70 (codes "LOAT4") (Float 4) refl refl refl
  float (suc (suc (suc (suc (suc zero))))) low high = named 70 (codes "LOAT5") (Float 5) refl refl refl
  float (suc (suc (suc (suc (suc (suc zero)))))) low high = named 70 (codes "LOAT6") (Float 6) refl refl refl
  float (suc (suc (suc (suc (suc (suc (suc n))))))) low high = absurd (omega arith)

-- ---- items

-- a line for an item
pub item-line : (x : ItemContents) → IsItem x → HasSmallId x → (text : List ℕ) × line text (Some x)
item-line (Unlocks id t) h small = (
  head_text 65 id ++ trigger_text t,
  inr (inl (then-spelled (head_text 65 id) (trigger_text t) id refl (head-spelled 65 id refl small)
      (changed trigger (λ t. Some (Unlocks id t)) (trigger_text t) t (trigger-spelled t h)))),
)
item-line (Ranks id format b) h small = let name = name-of format h.1 in (
  head_text 76 id ++ (name.0 ++ 32 ∷ board_text b),
  inr (inr (inl (then-spelled (head_text 76 id) (name.0 ++ 32 ∷ board_text b) id refl
      (head-spelled 76 id refl small) (then-spelled name.0 (32 ∷ board_text b) format refl name.1
      (then-spelled (codes " ") (board_text b) tt refl (one-byte 32 refl)
      (changed board (λ b. Some (Ranks id format b)) (board_text b) b (board-spelled b h.0))))))),
)

-- a line with its end
pub with-end : (t : List ℕ) (l : Line) → line t l → ended_line (t ++ codes "\n") l
with-end t l h = then-spelled t (codes "\n") l refl h (then-spelled (codes "\n") [] tt refl
    (then-spelled [] (codes "\n") tt refl (inr none-spelled) (one-byte 10 refl)) none-spelled)

-- lines for items, each with its end
item-lines : (items : List ItemContents) → AllByRecursion IsItem items
    → AllByRecursion HasSmallId items → (text : List ℕ) × many ended_line text (map Some items)
item-lines [] each small = ([], refl)
item-lines (x ∷ items) each small =
    let first = item-line x each.0 small.0 in
    let others = item-lines items each.1 small.1 in (
      (first.0 ++ codes "\n") ++ others.0,
      record {
        front = first.0 ++ codes "\n";
        behind = others.0;
        parts = refl;
        of_first = with-end first.0 (Some x) first.1;
        of_next = others.1;
      },
    )

all-items : (items : List ItemContents) → items_of (map Some items ++ None ∷ []) ≡ items
all-items [] = refl
all-items (x ∷ items) = ap (λ xs. x ∷ xs) (all-items items)

-- a file for a set that has its structure
pub set-spelled : (set : SetContents) → set.script ≡ None → IsSpelled set → All HasSmallId set.items
    → (file : List ℕ) × SetFile file set
set-spelled set script h small =
    let lines = item-lines set.items (recursion_from_All IsItem set.items h.items)
    (recursion_from_All HasSmallId set.items small) in (
      lines.0,
      record {
        contents = record { lines = map Some set.items ++ None ∷ []; script = None };
        spelled = file-of_lines lines.0 (map Some set.items ++ None ∷ [])
            (then-spelled lines.0 [] (map Some set.items) (sym (append-nil lines.0)) lines.1
            (then-spelled [] [] None refl empty-line none-spelled));
        items = sym (all-items set.items);
        script = script;
      },
    )

-- ---- the structure of what files spell

-- each id is of 32 bits
abbrev EachSmall : List ItemContents → Type 0
EachSmall = AllByRecursion HasSmallId

head-fits : (letter : ℕ) (t : List ℕ) (id : ℕ) → head letter t id → id < 2 ^ 32
head-fits letter t id h = subst (λ n. n < 2 ^ 32)
    (sym h.of_next.of_next.of_next.of_next.is) h.of_next.of_next.of_first.fits

line-small : (t : List ℕ) (l : Line) → line t l → EachSmall (option_to_list l)
line-small t l (inl h) = subst (λ x. EachSmall (option_to_list x)) (sym h.of_next.of_next.is) tt
line-small t l (inr (inl h)) = subst (λ x. EachSmall (option_to_list x)) (sym h.of_next.of_next.is)
    (head-fits 65 h.front h.v h.of_first, tt)
line-small t l (inr (inr (inl h))) = subst (λ x. EachSmall (option_to_list x))
    (sym h.of_next.of_next.of_next.of_next.is) (head-fits 76 h.front h.v h.of_first, tt)
line-small t l (inr (inr (inr h))) = subst (λ x. EachSmall (option_to_list x)) (sym h.is) tt

both-small : (xs ys : List ItemContents) → EachSmall xs → EachSmall ys → EachSmall (xs ++ ys)
both-small [] ys a b = b
both-small (x ∷ xs) ys a b = (a.0, both-small xs ys a.1 b)

ended-small : (ended : List Line) (t : List ℕ) → many ended_line t ended
    → (u : List ℕ) (last : Line) → line u last → EachSmall (items_of (ended ++ last ∷ []))
ended-small [] t none u last h = both-small (option_to_list last) [] (line-small u last h) tt
ended-small (l ∷ ended) t h u last hl = both-small (option_to_list l) (items_of (ended ++ last ∷ []))
    (subst (λ x. EachSmall (option_to_list x)) (sym h.of_first.of_next.of_next.is)
    (line-small h.of_first.front h.of_first.v h.of_first.of_first))
    (ended-small ended h.behind h.of_next u last hl)

-- what a file without a script spells has its structure
pub spelled-set : (set : SetContents) → set.script ≡ None → (file : List ℕ) × SetFile file set
    → IsSpelled set × All HasSmallId set.items
spelled-set set script h =
    let f = h.1 in
    let l = lines-of_file h.0 f.contents f.spelled in (
      record {
        items = subst (All IsItem) (sym f.items) (contents-items h.0 f.contents f.spelled);
        script = subst OptionalScript (sym script) tt;
      },
      subst (All HasSmallId) (sym f.items) (All-from_recursion HasSmallId
          (items_of f.contents.lines) (subst EachSmall (sym l.items)
          (ended-small l.ended l.front l.of_ended l.behind l.last l.of_last))),
    )
