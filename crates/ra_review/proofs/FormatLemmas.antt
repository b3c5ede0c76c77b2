-- Format names in lines, and which are known.
use Rattle.std.proofs.Common.{◌≡◌, ◌∙◌, ℕ, suc, ◌-◌, ◌<◌, ◌≤◌, ◌==◌, Bool, true, false, not, if◌then◌else◌, List, []}
use Rattle.std.proofs.Common.{◌∷◌, length, take, drop, Some, is_some, bytes_eq, refl, sym, ap, arith, le_refl, take_all}
use Rattle.ra_value_format.specs.declared.format.Format.{Format}
use Rattle.ra_value_format.specs.Formats.{entry_of, named_format, format_names, format_of_name}
use Rattle.ra_review.specs.Lines.{before_space, behind_space}
use Rattle.ra_review.specs.Reporting.{is_value}

-- what stands behind a first byte
abbrev pub behind_byte : List ℕ → List ℕ
behind_byte [] = []
behind_byte (byte ∷ text) = text

pub space_short : (text : List ℕ) → length (before_space text) ≤ length text
space_short [] = le_refl 0
space_short (byte ∷ text) = cases (byte == 32) (space_short text)
  where
    cases : (space : Bool) → length (before_space text) ≤ length text
        → length (if space then [] else byte ∷ before_space text) ≤ suc (length text)
    cases true next = omega arith
    cases false next = omega (arith, next)

pub before_is : (text : List ℕ) → take (length (before_space text)) text ≡ before_space text
before_is [] = refl
before_is (byte ∷ text) = cases (byte == 32) (before_is text)
  where
    cases : (space : Bool) → take (length (before_space text)) text ≡ before_space text
        → take (length (if space then [] else byte ∷ before_space text)) (byte ∷ text)
        ≡ (if space then [] else byte ∷ before_space text)
    cases true next = refl
    cases false next = ap (λ t. byte ∷ t) next

pub behind_is : (text : List ℕ) → behind_byte (drop (length (before_space text)) text) ≡ behind_space text
behind_is [] = refl
behind_is (byte ∷ text) = cases (byte == 32) (behind_is text)
  where
    cases : (space : Bool) → behind_byte (drop (length (before_space text)) text) ≡ behind_space text
        → behind_byte (drop (length (if space then [] else byte ∷ before_space text)) (byte ∷ text))
        ≡ (if space then text else behind_space text)
    cases true next = refl
    cases false next = next

pub none_behind : (text : List ℕ) → length text < 1 → text ≡ behind_byte text
none_behind [] less = refl
none_behind (byte ∷ text) less = absurd (omega (arith, less))

pub some_behind : (text : List ℕ) → 1 ≤ length text → take (length text - 1) (drop 1 text) ≡ behind_byte text
some_behind [] some = absurd (omega (arith, some))
some_behind (byte ∷ text) some = let n : length (byte ∷ text) - 1 ≡ length text = omega arith in
    ap (λ n. take n text) n ∙ take_all (length text) text (le_refl (length text))

-- ---- known names

-- no entry is of the format of all other names
all_known : List (List ℕ × Format) → Bool
all_known [] = true
all_known (entry ∷ entries) = if is_value entry.1 then false else all_known entries

known_in : (name : List ℕ) (entries : List (List ℕ × Format)) → all_known entries ≡ true
    → is_some (entry_of name entries) ≡ not (is_value (named_format (entry_of name entries)))
unfolding all_known
known_in name [] e = refl
known_in name (entry ∷ entries) e = by_value (is_value entry.1) refl e (known_in name entries)
  where
    by_value : (v : Bool) → is_value entry.1 ≡ v → (if v then false else all_known entries) ≡ true
        → (all_known entries ≡ true → is_some (entry_of name entries)
        ≡ not (is_value (named_format (entry_of name entries))))
        → is_some (if bytes_eq entry.0 name then Some entry.1 else entry_of name entries)
        ≡ not (is_value (named_format (if bytes_eq entry.0 name then Some entry.1 else entry_of name entries)))
    by_value true is e next = absurd (cc e)
    by_value false is e next = by_name (bytes_eq entry.0 name) (next e)
      where
        by_name : (same : Bool) → is_some (entry_of name entries)
            ≡ not (is_value (named_format (entry_of name entries)))
            → is_some (if same then Some entry.1 else entry_of name entries)
            ≡ not (is_value (named_format (if same then Some entry.1 else entry_of name entries)))
        by_name true next = ap not (sym is)
        by_name false next = next

pub known_name : (name : List ℕ) → is_some (entry_of name format_names) ≡ not (is_value (format_of_name name))
unfolding all_known
known_name name = known_in name format_names refl
