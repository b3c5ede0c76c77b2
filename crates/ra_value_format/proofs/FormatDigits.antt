-- The format of each name has digits that a name can give.
use Rattle.std.proofs.Common.{ℕ, if◌then◌else◌, Bool, true, false, List, [], ◌∷◌, Some, drop, lit≤}
use Rattle.std.specs.Prelude.{bytes_eq}
use Rattle.ra_value_format.specs.declared.format.Format.{Format}
use Rattle.ra_value_format.specs.Formats.{HasDigits, format_names, scaled_names, float_names, entry_of, named_format}
use Rattle.ra_value_format.specs.Formats.{format_of_name}

-- each format of a table has digits that a name can give
abbrev EachFormat : List (List ℕ × Format) → Type 0
EachFormat [] = Unit {0}
EachFormat (entry ∷ entries) = HasDigits entry.1 × EachFormat entries

entry-digits : (name : List ℕ) (entries : List (List ℕ × Format)) → EachFormat entries
    → HasDigits (named_format (entry_of name entries))
entry-digits name [] each = tt
entry-digits name (entry ∷ entries) each = cases (bytes_eq entry.0 name) (entry-digits name entries each.1) where
  cases : (same : Bool) → HasDigits (named_format (entry_of name entries))
      → HasDigits (named_format (if same then Some entry.1 else entry_of name entries))
  cases true next = each.0
  cases false next = next

each-float : EachFormat float_names
each-float =
    let last : EachFormat (drop 3 float_names) =
    ((lit≤ tt, lit≤ tt), ((lit≤ tt, lit≤ tt), ((lit≤ tt, lit≤ tt), tt))) in
    ((lit≤ tt, lit≤ tt), ((lit≤ tt, lit≤ tt), ((lit≤ tt, lit≤ tt), last)))

each-scaled : EachFormat scaled_names
each-scaled = (tt, (tt, (tt, ((lit≤ tt, lit≤ tt), ((lit≤ tt, lit≤ tt), ((lit≤ tt, lit≤ tt), each-float))))))

each-format : EachFormat format_names
each-format = (tt, (tt, (tt, (tt, (tt, (tt, (tt, (tt, (tt, (tt, (tt, each-scaled)))))))))))

pub format-digits : (name : List ℕ) → HasDigits (format_of_name name)
format-digits name = entry-digits name format_names each-format
