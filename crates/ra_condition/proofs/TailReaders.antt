-- The readers of comparisons, targets and tails.
use Rattle.std.proofs.Common.{◌≡◌, ℕ, Bool, true, false, List, [], ◌∷◌, ◌++◌, Some, Ok, refl, codes}
use Rattle.ra_operand.specs.declared.op.Op.{Op}
use Rattle.ra_operand.specs.declared.op.Op.TheVariants.{Eq, Ne, Lt, Le, Gt, Ge, Mul}
use Rattle.ra_operand.specs.declared.operand.Operand.{Operand}
use Rattle.ra_operand.specs.Grammar.{operand}
use Rattle.ra_operand.specs.Reading.{operand_at, memory_at, constant_at, unsigned_at, decimal_constant_at}
use Rattle.ra_operand.specs.Reading.{cell_or_constant_at}
use Rattle.ra_operand.proofs.Operands.{operand_rest, operand_keys, reader-operand, begins-operand}
use Rattle.ra_condition.specs.Grammar.{equal, unequal, less, greater, comparison, operators, dotted, bracketed, target}
use Rattle.ra_condition.specs.Grammar.{bare, compared, ignored, computed, tail_of}
use Rattle.ra_condition.specs.Reading.{equal_at, unequal_at, less_at, greater_at, less_or_greater_at}
use Rattle.ra_condition.specs.Reading.{unequal_or_ordered_at, comparison_at, between_at, dotted_at, bracketed_at}
use Rattle.ra_condition.specs.Reading.{bracketed_or_none_at, target_at, compared_at, ignored_at, computed_at}
use Rattle.ra_condition.specs.Reading.{computed_or_bare_at, modified_at, compared_or_bare_at, tail_at}
use Rattle.ra_text.specs.Form.{Form, Spell, One, Then, Viable, ◌or◌, optional}
use Rattle.ra_text.specs.Number.{digits, decimal}
use Rattle.ra_text.specs.Reading.{◌>>=◌, one_at, optional_at}
use Rattle.ra_text.specs.ReadingNumbers.{decimal_at, saturated_at, numeral_at, signed_at}
use Rattle.ra_text.specs.Table.{lookup, bytes_for, is_in, only, marks}
use Rattle.ra_text.proofs.Begins.{Begins, Firsts, IsListed, begins-or, begins-then, begins-wider, firsts-begins}
use Rattle.ra_text.proofs.Begins.{firsts-or, firsts-spell, firsts-then, firsts-wider, reader-behind, reader-follows}
use Rattle.ra_text.proofs.Choice.{reader-optional}
use Rattle.ra_text.proofs.Either.{reader-map, reader-by_test, reader-or_else}
use Rattle.ra_text.proofs.Numbers.{reader-decimal, begins-decimal}
use Rattle.ra_text.proofs.Readers.{Reader, Listed, reader-one, reader-spell, reader-wider, reads-of}
use Rattle.ra_text.proofs.Tables.{In, keys_of, listed_in, in_within, in_apart, begins-byte, is_in-in, not_in-in}
use Rattle.ra_text.proofs.Tables.{opens-whole}

-- ---- comparisons

-- a comparison goes on with `=` alone
abbrev pub comparison_rest : List ℕ
comparison_rest = codes "="

abbrev pub comparison_keys : List ℕ
comparison_keys = codes "=!<>"

listed-mark : (byte : ℕ) → only (byte ∷ []) byte ≡ Some tt → Listed (only (byte ∷ []))
listed-mark byte e = record { symbol = byte; v = tt; listed = e }

reader-equal : Reader equal equal_at (In comparison_rest)
unfolding equal_at
reader-equal = reader-follows (One (only (codes "=")))
    (λ first. Then (optional (only (codes "=")) tt) (λ second. Spell Eq)) (one_at (only (codes
    "="))) (λ first. optional_at (only (codes "=")) tt first.1 >>= λ second. Ok (Eq, second.1))
    (λ c. ⊥) (In comparison_rest) (In comparison_rest)
    (reader-one (only (codes "=")) (λ c. ⊥) (listed-mark 61 refl))
    (λ first. reader-map (optional (only (codes "=")) tt) (optional_at (only (codes "=")) tt)
    (In comparison_rest) (λ second. Eq)
    (reader-wider (optional (only (codes "=")) tt) (optional_at (only (codes "=")) tt)
    (IsListed (only (codes "="))) (In comparison_rest) (listed_in (marks (codes "=")))
    (reader-optional (only (codes "=")) tt (listed-mark 61 refl))))
    (λ first. firsts-then (optional (only (codes "=")) tt) (λ second. Spell Eq) (In comparison_rest)
    (firsts-or (One (only (codes "="))) (Spell tt) (In comparison_rest)
    (firsts-begins (One (only (codes "="))) (In comparison_rest) (begins-byte (marks (codes "="))))
    (firsts-spell tt (In comparison_rest)))
    (λ second. firsts-spell Eq (In comparison_rest)))
    (λ c on here. on) (λ c on. absurd on)

reader-unequal : Reader unequal unequal_at (In comparison_rest)
unfolding unequal_at
reader-unequal = reader-behind (One (only (codes "!")))
    (λ first. Then (One (only (codes "="))) (λ second. Spell Ne)) (one_at (only (codes "!")))
    (λ first. one_at (only (codes "=")) first.1 >>= λ second. Ok (Ne, second.1))
    (λ c. ⊥) (In comparison_rest) (In comparison_rest)
    (reader-one (only (codes "!")) (λ c. ⊥) (listed-mark 33 refl))
    (λ first. reader-map (One (only (codes "="))) (one_at (only (codes "="))) (In comparison_rest)
    (λ second. Ne) (reader-one (only (codes "=")) (In comparison_rest) (listed-mark 61 refl)))
    (λ first. begins-then (One (only (codes "="))) (λ second. Spell Ne) (In comparison_rest)
    (begins-byte (marks (codes "="))))
    (λ c on here. on)

-- a byte, and then `=` or nothing
ordered : Op → Op → Form ℕ Op
ordered with_equal alone = optional (lookup (bytes_for (codes "=") with_equal)) alone

reader-ordered : (with_equal alone : Op) → Reader (optional (lookup (bytes_for
    (codes "=") with_equal)) alone) (optional_at (lookup (bytes_for (codes "=") with_equal)) alone)
    (In comparison_rest)
reader-ordered with_equal alone = reader-wider (optional (lookup (bytes_for (codes "=") with_equal))
    alone) (optional_at (lookup (bytes_for (codes "=") with_equal)) alone) (IsListed (lookup
    (bytes_for (codes "=") with_equal))) (In comparison_rest)
    (listed_in (bytes_for (codes "=") with_equal)) (reader-optional (lookup (bytes_for
    (codes "=") with_equal)) alone (record { symbol = 61; v = with_equal; listed = refl }))

firsts-ordered : (with_equal alone : Op)
    → Firsts (optional (lookup (bytes_for (codes "=") with_equal)) alone) (In comparison_rest)
firsts-ordered with_equal alone =
    firsts-or (One (lookup (bytes_for (codes "=") with_equal))) (Spell alone) (In comparison_rest)
    (firsts-begins (One (lookup (bytes_for (codes "=") with_equal))) (In comparison_rest)
    (begins-byte (bytes_for (codes "=") with_equal))) (firsts-spell alone (In comparison_rest))

reader-less : Reader less less_at (In comparison_rest)
unfolding less_at
reader-less = reader-follows (One (only (codes "<")))
    (λ first. optional (lookup (bytes_for (codes "=") Le)) Lt) (one_at (only (codes "<")))
    (λ first. optional_at (lookup (bytes_for (codes "=") Le)) Lt first.1)
    (λ c. ⊥) (In comparison_rest) (In comparison_rest)
    (reader-one (only (codes "<")) (λ c. ⊥) (listed-mark 60 refl)) (λ first. reader-ordered Le Lt)
    (λ first. firsts-ordered Le Lt) (λ c on here. on) (λ c on. absurd on)

reader-greater : Reader greater greater_at (In comparison_rest)
unfolding greater_at
reader-greater = reader-follows (One (only (codes ">")))
    (λ first. optional (lookup (bytes_for (codes "=") Ge)) Gt) (one_at (only (codes ">")))
    (λ first. optional_at (lookup (bytes_for (codes "=") Ge)) Gt first.1)
    (λ c. ⊥) (In comparison_rest) (In comparison_rest)
    (reader-one (only (codes ">")) (λ c. ⊥) (listed-mark 62 refl)) (λ first. reader-ordered Ge Gt)
    (λ first. firsts-ordered Ge Gt) (λ c on here. on) (λ c on. absurd on)

begins-less : Begins less (In (codes "<"))
begins-less = begins-then (One (only (codes "<"))) (λ first. optional
    (lookup (bytes_for (codes "=") Le)) Lt) (In (codes "<")) (begins-byte (marks (codes "<")))

begins-greater : Begins greater (In (codes ">"))
begins-greater = begins-then (One (only (codes ">"))) (λ first. optional
    (lookup (bytes_for (codes "=") Ge)) Gt) (In (codes ">")) (begins-byte (marks (codes ">")))

begins-unequal : Begins unequal (In (codes "!"))
begins-unequal = begins-then (One (only (codes "!"))) (λ first. Then (One (only (codes "=")))
    (λ second. Spell Ne)) (In (codes "!")) (begins-byte (marks (codes "!")))

begins-equal : Begins equal (In (codes "="))
begins-equal = begins-then (One (only (codes "="))) (λ first. Then (optional (only (codes "=")) tt)
    (λ second. Spell Eq)) (In (codes "=")) (begins-byte (marks (codes "=")))

reader-less_or_greater : Reader (less or greater) less_or_greater_at (In comparison_rest)
unfolding less_or_greater_at
reader-less_or_greater = reader-by_test less greater less_at greater_at (is_in (only (codes "<")))
    (In (codes "<")) (In (codes ">"))
    (In comparison_rest) reader-less reader-greater begins-less begins-greater
    (λ c is here. in_apart (codes "<") (codes ">") refl c (is_in-in (marks (codes "<")) c is) here)
    (not_in-in (marks (codes "<")))

begins-less_or_greater : Begins (less or greater) (In (codes "<>"))
begins-less_or_greater = begins-or less greater (In (codes "<>")) (begins-wider less
    (In (codes "<")) (In (codes "<>")) (in_within (codes "<") (codes "<>") refl) begins-less)
    (begins-wider greater (In (codes ">")) (In (codes "<>")) (in_within (codes ">") (codes "<>") refl) begins-greater)

reader-unequal_or_ordered : Reader (unequal or (less or greater)) unequal_or_ordered_at (In comparison_rest)
unfolding unequal_or_ordered_at
reader-unequal_or_ordered = reader-by_test unequal (less or greater) unequal_at less_or_greater_at
    (is_in (only (codes "!"))) (In (codes "!")) (In (codes "<>"))
    (In comparison_rest) reader-unequal reader-less_or_greater begins-unequal begins-less_or_greater
    (λ c is here. in_apart (codes "!") (codes "<>") refl c (is_in-in (marks (codes "!")) c is) here)
    (not_in-in (marks (codes "!")))

begins-unequal_or_ordered : Begins (unequal or (less or greater)) (In (codes "!<>"))
begins-unequal_or_ordered = begins-or unequal (less or greater) (In (codes "!<>"))
    (begins-wider unequal (In (codes "!")) (In (codes "!<>"))
    (in_within (codes "!") (codes "!<>") refl) begins-unequal)
    (begins-wider (less or greater) (In (codes "<>")) (In (codes "!<>"))
    (in_within (codes "<>") (codes "!<>") refl) begins-less_or_greater)

pub reader-comparison : Reader comparison comparison_at (In comparison_rest)
unfolding comparison_at
reader-comparison = reader-by_test equal (unequal or (less or greater)) equal_at
    unequal_or_ordered_at (is_in (only (codes "="))) (In (codes "=")) (In (codes "!<>")) (In
    comparison_rest) reader-equal reader-unequal_or_ordered begins-equal begins-unequal_or_ordered
    (λ c is here. in_apart (codes "=") (codes "!<>") refl c
    (is_in-in (marks (codes "=")) c is) here) (not_in-in (marks (codes "=")))

pub begins-comparison : Begins comparison (In comparison_keys)
begins-comparison = begins-or equal (unequal or (less or greater)) (In comparison_keys)
    (begins-wider equal (In (codes "=")) (In comparison_keys)
    (in_within (codes "=") comparison_keys refl) begins-equal)
    (begins-wider (unequal or (less or greater)) (In (codes "!<>")) (In comparison_keys)
    (in_within (codes "!<>") comparison_keys refl) begins-unequal_or_ordered)

-- ---- targets

abbrev pub target_keys : List ℕ
target_keys = codes ".("

-- a number between two bytes
reader-between : (opening closing : ℕ) → only (opening ∷ []) opening ≡ Some tt
    → only (closing ∷ []) closing ≡ Some tt
    → ((c : ℕ) → In (keys_of digits) c → In (closing ∷ []) c → ⊥) → (goes_on : ℕ → Type 0)
    → Reader (Then (One (only (opening ∷ []))) (λ o. Then decimal (λ n. Then (One (only (closing
    ∷ []))) (λ c. Spell n)))) (λ text. one_at (only (opening ∷ [])) text >>= λ o. decimal_at o.1
    >>= λ n. one_at (only (closing ∷ [])) n.1 >>= λ c. Ok (n.0, c.1)) goes_on
reader-between opening closing a b apart goes_on =
    reader-behind (One (only (opening ∷ []))) (λ o. Then decimal
    (λ n. Then (One (only (closing ∷ []))) (λ c. Spell n))) (one_at (only (opening ∷ [])))
    (λ o. decimal_at o.1 >>= λ n. one_at (only (closing ∷ [])) n.1 >>= λ c. Ok (n.0, c.1))
    (λ c. ⊥) (In (keys_of digits)) goes_on
    (reader-one (only (opening ∷ [])) (λ c. ⊥) (listed-mark opening a))
    (λ o. reader-behind decimal (λ n. Then (One (only (closing ∷ []))) (λ c. Spell n)) decimal_at
    (λ n. one_at (only (closing ∷ [])) n.1 >>= λ c. Ok (n.0, c.1)) (In (keys_of digits))
    (In (closing ∷ [])) goes_on
    reader-decimal
    (λ n. reader-map (One (only (closing ∷ []))) (one_at (only (closing ∷ []))) goes_on (λ c. n)
    (reader-one (only (closing ∷ [])) goes_on (listed-mark closing b)))
    (λ n. begins-then (One (only (closing ∷ []))) (λ c. Spell n) (In (closing ∷ []))
    (begins-byte (marks (closing ∷ []))))
    apart)
    (λ o. begins-then decimal (λ n. Then (One (only (closing ∷ []))) (λ c. Spell n))
    (In (keys_of digits)) begins-decimal)
    (λ c on here. on)

reader-dotted : Reader dotted dotted_at (In target_keys)
unfolding dotted_at between_at
reader-dotted = reader-between 46 46 refl refl (in_apart (keys_of digits) (codes ".") refl) (In target_keys)

reader-bracketed : Reader bracketed bracketed_at (In target_keys)
unfolding bracketed_at between_at
reader-bracketed = reader-between 40 41 refl refl (in_apart (keys_of digits) (codes ")") refl) (In target_keys)

begins-dotted : Begins dotted (In (codes "."))
begins-dotted = begins-then (One (only (codes "."))) (λ o. Then decimal (λ n. Then
    (One (only (codes "."))) (λ c. Spell n))) (In (codes ".")) (begins-byte (marks (codes ".")))

begins-bracketed : Begins bracketed (In (codes "("))
begins-bracketed = begins-then (One (only (codes "("))) (λ o. Then decimal (λ n. Then
    (One (only (codes ")"))) (λ c. Spell n))) (In (codes "(")) (begins-byte (marks (codes "(")))

opens-dotted : (c : ℕ) → In (codes ".") c → Viable dotted (c ∷ [])
unfolding dotted_at between_at saturated_at numeral_at
opens-dotted = opens-whole dotted dotted_at
    (reads-of dotted dotted_at (In target_keys) reader-dotted) (codes ".") (λ c. codes "0.") refl

opens-bracketed : (c : ℕ) → In (codes "(") c → Viable bracketed (c ∷ [])
unfolding bracketed_at between_at saturated_at numeral_at
opens-bracketed = opens-whole bracketed bracketed_at (reads-of bracketed bracketed_at
    (In target_keys) reader-bracketed) (codes "(") (λ c. codes "0)") refl

reader-bracketed_or_none : Reader (bracketed or Spell 0) bracketed_or_none_at (In target_keys)
unfolding bracketed_or_none_at
reader-bracketed_or_none = reader-or_else bracketed (Spell 0) bracketed_at (λ text. Ok (0, text))
    (is_in (only (codes "("))) (In (codes "(")) (In target_keys) reader-bracketed
    (reader-spell 0 (In target_keys)) begins-bracketed
    (λ c is. opens-bracketed c (is_in-in (marks (codes "(")) c is))
    (λ c is. in_within (codes "(") target_keys refl c (is_in-in (marks (codes "(")) c is))
    (λ c s v is h. absurd (cc h.empty)) (not_in-in (marks (codes "(")))

pub reader-target : Reader target target_at (In target_keys)
unfolding target_at
reader-target = reader-or_else dotted (bracketed or Spell 0) dotted_at bracketed_or_none_at
    (is_in (only (codes "."))) (In (codes "."))
    (In target_keys) reader-dotted reader-bracketed_or_none begins-dotted
    (λ c is. opens-dotted c (is_in-in (marks (codes ".")) c is))
    (λ c is. in_within (codes ".") target_keys refl c (is_in-in (marks (codes ".")) c is))
    (λ c s v is h. in_apart (codes ".") (codes "(") refl c (is_in-in (marks (codes ".")) c is)
    ((firsts-or bracketed (Spell 0) (In (codes "(")) (firsts-begins bracketed
    (In (codes "(")) begins-bracketed) (firsts-spell 0 (In (codes "(")))).first c s v h))
    (not_in-in (marks (codes ".")))

firsts-target : Firsts target (In target_keys)
firsts-target = firsts-or dotted (bracketed or Spell 0) (In target_keys)
    (firsts-wider dotted (In (codes ".")) (In target_keys) (in_within (codes ".") target_keys refl)
    (firsts-begins dotted (In (codes ".")) begins-dotted))
    (firsts-or bracketed (Spell 0) (In target_keys) (firsts-wider bracketed (In (codes "("))
    (In target_keys) (in_within (codes "(") target_keys refl) (firsts-begins bracketed
    (In (codes "(")) begins-bracketed)) (firsts-spell 0 (In target_keys)))

-- ---- tails

-- what goes on with an operand and a target
abbrev pub compared_rest : List ℕ
compared_rest = operand_rest ++ target_keys

abbrev pub operator_keys : List ℕ
operator_keys = keys_of operators

-- what a tail begins with
abbrev pub tail_keys : List ℕ
tail_keys = comparison_keys ++ operator_keys

-- what goes on with a condition
abbrev pub condition_rest : List ℕ
condition_rest = compared_rest ++ tail_keys

reader-right : {V : Type 0} (f : Operand → ℕ → V)
    → Reader (Then operand (λ right. Then target (λ n. Spell (f right n)))) (λ text. operand_at text
    >>= λ right. target_at right.1 >>= λ n. Ok (f right.0 n.0, n.1)) (In condition_rest)
reader-right f = reader-follows operand (λ right. Then target (λ n. Spell (f right n))) operand_at
    (λ right. target_at right.1 >>= λ n. Ok (f right.0 n.0, n.1)) (In operand_rest) (In target_keys)
    (In condition_rest)
    reader-operand
    (λ right. reader-wider (Then target (λ n. Spell (f right n)))
    (λ text. target_at text >>= λ n. Ok (f right n.0, n.1)) (In target_keys) (In condition_rest)
    (in_within target_keys condition_rest refl)
    (reader-map target target_at (In target_keys) (λ n. f right n) reader-target))
    (λ right. firsts-then target (λ n. Spell (f right n)) (In target_keys) firsts-target
    (λ n. firsts-spell (f right n) (In target_keys)))
    (in_apart operand_rest target_keys refl)
    (in_within operand_rest condition_rest refl)

begins-right : {V : Type 0} (f : Operand → ℕ → V)
    → Begins (Then operand (λ right. Then target (λ n. Spell (f right n)))) (In operand_keys)
begins-right f = begins-then operand (λ right. Then target (λ n. Spell (f right n))) (In operand_keys) begins-operand

reader-compared : Reader compared compared_at (In condition_rest)
unfolding compared_at
reader-compared = reader-behind comparison (λ op. Then operand
    (λ right. Then target (λ n. Spell (record { op = op; right = right; target = n }))))
    comparison_at (λ op. operand_at op.1 >>= λ right. target_at right.1
    >>= λ n. Ok (record { op = op.0; right = right.0; target = n.0 }, n.1))
    (In comparison_rest) (In operand_keys) (In condition_rest)
    reader-comparison
    (λ op. reader-right (λ right n. record { op = op; right = right; target = n }))
    (λ op. begins-right (λ right n. record { op = op; right = right; target = n }))
    (in_apart comparison_rest operand_keys refl)

begins-compared : Begins compared (In comparison_keys)
begins-compared = begins-then comparison (λ op. Then operand (λ right. Then target (λ n. Spell
    (record { op = op; right = right; target = n })))) (In comparison_keys) begins-comparison

reader-ignored : Reader ignored ignored_at (In condition_rest)
unfolding ignored_at
reader-ignored = reader-map compared compared_at (In condition_rest) (λ tail. bare) reader-compared

begins-ignored : Begins ignored (In comparison_keys)
begins-ignored = begins-then compared (λ tail. Spell bare) (In comparison_keys) begins-compared

reader-computed : Reader computed computed_at (In condition_rest)
unfolding computed_at
reader-computed = reader-behind (One (lookup operators)) (λ op. Then operand (λ right. Then target
    (λ n. Spell (record { op = op; right = right; target = 0 })))) (one_at (lookup operators))
    (λ op. operand_at op.1 >>= λ right. target_at right.1 >>= λ n. Ok
    (record { op = op.0; right = right.0; target = 0 }, n.1))
    (λ c. ⊥) (In operand_keys) (In condition_rest)
    (reader-one (lookup operators) (λ c. ⊥) (record { symbol = 42; v = Mul; listed = refl }))
    (λ op. reader-right (λ right n. record { op = op; right = right; target = 0 }))
    (λ op. begins-right (λ right n. record { op = op; right = right; target = 0 }))
    (λ c on here. on)

begins-computed : Begins computed (In operator_keys)
begins-computed = begins-then (One (lookup operators))
    (λ op. Then operand (λ right. Then target (λ n. Spell
    (record { op = op; right = right; target = 0 })))) (In operator_keys) (begins-byte operators)

-- each byte that begins a tail begins a whole one
opens-compared : (c : ℕ) → In comparison_keys c → Viable compared (c ∷ [])
unfolding compared_at comparison_at equal_at unequal_or_ordered_at unequal_at less_or_greater_at
    less_at greater_at operand_at cell_or_constant_at memory_at constant_at unsigned_at
    decimal_constant_at signed_at saturated_at numeral_at target_at bracketed_or_none_at
opens-compared = opens-whole compared compared_at (reads-of compared compared_at
    (In condition_rest) reader-compared) comparison_keys (λ c. codes "=0") refl

opens-ignored : (c : ℕ) → In comparison_keys c → Viable ignored (c ∷ [])
unfolding ignored_at compared_at comparison_at equal_at unequal_or_ordered_at unequal_at
    less_or_greater_at less_at greater_at operand_at cell_or_constant_at memory_at constant_at
    unsigned_at decimal_constant_at signed_at saturated_at numeral_at target_at bracketed_or_none_at
opens-ignored = opens-whole ignored ignored_at (reads-of ignored ignored_at
    (In condition_rest) reader-ignored) comparison_keys (λ c. codes "=0") refl

opens-computed : (c : ℕ) → In operator_keys c → Viable computed (c ∷ [])
unfolding computed_at operand_at cell_or_constant_at memory_at constant_at unsigned_at
    decimal_constant_at signed_at saturated_at numeral_at target_at bracketed_or_none_at
opens-computed = opens-whole computed computed_at (reads-of computed computed_at
    (In condition_rest) reader-computed) operator_keys (λ c. codes "0") refl

is_comparison : (c : ℕ) → is_in (only comparison_keys) c ≡ true → In comparison_keys c
is_comparison c is = is_in-in (marks comparison_keys) c is

reader-computed_or_bare : Reader (computed or Spell bare) computed_or_bare_at (In condition_rest)
unfolding computed_or_bare_at
reader-computed_or_bare = reader-or_else computed (Spell bare) computed_at (λ text. Ok (bare, text))
    (is_in (lookup operators)) (In operator_keys) (In condition_rest) reader-computed
    (reader-spell bare (In condition_rest)) begins-computed
    (λ c is. opens-computed c (is_in-in operators c is)) (λ c is. in_within operator_keys
    condition_rest refl c (is_in-in operators c is)) (λ c s v is h. absurd (cc h.empty))
    (not_in-in operators)

firsts-computed_or_bare : Firsts (computed or Spell bare) (In operator_keys)
firsts-computed_or_bare = firsts-or computed (Spell bare) (In operator_keys) (firsts-begins computed
    (In operator_keys) begins-computed) (firsts-spell bare (In operator_keys))

-- the tail of a condition that hands a value on
reader-modified : Reader (ignored or (computed or Spell bare)) modified_at (In condition_rest)
unfolding modified_at
reader-modified = reader-or_else ignored (computed or Spell bare) ignored_at computed_or_bare_at
    (is_in (only comparison_keys)) (In comparison_keys)
    (In condition_rest) reader-ignored reader-computed_or_bare begins-ignored
    (λ c is. opens-ignored c (is_comparison c is))
    (λ c is. in_within comparison_keys condition_rest refl c (is_comparison c is))
    (λ c s v is h. in_apart comparison_keys operator_keys refl c (is_comparison c is)
    (firsts-computed_or_bare.first c s v h)) (not_in-in (marks comparison_keys))

-- the tail of a condition that may stand without an operator
reader-compared_or_bare : Reader (compared or Spell bare) compared_or_bare_at (In condition_rest)
unfolding compared_or_bare_at
reader-compared_or_bare = reader-or_else compared (Spell bare) compared_at (λ text. Ok (bare, text))
    (is_in (only comparison_keys)) (In comparison_keys) (In condition_rest) reader-compared
    (reader-spell bare (In condition_rest)) begins-compared
    (λ c is. opens-compared c (is_comparison c is))
    (λ c is. in_within comparison_keys condition_rest refl c (is_comparison c is))
    (λ c s v is h. absurd (cc h.empty)) (not_in-in (marks comparison_keys))

pub reader-tail : (hands may : Bool) → Reader (tail_of hands may) (tail_at hands may) (In condition_rest)
reader-tail true may = reader-modified
reader-tail false true = reader-compared_or_bare
reader-tail false false = reader-compared

pub firsts-tail : (hands may : Bool) → Firsts (tail_of hands may) (In tail_keys)
firsts-tail true may = firsts-or ignored (computed or Spell bare) (In tail_keys)
    (firsts-wider ignored (In comparison_keys) (In tail_keys) (in_within comparison_keys tail_keys
    refl) (firsts-begins ignored (In comparison_keys) begins-ignored))
    (firsts-wider (computed or Spell bare) (In operator_keys) (In tail_keys)
    (in_within operator_keys tail_keys refl) firsts-computed_or_bare)
firsts-tail false true = firsts-or compared (Spell bare) (In tail_keys)
    (firsts-wider compared (In comparison_keys) (In tail_keys)
    (in_within comparison_keys tail_keys refl) (firsts-begins compared
    (In comparison_keys) begins-compared)) (firsts-spell bare (In tail_keys))
firsts-tail false false = firsts-wider compared (In comparison_keys) (In tail_keys) (in_within
    comparison_keys tail_keys refl) (firsts-begins compared (In comparison_keys) begins-compared)
