-- The readers of values.
use Rattle.std.proofs.Common.{◌≡◌, ℕ, Bool, true, false, ◌||◌, List, [], ◌∷◌, ◌++◌, Some, None, Ok, Err, refl, ap}
use Rattle.std.proofs.Common.{subst, codes, length, ◌≤◌}
use Rattle.ra_operand.specs.declared.operand.Operand.TheVariants.{Const}
use Rattle.ra_operand.specs.declared.op.Op.TheVariants.{Bare}
use Rattle.ra_operand.specs.Grammar.{kinds, operand}
use Rattle.ra_operand.specs.Reading.{operand_at, memory_at, constant_at, unsigned_at, decimal_constant_at}
use Rattle.ra_operand.specs.Reading.{cell_or_constant_at}
use Rattle.ra_operand.proofs.Operands.{operand_rest, operand_keys, reader-operand, begins-operand}
use Rattle.ra_condition.specs.declared.condition.Condition.{Condition}
use Rattle.ra_condition.specs.declared.flag.Flag.TheVariants.{Measured}
use Rattle.ra_condition.specs.declared.setting.Setting.TheVariants.{InValue}
use Rattle.ra_condition.specs.Contents.{Legacy, Grouped}
use Rattle.ra_condition.specs.Flags.{is_measured}
use Rattle.ra_condition.specs.Grammar.{flagged, condition}
use Rattle.ra_condition.specs.Reading.{equal_at, unequal_at, less_at, greater_at, less_or_greater_at}
use Rattle.ra_condition.specs.Reading.{unequal_or_ordered_at, comparison_at, target_at, bracketed_or_none_at}
use Rattle.ra_condition.specs.Reading.{compared_at, compared_or_bare_at, modified_at, ignored_at, unflagged_at}
use Rattle.ra_condition.specs.Reading.{flagged_at, condition_at}
use Rattle.ra_condition.specs.ReadingValues.{measured_conditions_at, condition_part_at, times_at, factor_at, term_at}
use Rattle.ra_condition.specs.ReadingValues.{terms_at, term_part_at, part_at, value_at}
use Rattle.ra_condition.specs.Values.{measured_by, measured_conditions, condition_part, times, term, term_part, part}
use Rattle.ra_condition.specs.Values.{value}
use Rattle.ra_condition.proofs.TailReaders.{condition_rest}
use Rattle.ra_condition.proofs.ConditionReaders.{flag_keys, condition_keys, reader-flagged, begins-flagged}
use Rattle.ra_condition.proofs.ConditionReaders.{reader-condition, reads-condition, flagged-needs_colon}
use Rattle.ra_condition.proofs.ConditionReaders.{operand-no_colon, pick-flag}
use Rattle.ra_text.specs.Chain.{Chain, joined}
use Rattle.ra_text.specs.Form.{Form, Spell, One, Then, Viable, ◌or◌}
use Rattle.ra_text.specs.Reading.{Outcome, rest_of, Reads, ◌>>=◌, one_at, begins, chain_at}
use Rattle.ra_text.specs.ReadingNumbers.{saturated_at, numeral_at, signed_at}
use Rattle.ra_text.specs.Table.{is_in, only, marks}
use Rattle.ra_text.proofs.Begins.{Begins, Firsts, IsListed, begins-or, begins-then, begins-wider, firsts-or}
use Rattle.ra_text.proofs.Begins.{firsts-begins, firsts-spell, firsts-then, firsts-wider, reader-behind, reader-follows}
use Rattle.ra_text.proofs.Chains.{reader-chain, reader-joined, firsts-chain}
use Rattle.ra_text.proofs.Choice.{reader-or}
use Rattle.ra_text.proofs.Either.{reader-map, reader-or_else}
use Rattle.ra_text.proofs.Loops.{Looping, joined-none, loop-next}
use Rattle.ra_text.proofs.Places.{whole_ok}
use Rattle.ra_text.proofs.Readers.{Reader, reader-one, reader-spell, reader-wider, reads-of}
use Rattle.ra_text.proofs.Steps.{reads-shorter}
use Rattle.ra_text.proofs.Tables.{In, keys_of, listed_in, in_within, in_apart, begins-byte, is_in-in, not_in-in}
use Rattle.ra_text.proofs.Tables.{opens-whole}
use Rattle.ra_text.proofs.Spelled.{viable-by, link-spelled}

-- ---- parts of conditions

-- the conditions behind the first
abbrev others : Bool → Form ℕ (List Condition)
others measured = Chain (λ so_far. only (codes "_")) (λ so_far tag. condition InValue) measured_by
    (λ so_far. so_far) measured

abbrev others_at : Bool → List ℕ → Outcome ℕ (List Condition)
others_at measured text = chain_at (λ so_far. only (codes "_"))
    (λ so_far tag. condition_at InValue) measured_by (λ so_far. so_far) (length text) measured text

-- a Measured without operator
abbrev measured_zero : Condition
measured_zero = record { flag = Measured; left = Const 0; op = Bare; right = Const 0; target = 0 }

measured-spelled : condition InValue (codes "M:0") measured_zero
unfolding condition_at flagged_at unflagged_at compared_or_bare_at operand_at cell_or_constant_at
    constant_at unsigned_at decimal_constant_at signed_at saturated_at numeral_at
measured-spelled = whole_ok (condition InValue) (condition_at InValue) (reads-condition InValue)
    (codes "M:0") measured_zero [] refl refl

-- from every state some conditions end the part
completes : (measured : Bool) → Viable (others measured) []
completes true = viable-by [] [] (refl, refl)
completes false = viable-by (codes "_M:0") (measured_zero ∷ [])
    (link-spelled 95 tt (codes "M:0") [] refl refl measured-spelled (refl, refl))

-- what goes on with a part
abbrev pub part_rest : List ℕ
part_rest = condition_rest ++ codes "_"

reader-others : (measured : Bool) → Reader (others measured) (others_at measured) (In part_rest)
reader-others = reader-chain (λ so_far. only (codes "_")) (λ so_far tag. condition InValue)
    (λ so_far tag. condition_at InValue) measured_by (λ so_far. so_far) (In part_rest)
    (In condition_rest) (λ so_far tag. reader-condition InValue)
    (λ so_far c h on. in_apart (codes "_") condition_rest refl c (listed_in (marks (codes "_")) c h) on)
    (in_within condition_rest part_rest refl)
    (λ so_far c h. in_within (codes "_") part_rest refl c (listed_in (marks (codes "_")) c h))
    completes

reader-measured_conditions : Reader measured_conditions measured_conditions_at (In part_rest)
unfolding measured_conditions_at
reader-measured_conditions = reader-follows (flagged InValue) (λ first. Then (others (is_measured
    first.flag)) (λ cs. Spell (first ∷ cs))) (flagged_at InValue) (λ first. others_at (is_measured
    first.0.flag) first.1 >>= λ cs. Ok (first.0 ∷ cs.0, cs.1))
    (In condition_rest) (In (codes "_")) (In part_rest)
    (reader-flagged InValue)
    (λ first. reader-map (others (is_measured first.flag)) (others_at (is_measured first.flag))
    (In part_rest) (λ cs. first ∷ cs) (reader-others (is_measured first.flag)))
    (λ first. firsts-then (others (is_measured first.flag)) (λ cs. Spell (first ∷ cs)) (In (codes "_"))
    (firsts-wider (others (is_measured first.flag)) (IsListed (only (codes "_"))) (In (codes "_"))
    (listed_in (marks (codes "_"))) (firsts-chain (λ so_far. only (codes "_"))
    (λ so_far tag. condition InValue) measured_by (λ so_far. so_far) (is_measured first.flag)))
    (λ cs. firsts-spell (first ∷ cs) (In (codes "_"))))
    (in_apart condition_rest (codes "_") refl)
    (in_within condition_rest part_rest refl)

reader-condition_part : Reader condition_part condition_part_at (In part_rest)
unfolding condition_part_at
reader-condition_part = reader-map measured_conditions measured_conditions_at (In part_rest)
    (λ cs. Grouped cs) reader-measured_conditions

begins-condition_part : Begins condition_part (In flag_keys)
begins-condition_part = begins-then measured_conditions (λ cs. Spell (Grouped cs)) (In flag_keys)
    (begins-then (flagged InValue) (λ first. Then (others (is_measured first.flag))
    (λ cs. Spell (first ∷ cs))) (In flag_keys) (begins-flagged InValue))

-- ---- parts of terms

reader-times : Reader times times_at (In condition_rest)
unfolding times_at
reader-times = reader-behind (One (only (codes "*"))) (λ star. Then operand (λ right. Spell
    (Some right))) (one_at (only (codes "*"))) (λ star. operand_at star.1 >>= λ right. Ok
    (Some right.0, right.1)) (λ c. ⊥) (In operand_keys) (In condition_rest)
    (reader-one (only (codes "*")) (λ c. ⊥) (record { symbol = 42; v = tt; listed = refl }))
    (λ star. reader-wider (Then operand (λ right. Spell (Some right)))
    (λ text. operand_at text >>= λ right. Ok (Some right.0, right.1)) (In operand_rest)
    (In condition_rest) (in_within operand_rest condition_rest refl)
    (reader-map operand operand_at (In operand_rest) (λ right. Some right) reader-operand))
    (λ star. begins-then operand (λ right. Spell (Some right)) (In operand_keys) begins-operand)
    (λ c on here. on)

begins-times : Begins times (In (codes "*"))
begins-times = begins-then (One (only (codes "*"))) (λ star. Then operand
    (λ right. Spell (Some right))) (In (codes "*")) (begins-byte (marks (codes "*")))

opens-times : (c : ℕ) → In (codes "*") c → Viable times (c ∷ [])
unfolding times_at operand_at cell_or_constant_at constant_at unsigned_at decimal_constant_at
    signed_at saturated_at numeral_at
opens-times = opens-whole times times_at (reads-of times times_at (In condition_rest) reader-times)
    (codes "*") (λ c. codes "0") refl

reader-factor : Reader (times or Spell None) factor_at (In condition_rest)
unfolding factor_at
reader-factor = reader-or_else times (Spell None) times_at (λ text. Ok (None, text))
    (is_in (only (codes "*"))) (In (codes "*")) (In condition_rest) reader-times
    (reader-spell None (In condition_rest)) begins-times
    (λ c is. opens-times c (is_in-in (marks (codes "*")) c is))
    (λ c is. in_within (codes "*") condition_rest refl c (is_in-in (marks (codes "*")) c is))
    (λ c s v is h. absurd (cc h.empty)) (not_in-in (marks (codes "*")))

firsts-factor : Firsts (times or Spell None) (In (codes "*"))
firsts-factor = firsts-or times (Spell None) (In (codes "*"))
    (firsts-begins times (In (codes "*")) begins-times) (firsts-spell None (In (codes "*")))

reader-term : Reader term term_at (In condition_rest)
unfolding term_at
reader-term = reader-follows operand (λ left. Then (times or Spell None)
    (λ factor. Spell (record { operand = left; factor = factor }))) operand_at (λ left. factor_at
    left.1 >>= λ factor. Ok (record { operand = left.0; factor = factor.0 }, factor.1))
    (In operand_rest) (In (codes "*")) (In condition_rest)
    reader-operand
    (λ left. reader-map (times or Spell None) factor_at (In condition_rest)
    (λ factor. record { operand = left; factor = factor }) reader-factor)
    (λ left. firsts-then (times or Spell None) (λ factor. Spell
    (record { operand = left; factor = factor })) (In (codes "*")) firsts-factor
    (λ factor. firsts-spell (record { operand = left; factor = factor }) (In (codes "*"))))
    (in_apart operand_rest (codes "*") refl)
    (in_within operand_rest condition_rest refl)

reader-terms : Reader (joined (only (codes "_")) term) terms_at (In part_rest)
unfolding terms_at
reader-terms = reader-joined (only (codes "_")) term term_at (In part_rest) (In condition_rest) reader-term
    (λ c h on. in_apart (codes "_") condition_rest refl c (listed_in (marks (codes "_")) c h) on)
    (in_within condition_rest part_rest refl)
    (λ c h. in_within (codes "_") part_rest refl c (listed_in (marks (codes "_")) c h))

reader-term_part : Reader term_part term_part_at (In part_rest)
unfolding term_part_at
reader-term_part = reader-map (joined (only (codes "_")) term) terms_at (In part_rest) (λ ts. Legacy ts) reader-terms

begins-term : Begins term (In operand_keys)
begins-term = begins-then operand (λ left. Then (times or Spell None)
    (λ factor. Spell (record { operand = left; factor = factor }))) (In operand_keys) begins-operand

begins-term_part : Begins term_part (In operand_keys)
begins-term_part = begins-then (joined (only (codes "_")) term) (λ ts. Spell (Legacy ts)) (In operand_keys)
    (begins-then term (λ first. Then (Chain {S = Unit {0}} (λ s. only (codes "_")) (λ s tag. term)
    (λ s v. s) (λ s. true) tt) (λ behind. Spell (first ∷ behind))) (In operand_keys) begins-term)

-- ---- parts

opens-condition_part : (c : ℕ) → In flag_keys c → Viable condition_part (c ∷ [])
unfolding condition_part_at measured_conditions_at condition_at flagged_at unflagged_at modified_at
    compared_or_bare_at ignored_at compared_at comparison_at equal_at unequal_or_ordered_at
    unequal_at less_or_greater_at less_at greater_at operand_at cell_or_constant_at memory_at
    constant_at unsigned_at decimal_constant_at signed_at saturated_at numeral_at target_at
    bracketed_or_none_at
opens-condition_part = opens-whole condition_part condition_part_at (reads-of condition_part
    condition_part_at (In part_rest) reader-condition_part) flag_keys (λ c. codes ":0=0_M:0") refl

opens-term_part : (c : ℕ) → In (keys_of kinds) c → Viable term_part (c ∷ [])
unfolding term_part_at terms_at term_at factor_at operand_at cell_or_constant_at memory_at
    constant_at unsigned_at decimal_constant_at signed_at saturated_at numeral_at
opens-term_part = opens-whole term_part term_part_at (reads-of term_part term_part_at
    (In part_rest) reader-term_part) (keys_of kinds) (λ c. codes "0x0") refl

part-needs_colon : (c : ℕ) (rest : List ℕ) → In flag_keys c → begins (is_in (only (codes ":"))) rest
    ≡ false → condition_part_at (c ∷ rest) ≡ Err rest
unfolding condition_part_at measured_conditions_at
part-needs_colon c rest here absent = ap (λ o. (o >>= λ first. others_at (is_measured first.0.flag)
    first.1 >>= λ cs. Ok (first.0 ∷ cs.0, cs.1)) >>= λ cs. Ok (Grouped cs.0, cs.1))
    (flagged-needs_colon InValue c rest here absent)

term-no_colon : (c : ℕ) (rest : List ℕ) → In (keys_of kinds) c
    → begins (is_in (only (codes ":"))) rest ≡ true → term_at (c ∷ rest) ≡ Err rest
unfolding term_at
term-no_colon c rest here colon = ap (λ o. o >>= λ left. factor_at left.1 >>= λ factor. Ok
    (record { operand = left.0; factor = factor.0 }, factor.1)) (operand-no_colon c rest here colon)

part-no_colon : (c : ℕ) (rest : List ℕ) → In (keys_of kinds) c
    → begins (is_in (only (codes ":"))) rest ≡ true → term_part_at (c ∷ rest) ≡ Err rest
unfolding term_part_at terms_at
part-no_colon c rest here colon = ap (λ o. o >>= λ ts. Ok (Legacy ts.0, ts.1))
    (joined-none (only (codes "_")) term_at (c ∷ rest) rest (term-no_colon c rest here colon))

pub reader-part : Reader part part_at (In part_rest)
unfolding part_at
reader-part = reader-or condition_part term_part condition_part_at term_part_at part_at
    (In part_rest) reader-condition_part reader-term_part
    (pick-flag condition_part term_part condition_part_at term_part_at (In part_rest)
    (reads-of condition_part condition_part_at (In part_rest) reader-condition_part)
    (reads-of term_part term_part_at (In part_rest) reader-term_part)
    begins-condition_part begins-term_part opens-condition_part opens-term_part part-needs_colon part-no_colon)

-- ---- values

abbrev pub value_rest : List ℕ
value_rest = part_rest ++ codes "$"

pub reader-value : Reader value value_at (In value_rest)
unfolding value_at
reader-value = reader-joined (only (codes "$")) part part_at (In value_rest) (In part_rest) reader-part
    (λ c h on. in_apart (codes "$") part_rest refl c (listed_in (marks (codes "$")) c h) on)
    (in_within part_rest value_rest refl)
    (λ c h. in_within (codes "$") value_rest refl c (listed_in (marks (codes "$")) c h))

pub reads-value : (text : List ℕ) → Reads value text (value_at text)
reads-value = reads-of value value_at (In value_rest) reader-value

-- no piece leaves more than the text
pub vcondition-shorter : (text : List ℕ) → length (rest_of (condition_at InValue text)) ≤ length text
vcondition-shorter text = reads-shorter (reads-condition InValue text)

pub term-shorter : (text : List ℕ) → length (rest_of (term_at text)) ≤ length text
term-shorter text = reads-shorter (reads-of term term_at (In condition_rest) reader-term text)

pub part-shorter : (text : List ℕ) → length (rest_of (part_at text)) ≤ length text
part-shorter text = reads-shorter (reads-of part part_at (In part_rest) reader-part text)

-- ---- the loop over the conditions of a part

-- the conditions so far, and whether one of them measures
abbrev pub MeasuredSoFar : List Condition → Bool → List ℕ → Outcome ℕ (List Condition) → Type 0
MeasuredSoFar = Looping (λ so_far. only (codes "_")) (λ so_far tag. condition_at InValue) measured_by (λ so_far. so_far)

pub measured-starts : (text : List ℕ) (first : Condition) (rest : List ℕ) → flagged_at InValue text
    ≡ Ok (first, rest)
    → MeasuredSoFar (first ∷ []) (is_measured first.flag) rest (measured_conditions_at text)
unfolding measured_conditions_at
measured-starts text first rest read =
    record {
      is = ap (λ o. o >>= λ first. others_at (is_measured first.0.flag) first.1 >>= λ cs. Ok
          (first.0 ∷ cs.0, cs.1)) read;
    }

pub measured-none : (text rest : List ℕ) → flagged_at InValue text ≡ Err rest → measured_conditions_at text ≡ Err rest
unfolding measured_conditions_at
measured-none text rest fails = ap (λ o. o >>= λ first. others_at (is_measured first.0.flag) first.1
    >>= λ cs. Ok (first.0 ∷ cs.0, cs.1)) fails

pub measured-next : (so_far : List Condition) (measured : Bool) (text old : List ℕ)
    (whole : Outcome ℕ (List Condition)) (next : Condition) (rest : List ℕ) → old ≡ 95 ∷ text
    → condition_at InValue text ≡ Ok (next, rest) → MeasuredSoFar so_far measured old whole
    → MeasuredSoFar (so_far ++ next ∷ []) (measured_by measured next) rest whole
measured-next so_far measured text old whole next rest is read l = loop-next (λ so_far. only
    (codes "_")) (λ so_far tag. condition_at InValue) measured_by (λ so_far. so_far) (λ so_far tag.
    vcondition-shorter) so_far measured 95 tt text whole next rest refl read
    (subst (λ t. MeasuredSoFar so_far measured t whole) is l)

-- a measure is kept, and a new one counts
pub measured-kept : (after before new : Bool) → after ≡ before → before ≡ true → after ≡ (before || new)
measured-kept after true new same is = same
measured-kept after false new same is = absurd (cc is)

pub measured-new : (after before new : Bool) → after ≡ new → before ≡ false → after ≡ (before || new)
measured-new after true new same is = absurd (cc is)
measured-new after false new same is = same
