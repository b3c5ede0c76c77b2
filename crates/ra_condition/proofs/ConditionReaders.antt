-- The readers of conditions: the letter of a flag may also begin an operand.
use Rattle.std.proofs.Common.{◌≡◌, ◌∙◌, ℕ, Bool, true, false, ◌&&◌, ◌||◌, not, if◌then◌else◌, List, [], ◌∷◌, ◌++◌}
use Rattle.std.proofs.Common.{Option, Some, None, Ok, Err, refl, ap, subst, codes}
use Rattle.ra_operand.specs.declared.operand.Operand.{Operand}
use Rattle.ra_operand.specs.Grammar.{kinds, operand}
use Rattle.ra_operand.specs.Reading.{operand_at, memory_at, constant_at, unsigned_at, decimal_constant_at}
use Rattle.ra_operand.specs.Reading.{cell_or_constant_at}
use Rattle.ra_operand.proofs.Operands.{operand_rest, operand_keys, reader-operand, begins-operand}
use Rattle.ra_condition.specs.declared.condition.Condition.{Condition}
use Rattle.ra_condition.specs.declared.flag.Flag.{Flag}
use Rattle.ra_condition.specs.declared.flag.Flag.TheVariants.{Plain, PauseIf}
use Rattle.ra_condition.specs.declared.setting.Setting.{Setting}
use Rattle.ra_condition.specs.declared.setting.Setting.TheVariants.{InTrigger, InValue}
use Rattle.ra_condition.specs.declared.tail.Tail.{Tail}
use Rattle.ra_condition.specs.Flags.{hands_on}
use Rattle.ra_condition.specs.Grammar.{flags, stands_bare, tail_of, unflagged, flagged, condition}
use Rattle.ra_condition.specs.Reading.{equal_at, unequal_at, less_at, greater_at, less_or_greater_at}
use Rattle.ra_condition.specs.Reading.{unequal_or_ordered_at, comparison_at, target_at, bracketed_or_none_at}
use Rattle.ra_condition.specs.Reading.{compared_at, compared_or_bare_at, modified_at, ignored_at, tail_at, unflagged_at}
use Rattle.ra_condition.specs.Reading.{flagged_at, begins_flag, condition_at}
use Rattle.ra_condition.proofs.TailReaders.{condition_rest, tail_keys, reader-tail, firsts-tail}
use Rattle.ra_text.specs.Form.{Form, Spell, One, Then, Viable}
use Rattle.ra_text.specs.Reading.{Outcome, Reads, ◌>>=◌, one_at, taken, choice_at, begins}
use Rattle.ra_text.specs.ReadingNumbers.{saturated_at, numeral_at, signed_at}
use Rattle.ra_text.specs.Table.{lookup, is_in, only, marks}
use Rattle.ra_text.proofs.Begins.{Begins, begins-or, begins-then, begins-wider, reader-behind, reader-follows}
use Rattle.ra_text.proofs.Begins.{firsts-then, firsts-spell}
use Rattle.ra_text.proofs.Choice.{Picks, first, second, fails, reader-or}
use Rattle.ra_text.proofs.Either.{reader-map, reads-fails, reads-takes_front}
use Rattle.ra_text.proofs.Readers.{Reader, reader-one, reads-of}
use Rattle.ra_text.proofs.Steps.{reads-shorter}
use Rattle.ra_text.proofs.Tables.{In, has, each-in, in_listed, passes, keys_of, in_within, in_apart, begins-byte}
use Rattle.ra_text.proofs.Tables.{is_in-in, not_in-in, opens-whole}

-- the condition of a flag, a left operand and a tail
abbrev condition_of : Flag → Operand → Tail → Condition
condition_of flag left tail =
    record { flag = flag; left = left; op = tail.op; right = tail.right; target = tail.target }

pub reader-unflagged : (setting : Setting) (flag : Flag)
    → Reader (unflagged setting flag) (unflagged_at setting flag) (In condition_rest)
unfolding unflagged_at
reader-unflagged setting flag = reader-follows operand (λ left. Then (tail_of (hands_on flag)
    (stands_bare setting flag)) (λ tail. Spell (condition_of flag left tail))) operand_at
    (λ left. tail_at (hands_on flag) (stands_bare setting flag) left.1 >>= λ tail. Ok
    (condition_of flag left.0 tail.0, tail.1)) (In operand_rest) (In tail_keys) (In condition_rest)
    reader-operand
    (λ left. reader-map (tail_of (hands_on flag) (stands_bare setting flag))
    (tail_at (hands_on flag) (stands_bare setting flag)) (In condition_rest)
    (condition_of flag left) (reader-tail (hands_on flag) (stands_bare setting flag)))
    (λ left. firsts-then (tail_of (hands_on flag) (stands_bare setting flag))
    (λ tail. Spell (condition_of flag left tail)) (In tail_keys) (firsts-tail (hands_on flag)
    (stands_bare setting flag)) (λ tail. firsts-spell (condition_of flag left tail) (In tail_keys)))
    (in_apart operand_rest tail_keys refl)
    (in_within operand_rest condition_rest refl)

pub begins-unflagged : (setting : Setting) (flag : Flag) → Begins (unflagged setting flag) (In operand_keys)
begins-unflagged setting flag = begins-then operand
    (λ left. Then (tail_of (hands_on flag) (stands_bare setting flag))
    (λ tail. Spell (condition_of flag left tail))) (In operand_keys) begins-operand

abbrev pub flag_keys : List ℕ
flag_keys = keys_of flags

pub reader-flagged : (setting : Setting) → Reader (flagged setting) (flagged_at setting) (In condition_rest)
unfolding flagged_at
reader-flagged setting = reader-behind (One (lookup flags)) (λ flag. Then (One (only (codes ":")))
    (λ colon. unflagged setting flag)) (one_at (lookup flags)) (λ flag. one_at (only (codes ":"))
    flag.1 >>= λ colon. unflagged_at setting flag.0 colon.1)
    (λ c. ⊥) (In (codes ":")) (In condition_rest)
    (reader-one (lookup flags) (λ c. ⊥) (record { symbol = 80; v = PauseIf; listed = refl }))
    (λ flag. reader-behind (One (only (codes ":"))) (λ colon. unflagged setting flag)
    (one_at (only (codes ":"))) (λ colon. unflagged_at setting flag colon.1) (λ c. ⊥)
    (In operand_keys) (In condition_rest)
    (reader-one (only (codes ":")) (λ c. ⊥) (record { symbol = 58; v = tt; listed = refl }))
    (λ colon. reader-unflagged setting flag) (λ colon. begins-unflagged setting flag)
    (λ c on here. on))
    (λ flag. begins-then (One (only (codes ":"))) (λ colon. unflagged setting flag) (In (codes ":"))
    (begins-byte (marks (codes ":"))))
    (λ c on here. on)

pub begins-flagged : (setting : Setting) → Begins (flagged setting) (In flag_keys)
begins-flagged setting = begins-then (One (lookup flags)) (λ flag. Then (One (only (codes ":")))
    (λ colon. unflagged setting flag)) (In flag_keys) (begins-byte flags)

-- ---- a form that begins with a flag beside one that begins with an operand

-- the test of the code
abbrev flag_next : Bool → Bool → Bool → Bool
flag_next is_flag is_colon is_prefix = is_flag && (is_colon || not is_prefix)

-- the letter of a flag that is no prefix begins no operand
flag-no_operand : (c : ℕ) → In flag_keys c → is_in (lookup kinds) c ≡ false → In operand_keys c → ⊥
flag-no_operand c here bare there =
    let all : (is_in (lookup kinds) c || not (has operand_keys c)) ≡ true =
    passes (λ c. is_in (lookup kinds) c || not (has operand_keys c)) flag_keys refl c here in
    contradicted (is_in (lookup kinds) c) (has operand_keys c) all bare there where
      contradicted : (prefix begins_operand : Bool) → (prefix || not begins_operand) ≡ true → prefix
          ≡ false → begins_operand ≡ true → ⊥
      contradicted true begins_operand all bare there = absurd (cc bare)
      contradicted false true all bare there = absurd (cc all)
      contradicted false false all bare there = absurd (cc there)

module _ {V : Type 0} (f u : Form ℕ V) (f_at u_at : List ℕ → Outcome ℕ V) (goes_on : ℕ → Type 0)
    (reads_f : (text : List ℕ) → Reads f text (f_at text)) (reads_u : (text : List ℕ) → Reads u text (u_at text))
    (begins_f : Begins f (In flag_keys)) (begins_u : Begins u (In operand_keys))
    (opens_f : (c : ℕ) → In flag_keys c → Viable f (c ∷ [])) (opens_u : (c : ℕ)
    → In (keys_of kinds) c → Viable u (c ∷ []))
    (needs_colon : (c : ℕ) (rest : List ℕ) → In flag_keys c → begins (is_in (only (codes ":"))) rest
    ≡ false → f_at (c ∷ rest) ≡ Err rest)
    (no_colon : (c : ℕ) (rest : List ℕ) → In (keys_of kinds) c
    → begins (is_in (only (codes ":"))) rest ≡ true → u_at (c ∷ rest) ≡ Err rest) where
  f-fails : (text : List ℕ) → ((c : ℕ) (s : List ℕ) → text ≡ c ∷ s → In flag_keys c → ⊥) → f_at text ≡ Err text
  f-fails text never = reads-fails (reads_f text) begins_f.not_empty
      (λ c s is t v h. never c s is (begins_f.first c t v h))

  u-fails : (c : ℕ) (s : List ℕ) → (In operand_keys c → ⊥) → u_at (c ∷ s) ≡ Err (c ∷ s)
  u-fails c s never = reads-fails (reads_u (c ∷ s)) begins_u.not_empty (λ d t is t' v h. never
      (let same : d ≡ c = cc is in subst (λ x. In operand_keys x) same (begins_u.first d t' v h)))

  picks-at : (c : ℕ) (rest : List ℕ) (is_flag is_colon is_prefix : Bool) → is_in (lookup flags) c
      ≡ is_flag → begins (is_in (only (codes ":"))) rest ≡ is_colon → is_in (lookup kinds) c
      ≡ is_prefix
      → Picks goes_on (f_at (c ∷ rest)) (u_at (c ∷ rest)) (if flag_next is_flag is_colon is_prefix
      then f_at (c ∷ rest) else u_at (c ∷ rest))
  picks-at c rest false is_colon is_prefix a b p = second refl (fails (c ∷ rest) (f-fails (c ∷ rest)
      (λ d s is here. not_in-in flags c a (let same : d ≡ c = cc is in subst (λ x. In flag_keys x)
      same here))) (reads-shorter (reads_u (c ∷ rest))))
  picks-at c rest true true true a b p = first refl (fails rest (no_colon c rest (is_in-in kinds c
      p) b) (reads-takes_front (c ∷ []) rest (reads_f (c ∷ rest)) (opens_f c (is_in-in flags c a))))
  picks-at c rest true false true a b p = second refl
      (fails rest (needs_colon c rest (is_in-in flags c a) b)
      (reads-takes_front (c ∷ []) rest (reads_u (c ∷ rest)) (opens_u c (is_in-in kinds c p))))
  picks-at c rest true true false a b p = first refl (fails (c ∷ rest) (u-fails c rest
      (λ here. flag-no_operand c (is_in-in flags c a) p here)) (reads-shorter (reads_f (c ∷ rest))))
  picks-at c rest true false false a b p = first refl (fails (c ∷ rest) (u-fails c rest
      (λ here. flag-no_operand c (is_in-in flags c a) p here)) (reads-shorter (reads_f (c ∷ rest))))

  pub pick-flag : (text : List ℕ) → Picks goes_on (f_at text) (u_at text) (choice_at begins_flag f_at u_at text)
  pick-flag [] = second refl (fails [] (f-fails [] (λ c s is here. absurd (cc is))) (reads-shorter (reads_u [])))
  pick-flag (c ∷ rest) = picks-at c rest (is_in (lookup flags) c)
      (begins (is_in (only (codes ":"))) rest) (is_in (lookup kinds) c) refl refl refl

-- ---- conditions

-- each letter of a flag begins a condition, and so does each prefix
opens-flagged : (setting : Setting) (c : ℕ) → In flag_keys c → Viable (flagged setting) (c ∷ [])
unfolding flagged_at unflagged_at modified_at compared_or_bare_at ignored_at compared_at
    comparison_at equal_at unequal_or_ordered_at unequal_at less_or_greater_at less_at greater_at
    operand_at cell_or_constant_at memory_at constant_at unsigned_at decimal_constant_at signed_at
    saturated_at numeral_at target_at bracketed_or_none_at
opens-flagged InTrigger = opens-whole (flagged InTrigger) (flagged_at InTrigger)
    (reads-of (flagged InTrigger) (flagged_at InTrigger) (In condition_rest)
    (reader-flagged InTrigger)) flag_keys (λ c. codes ":0=0") refl
opens-flagged InValue = opens-whole (flagged InValue) (flagged_at InValue)
    (reads-of (flagged InValue) (flagged_at InValue) (In condition_rest) (reader-flagged InValue))
    flag_keys (λ c. codes ":0=0") refl

opens-unflagged : (setting : Setting) (c : ℕ) → In (keys_of kinds) c → Viable (unflagged setting Plain) (c ∷ [])
unfolding unflagged_at compared_or_bare_at compared_at comparison_at equal_at unequal_or_ordered_at
    unequal_at less_or_greater_at less_at greater_at operand_at cell_or_constant_at memory_at
    constant_at unsigned_at decimal_constant_at signed_at saturated_at numeral_at target_at
    bracketed_or_none_at
opens-unflagged InTrigger = opens-whole (unflagged InTrigger Plain) (unflagged_at InTrigger Plain)
    (reads-of (unflagged InTrigger Plain) (unflagged_at InTrigger Plain) (In condition_rest)
    (reader-unflagged InTrigger Plain)) (keys_of kinds) (λ c. codes "0x0=0") refl
opens-unflagged InValue = opens-whole (unflagged InValue Plain) (unflagged_at InValue Plain)
    (reads-of (unflagged InValue Plain) (unflagged_at InValue Plain) (In condition_rest)
    (reader-unflagged InValue Plain)) (keys_of kinds) (λ c. codes "0x0=0") refl

-- what is read of a table's byte
one-listed : {V : Type 0} (table : List (ℕ × V)) (c : ℕ) (rest : List ℕ) → In (keys_of table) c
    → (v : V) × (one_at (lookup table) (c ∷ rest) ≡ Ok (v, rest))
one-listed {V} table c rest here = let h : (v : V) × (lookup table c ≡ Some v) =
    in_listed table c here in (h.0, ap (λ found. taken found c rest) h.1)

-- no colon is next
no-colon : (rest : List ℕ) → begins (is_in (only (codes ":"))) rest ≡ false → one_at (only (codes ":")) rest ≡ Err rest
no-colon [] e = refl
no-colon (c ∷ rest) e = decided (only (codes ":") c) e where
  decided : (found : Option (Unit {0})) → elim found [ Some v ↦ true | None ↦ false ] ≡ false
      → taken found c rest ≡ Err (c ∷ rest)
  decided (Some v) e = absurd (cc e)
  decided None e = refl

pub flagged-needs_colon : (setting : Setting) (c : ℕ) (rest : List ℕ) → In flag_keys c
    → begins (is_in (only (codes ":"))) rest ≡ false → flagged_at setting (c ∷ rest) ≡ Err rest
unfolding flagged_at
flagged-needs_colon setting c rest here absent =
    let flag : (v : Flag) × (one_at (lookup flags) (c ∷ rest) ≡ Ok (v, rest)) = one-listed flags c rest here in
    ap (λ o. o >>= λ flag. one_at (only (codes ":")) flag.1 >>= λ colon. unflagged_at setting flag.0 colon.1) flag.1
    ∙ ap (λ o. o >>= λ colon. unflagged_at setting flag.0 colon.1) (no-colon rest absent)

-- behind a prefix a colon is no memory
colon-first : (rest : List ℕ) → begins (is_in (only (codes ":"))) rest ≡ true → (s : List ℕ) × (rest ≡ 58 ∷ s)
colon-first [] e = absurd (cc e)
colon-first (c ∷ rest) e =
    (rest, ap (λ x. x ∷ rest) (each-in (λ x. x ≡ 58) (codes ":") (refl, tt) c (is_in-in (marks (codes ":")) c e)))

pub operand-no_colon : (c : ℕ) (rest : List ℕ) → In (keys_of kinds) c
    → begins (is_in (only (codes ":"))) rest ≡ true → operand_at (c ∷ rest) ≡ Err rest
unfolding operand_at cell_or_constant_at memory_at
operand-no_colon c rest here colon = let s : (s : List ℕ) × (rest ≡ 58 ∷ s) = colon-first rest colon in
    rw s.1 (each-in (λ c. operand_at (c ∷ 58 ∷ s.0) ≡ Err (58 ∷ s.0)) (keys_of kinds)
    (refl, (refl, (refl, (refl, (refl, (refl, (refl, tt))))))) c here)

pub unflagged-no_colon : (setting : Setting) (c : ℕ) (rest : List ℕ) → In (keys_of kinds) c → begins
    (is_in (only (codes ":"))) rest ≡ true → unflagged_at setting Plain (c ∷ rest) ≡ Err rest
unfolding unflagged_at
unflagged-no_colon setting c rest here colon =
    ap (λ o. o >>= λ left. tail_at (hands_on Plain) (stands_bare setting Plain) left.1
    >>= λ tail. Ok (condition_of Plain left.0 tail.0, tail.1)) (operand-no_colon c rest here colon)

pub reader-condition : (setting : Setting) → Reader (condition setting) (condition_at setting) (In condition_rest)
unfolding condition_at
reader-condition setting = reader-or (flagged setting) (unflagged setting Plain)
    (flagged_at setting) (unflagged_at setting Plain) (condition_at setting) (In condition_rest)
    (reader-flagged setting) (reader-unflagged setting Plain)
    (pick-flag (flagged setting) (unflagged setting Plain) (flagged_at setting)
    (unflagged_at setting Plain) (In condition_rest)
    (reads-of (flagged setting) (flagged_at setting) (In condition_rest) (reader-flagged setting))
    (reads-of (unflagged setting Plain) (unflagged_at setting Plain) (In condition_rest)
    (reader-unflagged setting Plain))
    (begins-flagged setting) (begins-unflagged setting Plain) (opens-flagged setting)
    (opens-unflagged setting) (flagged-needs_colon setting) (unflagged-no_colon setting))

pub reads-condition : (setting : Setting) (text : List ℕ) → Reads (condition setting) text (condition_at setting text)
reads-condition setting = reads-of (condition setting) (condition_at setting) (In condition_rest)
    (reader-condition setting)

-- what conditions begin with
abbrev pub condition_keys : List ℕ
condition_keys = flag_keys ++ operand_keys

pub begins-condition : (setting : Setting) → Begins (condition setting) (In condition_keys)
begins-condition setting = begins-or (flagged setting) (unflagged setting Plain) (In condition_keys)
    (begins-wider (flagged setting) (In flag_keys) (In condition_keys)
    (in_within flag_keys condition_keys refl) (begins-flagged setting))
    (begins-wider (unflagged setting Plain) (In operand_keys) (In condition_keys)
    (in_within operand_keys condition_keys refl) (begins-unflagged setting Plain))
