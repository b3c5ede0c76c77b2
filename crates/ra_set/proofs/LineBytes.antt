-- No text of a line of the grammar has a line feed in it, and none of a trigger or a board a carriage return.
use Rattle.std.proofs.Common.{◌≡◌, ◌≢◌, ◌∙◌, inl, inr, ℕ, ◌+◌, ◌*◌, Bool, true, false, if◌then◌else◌, List, [], ◌∷◌}
use Rattle.std.proofs.Common.{◌++◌, Option, Some, None, refl, sym, ap, subst, codes}
use Rattle.ra_condition.specs.Flags.{hands_on, is_measured}
use Rattle.ra_condition.specs.Grammar.{flags, comparison, operators, target, compared, computed, bare, tail_of}
use Rattle.ra_condition.specs.Grammar.{stands_bare, unflagged, flagged, condition, group, trigger}
use Rattle.ra_condition.specs.Values.{measured_by, measured_conditions, term, part, value}
use Rattle.ra_condition.specs.declared.flag.Flag.{Flag}
use Rattle.ra_condition.specs.declared.flag.Flag.TheVariants.{Plain}
use Rattle.ra_condition.specs.declared.setting.Setting.{Setting}
use Rattle.ra_condition.specs.declared.setting.Setting.TheVariants.{InTrigger, InValue}
use Rattle.ra_leaderboard.specs.Grammar.{in_either_case, tag, held, field, next_field, board}
use Rattle.ra_leaderboard.specs.Tags.{word_of}
use Rattle.ra_leaderboard.specs.declared.tag.Tag.{Tag}
use Rattle.ra_leaderboard.specs.declared.tag.Tag.TheVariants.{Start, Cancel, Submit, Value, Progress}
use Rattle.ra_operand.specs.Grammar.{kinds, sizes, memory, constant, recall, operand}
use Rattle.ra_set.specs.Grammar.{ExactId, format_name, comment, head, achievement, leaderboard, line}
use Rattle.ra_set.specs.Runs.{run_of, any_but}
use Rattle.ra_set.proofs.LineReaders.{behind_format}
use Rattle.ra_value_format.specs.declared.format.Format.{Format}
use Rattle.ra_text.specs.Chain.{Chain, joined}
use Rattle.ra_text.specs.Form.{Form, Spell, One, ◌>>=◌, ◌or◌, optional}
use Rattle.ra_text.specs.Number.{digits, hex_digits, signs, Digits, numeral, decimal, hexadecimal, signed}
use Rattle.ra_text.specs.Table.{lookup, is_in, only, only_letters}
use Rattle.ra_text.proofs.Tables.{OfEach}

-- ---- bytes of a kind, and forms all of whose texts have such bytes alone

pub each-append : (Fits : ℕ → Type 0) (xs ys : List ℕ) → OfEach Fits xs → OfEach Fits ys → OfEach Fits (xs ++ ys)
each-append Fits [] ys front behind = behind
each-append Fits (c ∷ xs) ys front behind = (front.0, each-append Fits xs ys front.1 behind)

pub each-wider : (Fits Wider : ℕ → Type 0) → ((c : ℕ) → Fits c → Wider c) → (xs : List ℕ) → OfEach Fits xs
    → OfEach Wider xs
each-wider Fits Wider wider [] all = tt
each-wider Fits Wider wider (c ∷ xs) all = (wider c all.0, each-wider Fits Wider wider xs all.1)

-- the texts of a form have such bytes alone
pub record Made {V : Type 0} (Fits : ℕ → Type 0) (form : Form ℕ V) : Type 0 where
  pub each : (text : List ℕ) (v : V) → form text v → OfEach Fits text

pub made-wider : {V : Type 0} {form : Form ℕ V} (Fits Wider : ℕ → Type 0) → ((c : ℕ) → Fits c → Wider c)
    → Made Fits form → Made Wider form
made-wider Fits Wider wider m = record { each = λ text v h. each-wider Fits Wider wider text (m.each text v h) }

module _ {Fits : ℕ → Type 0} where
  made-spell : {V : Type 0} (v : V) → Made Fits (Spell v)
  made-spell v = record { each = λ text w h. subst (OfEach Fits) (sym h.empty) tt }

  made-one : {V : Type 0} (table : ℕ → Option V) → ((c : ℕ) (v : V) → table c ≡ Some v → Fits c) → Made Fits (One table)
  made-one table fits = record { each = λ text v h. subst (OfEach Fits) (sym h.alone) (fits h.symbol v h.listed, tt) }

  made-then : {V W : Type 0} {first : Form ℕ V} {next : V → Form ℕ W} → Made Fits first
      → ((v : V) → Made Fits (next v)) → Made Fits (first >>= next)
  made-then a b = record {
    each = λ text w h. subst (OfEach Fits) (sym h.parts)
        (each-append Fits h.front h.behind (a.each h.front h.v h.of_first) ((b h.v).each h.behind w h.of_next));
  }

  made-or : {V : Type 0} {a b : Form ℕ V} → Made Fits a → Made Fits b → Made Fits (a or b)
  made-or m n = record { each = λ text v h. elim h [ inl l ↦ m.each text v l | inr r ↦ n.each text v r ] }

  module _ {T S V : Type 0} (separator : S → ℕ → Option T) (item : S → T → Form ℕ V) (step : S → V → S)
      (done : S → Bool)
      (separated : (s : S) (c : ℕ) (tag : T) → separator s c ≡ Some tag → Fits c)
      (each_item : (s : S) (tag : T) → Made Fits (item s tag)) where
    chain-each : (s : S) (text : List ℕ) (vs : List V) → Chain separator item step done s text vs → OfEach Fits text
    chain-each s text [] h = subst (OfEach Fits) (sym h.0) tt
    chain-each s text (v ∷ vs) h = subst (OfEach Fits) (sym h.parts) (
      separated s h.symbol h.tag h.separated,
      each-append Fits h.front h.behind
          ((each_item s h.tag).each h.front v h.of_item) (chain-each (step s v) h.behind vs h.of_others),
    )

    made-chain : (s : S) → Made Fits (Chain separator item step done s)
    made-chain s = record { each = chain-each s }

  made-joined : {T V : Type 0} (separator : ℕ → Option T) {item : Form ℕ V}
      → ((c : ℕ) (tag : T) → separator c ≡ Some tag → Fits c) → Made Fits item → Made Fits (joined separator item)
  made-joined separator {item} separated m = made-then m
      (λ first. made-then (made-chain {S = Unit {0}} (λ s. separator) (λ s tag. item) (λ s v. s) (λ s. true)
      (λ s. separated) (λ s tag. m) tt) (λ others. made-spell (first ∷ others)))

  digits-each : (table : ℕ → Option ℕ) (base : ℕ) → ((c d : ℕ) → table c ≡ Some d → Fits c)
      → (so_far : ℕ) (text : List ℕ) (n : ℕ) → Digits table base so_far text n → OfEach Fits text
  digits-each table base fits so_far [] n h = tt
  digits-each table base fits so_far (c ∷ text) n h =
      (fits c h.0 h.1, digits-each table base fits (so_far * base + h.0) text n h.2)

  made-numeral : (table : ℕ → Option ℕ) (base : ℕ) → ((c d : ℕ) → table c ≡ Some d → Fits c)
      → Made Fits (numeral table base)
  made-numeral table base fits = made-then (made-one table fits) (λ d. record { each = digits-each table base fits d })

-- ---- bytes that are no end of a line

-- no line feed
abbrev pub Feedless : ℕ → Type 0
Feedless c = c ≢ 10

-- neither a line feed nor a carriage return
abbrev pub Inner : ℕ → Type 0
Inner c = (c ≢ 10) × (c ≢ 13)

-- a table that has no such byte
absent : {V : Type 0} (table : ℕ → Option V) (end : ℕ) → table end ≡ None → (c : ℕ) (v : V) → table c ≡ Some v → c ≢ end
absent table end none c v here is = absurd (let there : table c ≡ None = ap table is ∙ none in cc (here, there))

-- a table that has neither of both bytes
inner : {V : Type 0} (table : ℕ → Option V) → table 10 ≡ None → table 13 ≡ None → (c : ℕ) (v : V) → table c ≡ Some v
    → Inner c
inner table feed returned c v here = (absent table 10 feed c v here, absent table 13 returned c v here)

inner-one : {V : Type 0} (table : ℕ → Option V) → table 10 ≡ None → table 13 ≡ None → Made Inner (One table)
inner-one table feed returned = made-one table (inner table feed returned)

inner-optional : {V : Type 0} (table : ℕ → Option V) (none : V) → table 10 ≡ None → table 13 ≡ None
    → Made Inner (optional table none)
inner-optional table none feed returned = made-or (inner-one table feed returned) (made-spell none)

-- ---- numbers and operands

inner-decimal : Made Inner decimal
inner-decimal = made-then (made-numeral (lookup digits) 10 (inner (lookup digits) refl refl)) (λ n. made-spell _)

inner-hexadecimal : Made Inner hexadecimal
inner-hexadecimal = made-then (made-numeral (lookup hex_digits) 16 (inner (lookup hex_digits) refl refl))
    (λ n. made-spell _)

inner-signed : Made Inner signed
inner-signed = made-then (inner-optional (lookup signs) false refl refl)
    (λ negative. made-then (made-numeral (lookup digits) 10 (inner (lookup digits) refl refl)) (λ n. made-spell _))

inner-memory : Made Inner memory
inner-memory = made-then (inner-optional (lookup kinds) _ refl refl)
    (λ kind. made-then (inner-one (only (codes "0")) refl refl)
    (λ zero. made-then (inner-one (only_letters (codes "X")) refl refl)
    (λ x. made-then (inner-optional (lookup sizes) _ refl refl)
    (λ size. made-then inner-hexadecimal (λ address. made-spell _)))))

inner-constant : Made Inner constant
inner-constant = made-then (inner-optional (only_letters (codes "V")) tt refl refl) (λ v. made-or
    (made-then (inner-one (only_letters (codes "H")) refl refl) (λ h. made-then inner-hexadecimal (λ n. made-spell _)))
    (made-then inner-signed (λ n. made-spell _)))

-- a byte of the word is no end of a line
recall-each : OfEach Inner (codes "{recall}")
recall-each = (
  (λ e. cc e, λ e. cc e),
  (
    (λ e. cc e, λ e. cc e),
    (
      (λ e. cc e, λ e. cc e),
      (
        (λ e. cc e, λ e. cc e),
        ((λ e. cc e, λ e. cc e), ((λ e. cc e, λ e. cc e), ((λ e. cc e, λ e. cc e), ((λ e. cc e, λ e. cc e), tt)))),
      ),
    ),
  ),
)

inner-recall : Made Inner recall
inner-recall = made-then (record { each = λ text v h. subst (OfEach Inner) (sym h.is) recall-each })
    (λ word. made-spell _)

inner-operand : Made Inner operand
inner-operand = made-or inner-recall (made-or inner-memory inner-constant)

-- ---- conditions, triggers and values

inner-comparison : Made Inner comparison
inner-comparison = made-or
    (made-then (inner-one (only (codes "=")) refl refl)
    (λ first. made-then (inner-optional (only (codes "=")) tt refl refl) (λ second. made-spell _)))
    (made-or (made-then (inner-one (only (codes "!")) refl refl)
    (λ first. made-then (inner-one (only (codes "=")) refl refl) (λ second. made-spell _)))
    (made-or (made-then (inner-one (only (codes "<")) refl refl) (λ first. inner-optional _ _ refl refl))
    (made-then (inner-one (only (codes ">")) refl refl) (λ first. inner-optional _ _ refl refl))))

inner-target : Made Inner target
inner-target = made-or
    (made-then (inner-one (only (codes ".")) refl refl)
    (λ point. made-then inner-decimal
    (λ n. made-then (inner-one (only (codes ".")) refl refl) (λ closing. made-spell _))))
    (made-or (made-then (inner-one (only (codes "(")) refl refl)
    (λ bracket. made-then inner-decimal (λ n. made-then (inner-one (only (codes ")")) refl refl)
    (λ closing. made-spell _))))
    (made-spell _))

inner-compared : Made Inner compared
inner-compared = made-then inner-comparison
    (λ op. made-then inner-operand (λ right. made-then inner-target (λ n. made-spell _)))

inner-computed : Made Inner computed
inner-computed = made-then (inner-one (lookup operators) refl refl)
    (λ op. made-then inner-operand (λ right. made-then inner-target (λ n. made-spell _)))

inner-tail : (hands stands : Bool) → Made Inner (tail_of hands stands)
inner-tail true stands = made-or (made-then inner-compared (λ tail. made-spell bare))
    (made-or inner-computed (made-spell bare))
inner-tail false true = made-or inner-compared (made-spell bare)
inner-tail false false = inner-compared

inner-unflagged : (setting : Setting) (flag : Flag) → Made Inner (unflagged setting flag)
inner-unflagged setting flag = made-then inner-operand
    (λ left. made-then (inner-tail (hands_on flag) (stands_bare setting flag)) (λ tail. made-spell _))

inner-flagged : (setting : Setting) → Made Inner (flagged setting)
inner-flagged setting = made-then (inner-one (lookup flags) refl refl)
    (λ flag. made-then (inner-one (only (codes ":")) refl refl) (λ colon. inner-unflagged setting flag))

inner-condition : (setting : Setting) → Made Inner (condition setting)
inner-condition setting = made-or (inner-flagged setting) (inner-unflagged setting Plain)

inner-group : Made Inner group
inner-group = made-or (made-joined (only (codes "_")) (inner (only (codes "_")) refl refl) (inner-condition InTrigger))
    (made-spell [])

pub inner-trigger : Made Inner trigger
inner-trigger = made-then
    (made-joined (only_letters (codes "S")) (inner (only_letters (codes "S")) refl refl) inner-group)
    (λ groups. made-spell _)

inner-measured : Made Inner measured_conditions
inner-measured = made-then (inner-flagged InValue) (λ first. made-then
    (made-chain (λ so_far. only (codes "_")) (λ so_far tag. condition InValue) measured_by (λ so_far. so_far)
    (λ so_far. inner (only (codes "_")) refl refl) (λ so_far tag. inner-condition InValue) (is_measured first.flag))
    (λ others. made-spell (first ∷ others)))

inner-term : Made Inner term
inner-term = made-then inner-operand
    (λ left. made-then (made-or
    (made-then (inner-one (only (codes "*")) refl refl) (λ star. made-then inner-operand (λ right. made-spell _)))
    (made-spell None)) (λ factor. made-spell _))

inner-part : Made Inner part
inner-part = made-or (made-then inner-measured (λ cs. made-spell _))
    (made-then (made-joined (only (codes "_")) (inner (only (codes "_")) refl refl) inner-term) (λ ts. made-spell _))

inner-value : Made Inner value
inner-value = made-joined (only (codes "$")) (inner (only (codes "$")) refl refl) inner-part

-- ---- boards

-- the letters of a word in either case are no ends of a line
abbrev AreInner : List ℕ → Type 0
AreInner [] = Unit {0}
AreInner (upper ∷ others) = (only_letters (upper ∷ []) 10 ≡ None) × (only_letters (upper ∷ []) 13 ≡ None)
    × AreInner others

inner-word : (word : List ℕ) → AreInner word → Made Inner (in_either_case word)
inner-word [] all = made-spell tt
inner-word (upper ∷ others) all = made-then (inner-one (only_letters (upper ∷ [])) all.0 all.1)
    (λ letter. inner-word others all.2)

inner-tag : Made Inner tag
inner-tag = record { each = λ text t h. (inner-word (word_of t) (letters_of t)).each text tt h } where
  letters_of : (t : Tag) → AreInner (word_of t)
  letters_of Start = (refl, refl, (refl, refl, (refl, refl, tt)))
  letters_of Cancel = (refl, refl, (refl, refl, (refl, refl, tt)))
  letters_of Submit = (refl, refl, (refl, refl, (refl, refl, tt)))
  letters_of Value = (refl, refl, (refl, refl, (refl, refl, tt)))
  letters_of Progress = (refl, refl, (refl, refl, (refl, refl, tt)))

inner-held : (t : Tag) → Made Inner (held t)
inner-held Start = made-then inner-trigger (λ t. made-spell _)
inner-held Cancel = made-then inner-trigger (λ t. made-spell _)
inner-held Submit = made-then inner-trigger (λ t. made-spell _)
inner-held Value = made-then inner-value (λ v. made-spell _)
inner-held Progress = made-then inner-value (λ v. made-spell _)

inner-field : Made Inner field
inner-field = made-then inner-tag (λ t. made-then (inner-one (only (codes ":")) refl refl) (λ colon. inner-held t))

pub inner-board : Made Inner board
inner-board = made-then
    (made-then inner-field (λ first. made-then
    (made-chain {S = Unit {0}} (λ s. only (codes ":")) (λ s colon. next_field) (λ s f. s) (λ s. true)
    (λ s. inner (only (codes ":")) refl refl)
    (λ s colon. made-then (inner-one (only (codes ":")) refl refl) (λ second. inner-field)) tt)
    (λ others. made-spell (first ∷ others))))
    (λ in_order. record { each = λ text b h. subst (OfEach Inner) (sym h.empty) tt })

-- ---- lines

inner-id : Made Inner ExactId
inner-id = record {
  each = λ text n h. (made-numeral (lookup digits) 10 (inner (lookup digits) refl refl)).each text n
      h.number;
}

pub inner-head : (letter : ℕ) → only (letter ∷ []) 10 ≡ None → only (letter ∷ []) 13 ≡ None → Made Inner (head letter)
inner-head letter feed returned = made-then (inner-one (only (letter ∷ [])) feed returned)
    (λ first. made-then (inner-one (only (codes " ")) refl refl)
    (λ space. made-then inner-id (λ id. made-then (inner-one (only (codes " ")) refl refl) (λ behind. made-spell id))))

pub inner-achievement : Made Inner achievement
inner-achievement = made-then (inner-head 65 refl refl) (λ id. made-then inner-trigger (λ t. made-spell _))

-- what stands behind the format of a leaderboard
pub inner-behind_format : (id : ℕ) (format : Format) → Made Inner (behind_format id format)
inner-behind_format id format = made-then (inner-one (only (codes " ")) refl refl)
    (λ space. made-then inner-board (λ b. made-spell _))

feedless-inner : {V : Type 0} {form : Form ℕ V} → Made Inner form → Made Feedless form
feedless-inner = made-wider Inner Feedless (λ c both. both.0)

-- a byte that is no line feed, and maybe no space
feedless-but : (others : List ℕ) → is_in (only others) 10 ≡ true → (c v : ℕ) → any_but others c ≡ Some v → Feedless c
feedless-but others feed = absent (any_but others) 10 (ap (λ b. if b then None else Some 10) feed)

feedless-run : (others : List ℕ) → is_in (only others) 10 ≡ true → Made Feedless (run_of (any_but others))
feedless-run others feed = made-chain {S = Unit {0}} (λ s. any_but others) (λ s v. Spell v) (λ s v. s) (λ s. true)
    (λ s. feedless-but others feed) (λ s v. made-spell v) tt

feedless-format : Made Feedless format_name
feedless-format = made-then (made-one (any_but (codes " \n")) (feedless-but (codes " \n") refl))
    (λ first. made-then (feedless-run (codes " \n") refl) (λ others. made-spell _))

feedless-comment : Made Feedless comment
feedless-comment = made-then (feedless-inner (inner-one (only (codes "#")) refl refl))
    (λ mark. made-then (feedless-run (codes "\n") refl) (λ bytes. made-spell None))

feedless-leaderboard : Made Feedless leaderboard
feedless-leaderboard = made-then (feedless-inner (inner-head 76 refl refl))
    (λ id. made-then feedless-format (λ format. made-then (feedless-inner (inner-one (only (codes " ")) refl refl))
    (λ space. made-then (feedless-inner inner-board) (λ b. made-spell _))))

-- no line has a line feed in it
pub feedless-line : Made Feedless line
feedless-line = made-or feedless-comment
    (made-or (feedless-inner inner-achievement) (made-or feedless-leaderboard (made-spell None)))
