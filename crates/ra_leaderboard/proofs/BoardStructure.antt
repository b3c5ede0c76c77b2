-- What texts spell boards: their structure, and a text for each board that has it.
use Rattle.std.proofs.Common.{ℕ, true, List, [], ◌∷◌, ◌++◌, map, Option, Some, None, IfSome, refl, sym, subst}
use Rattle.std.proofs.Common.{append-nil, codes}
use Rattle.std.specs.List.{filter_map, cons_option, flat_map, AllByRecursion}
use Rattle.ra_condition.specs.Contents.{TriggerContents, PartContents}
use Rattle.ra_condition.specs.Canonical.{trigger_text, value_text}
use Rattle.ra_condition.specs.Grammar.{trigger}
use Rattle.ra_condition.specs.Spelled.{IsTrigger, IsValue}
use Rattle.ra_condition.specs.Values.{value}
use Rattle.ra_condition.proofs.Spelling.{trigger-spelled, value-spelled}
use Rattle.ra_condition.proofs.Structure.{trigger-structure, value-structure}
use Rattle.ra_leaderboard.specs.declared.tag.Tag.{Tag}
use Rattle.ra_leaderboard.specs.declared.tag.Tag.TheVariants.{Start, Cancel, Submit, Value, Progress}
use Rattle.ra_leaderboard.specs.Contents.{BoardContents}
use Rattle.ra_leaderboard.specs.Fields.{FieldContents, OfStart, OfCancel, OfSubmit, OfValue, OfProgress, start_in}
use Rattle.ra_leaderboard.specs.Fields.{cancel_in, submit_in, value_in, progress_in}
use Rattle.ra_leaderboard.specs.Grammar.{in_either_case, held, field, next_field, fields, at_most_one, Arranged, board}
use Rattle.ra_leaderboard.specs.Spelled.{IsBoard}
use Rattle.ra_leaderboard.specs.Tags.{word_of}
use Rattle.ra_leaderboard.proofs.FieldReaders.{own-letter}
use Rattle.ra_leaderboard.proofs.TagLemmas.{letter-first}
use Rattle.ra_text.specs.Form.{Form, Spell, Then}
use Rattle.ra_text.specs.Table.{only}
use Rattle.ra_text.proofs.Items.{changed, chain-each, chain-spelled}
use Rattle.ra_text.proofs.Spelled.{then-spelled, none-spelled, one-spelled}

-- ---- the structure of what is spelled

-- a field holds a trigger, or a value
abbrev IsField : FieldContents → Type 0
IsField (OfStart t) = IsTrigger t
IsField (OfCancel t) = IsTrigger t
IsField (OfSubmit t) = IsTrigger t
IsField (OfValue v) = IsValue v
IsField (OfProgress v) = IsValue v

held-structure : (t : Tag) (text : List ℕ) (f : FieldContents) → held t text f → IsField f
held-structure Start text f h = subst IsField (sym h.of_next.is) (trigger-structure h.front h.v h.of_first)
held-structure Cancel text f h = subst IsField (sym h.of_next.is) (trigger-structure h.front h.v h.of_first)
held-structure Submit text f h = subst IsField (sym h.of_next.is) (trigger-structure h.front h.v h.of_first)
held-structure Value text f h = subst IsField (sym h.of_next.is) (value-structure h.front h.v h.of_first)
held-structure Progress text f h = subst IsField (sym h.of_next.is) (value-structure h.front h.v h.of_first)

field-structure : (text : List ℕ) (f : FieldContents) → field text f → IsField f
field-structure text f h = held-structure h.v h.of_next.behind f h.of_next.of_next

fields-structure : (text : List ℕ) (fs : List FieldContents) → fields text fs → AllByRecursion IsField fs
fields-structure text fs h = subst (AllByRecursion IsField) (sym h.of_next.of_next.is) (
  field-structure h.front h.v h.of_first,
  chain-each {S = Unit {0}} (λ s. only (codes ":")) (λ s colon. next_field) (λ s f. s)
      (λ s. true) IsField (λ s tag t f item. field-structure item.behind f item.of_next) tt
      h.of_next.front h.of_next.v h.of_next.of_first,
)

-- what holds of each field holds of what one kind of them holds
picked : {X : Type 0} (P : X → Type 0) (pick : FieldContents → Option X)
    → ((f : FieldContents) → IsField f → AllByRecursion P (at_most_one (pick f)))
    → (fs : List FieldContents) → AllByRecursion IsField fs → AllByRecursion P (filter_map pick fs)
picked P pick holds [] each = tt
picked {X} P pick holds (f ∷ fs) each =
    cases (pick f) (holds f each.0) (filter_map pick fs) (picked P pick holds fs each.1) where
      cases : (o : Option X) → AllByRecursion P (at_most_one o) → (xs : List X) → AllByRecursion P xs
          → AllByRecursion P (cons_option o xs)
      cases (Some x) here xs more = (here.0, more)
      cases None here xs more = more

start-holds : (f : FieldContents) → IsField f → AllByRecursion IsTrigger (at_most_one (start_in f))
start-holds (OfStart t) h = (h, tt)
start-holds (OfCancel t) h = tt
start-holds (OfSubmit t) h = tt
start-holds (OfValue v) h = tt
start-holds (OfProgress v) h = tt

cancel-holds : (f : FieldContents) → IsField f → AllByRecursion IsTrigger (at_most_one (cancel_in f))
cancel-holds (OfStart t) h = tt
cancel-holds (OfCancel t) h = (h, tt)
cancel-holds (OfSubmit t) h = tt
cancel-holds (OfValue v) h = tt
cancel-holds (OfProgress v) h = tt

submit-holds : (f : FieldContents) → IsField f → AllByRecursion IsTrigger (at_most_one (submit_in f))
submit-holds (OfStart t) h = tt
submit-holds (OfCancel t) h = tt
submit-holds (OfSubmit t) h = (h, tt)
submit-holds (OfValue v) h = tt
submit-holds (OfProgress v) h = tt

value-holds : (f : FieldContents) → IsField f → AllByRecursion IsValue (at_most_one (value_in f))
value-holds (OfStart t) h = tt
value-holds (OfCancel t) h = tt
value-holds (OfSubmit t) h = tt
value-holds (OfValue v) h = (h, tt)
value-holds (OfProgress v) h = tt

progress-holds : (f : FieldContents) → IsField f → AllByRecursion IsValue (at_most_one (progress_in f))
progress-holds (OfStart t) h = tt
progress-holds (OfCancel t) h = tt
progress-holds (OfSubmit t) h = tt
progress-holds (OfValue v) h = tt
progress-holds (OfProgress v) h = (h, tt)

optional-holds : (o : Option (List PartContents)) → AllByRecursion IsValue (at_most_one o) → IfSome o IsValue
optional-holds (Some v) h = h.0
optional-holds None h = tt

-- every board that some text spells has this structure
pub board-structure : (text : List ℕ) (b : BoardContents) → board text b → IsBoard b
board-structure text b h =
    let each = fields-structure h.front h.v h.of_first in
    record {
      start = (subst (AllByRecursion IsTrigger) h.of_next.start (picked IsTrigger start_in start-holds h.v each)).0;
      cancel = (subst (AllByRecursion IsTrigger) h.of_next.cancel (picked IsTrigger cancel_in cancel-holds h.v each)).0;
      submit = (subst (AllByRecursion IsTrigger) h.of_next.submit (picked IsTrigger submit_in submit-holds h.v each)).0;
      value = (subst (AllByRecursion IsValue) h.of_next.value (picked IsValue value_in value-holds h.v each)).0;
      progress = optional-holds b.progress (subst (AllByRecursion IsValue) h.of_next.progress
          (picked IsValue progress_in progress-holds h.v each));
    }

-- ---- a text for each board

-- a tag, a colon, and the canonical text of what it holds
abbrev field_text : FieldContents → List ℕ
field_text (OfStart t) = codes "STA:" ++ trigger_text t
field_text (OfCancel t) = codes "CAN:" ++ trigger_text t
field_text (OfSubmit t) = codes "SUB:" ++ trigger_text t
field_text (OfValue v) = codes "VAL:" ++ value_text v
field_text (OfProgress v) = codes "PRO:" ++ value_text v

-- letters in upper case are letters in either case
upper-spelled : (word : List ℕ) → in_either_case word word tt
upper-spelled [] = none-spelled
upper-spelled (upper ∷ others) = letter-first upper upper others others tt (own-letter upper) (upper-spelled others)

-- a tag, a colon, and what it holds
tagged : (t : Tag) (text : List ℕ) (f : FieldContents) → held t text f → field (word_of t ++ 58 ∷ text) f
tagged t text f h = then-spelled (word_of t) (58 ∷ text) t refl (upper-spelled (word_of t))
    (then-spelled (58 ∷ []) text tt refl (one-spelled 58 refl) h)

field-spelled : (f : FieldContents) → IsField f → field (field_text f) f
field-spelled (OfStart t) h = tagged Start (trigger_text t) (OfStart t)
    (changed trigger (λ t. OfStart t) (trigger_text t) t (trigger-spelled t h))
field-spelled (OfCancel t) h = tagged Cancel (trigger_text t) (OfCancel t)
    (changed trigger (λ t. OfCancel t) (trigger_text t) t (trigger-spelled t h))
field-spelled (OfSubmit t) h = tagged Submit (trigger_text t) (OfSubmit t)
    (changed trigger (λ t. OfSubmit t) (trigger_text t) t (trigger-spelled t h))
field-spelled (OfValue v) h = tagged Value (value_text v) (OfValue v)
    (changed value (λ v. OfValue v) (value_text v) v (value-spelled v h))
field-spelled (OfProgress v) h = tagged Progress (value_text v) (OfProgress v)
    (changed value (λ v. OfProgress v) (value_text v) v (value-spelled v h))

-- the second colon, and a field
abbrev next_text : FieldContents → List ℕ
next_text f = 58 ∷ field_text f

next-spelled : (f : FieldContents) → IsField f → next_field (next_text f) f
next-spelled f h =
    then-spelled (58 ∷ []) (field_text f) tt refl (one-spelled 58 refl) (field-spelled f h)

-- fields with two colons between them
abbrev fields_text : FieldContents → List FieldContents → List ℕ
fields_text first others = field_text first ++ flat_map (λ f. 58 ∷ next_text f) others

fields-spelled : (first : FieldContents) (others : List FieldContents) → IsField first
    → AllByRecursion IsField others → fields (fields_text first others) (first ∷ others)
fields-spelled first others h each = then-spelled (field_text first)
    (flat_map (λ f. 58 ∷ next_text f) others) first refl (field-spelled first h)
    (then-spelled (flat_map (λ f. 58 ∷ next_text f) others) [] others
    (sym (append-nil (flat_map (λ f. 58 ∷ next_text f) others)))
    (chain-spelled {S = Unit {0}} (λ s. only (codes ":")) (λ s colon. next_field) (λ s f. s) (λ s.
    true) 58 tt next_text (λ s. refl) tt others (each-next others each) refl) none-spelled) where
      each-next : (fs : List FieldContents) → AllByRecursion IsField fs
          → AllByRecursion (λ f. (s : Unit {0}) → next_field (next_text f) f) fs
      each-next [] all = tt
      each-next (f ∷ fs) all = (λ s. next-spelled f all.0, each-next fs all.1)

-- the fields of a board behind the first, in the order of their tags
abbrev other_fields : BoardContents → List FieldContents
other_fields b = OfCancel b.cancel ∷ OfSubmit b.submit ∷ OfValue b.value
    ∷ map (λ v. OfProgress v) (at_most_one b.progress)

-- a text of the board
abbrev pub board_text : BoardContents → List ℕ
board_text b = fields_text (OfStart b.start) (other_fields b)

-- the text of a board spells it
pub board-spelled : (b : BoardContents) → IsBoard b → board (board_text b) b
board-spelled b h = then-spelled (board_text b) [] (OfStart b.start ∷ other_fields b)
    (sym (append-nil (board_text b))) (fields-spelled (OfStart b.start) (other_fields b) h.start
    (h.cancel, (h.submit, (h.value, progress-fields b.progress h.progress))))
    (arranged b.start b.cancel b.submit b.value b.progress) where
      progress-fields : (o : Option (List PartContents)) → IfSome o IsValue
          → AllByRecursion IsField (map (λ v. OfProgress v) (at_most_one o))
      progress-fields (Some v) h = (h, tt)
      progress-fields None h = tt

      arranged : (start cancel submit : TriggerContents) (v : List PartContents) (progress : Option (List PartContents))
          → Arranged (OfStart start ∷ OfCancel cancel ∷ OfSubmit submit ∷ OfValue v
          ∷ map (λ v. OfProgress v) (at_most_one progress)) []
          (record { start = start; cancel = cancel; submit = submit; value = v; progress = progress })
      arranged start cancel submit v (Some progress) = record
          { empty = refl; start = refl; cancel = refl; submit = refl; value = refl; progress = refl }
      arranged start cancel submit v None = record
          { empty = refl; start = refl; cancel = refl; submit = refl; value = refl; progress = refl }
