-- The grammar of boards: docs/DEFINITIONS.md, "Boards".
use Rattle.std.specs.Prelude.{◌≡◌, ℕ, true, List, [], ◌∷◌, Option, Some, None, codes}
use Rattle.std.specs.List.{filter_map}
use Rattle.ra_condition.specs.Grammar.{trigger}
use Rattle.ra_condition.specs.Values.{value}
use Rattle.ra_leaderboard.specs.declared.tag.Tag.{Tag}
use Rattle.ra_leaderboard.specs.declared.tag.Tag.TheVariants.{Start, Cancel, Submit, Value, Progress}
use Rattle.ra_leaderboard.specs.Contents.{BoardContents}
use Rattle.ra_leaderboard.specs.Fields.{FieldContents, OfStart, OfCancel, OfSubmit, OfValue, OfProgress, start_in}
use Rattle.ra_leaderboard.specs.Fields.{cancel_in, submit_in, value_in, progress_in}
use Rattle.ra_leaderboard.specs.Tags.{word_of}
use Rattle.ra_text.specs.Chain.{Chain}
use Rattle.ra_text.specs.Form.{Form, Spell, One, ◌>>=◌}
use Rattle.ra_text.specs.Table.{only, only_letters}

-- these letters, each in either case
abbrev pub in_either_case : List ℕ → Form ℕ (Unit {0})
in_either_case [] = Spell tt
in_either_case (upper ∷ others) = do
  letter ← One (only_letters (upper ∷ []))
  in_either_case others

-- STA, CAN, SUB, VAL or PRO
abbrev pub tag : Form ℕ Tag
tag text t = in_either_case (word_of t) text tt

-- what follows a tag and its colon: a trigger, or a value
abbrev pub held : Tag → Form ℕ FieldContents
held Start = trigger >>= λ t. Spell (OfStart t)
held Cancel = trigger >>= λ t. Spell (OfCancel t)
held Submit = trigger >>= λ t. Spell (OfSubmit t)
held Value = value >>= λ v. Spell (OfValue v)
held Progress = value >>= λ v. Spell (OfProgress v)

-- STA ":" trigger | CAN ":" trigger | SUB ":" trigger | VAL ":" value | PRO ":" value
abbrev pub field : Form ℕ FieldContents
field = do
  t ← tag
  colon ← One (only (codes ":"))
  held t

-- the second colon, and a field
abbrev pub next_field : Form ℕ FieldContents
next_field = do
  colon ← One (only (codes ":"))
  field

-- field { "::" field }
abbrev pub fields : Form ℕ (List FieldContents)
fields = do
  first ← field
  others ← Chain {S = Unit {0}} (λ s. only (codes ":")) (λ s colon. next_field) (λ s f. s) (λ s. true) tt
  Spell (first ∷ others)

-- a list of the one item, or of none
abbrev pub at_most_one : {V : Type 0} → Option V → List V
at_most_one (Some v) = v ∷ []
at_most_one None = []

-- the text ends, and the fields are those of the board in some order, the first four tags once each and PRO at most
-- once
pub record Arranged (in_order : List FieldContents) (text : List ℕ) (b : BoardContents) : Type 0 where
  pub empty : text ≡ []
  pub start : filter_map start_in in_order ≡ b.start ∷ []
  pub cancel : filter_map cancel_in in_order ≡ b.cancel ∷ []
  pub submit : filter_map submit_in in_order ≡ b.submit ∷ []
  pub value : filter_map value_in in_order ≡ b.value ∷ []
  pub progress : filter_map progress_in in_order ≡ at_most_one b.progress

-- field { "::" field }, the tags in any order
abbrev pub board : Form ℕ BoardContents
board = do
  in_order ← fields
  Arranged in_order
