-- Reading boards from left to right: the step between the code and docs/DEFINITIONS.md, "Boards".
use Rattle.std.specs.Prelude.{ℕ, Bool, ◌&&◌, ◌==◌, if◌then◌else◌, List, [], ◌∷◌, length, Option, Some, None, is_some}
use Rattle.std.specs.Prelude.{is_none, unwrap_or, Ok, codes}
use Rattle.ra_condition.specs.Contents.{TriggerContents, PartContents}
use Rattle.ra_condition.specs.Reading.{trigger_at}
use Rattle.ra_condition.specs.ReadingValues.{value_at}
use Rattle.ra_leaderboard.specs.declared.tag.Tag.{Tag}
use Rattle.ra_leaderboard.specs.declared.tag.Tag.TheVariants.{Start, Cancel, Submit, Value, Progress}
use Rattle.ra_leaderboard.specs.Contents.{BoardContents}
use Rattle.ra_leaderboard.specs.Fields.{FieldContents, OfStart, OfCancel, OfSubmit, OfValue, OfProgress}
use Rattle.ra_leaderboard.specs.Tags.{SomeTags, all_tags, some_tags, chosen_tags, narrowed}
use Rattle.ra_text.specs.Reading.{Outcome, ◌>>=◌, one_at, chain_at}
use Rattle.ra_text.specs.Table.{only}

-- the word of one of these tags
unfoldable pub tag_at : SomeTags → List ℕ → Outcome ℕ Tag
tag_at tags text = do
  first ← one_at (narrowed 0 tags) text
  second ← one_at (narrowed 1 first.0) first.1
  third ← one_at (narrowed 2 second.0) second.1
  Ok (third.0.0, third.1)

-- the trigger or the value after a tag
unfoldable pub held_at : Tag → List ℕ → Outcome ℕ FieldContents
held_at Start text = trigger_at text >>= λ t. Ok (OfStart t.0, t.1)
held_at Cancel text = trigger_at text >>= λ t. Ok (OfCancel t.0, t.1)
held_at Submit text = trigger_at text >>= λ t. Ok (OfSubmit t.0, t.1)
held_at Value text = value_at text >>= λ v. Ok (OfValue v.0, v.1)
held_at Progress text = value_at text >>= λ v. Ok (OfProgress v.0, v.1)

-- a field of one of these tags
unfoldable pub field_at : SomeTags → List ℕ → Outcome ℕ FieldContents
field_at tags text = do
  t ← tag_at tags text
  colon ← one_at (only (codes ":")) t.1
  held_at t.0 colon.1

-- the second colon, and a field of one of these tags
unfoldable pub next_field_at : SomeTags → List ℕ → Outcome ℕ FieldContents
next_field_at tags text = do
  colon ← one_at (only (codes ":")) text
  field_at tags colon.1

-- what the fields so far hold
pub record HeldSoFar : Type 0 where
  pub start : Option TriggerContents
  pub cancel : Option TriggerContents
  pub submit : Option TriggerContents
  pub value : Option (List PartContents)
  pub progress : Option (List PartContents)

-- what is held before the first field
abbrev pub none_held : HeldSoFar
none_held = record { start = None; cancel = None; submit = None; value = None; progress = None }

-- what is held with one field more
abbrev pub with_field : HeldSoFar → FieldContents → HeldSoFar
with_field h (OfStart t) = record h { start = Some t }
with_field h (OfCancel t) = record h { cancel = Some t }
with_field h (OfSubmit t) = record h { submit = Some t }
with_field h (OfValue v) = record h { value = Some v }
with_field h (OfProgress v) = record h { progress = Some v }

-- the tags whose fields do not stand yet
abbrev pub free_tags : HeldSoFar → List Tag
free_tags h = chosen_tags (is_none h.start) (is_none h.cancel) (is_none h.submit) (is_none h.value) (is_none h.progress)

-- the tags that may follow a colon, where some are free
abbrev pub separator : HeldSoFar → ℕ → Option SomeTags
separator h byte = if byte == 58 then some_tags (free_tags h) else None

-- the fields that a board has to have stand
abbrev pub is_whole : HeldSoFar → Bool
is_whole h = is_some h.start && is_some h.cancel && is_some h.submit && is_some h.value

-- what is taken for a field that does not stand, where no clause looks
abbrev pub no_trigger : TriggerContents
no_trigger = record { core = []; alts = [] }

-- the board that the fields hold
abbrev pub board_of : HeldSoFar → BoardContents
board_of h = record {
  start = unwrap_or h.start no_trigger;
  cancel = unwrap_or h.cancel no_trigger;
  submit = unwrap_or h.submit no_trigger;
  value = unwrap_or h.value [];
  progress = h.progress;
}

-- what is held with these fields more
abbrev pub with_fields : HeldSoFar → List FieldContents → HeldSoFar
with_fields h [] = h
with_fields h (f ∷ fs) = with_fields (with_field h f) fs

-- the fields that come after those so far
abbrev pub others_at : HeldSoFar → List ℕ → Outcome ℕ (List FieldContents)
others_at h text = chain_at separator (λ h tags. next_field_at tags) with_field is_whole (length text) h text

-- field { "::" field }, each tag at most once, and none of the first four missing
unfoldable pub board_at : List ℕ → Outcome ℕ BoardContents
board_at text = do
  first ← field_at all_tags text
  others ← others_at (with_field none_held first.0) first.1
  Ok (board_of (with_fields (with_field none_held first.0) others.0), others.1)
