-- The readers of tags and fields.
use Rattle.std.proofs.Common.{◌≡◌, ℕ, ◌+◌, Bool, true, false, cond, List, [], ◌∷◌, ◌++◌, filter, Some, None, Ok, length}
use Rattle.std.proofs.Common.{◌≤◌, refl, ap, codes, eq-eqb, ◌==◌, if◌then◌else◌}
use Rattle.ra_condition.specs.Contents.{TriggerContents, PartContents}
use Rattle.ra_condition.specs.Grammar.{trigger}
use Rattle.ra_condition.specs.Values.{value}
use Rattle.ra_condition.specs.Reading.{trigger_at}
use Rattle.ra_condition.specs.ReadingValues.{value_at}
use Rattle.ra_condition.proofs.GroupReaders.{trigger_rest, reader-trigger}
use Rattle.ra_condition.proofs.ValueReaders.{value_rest, reader-value}
use Rattle.ra_leaderboard.specs.declared.tag.Tag.{Tag}
use Rattle.ra_leaderboard.specs.declared.tag.Tag.TheVariants.{Start, Cancel, Submit, Value, Progress}
use Rattle.ra_leaderboard.specs.Fields.{FieldContents, OfStart, OfCancel, OfSubmit, OfValue, OfProgress}
use Rattle.ra_leaderboard.specs.Grammar.{held}
use Rattle.ra_leaderboard.specs.Reading.{tag_at, held_at, field_at, next_field_at}
use Rattle.ra_leaderboard.specs.Tags.{SomeTags, some_tags, has_letter, narrowed}
use Rattle.ra_leaderboard.proofs.TagLemmas.{letter_of, tag_in}
use Rattle.ra_text.specs.Form.{Form, Spell, One, Then}
use Rattle.ra_text.specs.Reading.{Outcome, rest_of, ◌>>=◌, one_at}
use Rattle.ra_text.specs.Table.{is_in, only, only_letters}
use Rattle.ra_text.proofs.Either.{reader-map}
use Rattle.ra_text.proofs.Readers.{Reader, Listed, reader-one, reader-then, reader-wider, reads-of}
use Rattle.ra_text.proofs.Steps.{reads-shorter}
use Rattle.ra_text.proofs.Tables.{In, in_within}

-- ---- tags

-- the letter of a tag is that letter
pub own-letter : (upper : ℕ) → is_in (only_letters (upper ∷ [])) upper ≡ true
own-letter upper = ap (λ same. is_one same) (eq-eqb upper upper refl) where
  mark : Unit {0}
  mark = tt

  is_one : Bool → Bool
  is_one same = elim (if same then Some mark
      else (if upper == upper + 32 then Some mark else None)) [ Some v ↦ true | None ↦ false ]

-- each place of some tags has a letter that goes on
listed-letter : (place : ℕ) (tags : SomeTags) → Listed (narrowed place tags)
listed-letter place tags = record {
  symbol = letter_of tags.0 place;
  v = (tags.0, filter (has_letter place (letter_of tags.0 place)) tags.1);
  listed = ap (λ passed. some_tags (cond passed
      (tags.0 ∷ filter (has_letter place (letter_of tags.0 place)) tags.1) (filter
      (has_letter place (letter_of tags.0 place)) tags.1))) (own-letter (letter_of tags.0 place));
}

-- one piece behind another that nothing goes on with
reader-past_one : {V W : Type 0} (a : Form ℕ V) (b : V → Form ℕ W) (a_at : List ℕ → Outcome ℕ V)
    (b_at : V × List ℕ → Outcome ℕ W) (w : ℕ → Type 0) → Reader a a_at (λ c. ⊥)
    → ((v : V) → Reader (b v) (λ text. b_at (v, text)) w)
    → Reader (Then a b) (λ text. a_at text >>= λ x. b_at (x.0, x.1)) w
reader-past_one a b a_at b_at w ra rb =
    reader-then a b a_at b_at (λ c. ⊥) w ra rb (λ v c s x h on. on) (λ v x h c on. absurd on)

reader-letter : (place : ℕ) (tags : SomeTags) (w : ℕ → Type 0)
    → Reader (One (narrowed place tags)) (one_at (narrowed place tags)) w
reader-letter place tags w = reader-one (narrowed place tags) w (listed-letter place tags)

pub reader-tag_in : (tags : SomeTags) → Reader (tag_in tags) (tag_at tags) (λ c. ⊥)
unfolding tag_at
reader-tag_in tags = reader-past_one (One (narrowed 0 tags)) (λ first. Then (One (narrowed 1 first))
    (λ second. Then (One (narrowed 2 second)) (λ third. Spell third.0)))
    (one_at (narrowed 0 tags)) (λ first. one_at (narrowed 1 first.0) first.1 >>= λ second. one_at
    (narrowed 2 second.0) second.1 >>= λ third. Ok (third.0.0, third.1)) (λ c. ⊥)
    (reader-letter 0 tags (λ c. ⊥))
    (λ first. reader-past_one (One (narrowed 1 first))
    (λ second. Then (One (narrowed 2 second)) (λ third. Spell third.0))
    (one_at (narrowed 1 first))
    (λ second. one_at (narrowed 2 second.0) second.1 >>= λ third. Ok (third.0.0, third.1)) (λ c. ⊥)
    (reader-letter 1 first (λ c. ⊥))
    (λ second. reader-map (One (narrowed 2 second)) (one_at (narrowed 2 second)) (λ c. ⊥)
    (λ third. third.0) (reader-letter 2 second (λ c. ⊥))))

-- ---- fields

-- what goes on with a field
abbrev pub field_rest : List ℕ
field_rest = trigger_rest ++ value_rest

reader-of_trigger : (of_it : TriggerContents → FieldContents) → Reader (Then trigger
    (λ t. Spell (of_it t))) (λ text. trigger_at text >>= λ t. Ok (of_it t.0, t.1)) (In field_rest)
reader-of_trigger of_it = reader-wider (Then trigger (λ t. Spell (of_it t)))
    (λ text. trigger_at text >>= λ t. Ok (of_it t.0, t.1)) (In trigger_rest) (In field_rest)
    (in_within trigger_rest field_rest refl)
    (reader-map trigger trigger_at (In trigger_rest) of_it reader-trigger)

reader-of_value : (of_it : List PartContents → FieldContents) → Reader (Then value
    (λ v. Spell (of_it v))) (λ text. value_at text >>= λ v. Ok (of_it v.0, v.1)) (In field_rest)
reader-of_value of_it = reader-wider (Then value (λ v. Spell (of_it v))) (λ text. value_at text >>=
    λ v. Ok (of_it v.0, v.1)) (In value_rest) (In field_rest) (in_within value_rest field_rest refl)
    (reader-map value value_at (In value_rest) of_it reader-value)

reader-held : (t : Tag) → Reader (held t) (held_at t) (In field_rest)
unfolding held_at
reader-held Start = reader-of_trigger (λ t. OfStart t)
reader-held Cancel = reader-of_trigger (λ t. OfCancel t)
reader-held Submit = reader-of_trigger (λ t. OfSubmit t)
reader-held Value = reader-of_value (λ v. OfValue v)
reader-held Progress = reader-of_value (λ v. OfProgress v)

reader-colon : (w : ℕ → Type 0) → Reader (One (only (codes ":"))) (one_at (only (codes ":"))) w
reader-colon w = reader-one (only (codes ":")) w (record { symbol = 58; v = tt; listed = refl })

-- a field of one of these tags
abbrev pub field_in : SomeTags → Form ℕ FieldContents
field_in tags = Then (tag_in tags) (λ t. Then (One (only (codes ":"))) (λ colon. held t))

pub reader-field_in : (tags : SomeTags) → Reader (field_in tags) (field_at tags) (In field_rest)
unfolding field_at
reader-field_in tags = reader-past_one (tag_in tags)
    (λ t. Then (One (only (codes ":"))) (λ colon. held t)) (tag_at tags)
    (λ t. one_at (only (codes ":")) t.1 >>= λ colon. held_at t.0 colon.1) (In field_rest)
    (reader-tag_in tags)
    (λ t. reader-past_one (One (only (codes ":"))) (λ colon. held t) (one_at (only (codes ":")))
    (λ colon. held_at t colon.1) (In field_rest) (reader-colon (λ c. ⊥)) (λ colon. reader-held t))

-- the second colon, and a field of one of these tags
abbrev pub next_field_in : SomeTags → Form ℕ FieldContents
next_field_in tags = Then (One (only (codes ":"))) (λ colon. field_in tags)

pub reader-next_field_in : (tags : SomeTags) → Reader (next_field_in tags) (next_field_at tags) (In field_rest)
unfolding next_field_at
reader-next_field_in tags = reader-past_one (One (only (codes ":"))) (λ colon. field_in tags)
    (one_at (only (codes ":"))) (λ colon. field_at tags colon.1) (In field_rest)
    (reader-colon (λ c. ⊥)) (λ colon. reader-field_in tags)

-- no piece leaves more than the text
pub next_field-shorter : (tags : SomeTags) (text : List ℕ) → length (rest_of (next_field_at tags text)) ≤ length text
next_field-shorter tags text = reads-shorter (reads-of (next_field_in tags) (next_field_at tags)
    (In field_rest) (reader-next_field_in tags) text)
