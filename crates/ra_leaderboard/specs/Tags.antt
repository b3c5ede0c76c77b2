-- The tags of a board, and some of them: docs/DEFINITIONS.md, "Boards".
use Rattle.std.specs.Prelude.{ℕ, Bool, true, false, List, [], ◌∷◌, filter, Option, Some, None, slice_index, codes}
use Rattle.ra_leaderboard.specs.declared.tag.Tag.{Tag}
use Rattle.ra_leaderboard.specs.declared.tag.Tag.TheVariants.{Start, Cancel, Submit, Value, Progress}
use Rattle.ra_text.specs.Table.{is_in, only_letters}

-- the letters of a tag, in upper case
abbrev pub word_of : Tag → List ℕ
word_of Start = codes "STA"
word_of Cancel = codes "CAN"
word_of Submit = codes "SUB"
word_of Value = codes "VAL"
word_of Progress = codes "PRO"

-- one tag or more: the first, and the others
abbrev pub SomeTags : Type 0
SomeTags = Tag × List Tag

-- all five tags
abbrev pub all_tags : SomeTags
all_tags = (Start, Cancel ∷ Submit ∷ Value ∷ Progress ∷ [])

-- these tags, where there are some
abbrev pub some_tags : List Tag → Option SomeTags
some_tags [] = None
some_tags (t ∷ ts) = Some (t, ts)

-- one tag or more, of a list that is not empty
abbrev pub tags_of : List Tag → SomeTags
tags_of [] = (Start, [])
tags_of (t ∷ ts) = (t, ts)

-- the tags with this one before them, where it is chosen
abbrev pub chosen : Bool → Tag → List Tag → List Tag
chosen true t others = t ∷ others
chosen false t others = others

-- the tags that are chosen, in their order
abbrev pub chosen_tags : (start cancel submit value progress : Bool) → List Tag
chosen_tags start cancel submit value progress =
    chosen start Start (chosen cancel Cancel (chosen submit Submit (chosen value Value (chosen progress Progress []))))

-- the letter of the tag at this place of its word is the byte, in either case
abbrev pub has_letter : ℕ → ℕ → Tag → Bool
has_letter place byte t = is_in (only_letters (slice_index (word_of t) place ∷ [])) byte

-- the tags that go on with the byte at this place of their words
abbrev pub narrowed : ℕ → SomeTags → ℕ → Option SomeTags
narrowed place tags byte = some_tags (filter (has_letter place byte) (tags.0 ∷ tags.1))
