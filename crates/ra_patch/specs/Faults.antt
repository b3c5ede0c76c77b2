-- What is wrong with a document, in order: docs/DEFINITIONS.md, "Sets from JSON".
use Rattle.std.specs.Prelude.{ℕ, ◌+◌, ◌==◌, ◌&&◌, ◌||◌, not, Bool, true, false, is_some, unwrap_or, List, [], ◌∷◌, ◌++◌}
use Rattle.std.specs.Prelude.{length, codes}
use Rattle.std.specs.List.{list_any}
use Rattle.serde_json.specs.Data.{Data}
use Rattle.ra_patch.specs.declared.refused.PatchList.TheVariants.{Root, Achievements, Leaderboards}
use Rattle.ra_patch.specs.declared.refused.PatchField.TheVariants as fields
use Rattle.ra_patch.specs.declared.refused.PatchRefused.{PatchRefused}
use Rattle.ra_patch.specs.declared.refused.PatchRefused.TheVariants.{Field, Break}
use Rattle.ra_patch.specs.Fields.{id_in, text_in, has_patch, achievements_in, boards_in, presence_in}

-- a refusal, unless the test holds
abbrev pub unless : Bool → PatchRefused → List PatchRefused
unless true why = []
unless false why = why ∷ []

-- ---- fields

-- the fields of the root that are missing or wrong
abbrev pub root_faults : Data → List PatchRefused
root_faults d =
    unless (has_patch d) (Field Root 0 fields.PatchData)
    ++ unless (is_some (achievements_in d)) (Field Root 0 fields.Achievements)
    ++ unless (is_some (boards_in d)) (Field Root 0 fields.Leaderboards)
    ++ unless (is_some (presence_in d)) (Field Root 0 fields.RichPresencePatch)

-- those of the achievement at this index
abbrev pub achievement_faults : ℕ → Data → List PatchRefused
achievement_faults index d =
    unless (is_some (id_in d)) (Field Achievements index fields.Id)
    ++ unless (is_some (text_in (codes "MemAddr") d)) (Field Achievements index fields.MemAddr)

-- those of the leaderboard at this index
abbrev pub board_faults : ℕ → Data → List PatchRefused
board_faults index d =
    unless (is_some (id_in d)) (Field Leaderboards index fields.Id)
    ++ unless (is_some (text_in (codes "Mem") d)) (Field Leaderboards index fields.Mem)
    ++ unless (is_some (text_in (codes "Format") d)) (Field Leaderboards index fields.Format)

-- ---- texts that do not fit their line

-- the text of an item by this name, empty where it has none
abbrev pub text_or_empty : (name : List ℕ) → Data → List ℕ
text_or_empty name d = unwrap_or (text_in name d) []

-- the text holds CR or LF
abbrev pub ends_line : List ℕ → Bool
ends_line text = list_any (λ byte. byte == 13 || byte == 10) text

-- the text holds a space, CR or LF
abbrev pub ends_word : List ℕ → Bool
ends_word text = list_any (λ byte. byte == 32 || byte == 13 || byte == 10) text

-- an achievement whose text would end its line
abbrev pub achievement_breaks : ℕ → Data → List PatchRefused
achievement_breaks index d = unless (not (ends_line (text_or_empty (codes "MemAddr") d))) (Break Achievements index)

-- a leaderboard whose text would end its line, or whose format is no word
abbrev pub board_breaks : ℕ → Data → List PatchRefused
board_breaks index d =
    let format = text_or_empty (codes "Format") d in
    unless (not (ends_line (text_or_empty (codes "Mem") d)) && not (length format == 0) && not (ends_word format))
    (Break Leaderboards index)

-- ---- all of them

-- the faults of the items from this index on
abbrev pub faults_from : (ℕ → Data → List PatchRefused) → ℕ → List Data → List PatchRefused
faults_from faults index [] = []
faults_from faults index (d ∷ ds) = faults index d ++ faults_from faults (index + 1) ds

-- the achievements of a document, none where it has no array of them
abbrev pub achievements_or_none : Data → List Data
achievements_or_none d = unwrap_or (achievements_in d) []

-- its leaderboards, none where another value than an array stands for them
abbrev pub boards_or_none : Data → List Data
boards_or_none d = unwrap_or (boards_in d) []

-- all that is wrong with a document: the fields of the root, of the achievements and of the leaderboards, then the
-- texts
-- of the achievements and of the leaderboards
abbrev pub faults_of : Data → List PatchRefused
faults_of d =
    root_faults d
    ++ faults_from achievement_faults 0 (achievements_or_none d) ++ faults_from board_faults 0 (boards_or_none d)
    ++ faults_from achievement_breaks 0 (achievements_or_none d) ++ faults_from board_breaks 0 (boards_or_none d)
