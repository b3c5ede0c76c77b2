-- The set file of a document: docs/DEFINITIONS.md, "Sets from JSON".
use Rattle.std.specs.Prelude.{ℕ, unwrap_or, List, [], ◌∷◌, ◌++◌, codes, decimal}
use Rattle.std.specs.List.{flat_map}
use Rattle.serde_json.specs.Data.{Data}
use Rattle.ra_patch.specs.Fields.{id_in, presence_in}
use Rattle.ra_patch.specs.Faults.{text_or_empty, achievements_or_none, boards_or_none}

-- the id of an item in decimal digits
abbrev pub id_text : Data → List ℕ
id_text d = decimal (unwrap_or (id_in d) 0)

-- the line of an achievement: its id and its trigger
abbrev pub achievement_line : Data → List ℕ
achievement_line d = codes "A " ++ id_text d ++ codes " " ++ text_or_empty (codes "MemAddr") d ++ codes "\n"

-- the line of a leaderboard: its id, its format and its board
abbrev pub board_line : Data → List ℕ
board_line d =
    codes "L " ++ id_text d ++ codes " " ++ text_or_empty (codes "Format") d
    ++ codes " " ++ text_or_empty (codes "Mem") d ++ codes "\n"

-- a presence script after a line "P", and nothing for the empty one
abbrev pub presence_lines : List ℕ → List ℕ
presence_lines [] = []
presence_lines (c ∷ cs) = codes "P\n" ++ c ∷ cs

-- the set file of a document without faults
abbrev pub set_text : Data → List ℕ
set_text d =
    flat_map achievement_line (achievements_or_none d) ++ flat_map board_line (boards_or_none d)
    ++ presence_lines (unwrap_or (presence_in d) [])
