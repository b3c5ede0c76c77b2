-- The lines of an import that leaves out what is refused: docs/DEFINITIONS.md, "What is left of a document".
use Rattle.std.specs.Prelude.{ℕ, Option, None, Some, List, ◌++◌, length, codes, decimal}
use Rattle.std.specs.List.{flat_map}
use Rattle.ra_jobs.specs.Counting.{achievements_in, boards_in, scripts_in}
use Rattle.ra_patch.specs.Answers.{document_limit}
use Rattle.ra_patch.specs.Words.{field_word}
use Rattle.ra_patch.specs.declared.document_refused.DocumentRefused.{DocumentRefused}
use Rattle.ra_patch.specs.declared.document_refused.DocumentRefused.TheVariants as refused
use Rattle.ra_patch.specs.declared.document_refused.RootField.{RootField}
use Rattle.ra_patch.specs.declared.document_refused.RootField.TheVariants as root
use Rattle.ra_patch.specs.declared.left_out.LeftCause.{LeftCause}
use Rattle.ra_patch.specs.declared.left_out.LeftCause.TheVariants as cause
use Rattle.ra_patch.specs.declared.left_out.LeftList.{LeftList}
use Rattle.ra_patch.specs.declared.left_out.LeftList.TheVariants as list
use Rattle.ra_patch.specs.declared.left_out.LeftOut.{LeftOut}
use Rattle.ra_set.specs.Contents.{SetContents}

-- the name of a field of the root
abbrev pub root_word : RootField → List ℕ
root_word root.PatchData = codes "PatchData"
root_word root.Sets = codes "Sets"
root_word root.Achievements = codes "Achievements"
root_word root.Leaderboards = codes "Leaderboards"

-- why nothing is left of a document, in words
abbrev pub document_words : DocumentRefused → List ℕ
document_words (refused.Bytes found) = codes "bytes " ++ decimal found ++ codes " over " ++ decimal document_limit
document_words refused.NotJson = codes "json"
document_words (refused.Root field) = codes "root 0 " ++ root_word field
document_words refused.Memory = codes "out of memory"

-- the line of a document of which nothing is left
abbrev pub refused_document : DocumentRefused → List ℕ
refused_document why = codes "import refused: " ++ document_words why ++ codes "\n"

-- the id of what is left out, or `-` where it has none
abbrev pub id_text : Option ℕ → List ℕ
id_text None = codes "-"
id_text (Some id) = decimal id

-- where something stands that is left out; the presence string stands in no list
abbrev pub place_text : LeftList → (index : ℕ) → (id : Option ℕ) → List ℕ
place_text list.Achievements index id = codes "achievements " ++ (decimal index ++ (codes " " ++ id_text id))
place_text list.Leaderboards index id = codes "leaderboards " ++ (decimal index ++ (codes " " ++ id_text id))
place_text list.Presence index id = codes "presence"

-- why something is left out
abbrev pub cause_text : LeftCause → List ℕ
cause_text (cause.Field field) = codes "field " ++ field_word field
cause_text cause.Break = codes "break"
cause_text (cause.Syntax at) = codes "syntax at " ++ decimal at
cause_text cause.Again = codes "again"

-- the line of what is left out
abbrev pub left_line : LeftOut → List ℕ
left_line row = codes "left out " ++ place_text row.list row.index row.id ++ codes " "
    ++ cause_text row.cause ++ codes "\n"

-- the counts of what stays and of what is left out, without the end of their line
abbrev pub counts_text : (achievements boards scripts left_out : ℕ) → List ℕ
counts_text achievements boards scripts left_out =
    codes "imported achievements " ++ (decimal achievements ++ (codes " leaderboards " ++ (decimal boards
    ++ (codes " presence " ++ (decimal scripts ++ (codes " left out " ++ decimal left_out))))))

-- the last line of an import
abbrev pub counts_line : SetContents → (left_out : ℕ) → List ℕ
counts_line set left_out =
    counts_text (achievements_in set.items) (boards_in set.items) (scripts_in set.script) left_out ++ codes "\n"

-- the text of an import: a line for each thing that is left out, in order, and the counts
abbrev pub import_text : SetContents → List LeftOut → List ℕ
import_text set left_out = flat_map left_line left_out ++ counts_line set (length left_out)
