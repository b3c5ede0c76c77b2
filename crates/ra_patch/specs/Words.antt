-- Why a document gives no set, in words: docs/DEFINITIONS.md, "Statuses".
use Rattle.std.specs.Prelude.{ℕ, List, ◌++◌, codes, decimal}
use Rattle.ra_set.specs.Words.{set_words}
use Rattle.ra_patch.specs.Answers.{document_limit}
use Rattle.ra_patch.specs.declared.refused.PatchList.{PatchList}
use Rattle.ra_patch.specs.declared.refused.PatchList.TheVariants as lists
use Rattle.ra_patch.specs.declared.refused.PatchField.{PatchField}
use Rattle.ra_patch.specs.declared.refused.PatchField.TheVariants as fields
use Rattle.ra_patch.specs.declared.refused.PatchRefused.{PatchRefused}
use Rattle.ra_patch.specs.declared.refused.PatchRefused.TheVariants.{Bytes, NotJson, Field, Break, Set, Memory}

-- the word of a list of a document
abbrev pub list_word : PatchList → List ℕ
list_word lists.Root = codes "root"
list_word lists.Achievements = codes "achievements"
list_word lists.Leaderboards = codes "leaderboards"

-- the name of a field of a document
abbrev pub field_word : PatchField → List ℕ
field_word fields.PatchData = codes "PatchData"
field_word fields.Achievements = codes "Achievements"
field_word fields.Leaderboards = codes "Leaderboards"
field_word fields.RichPresencePatch = codes "RichPresencePatch"
field_word fields.Id = codes "ID"
field_word fields.MemAddr = codes "MemAddr"
field_word fields.Mem = codes "Mem"
field_word fields.Format = codes "Format"

-- why a document gives no set, in words; where its set file is refused, those of that refusal
abbrev pub document_words : PatchRefused → List ℕ
document_words (Bytes found) = codes "bytes " ++ decimal found ++ codes " over " ++ decimal document_limit
document_words NotJson = codes "json"
document_words (Field list index field) = list_word list ++ codes " " ++ decimal index ++ codes " " ++ field_word field
document_words (Break list index) = list_word list ++ codes " " ++ decimal index ++ codes " break"
document_words (Set why) = set_words why
document_words Memory = codes "want of memory"
