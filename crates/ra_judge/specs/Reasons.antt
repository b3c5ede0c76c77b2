-- The reasons of refusals as numbers: docs/DEFINITIONS.md, "Calls from C".
use Rattle.std.specs.Prelude.{ℕ, List}
use Rattle.ra_set.specs.declared.refused.Which.{Which}
use Rattle.ra_set.specs.declared.refused.Which.TheVariants.{Bytes, Items, Conditions, Macros, Lookup}
use Rattle.ra_set.specs.declared.refused.SetRefused.{SetRefused}
use Rattle.ra_set.specs.declared.refused.SetRefused.TheVariants.{Syntax, DuplicateId, Limit, Memory}
use Rattle.ra_set.specs.Limits.{most_of}
use Rattle.ra_patch.specs.Answers.{document_limit}
use Rattle.ra_patch.specs.declared.document_refused.DocumentRefused.{DocumentRefused}
use Rattle.ra_patch.specs.declared.document_refused.DocumentRefused.TheVariants as documents
use Rattle.ra_patch.specs.declared.document_refused.RootField.{RootField}
use Rattle.ra_patch.specs.declared.document_refused.RootField.TheVariants.{PatchData, Sets, Achievements, Leaderboards}
use Rattle.ra_progress.specs.declared.refused.ProgressRefused.{ProgressRefused}
use Rattle.ra_progress.specs.declared.refused.ProgressRefused.TheVariants.{WrongLength, WrongMark, WrongVersion}
use Rattle.ra_progress.specs.declared.refused.ProgressRefused.TheVariants.{WrongSum, OtherSet, BadEntry, BadState}
use Rattle.ra_judge.specs.Places.{place_in}
use Rattle.ra_judge.specs.declared.refusal.Refusal.{Refusal}

-- a reason of this kind, with its numbers, which is at no line
abbrev pub reason_of : (kind id at found wanted : ℕ) → Refusal
reason_of kind id at found wanted =
    record { kind = kind; id = id; at = at; found = found; wanted = wanted; line = 0; column = 0 }

-- a text is outside its grammar, with the first bad place and its line and column
abbrev pub syntax_reason : List ℕ → ℕ → Refusal
syntax_reason text at = record
    (reason_of 1 0 at 0 0) { line = (place_in text at).line; column = (place_in text at).column }

-- the kind of a passed limit
abbrev pub kind_of_limit : Which → ℕ
kind_of_limit Bytes = 3
kind_of_limit Items = 4
kind_of_limit Conditions = 5
kind_of_limit Macros = 6
kind_of_limit Lookup = 7

-- why a text is no set; running out of memory is no reason of a text
abbrev pub set_reason : List ℕ → SetRefused → Refusal
set_reason text (Syntax at) = syntax_reason text at
set_reason text (DuplicateId id line) = record (reason_of 2 id 0 0 0) { line = line }
set_reason text (Limit which found) = reason_of (kind_of_limit which) 0 0 found (most_of which)
set_reason text Memory = reason_of 0 0 0 0 0

-- the number of a field of a document
abbrev pub number_of_field : RootField → ℕ
number_of_field PatchData = 1
number_of_field Sets = 2
number_of_field Achievements = 3
number_of_field Leaderboards = 4

-- why nothing is left of a document
abbrev pub document_reason : DocumentRefused → Refusal
document_reason (documents.Bytes found) = reason_of 21 0 0 found document_limit
document_reason documents.NotJson = reason_of 22 0 0 0 0
document_reason (documents.Root field) = reason_of 23 (number_of_field field) 0 0 0
document_reason documents.Memory = reason_of 0 0 0 0 0

-- why bytes are no progress of a set
abbrev pub progress_reason : ProgressRefused → Refusal
progress_reason (WrongLength wanted found) = reason_of 11 0 0 found wanted
progress_reason (WrongMark found) = reason_of 12 0 0 0 0
progress_reason (WrongVersion found) = reason_of 13 0 0 found 0
progress_reason (WrongSum kept found) = reason_of 14 0 0 0 0
progress_reason (OtherSet wanted found) = reason_of 15 0 0 0 0
progress_reason (BadEntry at wanted found) = reason_of 16 0 at found wanted
progress_reason (BadState at found) = reason_of 17 0 at found 0
