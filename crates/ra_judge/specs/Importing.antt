-- What is given of a document: docs/DEFINITIONS.md, "Calls from C" and "What is left of a document".
use Rattle.std.specs.Prelude.{◌≡◌, ◌⊎◌, ℕ, ◌<◌, ◌≤◌, List, length}
use Rattle.ra_patch.specs.LeftAnswers.{LeavesDocument, LeavesNothing, LeavesOfficial}
use Rattle.ra_patch.specs.declared.document_refused.DocumentRefused.{DocumentRefused}
use Rattle.ra_patch.specs.declared.left_out.LeftOut.{LeftOut}
use Rattle.ra_judge.specs.Codes.{memory, no_document, out_of_range}
use Rattle.ra_judge.specs.Giving.{Gives}
use Rattle.ra_judge.specs.Reasons.{document_reason}
use Rattle.ra_judge.specs.declared.refusal.Refusal.{Refusal}

-- this set file is left of the document, and this is how many things are left out
pub record LeavesAll (document text : List ℕ) (left : ℕ) : Type 0 where
  pub left_out : List LeftOut
  pub leaves : LeavesDocument document text left_out
  pub counted : left ≡ length left_out

-- the same by flags: none, or 1 for a document without its unofficial achievements
abbrev pub LeavesBy : (flags : ℕ) → (document text : List ℕ) → (left : ℕ) → Type 0
LeavesBy flags document text left =
    ((flags ≡ 0) × LeavesAll document text left) ⊎ ((flags ≡ 1) × LeavesOfficial document text left)

-- the set file that is left is given, and how many things are left out is told
pub record GivesLeft (flags : ℕ) (document before after : List ℕ) (count left code : ℕ) : Type 0 where
  pub text : List ℕ
  pub leaves : LeavesBy flags document text left
  pub given : Gives text before after count code

-- nothing is left of the document, for this reason
pub record RefusesDocument (document : List ℕ) (why : Refusal) : Type 0 where
  pub reason : DocumentRefused
  pub refused : LeavesNothing document reason
  pub told : why ≡ document_reason reason

-- the flags are out of range; else what is left is given, or nothing is left, or memory ran out
abbrev pub AnswersImport : (document : List ℕ) → (flags : ℕ) → (before after : List ℕ) → (count left : ℕ) → Refusal
    → (code : ℕ) → Type 0
AnswersImport document flags before after count left why code =
    ((1 < flags) × (code ≡ out_of_range))
    ⊎ ((flags ≤ 1) × ((code ≡ memory)
    ⊎ (((code ≡ no_document) × RefusesDocument document why) ⊎ GivesLeft flags document before after count left code)))
