-- The answers to a document: docs/DEFINITIONS.md, "Sets from JSON".
use Rattle.std.specs.Prelude.{◌≡◌, ℕ, ◌<◌, ◌≤◌, List, [], Some, length, slice_get}
use Rattle.serde_json.specs.Data.{Data}
use Rattle.ra_set.specs.Accepted.{IsSet}
use Rattle.ra_set.specs.Contents.{SetContents}
use Rattle.ra_set.specs.Refusals.{Refuses}
use Rattle.ra_patch.specs.declared.refused.PatchRefused.{PatchRefused}
use Rattle.ra_patch.specs.declared.refused.PatchRefused.TheVariants.{Bytes, NotJson, Field, Break, Set}
use Rattle.ra_patch.specs.Fields.{Reads}
use Rattle.ra_patch.specs.Faults.{faults_of}
use Rattle.ra_patch.specs.Lines.{set_text}

-- ---- the answers to a value

-- this is the first of the faults
abbrev pub IsFirst : List PatchRefused → PatchRefused → Type 0
IsFirst faults why = slice_get faults 0 ≡ Some why

-- the value has no fault, and this is its set file, which is accepted
pub record GivesSet (d : Data) (text : List ℕ) : Type 0 where
  pub whole : faults_of d ≡ []
  pub is : text ≡ set_text d
  pub set : SetContents
  pub accepted : IsSet text set

-- how a value is refused: for its first fault, or else as its set file is
abbrev pub RefusesValue : Data → PatchRefused → Type 0
RefusesValue d (Field list index field) = IsFirst (faults_of d) (Field list index field)
RefusesValue d (Break list index) = IsFirst (faults_of d) (Break list index)
RefusesValue d (Set why) = (faults_of d ≡ []) × Refuses (set_text d) why
RefusesValue d _ = ⊥

-- ---- the answers to a document

-- the most bytes of a document
abbrev pub document_limit : ℕ
document_limit = 16777216

-- the bytes are no more than a document may have, and this is their value
pub record IsDocument (bytes : List ℕ) (d : Data) : Type 0 where
  pub few : length bytes ≤ document_limit
  pub reads : Reads bytes d

-- the document gives this set file
pub record Imports (bytes text : List ℕ) : Type 0 where
  pub value : Data
  pub document : IsDocument bytes value
  pub gives : GivesSet value text

-- the document is refused as its value is
pub record RefusesRead (bytes : List ℕ) (why : PatchRefused) : Type 0 where
  pub value : Data
  pub document : IsDocument bytes value
  pub refuses : RefusesValue value why

-- how a document is refused, by the first of these that comes; running out of memory is no refusal of a document
abbrev pub RefusesDocument : List ℕ → PatchRefused → Type 0
RefusesDocument bytes (Bytes found) = (document_limit < length bytes) × (found ≡ length bytes)
RefusesDocument bytes NotJson = (length bytes ≤ document_limit) × ((d : Data) → Reads bytes d → ⊥)
RefusesDocument bytes why = RefusesRead bytes why
