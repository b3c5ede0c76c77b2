-- What a document gives a job, and why it gives no set: docs/DEFINITIONS.md, "Sets from JSON".
use Rattle.std.specs.Prelude.{◌≡◌, ℕ, ⊤, ◌+◌, Option, Some, List, take, string_bytes}
use Rattle.ra_set.specs.Accepted.{IsSet}
use Rattle.ra_set.specs.Contents.{SetContents}
use Rattle.ra_patch.specs.Answers.{document_limit, Imports, RefusesDocument}
use Rattle.ra_session.specs.Expected.{import_line}
use Rattle.ra_session.specs.declared.document.Document.{Document}
use Rattle.ra_session.specs.declared.failures.DocumentFailed.{DocumentFailed}
use Rattle.ra_session.specs.declared.failures.DocumentFailed.TheVariants as document

-- The document of a file gives this set file, where its bytes are told, and the line tells its set.
pub record IsDocument (file : Option (List ℕ)) (d : Document) : Type 0 where
  pub set : SetContents
  pub accepted : IsSet d.text.items set
  pub line : string_bytes d.line ≡ import_line set
  pub imports : (bytes : List ℕ) → file ≡ Some bytes → Imports bytes d.text.items

-- why there is no document: memory ran out, a read of its file failed, or it is refused, where its bytes are told
abbrev pub HasNoDocument : (file : Option (List ℕ)) → (rose : Type 0) → DocumentFailed → Type 0
HasNoDocument file rose document.Memory = ⊤
HasNoDocument file rose document.Read = rose
HasNoDocument file rose (document.Refused why) =
    (bytes : List ℕ) → file ≡ Some bytes → RefusesDocument (take (document_limit + 1) bytes) why
