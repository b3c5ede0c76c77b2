-- What the file of a set gives `normal`, and why it gives no normal text: docs/DEFINITIONS.md, "Normal text".
use Rattle.std.specs.Prelude.{◌≡◌, ℕ, ⊤, Option, Some, List, length, string_bytes}
use Rattle.ra_set.specs.Accepted.{IsSet}
use Rattle.ra_set.specs.Contents.{SetContents}
use Rattle.ra_set.specs.Refusals.{Refuses}
use Rattle.ra_normal.specs.Text.{IsNormal, IsPastLimit}
use Rattle.ra_normal.specs.declared.refused.NormalRefused.TheVariants as normal
use Rattle.ra_session.specs.Expected.{normal_line}
use Rattle.ra_session.specs.Loading.{HasNoSet}
use Rattle.ra_session.specs.declared.document.Document.{Document}
use Rattle.ra_session.specs.declared.failures.NormalFailed.{NormalFailed}
use Rattle.ra_session.specs.declared.failures.SetFailed.{SetFailed}
use Rattle.ra_session.specs.declared.failures.SetFailed.TheVariants as set
use Rattle.ra_session.specs.declared.failures.NormalFailed.TheVariants as failed

-- why bytes give no set: memory ran out, or they are refused
abbrev pub IsUnset : List ℕ → SetFailed → Type 0
IsUnset bytes set.Memory = ⊤
IsUnset bytes set.Read = ⊥
IsUnset bytes (set.Refused why) = Refuses bytes why

-- The file of a set has this normal text, where its bytes are told, and the line tells its counts.
pub record IsNormalized (file : Option (List ℕ)) (d : Document) : Type 0 where
  pub set : SetContents
  pub line : string_bytes d.line ≡ normal_line set (length d.text.items)
  pub accepted : (bytes : List ℕ) → file ≡ Some bytes → IsSet bytes set
  pub normal : (bytes : List ℕ) → file ≡ Some bytes → IsNormal bytes set d.text.items

-- why there is no normal text: there is no set, memory ran out, or the text passes a limit, where the bytes are told
abbrev pub HasNoNormal : (file : Option (List ℕ)) → (rose : Type 0) → NormalFailed → Type 0
HasNoNormal file rose (failed.Set why) = HasNoSet file rose why
HasNoNormal file rose (failed.Refused normal.Memory) = ⊤
HasNoNormal file rose (failed.Refused (normal.Limit which found)) =
    (bytes : List ℕ) → file ≡ Some bytes → (set : SetContents) × IsSet bytes set
    × IsPastLimit bytes set (normal.Limit which found)
