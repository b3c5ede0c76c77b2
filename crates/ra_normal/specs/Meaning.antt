-- What a normal text keeps of its set: docs/DEFINITIONS.md, "Normal text".
use Rattle.std.specs.Prelude.{◌≡◌, ℕ, List, map}
use Rattle.ra_set.specs.Accepted.{IsSet}
use Rattle.ra_set.specs.Contents.{SetContents}
use Rattle.ra_memory.specs.Image.{History}
use Rattle.ra_trace.specs.Entries.{Entry}
use Rattle.ra_meaning.specs.Earned.{Earned}
use Rattle.ra_meaning.specs.Openings.{plain_opening}
use Rattle.ra_meaning.specs.Play.{text_of}
use Rattle.ra_normal.specs.Contents.{normal_item}
use Rattle.ra_normal.specs.Text.{IsNormal}

-- the text is a set file of the normal items and of the same script; it prints the same over every trace, whatever
-- frames lie before it and whatever is earned, and its normal text is itself
pub record KeepsMeaning (file : List ℕ) (set : SetContents) (text : List ℕ) : Type 0 where
  pub normal : SetContents
  pub accepted : IsSet text normal
  pub items : normal.items ≡ map normal_item set.items
  pub script : normal.script ≡ set.script
  pub prints : (behind : History) (earned : Earned) (size : ℕ) (entries : List Entry)
      → text_of normal (plain_opening normal) behind earned size entries
      ≡ text_of set (plain_opening set) behind earned size entries
  pub again : IsNormal text normal text
