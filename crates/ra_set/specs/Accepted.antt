-- Which files are sets: docs/DEFINITIONS.md, "Set file", "Repeated ids", "Limits of a set", "Names of items and
-- scripts".
use Rattle.std.specs.Prelude.{◌≡◌, ℕ, ◌≤◌, ◌==◌, Bool, false, List, length, map, option_map}
use Rattle.std.specs.List.{IsDistinct}
use Rattle.md5.specs.Md5.{md5}
use Rattle.ra_set.specs.Contents.{ItemContents, Unlocks, Ranks, SetContents}
use Rattle.ra_set.specs.Grammar.{SetFile}
use Rattle.ra_set.specs.Limits.{most_bytes, IsWithinLimits}
use Rattle.ra_set.specs.Texts.{item_texts, script_text}

-- two items of one letter have one id
abbrev pub repeats : ItemContents → ItemContents → Bool
repeats (Unlocks id t) (Unlocks id' t') = id == id'
repeats (Ranks id format b) (Ranks id' format' b') = id == id'
repeats _ _ = false

-- the file is a set: it spells this set, no id of one letter stands twice, each limit is kept, digest and names are its
pub record IsSet (file : List ℕ) (set : SetContents) : Type 0 where
  pub size : length file ≤ most_bytes
  pub spelled : SetFile file set
  pub ids : IsDistinct repeats set.items
  pub limits : IsWithinLimits set
  pub digest : set.digest ≡ md5 file
  pub item_names : set.item_names ≡ map md5 (item_texts file)
  pub script_name : set.script_name ≡ option_map md5 (script_text file)

-- the set with the digest and the names of a file
abbrev pub named_by : List ℕ → SetContents → SetContents
named_by file set = record set {
  digest = md5 file;
  item_names = map md5 (item_texts file);
  script_name = option_map md5 (script_text file);
}
