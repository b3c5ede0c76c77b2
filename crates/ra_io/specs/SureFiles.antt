-- What files in memory show: docs/DEFINITIONS.md, "Files in memory".
use Rattle.std.specs.Prelude.{option_map}
use Rattle.std.specs.BTreeMap.{get_by_text}
use Rattle.ra_io.specs.Held.{Names}
use Rattle.ra_io.specs.declared.sure_files.SureFiles.{SureFiles}

-- the bytes of each name that was added
abbrev pub names_of : SureFiles → Names
names_of s name = option_map (λ v. v.items) (get_by_text s.files name)
