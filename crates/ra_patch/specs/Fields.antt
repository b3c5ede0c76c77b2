-- The fields of a document: docs/DEFINITIONS.md, "Sets from JSON".
use Rattle.std.specs.Prelude.{◌≡◌, ℕ, ◌^◌, nat_lt, Bool, if◌then◌else◌, Option, None, Some, is_some, option_map}
use Rattle.std.specs.Prelude.{option_and_then, List, [], ◌∷◌, IsUtf8, codes}
use Rattle.serde_json.specs.Data.{Data, null, Items, no_items, item}
use Rattle.serde_json.specs.Read.{read}
use Rattle.serde_json.specs.Find.{get, as_number, as_u64, as_str, as_array, as_object}

-- the bytes are JSON and this is their value; of a name that an object repeats the last value counts
abbrev pub Reads : List ℕ → Data → Type 0
Reads bytes d = IsUtf8 bytes × (read bytes ≡ Some d)

-- ---- items

-- a number, where it is one of 32 bits
abbrev pub small : ℕ → Option ℕ
small n = if nat_lt n (2 ^ 32) then Some n else None

-- the id of an item, where it has one
abbrev pub id_in : Data → Option ℕ
id_in d = option_and_then small (option_and_then as_u64 (option_and_then as_number (get (codes "ID") d)))

-- the text of an item by this name, where it has one
abbrev pub text_in : (name : List ℕ) → Data → Option (List ℕ)
text_in name d = option_and_then as_str (get name d)

-- ---- the root

-- the field "PatchData" is an object
abbrev pub has_patch : Data → Bool
has_patch d = is_some (option_and_then as_object (get (codes "PatchData") d))

-- the field by this name of the field "PatchData"
abbrev pub patch_field : (name : List ℕ) → Data → Option Data
patch_field name d = option_and_then (get name) (get (codes "PatchData") d)

-- the items of an array
abbrev pub listed : Items → List Data
listed no_items = []
listed (item d ds) = d ∷ listed ds

-- the items of a value, where it is an array
abbrev pub list_in : Data → Option (List Data)
list_in d = option_map listed (as_array d)

-- the items of a field that may be missing and then has none, where it is an array
abbrev pub optional_list : Option Data → Option (List Data)
optional_list None = Some []
optional_list (Some d) = list_in d

-- the text of a field that may be null or missing and then is empty, where it is a string
abbrev pub optional_text : Option Data → Option (List ℕ)
optional_text None = Some []
optional_text (Some null) = Some []
optional_text (Some d) = as_str d

-- the achievements, where the document has an array of them
abbrev pub achievements_in : Data → Option (List Data)
achievements_in d = option_and_then list_in (patch_field (codes "Achievements") d)

-- the leaderboards, where nothing else than an array stands for them
abbrev pub boards_in : Data → Option (List Data)
boards_in d = optional_list (patch_field (codes "Leaderboards") d)

-- the presence script, where nothing else than a string or null stands for it
abbrev pub presence_in : Data → Option (List ℕ)
presence_in d = optional_text (patch_field (codes "RichPresencePatch") d)
