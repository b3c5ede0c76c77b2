-- The patch of a document and its lists: docs/DEFINITIONS.md, "What is left of a document".
use Rattle.std.specs.Prelude.{ℕ, ◌||◌, not, Bool, if◌then◌else◌, Option, None, Some, is_some, option_and_then}
use Rattle.std.specs.Prelude.{unwrap_or, List, [], ◌∷◌, codes}
use Rattle.std.specs.List.{flat_map, list_all}
use Rattle.serde_json.specs.Data.{Data}
use Rattle.serde_json.specs.Find.{get, as_array, as_object}
use Rattle.ra_patch.specs.declared.document_refused.RootField.{RootField}
use Rattle.ra_patch.specs.declared.document_refused.RootField.TheVariants.{PatchData, Sets, Achievements, Leaderboards}
use Rattle.ra_patch.specs.declared.item_kind.ItemKind.{ItemKind}
use Rattle.ra_patch.specs.declared.item_kind.ItemKind.TheVariants.{Achievement, Leaderboard}
use Rattle.ra_patch.specs.Fields.{list_in, optional_list, optional_text}

-- ---- the patch

-- the value, where it is an object
abbrev pub object_in : Data → Option Data
object_in d = if is_some (as_object d) then Some d else None

-- the field by this name is an array
abbrev pub has_list : (name : List ℕ) → Data → Bool
has_list name d = is_some (option_and_then as_array (get name d))

-- a root without the field "PatchData" as a patch, where it has an array of achievements or of sets
abbrev pub bare_patch : Data → Option Data
bare_patch d = if has_list (codes "Achievements") d || has_list (codes "Sets") d then Some d else None

-- the patch of a root with this field "PatchData", if there is one
abbrev pub patch_by : (root : Data) → Option Data → Option Data
patch_by root None = bare_patch root
patch_by root (Some field) = object_in field

-- the patch of a document: its field "PatchData", or itself where it has no such field
abbrev pub patch_in : Data → Option Data
patch_in d = patch_by d (get (codes "PatchData") d)

-- ---- the objects with the lists

-- each of the values is an object
abbrev pub are_objects : List Data → Bool
are_objects ds = list_all (λ d. is_some (as_object d)) ds

-- the items of an array, where each of them is an object
abbrev pub only_objects : Option (List Data) → Option (List Data)
only_objects None = None
only_objects (Some ds) = if are_objects ds then Some ds else None

-- the objects that have the lists, by the fields "Achievements" and "Sets" of the patch
abbrev pub holders_by : (patch : Data) → (achievements sets : Option Data) → Option (List Data)
holders_by patch (Some own) sets = Some (patch ∷ [])
holders_by patch None (Some sets) = only_objects (list_in sets)
holders_by patch None None = Some (patch ∷ [])

-- the objects that have the lists: the elements of "Sets" where the patch has them and no achievements, else the patch
abbrev pub holders_in : Data → Option (List Data)
holders_in patch = holders_by patch (get (codes "Achievements") patch) (get (codes "Sets") patch)

-- ---- the lists

-- the items of a kind that an object lists: its achievements are an array, its leaderboards an array or missing
abbrev pub own_list : ItemKind → Data → Option (List Data)
own_list Achievement d = option_and_then list_in (get (codes "Achievements") d)
own_list Leaderboard d = optional_list (get (codes "Leaderboards") d)

-- the items of a kind that an object lists, none where its list is none
abbrev pub own_items : ItemKind → Data → List Data
own_items kind d = unwrap_or (own_list kind d) []

-- each of the objects has the list of a kind
abbrev pub all_listed : ItemKind → List Data → Bool
all_listed kind holders = list_all (λ d. is_some (own_list kind d)) holders

-- the first of the two lists that one of the objects has missing or wrong
abbrev pub wrong_list : List Data → Option RootField
wrong_list holders =
    if not (all_listed Achievement holders) then Some Achievements
    else (if not (all_listed Leaderboard holders) then Some Leaderboards else None)

-- the first field that is wrong where these objects have the lists, if any do
abbrev pub wrong_holders : Option (List Data) → Option RootField
wrong_holders None = Some Sets
wrong_holders (Some holders) = wrong_list holders

-- the first field that is wrong with this patch, if there is one
abbrev pub wrong_patch : Option Data → Option RootField
wrong_patch None = Some PatchData
wrong_patch (Some patch) = wrong_holders (holders_in patch)

-- the first field of a document that is missing or wrong: "PatchData", "Sets", "Achievements" or "Leaderboards"
abbrev pub wrong_field : Data → Option RootField
wrong_field d = wrong_patch (patch_in d)

-- the objects that have the lists of a document
abbrev pub holders_of : Data → List Data
holders_of d = unwrap_or (option_and_then holders_in (patch_in d)) []

-- the items of a kind of these objects, those of one after those of another
abbrev pub items_of : ItemKind → List Data → List Data
items_of kind holders = flat_map (own_items kind) holders

-- the items of a kind of a document
abbrev pub items_in : ItemKind → Data → List Data
items_in kind d = items_of kind (holders_of d)

-- the presence script of a patch, where nothing else than a string or null stands for it
abbrev pub script_in : Data → Option (List ℕ)
script_in patch = optional_text (get (codes "RichPresencePatch") patch)

-- the presence script of a document's patch
abbrev pub script_of : Data → Option (List ℕ)
script_of d = option_and_then script_in (patch_in d)
