-- What the macros of a script show, found by their names: docs/DEFINITIONS.md, "Presence over frames".
use Rattle.std.specs.Prelude.{◌≡◌, ℕ, suc, if◌then◌else◌, Option, None, Some, List, [], ◌∷◌, map, bytes_eq, Vec}
use Rattle.std.specs.Global.{Global}
use Rattle.std.specs.declared.cmp.Ordering.{Ordering}
use Rattle.std.specs.BTreeMap.{BTreeMap, get}
use Rattle.std.specs.Cmp.Lexicographic.{slice_cmp}
use Rattle.std.specs.List.{filter_map}
use Rattle.std.specs.Ordering.{nat_cmp}
use Rattle.ra_value_format.specs.declared.format.Format.{Format}
use Rattle.ra_value_format.specs.Formats.{entry_of}
use Rattle.ra_richpresence.specs.declared.line.Line.{Line}
use Rattle.ra_richpresence.specs.declared.lookup.Lookup.{Lookup}
use Rattle.ra_richpresence.specs.declared.meaning.Meaning.{Meaning}
use Rattle.ra_richpresence.specs.declared.meaning.Meaning.TheVariants as shows
use Rattle.ra_richpresence.specs.Lines.{builtin_macros}
use Rattle.ra_richpresence.specs.Parts.{PieceContents, Bytes, Shows, LookupContents, lookup_contents, piece_contents}

-- the index of the first lookup of a name, where `at` lookups stand before these
abbrev pub place_of : List ℕ → List LookupContents → (at : ℕ) → Option ℕ
place_of name [] at = None
place_of name (l ∷ ls) at = if bytes_eq l.name name then Some at else place_of name ls (suc at)

-- what a script itself says of a name: its lookup by the index, else its format
abbrev pub said_by : Option ℕ → Option Format → Option Meaning
said_by (Some place) format = Some (shows.Lookup place)
said_by None (Some format) = Some (shows.Format format)
said_by None None = None

-- what a macro shows: what the script says of its name, else the built-in format
abbrev pub meaning_by : Option Meaning → Option Format → Meaning
meaning_by (Some said) builtin = said
meaning_by None (Some format) = shows.Format format
meaning_by None None = shows.Unknown

-- what a macro of a name shows
abbrev pub meaning_of : List LookupContents → List (List ℕ × Format) → List ℕ → Meaning
meaning_of lookups formats name =
    meaning_by (said_by (place_of name lookups 0) (entry_of name formats)) (entry_of name builtin_macros)

-- the name of a macro
abbrev pub name_in : PieceContents → Option (List ℕ)
name_in (Bytes text) = None
name_in (Shows name value) = Some name

-- what the macros among pieces show, in order
abbrev pub meanings_in : List LookupContents → List (List ℕ × Format) → List PieceContents → List Meaning
meanings_in lookups formats pieces = map (meaning_of lookups formats) (filter_map name_in pieces)

-- what the macros of each line of a script show
abbrev pub AreMeanings : List Lookup → List (Vec ℕ Global × Format) → List Line → List (Vec Meaning Global) → Type 0
AreMeanings lookups formats lines meanings =
    map (λ m. m.items) meanings
    ≡ map (λ (line : Line). meanings_in (map lookup_contents lookups)
    (map (λ f. (f.0.items, f.1)) formats) (map piece_contents line.pieces.items)) lines

-- the order of names
abbrev pub name_cmp : Vec ℕ Global → Vec ℕ Global → Ordering
name_cmp x y = slice_cmp nat_cmp x.items y.items

-- the map has what a script says of each name
abbrev pub FindsNames : List LookupContents → (at : ℕ) → List (List ℕ × Format)
    → BTreeMap (Vec ℕ Global) Meaning → Type 0
FindsNames lookups at formats names =
    (name : Vec ℕ Global) → get name_cmp names name
    ≡ said_by (place_of name.items lookups at) (entry_of name.items formats)
