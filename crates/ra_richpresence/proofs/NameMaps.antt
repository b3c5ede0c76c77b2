-- What names stand for, put into a map from the last one on.
use Rattle.std.proofs.Common.{◌≡◌, ◌∙◌, ℕ, suc, Bool, true, false, if◌then◌else◌, List, [], ◌∷◌, ◌++◌, map, Some, None}
use Rattle.std.proofs.Common.{Vec, Global, cond, refl, ap}
use Rattle.std.specs.BTreeMap.{BTreeMap, get, is_at}
use Rattle.std.specs.Str.{bytes_eq}
use Rattle.std.specs.List.{filter_map}
use Rattle.std.proofs.lemmas.List.{map-append}
use Rattle.std.proofs.lemmas.List.Elements.{filter_map-append}
use Rattle.std.proofs.lemmas.Map.Text.{is_eq-slice_cmp}
use Rattle.ra_value_format.specs.declared.format.Format.{Format}
use Rattle.ra_value_format.specs.Formats.{entry_of}
use Rattle.ra_richpresence.specs.declared.meaning.Meaning.{Meaning}
use Rattle.ra_richpresence.specs.declared.meaning.Meaning.TheVariants as shows
use Rattle.ra_richpresence.specs.Meanings.{FindsNames, place_of, said_by, meaning_of, name_in, meanings_in, name_cmp}
use Rattle.ra_richpresence.specs.Parts.{PieceContents, LookupContents}

-- the map has this meaning under one name more
abbrev pub Puts : BTreeMap (Vec ℕ Global) Meaning → BTreeMap (Vec ℕ Global) Meaning → Vec ℕ Global → Meaning → Type 0
Puts old new key meaning = (name : Vec ℕ Global) → get name_cmp new name
    ≡ cond (is_at (name_cmp key) name) (Some meaning) (get name_cmp old name)

module _ (old new : BTreeMap (Vec ℕ Global) Meaning) (key : Vec ℕ Global) (meaning : Meaning)
    (puts : Puts old new key meaning) where
  -- by the bytes of the name
  found : (name : Vec ℕ Global) → get name_cmp new name
      ≡ cond (bytes_eq key.items name.items) (Some meaning) (get name_cmp old name)
  found name = puts name ∙ ap (λ b. cond b (Some meaning) (get name_cmp old name))
      (is_eq-slice_cmp key.items name.items)

pub formats-next : (old new : BTreeMap (Vec ℕ Global) Meaning) (key : Vec ℕ Global)
    (format : Format) (rest : List (List ℕ × Format)) → Puts old new key (shows.Format format)
    → FindsNames [] 0 rest old → FindsNames [] 0 ((key.items, format) ∷ rest) new
formats-next old new key format rest puts before = λ name.
    found old new key (shows.Format format) puts name
    ∙ ap (cond (bytes_eq key.items name.items) (Some (shows.Format format))) (before name)
    ∙ cases name (bytes_eq key.items name.items) where
      cases : (name : Vec ℕ Global) (same : Bool)
          → cond same (Some (shows.Format format)) (said_by None (entry_of name.items rest))
          ≡ said_by None (if same then Some format else entry_of name.items rest)
      cases name true = refl
      cases name false = refl

pub lookups-next : (old new : BTreeMap (Vec ℕ Global) Meaning) (key : Vec ℕ Global) (at : ℕ)
    (l : LookupContents) (rest : List LookupContents) (formats : List (List ℕ × Format)) → key.items
    ≡ l.name → Puts old new key (shows.Lookup at) → FindsNames rest (suc at) formats old
    → FindsNames (l ∷ rest) at formats new
lookups-next old new key at l rest formats named puts before = λ name.
    found old new key (shows.Lookup at) puts name
    ∙ ap (cond (bytes_eq key.items name.items) (Some (shows.Lookup at))) (before name)
    ∙ ap (λ items. cond (bytes_eq items name.items) (Some (shows.Lookup at))
    (said_by (place_of name.items rest (suc at)) (entry_of name.items formats))) named
    ∙ cases name (bytes_eq l.name name.items) where
      cases : (name : Vec ℕ Global) (same : Bool) → cond same (Some (shows.Lookup at))
          (said_by (place_of name.items rest (suc at)) (entry_of name.items formats))
          ≡ said_by (if same then Some at else place_of name.items rest (suc at)) (entry_of name.items formats)
      cases name true = refl
      cases name false = refl

-- what the macros of some pieces and of more show
pub meanings-append : (lookups : List LookupContents) (formats : List (List ℕ × Format))
    (ps qs : List PieceContents) → meanings_in lookups formats (ps ++ qs)
    ≡ meanings_in lookups formats ps ++ meanings_in lookups formats qs
meanings-append lookups formats ps qs =
    ap (map (meaning_of lookups formats)) (filter_map-append name_in ps qs)
    ∙ map-append (meaning_of lookups formats) (filter_map name_in ps) (filter_map name_in qs)
