-- The own entries have the names that are looked up.
use Rattle.std.proofs.Common.{◌≡◌, ℕ, Option, None, Some, List, [], ◌∷◌, ◌++◌, length, map, is_some, option_to_list}
use Rattle.std.proofs.Common.{refl, sym, ◌∙◌, ap, ap₂, arith}
use Rattle.std.proofs.lemmas.List.{map-append}
use Rattle.std.proofs.Math.ListN.{get_or-map}
use Rattle.ra_progress.specs.declared.shape.ItemShape.{ItemShape}
use Rattle.ra_progress.specs.declared.shape.PresenceShape.{PresenceShape}
use Rattle.ra_progress.specs.Contents.{Name, ShapeContents, own_items, own_presence, own_entries, own_at}
use Rattle.ra_progress.specs.Names.{IsPaired, entry_names, named_by}

items_names : (names : List Name) (shapes : List ItemShape) → length names ≡ length shapes
    → map (λ own. own.name) (own_items names shapes) ≡ names
items_names [] [] same = refl
items_names [] (shape ∷ shapes) same = absurd (omega (arith, same))
items_names (name ∷ names) [] same = absurd (omega (arith, same))
items_names (name ∷ names) (shape ∷ shapes) same =
    ap (λ l. name ∷ l) (items_names names shapes (omega (arith, same)))

script_name : (name : Option Name) (shape : Option PresenceShape) → is_some name ≡ is_some shape
    → map (λ own. own.name) (own_presence name shape) ≡ option_to_list name
script_name None None same = refl
script_name None (Some p) same = absurd (cc same)
script_name (Some name) None same = absurd (cc same)
script_name (Some name) (Some p) same = refl

pub own_names : (shape : ShapeContents) → IsPaired shape
    → map (λ own. own.name) (own_entries shape) ≡ entry_names shape
own_names shape is =
    map-append (λ own. own.name) (own_items shape.item_names shape.items)
    (own_presence shape.presence_name shape.presence)
    ∙ ap₂ (λ xs ys. xs ++ ys) (items_names shape.item_names shape.items is.items)
    (script_name shape.presence_name shape.presence is.presence)

-- the name of an own entry by its number
pub own_name : (shape : ShapeContents) → IsPaired shape → (n : ℕ)
    → named_by (entry_names shape) n ≡ (own_at (own_entries shape) n).name
own_name shape is n =
    ap (λ l. named_by l n) (sym (own_names shape is)) ∙ get_or-map (λ own. own.name) (own_entries shape) n
    (own_at [] 0)
