-- The own entries of a set, by their numbers.
use Rattle.std.proofs.Common.{◌≡◌, ℕ, zero, suc, ◌+◌, ◌<◌, ◌≤◌, Option, None, Some, List, [], ◌∷◌, ◌++◌, length}
use Rattle.std.proofs.Common.{length-append, take, sum_by, get_or, is_some, option_to_list, refl, sym, ◌∙◌, ap, arith}
use Rattle.std.proofs.lemmas.List.Sums.{sum_by-cons}
use Rattle.ra_progress.specs.declared.shape.ItemShape.{ItemShape}
use Rattle.ra_progress.specs.declared.shape.PresenceShape.{PresenceShape}
use Rattle.ra_progress.specs.Contents.{Name, ShapeContents, OfItem, OfPresence, Own, own_items, own_presence}
use Rattle.ra_progress.specs.Contents.{own_entries, own_at}
use Rattle.ra_progress.specs.Layout.{item_length, own_length, script_length}
use Rattle.ra_progress.specs.Names.{IsPaired, entry_names}

-- items and names that are paired give as many entries
items_count : (names : List Name) (shapes : List ItemShape) → length names ≡ length shapes
    → length (own_items names shapes) ≡ length shapes
items_count [] [] same = refl
items_count [] (shape ∷ shapes) same = absurd (omega (arith, same))
items_count (name ∷ names) [] same = absurd (omega (arith, same))
items_count (name ∷ names) (shape ∷ shapes) same =
    let rest = items_count names shapes (omega (arith, same)) in omega (arith, rest)

-- an item's entry keeps the item
items_at : (names : List Name) (shapes : List ItemShape) (rest : List Own) (n : ℕ) (d : ItemShape)
    → length names ≡ length shapes → n < length shapes
    → (own_at (own_items names shapes ++ rest) n).shape ≡ OfItem (get_or shapes n d)
items_at [] [] rest n d same below = absurd (omega (arith, below))
items_at [] (shape ∷ shapes) rest n d same below = absurd (omega (arith, same))
items_at (name ∷ names) [] rest n d same below = absurd (omega (arith, below))
items_at (name ∷ names) (shape ∷ shapes) rest zero d same below = refl
items_at (name ∷ names) (shape ∷ shapes) rest (suc n) d same below =
    items_at names shapes rest n d (omega (arith, same)) (omega (arith, below))

-- what stands behind the items
items_behind : (names : List Name) (shapes : List ItemShape) (rest : List Own) → length names
    ≡ length shapes → own_at (own_items names shapes ++ rest) (length shapes) ≡ own_at rest 0
items_behind [] [] rest same = refl
items_behind [] (shape ∷ shapes) rest same = absurd (omega (arith, same))
items_behind (name ∷ names) [] rest same = absurd (omega (arith, same))
items_behind (name ∷ names) (shape ∷ shapes) rest same = items_behind names shapes rest (omega (arith, same))

-- the blocks of a front of the entries take what those items take
items_sum : (names : List Name) (shapes : List ItemShape) (rest : List Own) (n : ℕ) → length names
    ≡ length shapes → n ≤ length shapes → sum_by own_length
    (take n (own_items names shapes ++ rest)) ≡ sum_by item_length (take n shapes)
items_sum names shapes rest zero same below = refl
items_sum [] [] rest (suc n) same below = absurd (omega (arith, below))
items_sum [] (shape ∷ shapes) rest (suc n) same below = absurd (omega (arith, same))
items_sum (name ∷ names) [] rest (suc n) same below = absurd (omega (arith, below))
items_sum (name ∷ names) (shape ∷ shapes) rest (suc n) same below =
    let more = items_sum names shapes rest n (omega (arith, same)) (omega (arith, below)) in
    let left = sum_by-cons own_length (record { name = name; shape = OfItem shape })
    (take n (own_items names shapes ++ rest)) in
    let right = sum_by-cons item_length shape (take n shapes) in
    omega (arith, more, left, right)

-- the same of all of them
items_total : (names : List Name) (shapes : List ItemShape) (rest : List Own) → length names
    ≡ length shapes → sum_by own_length (own_items names shapes ++ rest)
    ≡ sum_by item_length shapes + sum_by own_length rest
items_total [] [] rest same = omega arith
items_total [] (shape ∷ shapes) rest same = absurd (omega (arith, same))
items_total (name ∷ names) [] rest same = absurd (omega (arith, same))
items_total (name ∷ names) (shape ∷ shapes) rest same =
    let more = items_total names shapes rest (omega (arith, same)) in
    let left = sum_by-cons own_length (record { name = name; shape = OfItem shape }) (own_items names shapes ++ rest) in
    let right = sum_by-cons item_length shape shapes in
    omega (arith, more, left, right)

-- the script's entry is there where the script is
abbrev pub script_count : {A : Type 0} → Option A → ℕ
script_count None = 0
script_count (Some p) = 1

presence_count : (name : Option Name) (shape : Option PresenceShape) → is_some name ≡ is_some shape
    → length (own_presence name shape) ≡ script_count shape
presence_count None None same = refl
presence_count None (Some p) same = absurd (cc same)
presence_count (Some name) None same = absurd (cc same)
presence_count (Some name) (Some p) same = refl

presence_at : (name : Option Name) (shape : Option PresenceShape) (p : PresenceShape) → is_some name
    ≡ is_some shape → shape ≡ Some p → (own_at (own_presence name shape) 0).shape ≡ OfPresence p
presence_at None None p same is = absurd (cc is)
presence_at None (Some q) p same is = absurd (cc same)
presence_at (Some name) None p same is = absurd (cc is)
presence_at (Some name) (Some q) p same is = cc is

presence_sum : (name : Option Name) (shape : Option PresenceShape) → is_some name ≡ is_some shape
    → sum_by own_length (own_presence name shape) ≡ script_length shape
presence_sum None None same = refl
presence_sum None (Some p) same = absurd (cc same)
presence_sum (Some name) None same = absurd (cc same)
presence_sum (Some name) (Some p) same = omega arith

script_names : (name : Option Name) (shape : Option PresenceShape) → is_some name ≡ is_some shape
    → length (option_to_list name) ≡ script_count shape
script_names None None same = refl
script_names None (Some p) same = absurd (cc same)
script_names (Some name) None same = absurd (cc same)
script_names (Some name) (Some p) same = refl

module _ (shape : ShapeContents) (is : IsPaired shape) where
  -- how many own entries there are
  pub own_count : length (own_entries shape) ≡ length shape.items + script_count shape.presence
  own_count =
      length-append (own_items shape.item_names shape.items) (own_presence shape.presence_name shape.presence)
      ∙ ap (λ n. n + length (own_presence shape.presence_name shape.presence))
      (items_count shape.item_names shape.items is.items)
      ∙ ap (λ n. length shape.items + n) (presence_count shape.presence_name shape.presence is.presence)

  pub own_item : (n : ℕ) (d : ItemShape) → n < length shape.items
      → (own_at (own_entries shape) n).shape ≡ OfItem (get_or shape.items n d)
  own_item n d below = items_at shape.item_names shape.items
      (own_presence shape.presence_name shape.presence) n d is.items below

  pub own_script : (p : PresenceShape) → shape.presence ≡ Some p
      → (own_at (own_entries shape) (length shape.items)).shape ≡ OfPresence p
  own_script p some =
      ap (λ own. own.shape) (items_behind shape.item_names shape.items
      (own_presence shape.presence_name shape.presence) is.items)
      ∙ presence_at shape.presence_name shape.presence p is.presence some

  pub own_front : (n : ℕ) → n ≤ length shape.items → sum_by own_length (take n (own_entries shape))
      ≡ sum_by item_length (take n shape.items)
  own_front n below = items_sum shape.item_names shape.items
      (own_presence shape.presence_name shape.presence) n is.items below

  pub own_total : sum_by own_length (own_entries shape) ≡ sum_by item_length shape.items + script_length shape.presence
  own_total =
      items_total shape.item_names shape.items (own_presence shape.presence_name shape.presence) is.items
      ∙ ap (λ n. sum_by item_length shape.items + n) (presence_sum shape.presence_name shape.presence is.presence)

  -- as many as there are names
  pub names_count : length (own_entries shape) ≡ length (entry_names shape)
  names_count =
      own_count ∙ sym (length-append shape.item_names (option_to_list shape.presence_name)
      ∙ ap (λ n. n + length (option_to_list shape.presence_name)) is.items
      ∙ ap (λ n. length shape.items + n) (script_names shape.presence_name shape.presence is.presence))
