-- Where no two different things have one name at all, none have within their kind.
use Rattle.std.proofs.Common.{◌≡◌, ℕ, List, [], ◌∷◌, ◌++◌, map, inl, inr, ap}
use Rattle.std.specs.List.{flat_map}
use Rattle.ra_set.specs.Contents.{SetContents}
use Rattle.ra_member.proofs.Listed.{In, In_front, In_behind, In_split}
use Rattle.ra_meaning.specs.Changed.{NamesTell, texts_in, NamesApart, Thing, OfText, OfTree, OfCell, OfMask, thing_name}
use Rattle.ra_meaning.specs.Changed.{subtrees, things_in, AllNamesApart}
use Rattle.ra_meaning.specs.Order.{trees_in_set, set_cells, set_tracked}
use Rattle.ra_meaning.proofs.Changed.SharedOwns.{contains_in, in_contained}

in_map : {A B : Type 0} (f : A → B) (x : A) (xs : List A) → In x xs → In (f x) (map f xs)
in_map f x [] h = absurd h
in_map f x (y ∷ ys) h = elim h [ inl e ↦ inl (ap f e) | inr r ↦ inr (in_map f x ys r) ]

-- things of one kind that stand among all the named ones
tell_apart : {A : Type 0} (kind : A → Thing) → ((a b : A) → kind a ≡ kind b → a ≡ b)
    → (xs ys : List A) (all others : List Thing) → ((a : A) → In a xs → In (kind a) all)
    → ((a : A) → In a ys → In (kind a) others)
    → NamesTell thing_name (all ++ others) → NamesTell (λ a. thing_name (kind a)) (xs ++ ys)
tell_apart kind one xs ys all others front behind tell a b here there named =
    one a b (tell (kind a) (kind b) (contains_in (kind a) (all ++ others)
    (listed a (in_contained a (xs ++ ys) here)))
    (contains_in (kind b) (all ++ others) (listed b (in_contained b (xs ++ ys) there))) named)
  where
    listed : (c : _) → In c (xs ++ ys) → In (kind c) (all ++ others)
    listed c h = elim (In_split c xs ys h) [
      | inl at ↦ In_front (kind c) all others (front c at)
      | inr at ↦ In_behind (kind c) all others (behind c at)
    ]

module _ (file : List ℕ) (set : SetContents) where
  text_named : (text : List ℕ) → In text (texts_in file) → In (OfText text) (things_in file set)
  text_named text h =
      In_front (OfText text) (map OfText (texts_in file))
      (map OfTree (flat_map subtrees (trees_in_set set)) ++ (map OfCell (set_cells set)
      ++ map OfMask (set_tracked set))) (in_map OfText text (texts_in file) h)

  cell_named : (c : _) → In c (set_cells set) → In (OfCell c) (things_in file set)
  cell_named c h =
      In_behind (OfCell c) (map OfText (texts_in file)) (map OfTree (flat_map subtrees
      (trees_in_set set)) ++ (map OfCell (set_cells set) ++ map OfMask (set_tracked set)))
      (In_behind (OfCell c) (map OfTree (flat_map subtrees (trees_in_set set)))
      (map OfCell (set_cells set) ++ map OfMask (set_tracked set))
      (In_front (OfCell c) (map OfCell (set_cells set)) (map OfMask (set_tracked set))
      (in_map OfCell c (set_cells set) h)))

  mask_named : (t : _) → In t (set_tracked set) → In (OfMask t) (things_in file set)
  mask_named t h =
      In_behind (OfMask t) (map OfText (texts_in file)) (map OfTree (flat_map subtrees
      (trees_in_set set)) ++ (map OfCell (set_cells set) ++ map OfMask (set_tracked set)))
      (In_behind (OfMask t) (map OfTree (flat_map subtrees (trees_in_set set)))
      (map OfCell (set_cells set) ++ map OfMask (set_tracked set))
      (In_behind (OfMask t) (map OfCell (set_cells set)) (map OfMask (set_tracked set))
      (in_map OfMask t (set_tracked set) h)))

pub apart_within : (file other : List ℕ) (set changed : SetContents)
    → AllNamesApart file other set changed → NamesApart file other set changed
apart_within file other set changed apart = record {
  texts = tell_apart OfText (λ a b e. cc) (texts_in file) (texts_in other) (things_in file set)
      (things_in other changed) (text_named file set) (text_named other changed) apart.names;
  cells = tell_apart OfCell (λ a b e. cc) (set_cells set) (set_cells changed) (things_in file set)
      (things_in other changed) (cell_named file set) (cell_named other changed) apart.names;
  tracked = tell_apart OfMask (λ a b e. cc) (set_tracked set) (set_tracked changed) (things_in file
      set) (things_in other changed) (mask_named file set) (mask_named other changed) apart.names;
  digests = apart.digests;
}
