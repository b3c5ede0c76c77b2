-- The own entries of the sets of two files, by the texts that their names are taken of.
use Rattle.std.proofs.Common.{◌≡◌, ℕ, zero, suc, ◌+◌, ◌<◌, true, Option, None, Some, option_map, option_to_list, List}
use Rattle.std.proofs.Common.{[], ◌∷◌, ◌++◌, length, map, inl, inr, ◌⊎◌, refl, sym, ◌∙◌, ap, ap₂, subst, arith, get_or}
use Rattle.std.specs.List.{slice_get, IsDistinct, Contains}
use Rattle.std.proofs.lemmas.Bool.{cases_lt, eq-eqb, true≢false}
use Rattle.std.proofs.lemmas.Map.Keys.{apart_from_distinct}
use Rattle.md5.specs.Md5.{md5}
use Rattle.ra_richpresence.specs.Grammar.{ScriptParts, script_parts, script_of}
use Rattle.ra_set.specs.Accepted.{IsSet, repeats}
use Rattle.ra_set.specs.Contents.{ItemContents, Unlocks, Ranks, SetContents}
use Rattle.ra_set.specs.Names.{IsItemText, IsScriptText, SpellsTexts}
use Rattle.ra_set.specs.Texts.{item_texts, script_text}
use Rattle.ra_set.proofs.ItemTexts.{texts-spelled}
use Rattle.ra_progress.specs.Contents.{Own, OfItem, OfPresence, own_items, own_presence, own_entries}
use Rattle.ra_member.proofs.Listed.{In, In_front, In_behind}
use Rattle.ra_meaning.specs.Changed.{NamesTell, texts_in}
use Rattle.ra_meaning.specs.Order.{item_shape, presence_shape, shape_of}
use Rattle.ra_meaning.proofs.Changed.ReadByNames.{OneShape}
use Rattle.ra_meaning.proofs.Changed.ReadByOther.{IsSharedOwn, index_at}
use Rattle.ra_meaning.proofs.Changed.SetTexts.{one_item, one_script, no_script_item}

-- ---- elements and places

pub contains_in : {A : Type 0} (x : A) (xs : List A) → In x xs → Contains xs x
contains_in x [] h = absurd h
contains_in x (y ∷ ys) h = elim h [
  | inl e ↦ (0, omega arith, sym e)
  | inr r ↦ let c : Contains ys x = contains_in x ys r in (suc c.0, omega (arith, c.1), c.2)
]

in_from : {A : Type 0} (x : A) (xs : List A) (k : ℕ) → k < length xs → get_or xs k x ≡ x → In x xs
in_from x [] k within is = absurd (omega (arith, within))
in_from x (y ∷ ys) zero within is = inl (sym is)
in_from x (y ∷ ys) (suc k) within is = inr (in_from x ys k (omega (arith, within)) is)

pub in_contained : {A : Type 0} (x : A) (xs : List A) → Contains xs x → In x xs
in_contained x xs c = in_from x xs c.0 c.1 c.2

pub in_at : {A : Type 0} (xs : List A) (k : ℕ) (x : A) → slice_get xs k ≡ Some x → In x xs
in_at [] k x at = absurd cc
in_at (y ∷ ys) zero x at = let is : y ≡ x = cc at in inl (sym is)
in_at (y ∷ ys) (suc k) x at = inr (in_at ys k x at)

within_at : {A : Type 0} (xs : List A) (k : ℕ) (x : A) → slice_get xs k ≡ Some x → k < length xs
within_at [] k x at = absurd cc
within_at (y ∷ ys) zero x at = omega arith
within_at (y ∷ ys) (suc k) x at = omega (arith, within_at ys k x at)

-- lists that are as long have something at one place
pub record At {A : Type 0} (xs : List A) (k : ℕ) : Type 0 where
  pub thing : A
  pub there : slice_get xs k ≡ Some thing

pub beside_at : {A B : Type 0} (xs : List A) (ys : List B) (k : ℕ) (x : A) → length xs ≡ length ys
    → slice_get xs k ≡ Some x → At ys k
beside_at [] ys k x same at = absurd cc
beside_at (x ∷ xs) [] k a same at = absurd (omega (arith, same))
beside_at (x ∷ xs) (y ∷ ys) zero a same at = record { thing = y; there = refl }
beside_at (x ∷ xs) (y ∷ ys) (suc k) a same at =
    let rest : At ys k = beside_at xs ys k a (omega (arith, same)) at in
    record { thing = rest.thing; there = rest.there }

-- ---- an item stands at one place of a set

repeats_itself : (item : ItemContents) → repeats item item ≡ true
repeats_itself (Unlocks id t) = eq-eqb id id refl
repeats_itself (Ranks id format b) = eq-eqb id id refl

not_before : (items : List ItemContents) (j k : ℕ) (item : ItemContents) → IsDistinct repeats items
    → slice_get items j ≡ Some item → slice_get items k ≡ Some item → j < k → ⊥
not_before items j k item distinct at there less =
    let apart = apart_from_distinct repeats items j k item distinct less (within_at items k item there) in
    true≢false (sym (repeats_itself item) ∙ ap₂ repeats (sym (index_at items j item item at))
    (sym (index_at items k item item there)) ∙ apart)

pub one_place : (items : List ItemContents) (j k : ℕ) (item : ItemContents) → IsDistinct repeats
    items → slice_get items j ≡ Some item → slice_get items k ≡ Some item → j ≡ k
one_place items j k item distinct at there = elim (cases_lt j k) [
  | inl less ↦ absurd (not_before items j k item distinct at there less)
  | inr most ↦ elim (cases_lt k j) [
    | inl less ↦ absurd (not_before items k j item distinct there at less)
    | inr least ↦ omega (arith, most, least)
  ]
]

-- ---- own entries of texts

-- the own entry of the item that a text spells
abbrev own_of_item : List ℕ → ItemContents → Own
own_of_item text item = record { name = md5 text; shape = OfItem (item_shape item) }

abbrev own_of_script : List ℕ → ScriptParts → Own
own_of_script text parts =
    record { name = md5 text; shape = OfPresence (presence_shape (script_of parts)) }

-- what an own entry is of: an item's text, or the script's
data IsOf (texts : List (List ℕ)) (script : Option (List ℕ)) (items : List ItemContents) (k : ℕ)
    (own : Own) : Type 0 where
  an_item : (text : List ℕ) → (item : ItemContents) → slice_get texts k ≡ Some text
      → slice_get items k ≡ Some item → IsItemText text item → own ≡ own_of_item text item
      → IsOf texts script items k own
  the_script : (text : List ℕ) → (parts : ScriptParts) → script ≡ Some text → k ≡ length items
      → script_parts text parts → own ≡ own_of_script text parts → IsOf texts script items k own

record FrontOwn (texts : List (List ℕ)) (items : List ItemContents) (k : ℕ) (own : Own) : Type 0 where
  pub text : List ℕ
  pub item : ItemContents
  pub at : slice_get texts k ≡ Some text
  pub there : slice_get items k ≡ Some item
  pub is : own ≡ own_of_item text item

record BehindOwn (items : List ItemContents) (rest : List Own) (k : ℕ) (own : Own) : Type 0 where
  pub place : ℕ
  pub counted : k ≡ length items + place
  pub at : slice_get rest place ≡ Some own

item_owns : (texts : List (List ℕ)) (items : List ItemContents) (rest : List Own) (k : ℕ)
    (own : Own) → length texts ≡ length items
    → slice_get (own_items (map md5 texts) (map item_shape items) ++ rest) k ≡ Some own
    → FrontOwn texts items k own ⊎ BehindOwn items rest k own
item_owns [] [] rest k own same at = inr (record { place = k; counted = omega arith; at = at })
item_owns [] (item ∷ items) rest k own same at = absurd (omega (arith, same))
item_owns (text ∷ texts) [] rest k own same at = absurd (omega (arith, same))
item_owns (text ∷ texts) (item ∷ items) rest zero own same at =
    let is : own_of_item text item ≡ own = cc at in
    inl (record { text = text; item = item; at = refl; there = refl; is = sym is })
item_owns (text ∷ texts) (item ∷ items) rest (suc k) own same at =
    elim (item_owns texts items rest k own (omega (arith, same)) at) [
      | inl f ↦ inl (record { text = f.text; item = f.item; at = f.at; there = f.there; is = f.is })
      | inr b ↦ inr (record { place = b.place; counted = omega (arith, b.counted); at = b.at })
    ]

item_own_at : (texts : List (List ℕ)) (items : List ItemContents) (rest : List Own) (k : ℕ) (text
    : List ℕ) (item : ItemContents) → slice_get texts k ≡ Some text → slice_get items k ≡ Some item
    → slice_get (own_items (map md5 texts) (map item_shape items) ++ rest) k ≡ Some (own_of_item text item)
item_own_at [] items rest k text item at there = absurd cc
item_own_at (t ∷ texts) [] rest k text item at there = absurd cc
item_own_at (t ∷ texts) (i ∷ items) rest zero text item at there =
    let same : t ≡ text = cc at in
    let is : i ≡ item = cc there in
    λ n. Some (own_of_item (same n) (is n))
item_own_at (t ∷ texts) (i ∷ items) rest (suc k) text item at there =
    item_own_at texts items rest k text item at there

behind_items : (texts : List (List ℕ)) (items : List ItemContents) (rest : List Own) → length texts
    ≡ length items → slice_get (own_items (map md5 texts) (map item_shape items) ++ rest)
    (length items) ≡ slice_get rest 0
behind_items [] [] rest same = refl
behind_items [] (item ∷ items) rest same = absurd (omega (arith, same))
behind_items (text ∷ texts) [] rest same = absurd (omega (arith, same))
behind_items (text ∷ texts) (item ∷ items) rest same =
    behind_items texts items rest (omega (arith, same))

-- the own entry of a script, where there is one
script_owns : (texts : List (List ℕ)) (items : List ItemContents) (script : Option (List ℕ))
    (parts : Option ScriptParts) (k place : ℕ) (own : Own) → IsScriptText script parts → k
    ≡ length items + place
    → slice_get (own_presence (option_map md5 script) (option_map presence_shape
    (option_map script_of parts))) place ≡ Some own → IsOf texts script items k own
script_owns texts items None None k place own spelled counted at = absurd cc
script_owns texts items None (Some parts) k place own spelled counted at = absurd spelled
script_owns texts items (Some text) None k place own spelled counted at = absurd spelled
script_owns texts items (Some text) (Some parts) k zero own spelled counted at =
    let is : own_of_script text parts ≡ own = cc at in
    the_script text parts refl (omega (arith, counted)) spelled (sym is)
script_owns texts items (Some text) (Some parts) k (suc place) own spelled counted at = absurd cc

module _ (file : List ℕ) (set : SetContents) (s : IsSet file set) where
  told : SpellsTexts file s.spelled.contents
  told = texts-spelled file s.spelled.contents s.spelled.spelled

  pub texts_many : length (item_texts file) ≡ length set.items
  texts_many = told.count ∙ sym (ap length s.spelled.items)

  -- the own entries, with each part as the file has it
  abbrev owns_by_texts : List Own
  owns_by_texts =
      own_items (map md5 (item_texts file)) (map item_shape set.items)
      ++ own_presence (option_map md5 (script_text file))
      (option_map presence_shape (option_map script_of s.spelled.contents.script))

  owns_are : own_entries (shape_of set) ≡ owns_by_texts
  owns_are =
      let names = s.item_names in
      let name = s.script_name in
      let script = s.spelled.script in
      λ i. own_items (names i) (map item_shape set.items)
      ++ own_presence (name i) (option_map presence_shape (script i))

  pub item_text : (k : ℕ) (text : List ℕ) (item : ItemContents) → slice_get (item_texts file) k
      ≡ Some text → slice_get set.items k ≡ Some item → IsItemText text item
  item_text k text item at there =
      told.items k text item at (sym (ap (λ items. slice_get items k) s.spelled.items) ∙ there)

  source : (k : ℕ) (own : Own) → slice_get (own_entries (shape_of set)) k ≡ Some own
      → IsOf (item_texts file) (script_text file) set.items k own
  source k own at =
      elim (item_owns (item_texts file) set.items (own_presence (option_map md5 (script_text file))
      (option_map presence_shape (option_map script_of s.spelled.contents.script))) k own texts_many
      (sym (ap (λ owns. slice_get owns k) owns_are) ∙ at)) [
        | inl f ↦ an_item f.text f.item f.at f.there (item_text k f.text f.item f.at f.there) f.is
        | inr b ↦ script_owns (item_texts file) set.items
            (script_text file) s.spelled.contents.script k b.place own told.script b.counted b.at
      ]

  own_item_at : (k : ℕ) (text : List ℕ) (item : ItemContents) → slice_get (item_texts file) k
      ≡ Some text → slice_get set.items k ≡ Some item → slice_get (own_entries (shape_of set)) k
      ≡ Some (own_of_item text item)
  own_item_at k text item at there =
      ap (λ owns. slice_get owns k) owns_are
      ∙ item_own_at (item_texts file) set.items (own_presence (option_map md5 (script_text file))
      (option_map presence_shape (option_map script_of s.spelled.contents.script))) k text item at
      there

  -- the parts of the script, where its text is there
  pub record HasScript (text : List ℕ) : Type 0 where
    pub parts : ScriptParts
    pub spelled : script_parts text parts
    pub script : set.script ≡ Some (script_of parts)
    pub own_at : slice_get (own_entries (shape_of set)) (length set.items) ≡ Some (own_of_script text parts)

  pub has_script : (text : List ℕ) → script_text file ≡ Some text → HasScript text
  has_script text is = by_parts s.spelled.contents.script
      (subst (λ t. IsScriptText t s.spelled.contents.script) is told.script) refl
    where
      by_parts : (parts : Option ScriptParts) → IsScriptText (Some text) parts
          → s.spelled.contents.script ≡ parts → HasScript text
      by_parts None spelled same = absurd spelled
      by_parts (Some parts) spelled same = record {
        parts = parts;
        spelled = spelled;
        script = s.spelled.script ∙ ap (option_map script_of) same;
        own_at =
            ap (λ owns. slice_get owns (length set.items)) owns_are
            ∙ behind_items (item_texts file) set.items
            (own_presence (option_map md5 (script_text file))
            (option_map presence_shape (option_map script_of s.spelled.contents.script))) texts_many
            ∙ (λ i. slice_get (own_presence (option_map md5 (is i))
            (option_map presence_shape (option_map script_of (same i)))) 0);
      }

  -- a text that a name is taken of is among those of the file
  item_listed : (k : ℕ) (text : List ℕ) → slice_get (item_texts file) k ≡ Some text → In text (texts_in file)
  item_listed k text at =
      In_front text (item_texts file) (option_to_list (script_text file)) (in_at (item_texts file) k text at)

  script_listed : (text : List ℕ) → script_text file ≡ Some text → In text (texts_in file)
  script_listed text is =
      In_behind text (item_texts file) (option_to_list (script_text file))
      (subst (λ t. In text (option_to_list t)) (sym is) (inl refl))

module _ (file other : List ℕ) (set changed : SetContents) (s : IsSet file set)
    (t : IsSet other changed) (tell : NamesTell md5 (texts_in file ++ texts_in other)) where
  one_text : (a b : List ℕ) → In a (texts_in file) → In b (texts_in other) → md5 a ≡ md5 b → a ≡ b
  one_text a b here there named =
      tell a b (contains_in a (texts_in file ++ texts_in other) (In_front a (texts_in file) (texts_in other) here))
      (contains_in b (texts_in file ++ texts_in other) (In_behind b (texts_in file) (texts_in other) there)) named

  own_text : (a b : List ℕ) → In a (texts_in file) → In b (texts_in file) → md5 a ≡ md5 b → a ≡ b
  own_text a b here there named =
      tell a b (contains_in a (texts_in file ++ texts_in other) (In_front a (texts_in file) (texts_in other) here))
      (contains_in b (texts_in file ++ texts_in other) (In_front b (texts_in file) (texts_in other) there)) named

  shapes_of : (j k : ℕ) (a b : Own) → IsOf (item_texts file) (script_text file) set.items j a
      → IsOf (item_texts other) (script_text other) changed.items k b → a.name ≡ b.name → a.shape
      ≡ b.shape
  shapes_of j k a b (an_item text item at there spelled is) (an_item text' item' at' there' spelled' is') named =
      let same = one_text text text' (item_listed file set s j text at) (item_listed other changed t
      k text' at') (sym (ap (λ o. o.name) is) ∙ named ∙ ap (λ o. o.name) is') in
      let items = one_item text' item item' (subst (λ x. IsItemText x item) same spelled) spelled' in
      ap (λ o. o.shape) is ∙ ap (λ i. OfItem (item_shape i)) items ∙ sym (ap (λ o. o.shape) is')
  shapes_of j k a b (an_item text item at there spelled is) (the_script text' parts here last spelled' is') named =
      let same = one_text text text' (item_listed file set s j text at) (script_listed other changed
      t text' here) (sym (ap (λ o. o.name) is) ∙ named ∙ ap (λ o. o.name) is') in
      absurd (no_script_item text' item parts (subst (λ x. IsItemText x item) same spelled) spelled')
  shapes_of j k a b (the_script text parts here last spelled is) (an_item text' item at' there' spelled' is') named =
      let same = one_text text text' (script_listed file set s text here) (item_listed other changed
      t k text' at') (sym (ap (λ o. o.name) is) ∙ named ∙ ap (λ o. o.name) is') in
      absurd (no_script_item text' item parts spelled' (subst (λ x. script_parts x parts) same spelled))
  shapes_of j k a b (the_script text parts here last spelled is)
      (the_script text' parts' here' last' spelled' is') named =
      let same = one_text text text' (script_listed file set s text here) (script_listed other
      changed t text' here') (sym (ap (λ o. o.name) is) ∙ named ∙ ap (λ o. o.name) is') in
      let scripts = one_script text' parts parts' (subst (λ x. script_parts x parts) same spelled) spelled' in
      ap (λ o. o.shape) is ∙ ap (λ p. OfPresence (presence_shape p)) scripts ∙ sym (ap (λ o. o.shape) is')

  pub one_shape : OneShape (own_entries (shape_of set)) (own_entries (shape_of changed))
  one_shape j k a b at there named =
      shapes_of j k a b (source file set s j a at) (source other changed t k b there) named

  places_of : (j k : ℕ) (a b : Own) → IsOf (item_texts file) (script_text file) set.items j a
      → IsOf (item_texts file) (script_text file) set.items k b → a.name ≡ b.name → j ≡ k
  places_of j k a b (an_item text item at there spelled is) (an_item text' item' at' there' spelled' is') named =
      let same = own_text text text' (item_listed file set s j text at) (item_listed file set s k
      text' at') (sym (ap (λ o. o.name) is) ∙ named ∙ ap (λ o. o.name) is') in
      let items = one_item text' item item' (subst (λ x. IsItemText x item) same spelled) spelled' in
      one_place set.items j k item' s.ids (there ∙ ap (λ i. Some i) items) there'
  places_of j k a b (an_item text item at there spelled is) (the_script text' parts here last spelled' is') named =
      let same = own_text text text' (item_listed file set s j text at) (script_listed file set s
      text' here) (sym (ap (λ o. o.name) is) ∙ named ∙ ap (λ o. o.name) is') in
      absurd (no_script_item text' item parts (subst (λ x. IsItemText x item) same spelled) spelled')
  places_of j k a b (the_script text parts here last spelled is) (an_item text' item at' there' spelled' is') named =
      let same = own_text text text' (script_listed file set s text here) (item_listed file set s k
      text' at') (sym (ap (λ o. o.name) is) ∙ named ∙ ap (λ o. o.name) is') in
      absurd (no_script_item text' item parts spelled' (subst (λ x. script_parts x parts) same spelled))
  places_of j k a b (the_script text parts here last spelled is)
      (the_script text' parts' here' last' spelled' is') named =
      last ∙ sym last'

  only_place : (j : ℕ) (a b : Own) → slice_get (own_entries (shape_of set)) j ≡ Some a → a.name
      ≡ b.name → (i : ℕ) (c : Own) → slice_get (own_entries (shape_of set)) i ≡ Some c → c.name
      ≡ b.name → i ≡ j
  only_place j a b at named i c there same =
      places_of i j c a (source file set s i c there) (source file set s j a at) (same ∙ sym named)

  -- an item whose line is the same in both files
  pub record HasItem (j k : ℕ) : Type 0 where
    pub item : ItemContents
    pub there : slice_get set.items j ≡ Some item
    pub there_too : slice_get changed.items k ≡ Some item
    pub own : IsSharedOwn (shape_of set) (shape_of changed) j k

  pub shared_item : (j k : ℕ) (text : List ℕ) → slice_get (item_texts file) j ≡ Some text
      → slice_get (item_texts other) k ≡ Some text → HasItem j k
  shared_item j k text at there =
      let mine : At set.items j = beside_at (item_texts file) set.items j text (texts_many file set s) at in
      let theirs : At changed.items k =
      beside_at (item_texts other) changed.items k text (texts_many other changed t) there in
      let same : mine.thing ≡ theirs.thing = one_item text mine.thing theirs.thing
      (item_text file set s j text mine.thing at mine.there)
      (item_text other changed t k text theirs.thing there theirs.there) in
      let own = own_item_at file set s j text mine.thing at mine.there in
      record {
        item = mine.thing;
        there = mine.there;
        there_too = theirs.there ∙ ap (λ i. Some i) (sym same);
        own = record {
          a = own_of_item text mine.thing;
          b = own_of_item text theirs.thing;
          there = own;
          there_too = own_item_at other changed t k text theirs.thing there theirs.there;
          named = refl;
          only = only_place j (own_of_item text mine.thing) (own_of_item text theirs.thing) own refl;
        };
      }

  -- a script whose text is the same in both files
  pub record HasBoth (text : List ℕ) : Type 0 where
    pub parts : ScriptParts
    pub script : set.script ≡ Some (script_of parts)
    pub script_too : changed.script ≡ Some (script_of parts)
    pub own : IsSharedOwn (shape_of set) (shape_of changed) (length set.items) (length changed.items)

  pub shared_script : (text : List ℕ) → script_text file ≡ Some text → script_text other ≡ Some text → HasBoth text
  shared_script text at there =
      let mine : HasScript file set s text = has_script file set s text at in
      let theirs : HasScript other changed t text = has_script other changed t text there in
      let same = one_script text mine.parts theirs.parts mine.spelled theirs.spelled in
      record {
        parts = mine.parts;
        script = mine.script;
        script_too = theirs.script ∙ ap (λ p. Some p) (sym same);
        own = record {
          a = own_of_script text mine.parts;
          b = own_of_script text theirs.parts;
          there = mine.own_at;
          there_too = theirs.own_at;
          named = refl;
          only = only_place (length set.items) (own_of_script text mine.parts)
              (own_of_script text theirs.parts) mine.own_at refl;
        };
      }
