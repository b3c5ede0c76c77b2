-- The sections that are kept, and the set of their names.
use Rattle.std.proofs.Common.{◌≡◌, ◌∙◌, ℕ, Bool, true, false, ◌||◌, if◌then◌else◌, List, [], ◌∷◌, ◌++◌, length, map}
use Rattle.std.proofs.Common.{Option, None, Some, Vec, Global, Ordering, Less, Equal, Greater, refl, sym, ap, subst}
use Rattle.std.proofs.Common.{subst₂, append-nil}
use Rattle.std.specs.BTreeMap.{is_at}
use Rattle.std.specs.BTreeSet.{BTreeSet, insert_key, contains}
use Rattle.std.specs.Cmp.Lexicographic.{slice_cmp}
use Rattle.std.specs.List.{list_any, filter_map, flat_map}
use Rattle.std.specs.Option.{option_or}
use Rattle.std.specs.Ordering.{nat_cmp, match_ordering}
use Rattle.std.specs.Str.{bytes_eq}
use Rattle.std.proofs.lemmas.Grind.{flat_map-append}
use Rattle.std.proofs.lemmas.List.{map-append}
use Rattle.std.proofs.lemmas.List.Elements.{filter_map-append}
use Rattle.std.proofs.lemmas.List.Folds.{list_any-append}
use Rattle.std.proofs.lemmas.Map.Lookups.{exact_bytes}
use Rattle.std.proofs.lemmas.Map.Text.{is_eq-slice_cmp}
use Rattle.std.proofs.lemmas.Slice.Eq.{bytes_eq-Decides}
use Rattle.ra_richpresence.specs.Contents.{lookup_contents}
use Rattle.ra_richpresence.specs.Grammar.{EntryContents, SectionContents, Looks, Formats, name_of, is_taken}
use Rattle.ra_richpresence.specs.Grammar.{first_named, lookup_in, format_in}
use Rattle.ra_richpresence.specs.Kept.{Keeps}
use Rattle.ra_richpresence.specs.declared.kept.Kept.{Kept}
use Rattle.ra_richpresence.specs.Sections.{IsLookupOf, IsSectionOf, section_name}
use Rattle.ra_richpresence.specs.declared.section.Section.{Section}
use Rattle.ra_richpresence.specs.declared.section.Section.TheVariants as section
use Rattle.ra_richpresence.specs.Texts.{first_over, texts_of, texts_kept}
use Rattle.ra_richpresence.specs.declared.lookup.Lookup.{Lookup}
use Rattle.ra_richpresence.specs.declared.read_lookup.ReadLookup.{ReadLookup}
use Rattle.ra_richpresence.proofs.LongTexts.{long-append}
use Rattle.ra_value_format.specs.declared.format.Format.{Format}

-- ---- names in order

-- the order of the names
abbrev pub name_cmp : Vec ℕ Global → Vec ℕ Global → Ordering
name_cmp x y = slice_cmp nat_cmp x.items y.items

-- the name is among the keys
abbrev pub has_name : List (Vec ℕ Global) → List ℕ → Bool
has_name keys name = list_any (λ taken. bytes_eq name taken.items) keys

pub contains-has : (keys : List (Vec ℕ Global)) (key : Vec ℕ Global)
    → list_any (is_at (name_cmp key)) keys ≡ has_name keys key.items
contains-has [] key = refl
contains-has (k ∷ keys) key = ap (λ b. b || list_any (is_at (name_cmp key)) keys) (is_eq-slice_cmp
    key.items k.items) ∙ ap (λ b. bytes_eq key.items k.items || b) (contains-has keys key)

or-same : (a b : Bool) → (a || (a || b)) ≡ (a || b)
or-same true b = refl
or-same false b = refl

or-swap : (a b c : Bool) → (a || (b || c)) ≡ (b || (a || c))
or-swap true true c = refl
or-swap true false c = refl
or-swap false b c = refl

insert-has : (keys : List (Vec ℕ Global)) (key : Vec ℕ Global) (name : List ℕ)
    → has_name (insert_key name_cmp keys key) name ≡ (bytes_eq name key.items || has_name keys name)
insert-has [] key name = refl
insert-has (k ∷ keys) key name = cases (name_cmp key k) refl (insert-has keys key name) where
  cases : (order : Ordering) → name_cmp key k ≡ order → has_name (insert_key name_cmp keys key) name
      ≡ (bytes_eq name key.items || has_name keys name)
      → has_name (match_ordering order (key ∷ k ∷ keys) (k ∷ keys) (k ∷ insert_key name_cmp keys
      key)) name ≡ (bytes_eq name key.items || (bytes_eq name k.items || has_name keys name))
  cases Less is others = refl
  cases Equal is others = let same : key.items ≡ k.items = exact_bytes key.items k.items is in
      sym (ap (λ items. bytes_eq name items || (bytes_eq name k.items || has_name keys name)) same
      ∙ or-same (bytes_eq name k.items) (has_name keys name))
  cases Greater is others = ap (λ b. bytes_eq name k.items || b) others
      ∙ or-swap (bytes_eq name k.items) (bytes_eq name key.items) (has_name keys name)

-- ---- the first section of each name

-- a name that another one is taken with is taken
taken-same : (names : List (List ℕ)) (name other : List ℕ) → bytes_eq name other ≡ true
    → is_taken names other ≡ true → is_taken names name ≡ true
taken-same names name other same taken =
    subst (λ n. is_taken names n ≡ true) (sym ((bytes_eq-Decides name other).0 same)) taken

or-taken : (names here others : Bool) → (here ≡ true → names ≡ true) → (names || others) ≡ (names || (here || others))
or-taken true here others known = refl
or-taken false true others known = absurd (let n : false ≡ true = known refl in cc n)
or-taken false false others known = refl

or-turn : (here names others : Bool) → ((here || names) || others) ≡ (names || (here || others))
or-turn true true others = refl
or-turn true false others = refl
or-turn false names others = refl

-- the section, unless its name is taken
abbrev pub unless_taken : Bool → SectionContents → List SectionContents
unless_taken taken s = if taken then [] else s ∷ []

first-more : (names : List (List ℕ)) (sections : List SectionContents) (s : SectionContents)
    → first_named names (sections ++ s ∷ []) ≡ first_named names sections
    ++ unless_taken (is_taken names (name_of s) || is_taken (map name_of sections) (name_of s)) s
first-more names [] s = cases (is_taken names (name_of s)) where
  cases : (taken : Bool) → (if taken then [] else s ∷ []) ≡ unless_taken (taken || false) s
  cases true = refl
  cases false = refl
first-more names (t ∷ sections) s = cases (is_taken names (name_of t)) refl
    (first-more names sections s) (first-more (name_of t ∷ names) sections s) where
      cases : (taken : Bool) → is_taken names (name_of t) ≡ taken
          → first_named names (sections ++ s ∷ []) ≡ first_named names sections
          ++ unless_taken (is_taken names (name_of s) || is_taken (map name_of sections) (name_of s)) s
          → first_named (name_of t ∷ names) (sections ++ s ∷ [])
          ≡ first_named (name_of t ∷ names) sections ++ unless_taken
          (is_taken (name_of t ∷ names) (name_of s) || is_taken (map name_of sections) (name_of s)) s
          → (if taken then first_named names (sections ++ s ∷ [])
          else t ∷ first_named (name_of t ∷ names) (sections ++ s ∷ []))
          ≡ (if taken then first_named names sections else t ∷ first_named (name_of t ∷ names) sections)
          ++ unless_taken (is_taken names (name_of s)
          || (bytes_eq (name_of s) (name_of t) || is_taken (map name_of sections) (name_of s))) s
      cases true is same fresh = same ∙ ap (λ taken. first_named names sections ++ unless_taken taken s)
          (or-taken (is_taken names (name_of s)) (bytes_eq (name_of s) (name_of t)) (is_taken
          (map name_of sections) (name_of s)) (λ e. taken-same names (name_of s) (name_of t) e is))
      cases false is same fresh = ap (λ ss. t ∷ ss) (fresh ∙ ap (λ taken. first_named (name_of t
          ∷ names) sections ++ unless_taken taken s) (or-turn (bytes_eq (name_of s) (name_of t))
          (is_taken names (name_of s)) (is_taken (map name_of sections) (name_of s))))

-- ---- what is kept after one section more

-- the names with one more
names-more : (sections : List SectionContents) (s : SectionContents) (name : List ℕ)
    → is_taken (map name_of (sections ++ s ∷ [])) name
    ≡ (bytes_eq name (name_of s) || is_taken (map name_of sections) name)
names-more sections s name = ap (λ names. is_taken names name) (map-append name_of sections
    (s ∷ [])) ∙ list_any-append (λ taken. bytes_eq name taken) (map name_of sections) (name_of s
    ∷ []) ∙ last (is_taken (map name_of sections) name) (bytes_eq name (name_of s)) where
      last : (a b : Bool) → (a || (b || false)) ≡ (b || a)
      last true true = refl
      last true false = refl
      last false true = refl
      last false false = refl

module _ (most : ℕ) (sections : List SectionContents) (s : SectionContents) (old : Kept)
    (keeps : Keeps most sections old) (key : Vec ℕ Global) (named : key.items ≡ name_of s) where
  -- the set tells whether the name is taken
  taken-by_set : contains name_cmp old.names key ≡ is_taken (map name_of sections) (name_of s)
  taken-by_set = contains-has old.names.keys key ∙ keeps.names key.items ∙ ap (is_taken (map name_of sections)) named

  -- the name is new
  module _ (names : BTreeSet (Vec ℕ Global)) (fresh : contains name_cmp old.names key ≡ false)
      (inserted : names.keys ≡ insert_key name_cmp old.names.keys key) where
    fresh-first : first_named [] (sections ++ s ∷ []) ≡ first_named [] sections ++ s ∷ []
    fresh-first = first-more [] sections s
        ∙ ap (λ taken. first_named [] sections ++ unless_taken taken s) (sym taken-by_set ∙ fresh)

    fresh-names : (name : List ℕ) → has_name names.keys name ≡ is_taken (map name_of (sections ++ s ∷ [])) name
    fresh-names name = ap (λ keys. has_name keys name) inserted ∙ insert-has old.names.keys key name
        ∙ ap (λ items. bytes_eq name items || has_name old.names.keys name) named ∙ ap
        (λ b. bytes_eq name (name_of s) || b) (keeps.names name) ∙ sym (names-more sections s name)

  -- the name is taken
  module _ (names : BTreeSet (Vec ℕ Global)) (taken : contains name_cmp old.names key ≡ true)
      (same : names.keys ≡ old.names.keys) where
    taken-first : first_named [] (sections ++ s ∷ []) ≡ first_named [] sections
    taken-first = first-more [] sections s ∙ ap (λ taken. first_named [] sections
        ++ unless_taken taken s) (sym taken-by_set ∙ taken) ∙ append-nil (first_named [] sections)

    taken-names : (name : List ℕ) → has_name names.keys name ≡ is_taken (map name_of (sections ++ s ∷ [])) name
    taken-names name = ap (λ keys. has_name keys name) same ∙ keeps.names name
        ∙ known (bytes_eq name (name_of s)) refl ∙ sym (names-more sections s name) where
          known : (here : Bool) → bytes_eq name (name_of s) ≡ here
              → is_taken (map name_of sections) name ≡ (here || is_taken (map name_of sections) name)
          known true is = taken-same (map name_of sections) name (name_of s) is (sym taken-by_set ∙ taken)
          known false is = refl

    pub keeps-taken : Keeps most (sections ++ s ∷ [])
        (record { most = old.most; long = old.long; names = names; lookups = old.lookups; formats = old.formats })
    keeps-taken = record {
      lookups = keeps.lookups ∙ ap (filter_map lookup_in) (sym taken-first);
      formats = keeps.formats ∙ ap (filter_map format_in) (sym taken-first);
      limit = keeps.limit;
      long = keeps.long ∙ ap (λ ss. first_over most (map length (flat_map texts_of ss))) (sym taken-first);
      names = taken-names;
    }

-- the texts with those of one section more
texts-more : (most : ℕ) (kept all : List SectionContents) (s : SectionContents) (long : Option ℕ)
    → all ≡ kept ++ s ∷ [] → long ≡ first_over most (map length (texts_of s))
    → option_or (first_over most (map length (flat_map texts_of kept))) long
    ≡ first_over most (map length (flat_map texts_of all))
texts-more most kept all s long parts is =
    ap (option_or (first_over most (map length (flat_map texts_of kept)))) (is
    ∙ ap (λ ts. first_over most (map length ts)) (sym (append-nil (texts_of s))))
    ∙ sym (ap (λ ss. first_over most (map length (flat_map texts_of ss))) parts
    ∙ ap (λ ts. first_over most (map length ts)) (flat_map-append texts_of kept (s ∷ []))
    ∙ long-append most (flat_map texts_of kept) (flat_map texts_of (s ∷ [])))

or-none : (long : Option ℕ) → option_or long None ≡ long
or-none None = refl
or-none (Some n) = refl

keeps-lookup : (most : ℕ) (sections : List SectionContents) (old : Kept) (name : List ℕ)
    (entries : List EntryContents) (found : ReadLookup) → Keeps most sections old
    → IsLookupOf most name entries found → (key : Vec ℕ Global) → key.items
    ≡ found.lookup.name.items → (names : BTreeSet (Vec ℕ Global)) → contains name_cmp old.names key
    ≡ false → names.keys ≡ insert_key name_cmp old.names.keys key
    → (lookups : Vec Lookup Global) → lookups.items ≡ old.lookups.items ++ found.lookup ∷ []
    → Keeps most (sections ++ Looks name entries ∷ [])
    (record {
      most = old.most;
      long = option_or old.long found.long;
      names = names;
      lookups = lookups;
      formats = old.formats;
    })
keeps-lookup most sections old name entries found keeps is key named names fresh inserted lookups pushed =
    let of_name : key.items ≡ name = named ∙ ap (λ l. l.name) is.lookup in
    let first : first_named [] (sections ++ Looks name entries ∷ [])
    ≡ first_named [] sections ++ Looks name entries ∷ [] =
    fresh-first most sections (Looks name entries) old keeps key of_name names fresh inserted in
    record {
      lookups = ap (map lookup_contents) pushed ∙ map-append lookup_contents old.lookups.items
          (found.lookup ∷ []) ∙ ap (λ ls. ls ++ lookup_contents found.lookup ∷ []) keeps.lookups
          ∙ ap (λ l. filter_map lookup_in (first_named [] sections) ++ l ∷ []) is.lookup
          ∙ sym (ap (filter_map lookup_in) first
          ∙ filter_map-append lookup_in (first_named [] sections) (Looks name entries ∷ []));
      formats = keeps.formats ∙ sym (ap (filter_map format_in) first
          ∙ filter_map-append format_in (first_named [] sections) (Looks name entries ∷ [])
          ∙ append-nil (filter_map format_in (first_named [] sections)));
      limit = keeps.limit;
      long = ap (λ n. option_or n found.long) keeps.long
          ∙ texts-more most (first_named [] sections) (first_named []
          (sections ++ Looks name entries ∷ [])) (Looks name entries) found.long first is.long;
      names = fresh-names most sections (Looks name entries) old keeps key of_name names fresh inserted;
    }

-- a format as its name and itself
abbrev pub format_pair : Vec ℕ Global × Format → List ℕ × Format
format_pair f = (f.0.items, f.1)

keeps-format : (most : ℕ) (sections : List SectionContents) (old : Kept) (name : Vec ℕ Global)
    (format : Format) → Keeps most sections old → (key : Vec ℕ Global) → key.items ≡ name.items
    → (names : BTreeSet (Vec ℕ Global)) → contains name_cmp old.names key ≡ false → names.keys
    ≡ insert_key name_cmp old.names.keys key
    → (formats : Vec (Vec ℕ Global × Format) Global) → formats.items ≡ old.formats.items
    ++ (name, format) ∷ [] → Keeps most (sections ++ Formats name.items format ∷ []) (record
    { most = old.most; long = old.long; names = names; lookups = old.lookups; formats = formats })
keeps-format most sections old name format keeps key named names fresh inserted formats pushed =
    let first : first_named [] (sections ++ Formats name.items format ∷ [])
    ≡ first_named [] sections ++ Formats name.items format ∷ [] = fresh-first most sections
    (Formats name.items format) old keeps key named names fresh inserted in
    record {
      lookups = keeps.lookups ∙ sym (ap (filter_map lookup_in) first
          ∙ filter_map-append lookup_in (first_named [] sections) (Formats name.items format ∷ [])
          ∙ append-nil (filter_map lookup_in (first_named [] sections)));
      formats = ap (map format_pair) pushed ∙ map-append format_pair old.formats.items
          ((name, format) ∷ []) ∙ ap (λ fs. fs ++ (name.items, format) ∷ []) keeps.formats
          ∙ sym (ap (filter_map format_in) first
          ∙ filter_map-append format_in (first_named [] sections) (Formats name.items format ∷ []));
      limit = keeps.limit;
      long = keeps.long ∙ sym (or-none (first_over most (map length (texts_kept sections))))
          ∙ texts-more most (first_named [] sections) (first_named []
          (sections ++ Formats name.items format ∷ [])) (Formats name.items format) None first refl;
      names = fresh-names most sections (Formats name.items format) old keeps key named names fresh inserted;
    }

-- the name of a section is that of what it stands for
pub name-of_section : (most : ℕ) (s : SectionContents) (found : Section) → IsSectionOf most s found
    → section_name found ≡ name_of s
name-of_section most (Looks name entries) (section.Lookup found) is = ap (λ l. l.name) is.lookup
name-of_section most (Formats name format) (section.Format other found) is = is.0
name-of_section most (Looks name entries) (section.Format other found) is = absurd is
name-of_section most (Formats name format) (section.Lookup found) is = absurd is

-- a lookup is kept whose name is new
pub keeps-section_lookup : (most : ℕ) (sections : List SectionContents) (old : Kept) (s
    : SectionContents) (found : ReadLookup) → Keeps most sections old → IsSectionOf most s
    (section.Lookup found) → (key : Vec ℕ Global) → key.items ≡ found.lookup.name.items
    → (names : BTreeSet (Vec ℕ Global)) → contains name_cmp old.names key ≡ false
    → names.keys ≡ insert_key name_cmp old.names.keys key → (lookups : Vec Lookup Global)
    → lookups.items ≡ old.lookups.items ++ found.lookup ∷ [] → (long : Option ℕ) → long
    ≡ option_or old.long found.long → Keeps most (sections ++ s ∷ []) (record
    { most = old.most; long = long; names = names; lookups = lookups; formats = old.formats })
keeps-section_lookup most sections old
    (Looks name entries) found keeps is key named names fresh inserted lookups pushed long longer =
    subst (λ n. Keeps most (sections ++ Looks name entries ∷ [])
    (record { most = old.most; long = n; names = names; lookups = lookups; formats = old.formats }))
    (sym longer) (keeps-lookup most sections old name entries found keeps is key named names fresh
    inserted lookups pushed)
keeps-section_lookup most sections old (Formats name format) found keeps is key named names fresh
    inserted lookups pushed long longer = absurd is

-- a format is kept whose name is new
pub keeps-section_format : (most : ℕ) (sections : List SectionContents) (old : Kept)
    (s : SectionContents) (name : Vec ℕ Global) (format : Format) → Keeps most sections old
    → IsSectionOf most s (section.Format name format) → (key : Vec ℕ Global) → key.items
    ≡ name.items → (names : BTreeSet (Vec ℕ Global)) → contains name_cmp old.names key ≡ false
    → names.keys ≡ insert_key name_cmp old.names.keys key
    → (formats : Vec (Vec ℕ Global × Format) Global) → formats.items
    ≡ old.formats.items ++ (name, format) ∷ [] → Keeps most (sections ++ s ∷ []) (record
    { most = old.most; long = old.long; names = names; lookups = old.lookups; formats = formats })
keeps-section_format most sections old
    (Formats other found) name format keeps is key named names fresh inserted formats pushed =
    subst₂ (λ n f. Keeps most (sections ++ Formats n f ∷ [])
    (record {
      most = old.most;
      long = old.long;
      names = names;
      lookups = old.lookups;
      formats = formats;
    })) is.0 is.1 (keeps-format most sections old name format keeps key named names fresh inserted formats pushed)
keeps-section_format most sections old (Looks other entries) name format keeps is key named names
    fresh inserted formats pushed = absurd is
