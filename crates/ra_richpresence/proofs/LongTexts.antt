-- The texts of a lookup with one line more, and the first of texts in a row that is long.
use Rattle.std.proofs.Common.{◌≡◌, ◌∙◌, nat_le, if◌then◌else◌, ℕ, Bool, true, false, List, [], ◌∷◌, ◌++◌, length, map}
use Rattle.std.proofs.Common.{Option, Some, None, option_map, is_some, Vec, Global, refl, sym, ap, append-nil}
use Rattle.std.specs.List.{filter_map}
use Rattle.std.specs.Option.{option_or}
use Rattle.std.proofs.lemmas.List.{map-append}
use Rattle.std.proofs.lemmas.List.Elements.{filter_map-append}
use Rattle.ra_richpresence.specs.Contents.{KeysContents, LookupContents, keys_contents, lookup_contents}
use Rattle.ra_richpresence.specs.Grammar.{EntryContents, Keyed, Other, keys_in, first_other, lookup_with}
use Rattle.ra_richpresence.specs.Sections.{IsLookupOf}
use Rattle.ra_richpresence.specs.Texts.{first_over, keyed_texts, entry_texts}
use Rattle.ra_richpresence.specs.declared.lookup.Keys.{Keys}
use Rattle.ra_richpresence.specs.declared.read_lookup.ReadLookup.{ReadLookup}

-- ---- the first long text

or-if : (within : Bool) (n : ℕ) (ns ms : Option ℕ) → (if within then option_or ns ms else Some n)
    ≡ option_or (if within then ns else Some n) ms
or-if true n ns ms = refl
or-if false n ns ms = refl

pub first_over-append : (most : ℕ) (xs ys : List ℕ) → first_over most (xs ++ ys)
    ≡ option_or (first_over most xs) (first_over most ys)
first_over-append most [] ys = refl
first_over-append most (n ∷ xs) ys = ap (λ found. if nat_le n most then found else Some n)
    (first_over-append most xs ys)
    ∙ or-if (nat_le n most) n (first_over most xs) (first_over most ys)

-- texts behind others
pub long-append : (most : ℕ) (xs ys : List (List ℕ)) → first_over most (map length (xs ++ ys))
    ≡ option_or (first_over most (map length xs)) (first_over most (map length ys))
long-append most xs ys = ap (first_over most) (map-append length xs ys)
    ∙ first_over-append most (map length xs) (map length ys)

-- ---- one line more

keyed-more : (entries : List EntryContents) (found : EntryContents)
    → keyed_texts (entries ++ found ∷ []) ≡ keyed_texts entries ++ keyed_texts (found ∷ [])
keyed-more [] found = refl
keyed-more (Keyed first ∷ entries) found = ap (λ ts. first.text ∷ ts) (keyed-more entries found)
keyed-more (Other first ∷ entries) found = keyed-more entries found

-- the text of a line, which does not count where it is one of all other numbers behind another
abbrev pub text_behind : Option (List ℕ) → EntryContents → List (List ℕ)
text_behind None found = entry_texts (found ∷ [])
text_behind (Some first) found = keyed_texts (found ∷ [])

pub texts-more : (entries : List EntryContents) (found : EntryContents) → entry_texts
    (entries ++ found ∷ []) ≡ entry_texts entries ++ text_behind (first_other entries) found
texts-more [] found = refl
texts-more (Keyed first ∷ entries) found = ap (λ ts. first.text ∷ ts) (texts-more entries found)
texts-more (Other first ∷ entries) found = ap (λ ts. first ∷ ts) (keyed-more entries found)

-- the first of two texts, where there is one
abbrev pub first_text : Option (List ℕ) → List ℕ → Option (List ℕ)
first_text None text = Some text
first_text (Some first) text = Some first

-- a lookup with one line more
abbrev pub with_entry : LookupContents → EntryContents → LookupContents
with_entry lookup (Keyed keys) = record { name = lookup.name; keys = lookup.keys ++ keys ∷ []; rest = lookup.rest }
with_entry lookup (Other text) = record { name = lookup.name; keys = lookup.keys; rest = first_text lookup.rest text }

first_other-more : (entries : List EntryContents) (text : List ℕ)
    → first_other (entries ++ Other text ∷ []) ≡ first_text (first_other entries) text
first_other-more [] text = refl
first_other-more (Keyed keys ∷ entries) text = first_other-more entries text
first_other-more (Other first ∷ entries) text = refl

first_other-same : (entries : List EntryContents) (keys : KeysContents)
    → first_other (entries ++ Keyed keys ∷ []) ≡ first_other entries
first_other-same [] keys = refl
first_other-same (Keyed first ∷ entries) keys = first_other-same entries keys
first_other-same (Other first ∷ entries) keys = refl

lookup-more : (name : List ℕ) (entries : List EntryContents) (found : EntryContents)
    → with_entry (lookup_with name entries) found ≡ lookup_with name (entries ++ found ∷ [])
lookup-more name entries (Keyed keys) =
    cc (filter_map-append keys_in entries (Keyed keys ∷ []), first_other-same entries keys)
lookup-more name entries (Other text) =
    cc (
      filter_map-append keys_in entries (Other text ∷ []),
      first_other-more entries text,
      append-nil (filter_map keys_in entries),
    )

-- a lookup with a line more has its texts and this one
pub adds-entry : (most : ℕ) (name : List ℕ) (entries : List EntryContents) (found : EntryContents)
    (old new : ReadLookup) → IsLookupOf most name entries old → lookup_contents new.lookup
    ≡ with_entry (lookup_contents old.lookup) found
    → new.long ≡ option_or old.long (first_over most (map length
    (text_behind (first_other entries) found))) → IsLookupOf most name (entries ++ found ∷ []) new
adds-entry most name entries found old new so_far adds long = record {
  lookup = adds ∙ ap (λ l. with_entry l found) so_far.lookup ∙ lookup-more name entries found;
  long = long ∙ ap (λ n. option_or n
      (first_over most (map length (text_behind (first_other entries) found)))) so_far.long
      ∙ sym (ap (λ ts. first_over most (map length ts)) (texts-more entries found)
      ∙ long-append most (entry_texts entries) (text_behind (first_other entries) found));
}

-- ---- what a call that adds a line leaves

-- keys behind others
pub adds-keys : (most : ℕ) (name : List ℕ) (entries : List EntryContents) (old : ReadLookup)
    (added : Keys) (all : Vec Keys Global) (long : Option ℕ) → all.items ≡ old.lookup.keys.items
    ++ added ∷ [] → long ≡ option_or old.long (first_over most (length added.text.items ∷ []))
    → IsLookupOf most name entries old → IsLookupOf most name
    (entries ++ Keyed (keys_contents added) ∷ []) (record
    { lookup = record { name = old.lookup.name; keys = all; rest = old.lookup.rest }; long = long })
adds-keys most name entries old added all long pushed longer so_far =
    adds-entry most name entries (Keyed (keys_contents added)) old
    (record { lookup = record { name = old.lookup.name; keys = all; rest = old.lookup.rest }; long = long }) so_far
    (ap (λ ks. record {
      name = old.lookup.name.items;
      keys = ks;
      rest = option_map (λ text. text.items) old.lookup.rest;
    }) (ap (map keys_contents) pushed ∙ map-append keys_contents old.lookup.keys.items (added ∷ [])))
    (longer ∙ same (first_other entries)) where
      same : (first : Option (List ℕ)) → option_or old.long
          (first_over most (length added.text.items ∷ [])) ≡ option_or old.long
          (first_over most (map length (text_behind first (Keyed (keys_contents added)))))
      same None = refl
      same (Some first) = refl

module _ (most : ℕ) (name : List ℕ) (entries : List EntryContents) (old : ReadLookup)
    (text : Vec ℕ Global) (so_far : IsLookupOf most name entries old) where
  -- the text of all other numbers so far
  other-so_far : (rest : Option (Vec ℕ Global)) → old.lookup.rest ≡ rest → first_other entries
      ≡ option_map (λ t. t.items) rest
  other-so_far rest is = sym (ap (λ l. l.rest) so_far.lookup) ∙ ap (option_map (λ t. t.items)) is

  -- the first text of all other numbers
  pub adds-first : (long : Option ℕ) → is_some old.lookup.rest ≡ false → long
      ≡ option_or old.long (first_over most (length text.items ∷ []))
      → IsLookupOf most name (entries ++ Other text.items ∷ [])
      (record { lookup = record { name = old.lookup.name; keys = old.lookup.keys; rest = Some text }; long = long })
  adds-first long none longer = cases old.lookup.rest refl none where
    cases : (rest : Option (Vec ℕ Global)) → old.lookup.rest ≡ rest → is_some rest ≡ false
        → IsLookupOf most name (entries ++ Other text.items ∷ [])
        (record { lookup = record { name = old.lookup.name; keys = old.lookup.keys; rest = Some text }; long = long })
    cases None is none = adds-entry most name entries (Other text.items) old
        (record {
          lookup = record { name = old.lookup.name; keys = old.lookup.keys; rest = Some text };
          long = long;
        }) so_far
        (ap (λ rest. record {
          name = old.lookup.name.items;
          keys = map keys_contents old.lookup.keys.items;
          rest = first_text (option_map (λ t. t.items) rest) text.items;
        }) (sym is))
        (longer ∙ ap (λ first. option_or old.long (first_over most
        (map length (text_behind first (Other text.items))))) (sym (other-so_far None is)))
    cases (Some first) is none = absurd (cc none)

  or-none : (long : Option ℕ) → long ≡ option_or long None
  or-none None = refl
  or-none (Some n) = refl

  -- a later one, which is not kept
  pub adds-later : is_some old.lookup.rest ≡ true → IsLookupOf most name (entries ++ Other text.items ∷ []) old
  adds-later some = cases old.lookup.rest refl some where
    cases : (rest : Option (Vec ℕ Global)) → old.lookup.rest ≡ rest → is_some rest ≡ true
        → IsLookupOf most name (entries ++ Other text.items ∷ []) old
    cases None is some = absurd (cc some)
    cases (Some first) is some = adds-entry most name entries (Other text.items) old old so_far
        (ap (λ rest. record {
          name = old.lookup.name.items;
          keys = map keys_contents old.lookup.keys.items;
          rest = rest;
        }) (ap (option_map (λ t. t.items)) is
        ∙ ap (λ rest. first_text (option_map (λ t. t.items) rest) text.items) (sym is)))
        (or-none old.long ∙ ap (λ first. option_or old.long (first_over most
        (map length (text_behind first (Other text.items))))) (sym (other-so_far (Some first) is)))
