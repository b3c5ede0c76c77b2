-- What a macro shows is what its name stands for.
use Rattle.std.proofs.Common.{◌≡◌, ◌∙◌, ℕ, suc, ◌+◌, ◌-◌, ◌<◌, ◌≤◌, Bool, true, false, if◌then◌else◌, List, [], ◌∷◌}
use Rattle.std.proofs.Common.{◌++◌, length, map, drop, get_or, codes, Option, Some, None, Vec, Global, refl, sym, ap}
use Rattle.std.proofs.Common.{subst, arith, rules}
use Rattle.std.specs.Prelude.{ℤ}
use Rattle.std.specs.Int.{w32, cast_unsigned}
use Rattle.std.specs.List.{AllByRecursion, slice_get}
use Rattle.std.specs.Str.{bytes_eq}
use Rattle.std.proofs.lemmas.List.{get_or-map, length-map}
use Rattle.ra_value_format.specs.declared.format.Format.{Format}
use Rattle.ra_value_format.specs.Formats.{HasDigits, entry_of, formatted}
use Rattle.ra_richpresence.specs.declared.line.Line.{Line}
use Rattle.ra_richpresence.specs.declared.meaning.Meaning.{Meaning}
use Rattle.ra_richpresence.specs.declared.meaning.Meaning.TheVariants as shows
use Rattle.ra_richpresence.specs.declared.script.Script.{Script}
use Rattle.ra_richpresence.specs.Contents.{PieceContents, Bytes, Shows, LookupContents, ScriptContents, piece_contents}
use Rattle.ra_richpresence.specs.Contents.{script_contents}
use Rattle.ra_richpresence.specs.Lines.{builtin_macros, by_format, by_lookup, lookup_of, macro_text}
use Rattle.ra_richpresence.specs.Meanings.{place_of, said_by, meaning_by, meaning_of, meanings_in}
use Rattle.ra_richpresence.specs.Shown.{BeginsWithMeaning, text_in, values_of}
use Rattle.ra_richpresence.proofs.ShownLemmas.{entry-holds}

-- ---- the lookup of a name by its place

-- the lookup of the name stands at the place
record StandsAt (name : List ℕ) (ls : List LookupContents) (at place : ℕ) (d : LookupContents) : Type 0 where
  from : at ≤ place
  within : place < at + length ls
  is : lookup_of name ls ≡ Some (get_or ls (place - at) d)

stands-at : (name : List ℕ) (ls : List LookupContents) (at place : ℕ) (d : LookupContents)
    → place_of name ls at ≡ Some place → StandsAt name ls at place d
stands-at name [] at place d is = absurd (cc is)
stands-at name (l ∷ ls) at place d is = cases (bytes_eq l.name name) refl is (stands-at name ls (suc at) place d) where
  cases : (same : Bool) → bytes_eq l.name name ≡ same
      → (if same then Some at else place_of name ls (suc at)) ≡ Some place → (place_of name ls
      (suc at) ≡ Some place → StandsAt name ls (suc at) place d) → StandsAt name (l ∷ ls) at place d
  cases true same is next =
      let e : at ≡ place = cc is in
      let first : 0 ≡ place - at = omega (arith, e) in
      record {
        from = omega (arith, e);
        within = omega (arith, e);
        is = ap (λ b. if b then Some l else lookup_of name ls) same ∙ ap (λ n. Some (get_or (l ∷ ls) n d)) first;
      }
  cases false same is next =
      let h = next is in
      let behind : suc (place - suc at) ≡ place - at = omega (arith, h.from) in
      record {
        from = omega (arith, h.from);
        within = omega (arith, h.within);
        is = ap (λ b. if b then Some l else lookup_of name ls) same ∙ h.is
            ∙ ap (λ n. Some (get_or (l ∷ ls) n d)) behind;
      }

no-place : (name : List ℕ) (ls : List LookupContents) (at : ℕ) → place_of name ls at ≡ None → lookup_of name ls ≡ None
no-place name [] at is = refl
no-place name (l ∷ ls) at is = cases (bytes_eq l.name name) is (no-place name ls (suc at)) where
  cases : (same : Bool) → (if same then Some at else place_of name ls (suc at)) ≡ None
      → (place_of name ls (suc at) ≡ None → lookup_of name ls ≡ None)
      → (if same then Some l else lookup_of name ls) ≡ None
  cases true is next = absurd (cc is)
  cases false is next = next is

-- ---- what a macro shows

module _ (script : ScriptContents) (name : List ℕ) (v : ℤ) where
  -- a macro whose name has no lookup is written by a format
  by-format : place_of name script.lookups 0 ≡ None → macro_text script name v
      ≡ by_format name (entry_of name script.formats) (entry_of name builtin_macros) v
  by-format none = ap (λ o. by_lookup script name o v) (no-place name script.lookups 0 none)

  -- the lookup of this place is that of the name
  pub record ShowsLookup (place : ℕ) (d : LookupContents) : Type 0 where
    pub within : place < length script.lookups
    pub text : macro_text script name v ≡ text_in (get_or script.lookups place d) (cast_unsigned w32 v)

  pub shows-lookup : (place : ℕ) (d : LookupContents) → shows.Lookup place
      ≡ meaning_of script.lookups script.formats name → ShowsLookup place d
  shows-lookup place d is = cases (place_of name script.lookups 0) (entry_of name script.formats)
      (entry_of name builtin_macros) refl is where
        cases : (found : Option ℕ) (format builtin : Option Format) → place_of name script.lookups 0 ≡
            found → shows.Lookup place ≡ meaning_by (said_by found format) builtin → ShowsLookup place d
        cases (Some at) format builtin found is =
            let same : at ≡ place = cc is in
            let h = stands-at name script.lookups 0 place d (found ∙ ap Some same) in
            let here : place - 0 ≡ place = omega arith in
            record {
              within = omega (arith, h.within);
              text = ap (λ o. by_lookup script name o v) h.is
                  ∙ ap (λ n. text_in (get_or script.lookups n d) (cast_unsigned w32 v)) here;
            }
        cases None (Some format) builtin found is = absurd (cc is)
        cases None None (Some format) found is = absurd (cc is)
        cases None None None found is = absurd (cc is)

  -- each built-in macro can write its value
  builtin-digits : AllByRecursion (λ macro. HasDigits macro.1) builtin_macros
  builtin-digits = search (rules, arith)

  -- the format can write the value, and the macro shows it so
  pub record ShowsFormat (format : Format) : Type 0 where
    pub digits : HasDigits format
    pub text : macro_text script name v ≡ formatted format v

  pub shows-format : (format : Format) → AllByRecursion (λ entry. HasDigits entry.1) script.formats
      → shows.Format format ≡ meaning_of script.lookups script.formats name → ShowsFormat format
  shows-format format all is = cases (place_of name script.lookups 0) (entry_of name script.formats)
      (entry_of name builtin_macros) refl refl refl is where
        cases : (found : Option ℕ) (own builtin : Option Format) → place_of name script.lookups 0
            ≡ found → entry_of name script.formats ≡ own → entry_of name builtin_macros ≡ builtin
            → shows.Format format ≡ meaning_by (said_by found own) builtin → ShowsFormat format
        cases (Some at) own builtin none of_script of_all is = absurd (cc is)
        cases None (Some f) builtin none of_script of_all is =
            let same : f ≡ format = cc is in
            record {
              digits = subst HasDigits same (entry-holds HasDigits name script.formats f all of_script);
              text = by-format none ∙ ap (λ own. by_format name own (entry_of name builtin_macros) v)
                  of_script ∙ ap (λ f. formatted f v) same;
            }
        cases None None (Some f) none of_script of_all is =
            let same : f ≡ format = cc is in
            record {
              digits = subst HasDigits same (entry-holds HasDigits name builtin_macros f builtin-digits of_all);
              text = by-format none ∙ ap (λ own. by_format name own (entry_of name builtin_macros) v)
                  of_script ∙ ap (λ builtin. by_format name None builtin v) of_all
                  ∙ ap (λ f. formatted f v) same;
            }
        cases None None None none of_script of_all is = absurd (cc is)

  pub shows-unknown : shows.Unknown ≡ meaning_of script.lookups script.formats name
      → macro_text script name v ≡ codes "[Unknown macro]" ++ name
  shows-unknown is = cases (place_of name script.lookups 0) (entry_of name script.formats)
      (entry_of name builtin_macros) refl refl refl is where
        cases : (found : Option ℕ) (own builtin : Option Format) → place_of name script.lookups 0
            ≡ found → entry_of name script.formats ≡ own → entry_of name builtin_macros ≡ builtin
            → shows.Unknown ≡ meaning_by (said_by found own) builtin → macro_text script name v
            ≡ codes "[Unknown macro]" ++ name
        cases (Some at) own builtin none of_script of_all is = absurd (cc is)
        cases None (Some f) builtin none of_script of_all is = absurd (cc is)
        cases None None (Some f) none of_script of_all is = absurd (cc is)
        cases None None None none of_script of_all is =
            by-format none ∙ ap (λ own. by_format name own (entry_of name builtin_macros) v) of_script
            ∙ ap (λ builtin. by_format name None builtin v) of_all

-- ---- the meanings of pieces, one after the other

pub begins-meaning : (script : ScriptContents) (p : PieceContents) (ps : List PieceContents)
    (meanings : List Meaning) → meanings ≡ meanings_in script.lookups script.formats (p ∷ ps)
    → BeginsWithMeaning script p meanings
begins-meaning script (Bytes text) ps meanings is = tt
begins-meaning script (Shows name value) ps meanings is = ap (λ ms. slice_get ms 0) is

pub meanings-rest : (script : ScriptContents) (p : PieceContents) (ps : List PieceContents)
    (meanings after : List Meaning) → meanings ≡ meanings_in script.lookups script.formats (p ∷ ps)
    → after ≡ drop (values_of p) meanings
    → after ≡ meanings_in script.lookups script.formats ps
meanings-rest script (Bytes text) ps meanings after is behind = behind ∙ is
meanings-rest script (Shows name value) ps meanings after is behind = behind ∙ ap (drop 1) is

-- the meanings of the line of an index
pub meanings-of_line : (script : Script) (shown : ℕ) (line : Line) (meant : Vec Meaning Global)
    → shown < length script.lines.items → line ≡ get_or script.lines.items shown line → meant
    ≡ get_or script.meanings.items shown meant
    → meant.items ≡ meanings_in (script_contents script).lookups (script_contents script).formats
    (map piece_contents line.pieces.items)
meanings-of_line script shown line meant less is meant_is =
    let row : Line → List Meaning = λ line. meanings_in (script_contents script).lookups
    (script_contents script).formats (map piece_contents line.pieces.items) in
    let bytes : Vec Meaning Global → List Meaning = λ m. m.items in
    let as_many : length script.meanings.items ≡ length script.lines.items = sym (length-map
    script.meanings.items bytes) ∙ ap length script.named ∙ length-map script.lines.items row in
    let within : shown < length script.meanings.items = omega (arith, less, as_many) in
    ap bytes meant_is ∙ sym (get_or-map bytes script.meanings.items shown meant [] within)
    ∙ ap (λ rows. get_or rows shown []) script.named
    ∙ get_or-map row script.lines.items shown line [] less ∙ ap row (sym is)
