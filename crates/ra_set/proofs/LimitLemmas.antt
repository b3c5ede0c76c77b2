-- The limits of a script by its parts, and by its lookups.
use Rattle.std.proofs.Common.{◌≡◌, ◌∙◌, ◌≤◌, ◌+◌, nat_le, if◌then◌else◌, ℕ, Bool, true, false, List, [], ◌∷◌, ◌++◌}
use Rattle.std.proofs.Common.{length, map, Option, Some, None, option_map, refl, sym, ap, subst, arith}
use Rattle.std.specs.List.{AllByRecursion, filter_map, flat_map, sum_by}
use Rattle.std.proofs.lemmas.Bool.{leb-true, le-leb, lt-leb}
use Rattle.std.proofs.lemmas.List.{map-append}
use Rattle.ra_richpresence.specs.Contents.{LineContents, values_in_line}
use Rattle.ra_richpresence.specs.Grammar.{EntryContents, Keyed, Other, SectionContents, Looks, Formats, keys_in}
use Rattle.ra_richpresence.specs.Grammar.{first_other, lookup_with, lookup_in, first_named, ScriptParts, script_of}
use Rattle.ra_richpresence.specs.Texts.{keyed_texts, entry_texts, texts_of, first_over}
use Rattle.ra_richpresence.specs.declared.read.ReadScript.{ReadScript}
use Rattle.ra_set.specs.Contents.{ItemContents, SetContents}
use Rattle.ra_set.specs.Limits.{text_lengths, OptionalScriptFits, IsWithinLimits, script_conditions, all_conditions}
use Rattle.ra_set.specs.Limits.{item_conditions, macro_counts, kept_lengths, KeepsLimits, PassesLimit}
use Rattle.ra_set.specs.ScriptLimits.{IsReadOf, read_conditions}
use Rattle.ra_set.specs.declared.refused.Which.TheVariants.{Bytes, Items, Conditions, Macros, Lookup}
use Rattle.ra_set.specs.declared.refused.SetRefused.{SetRefused}
use Rattle.ra_set.specs.declared.refused.SetRefused.TheVariants.{Syntax, DuplicateId, Limit, Memory}

-- ---- numbers over a limit

-- each number is within the limit
abbrev pub AllWithin : ℕ → List ℕ → Type 0
AllWithin most = AllByRecursion (λ n. n ≤ most)

pub none-over : (most : ℕ) (ns : List ℕ) → first_over most ns ≡ None → AllWithin most ns
none-over most [] e = tt
none-over most (n ∷ ns) e = cases (nat_le n most) refl e (none-over most ns) where
  cases : (within : Bool) → nat_le n most ≡ within → (if within then first_over most ns else Some n)
      ≡ None → (first_over most ns ≡ None → AllWithin most ns) → (n ≤ most) × AllWithin most ns
  cases true is e next = (leb-true n most is, next e)
  cases false is e next = absurd (cc e)

pub within-none : (most : ℕ) (ns : List ℕ) → AllWithin most ns → first_over most ns ≡ None
within-none most [] all = refl
within-none most (n ∷ ns) all = rw (le-leb n most all.0) (within-none most ns all.1)

all-append : (most : ℕ) (xs ys : List ℕ) → AllWithin most xs → AllWithin most ys → AllWithin most (xs ++ ys)
all-append most [] ys a b = b
all-append most (x ∷ xs) ys a b = (a.0, all-append most xs ys a.1 b)

all-parts : (most : ℕ) (xs ys : List ℕ) → AllWithin most (xs ++ ys) → AllWithin most xs × AllWithin most ys
all-parts most [] ys all = (tt, all)
all-parts most (x ∷ xs) ys all = let others = all-parts most xs ys all.1 in ((all.0, others.0), others.1)

-- ---- the texts of a lookup

keyed-lengths : (entries : List EntryContents) → map length (keyed_texts entries)
    ≡ map (λ k. length k.text) (filter_map keys_in entries)
keyed-lengths [] = refl
keyed-lengths (Keyed found ∷ entries) = ap (λ ns. length found.text ∷ ns) (keyed-lengths entries)
keyed-lengths (Other text ∷ entries) = keyed-lengths entries

-- how long the texts of lines are, those of all other numbers first
abbrev lengths_in : List ℕ → List EntryContents → List ℕ
lengths_in name entries = text_lengths (lookup_with name entries)

module _ (most : ℕ) (name : List ℕ) where
  lookup-within : (entries : List EntryContents) → AllWithin most (map length (entry_texts entries))
      → AllWithin most (lengths_in name entries)
  lookup-within [] all = tt
  lookup-within (Keyed found ∷ entries) all = cases (first_other entries) (lookup-within entries all.1) where
    cases : (rest : Option (List ℕ)) → AllWithin most
        (text_lengths (record { name = name; keys = filter_map keys_in entries; rest = rest }))
        → AllWithin most (text_lengths
        (record { name = name; keys = found ∷ filter_map keys_in entries; rest = rest }))
    cases None others = (all.0, others)
    cases (Some text) others = (others.0, (all.0, others.1))
  lookup-within (Other text ∷ entries) all = (all.0, subst (AllWithin most) (keyed-lengths entries) all.1)

  within-lookup : (entries : List EntryContents) → AllWithin most (lengths_in name entries)
      → AllWithin most (map length (entry_texts entries))
  within-lookup [] all = tt
  within-lookup (Keyed found ∷ entries) all = cases (first_other entries) all (within-lookup entries) where
    cases : (rest : Option (List ℕ)) → AllWithin most (text_lengths
        (record { name = name; keys = found ∷ filter_map keys_in entries; rest = rest }))
        → (AllWithin most
        (text_lengths (record { name = name; keys = filter_map keys_in entries; rest = rest }))
        → AllWithin most (map length (entry_texts entries))) → (length found.text ≤ most)
        × AllWithin most (map length (entry_texts entries))
    cases None all next = (all.0, next all.1)
    cases (Some text) all next = (all.1.0, next (all.0, all.1.1))
  within-lookup (Other text ∷ entries) all = (all.0, subst (AllWithin most) (sym (keyed-lengths entries)) all.1)

-- ---- the texts of a script

module _ (most : ℕ) where
  lookups-within : (sections : List SectionContents) → AllWithin most (map length (flat_map texts_of
      sections)) → AllWithin most (flat_map text_lengths (filter_map lookup_in sections))
  lookups-within [] all = tt
  lookups-within (Looks name entries ∷ sections) all =
      let parts = all-parts most (map length (entry_texts entries))
      (map length (flat_map texts_of sections)) (subst (AllWithin most)
      (map-append length (entry_texts entries) (flat_map texts_of sections)) all) in
      all-append most (lengths_in name entries) (flat_map text_lengths (filter_map lookup_in
      sections)) (lookup-within most name entries parts.0) (lookups-within sections parts.1)
  lookups-within (Formats name format ∷ sections) all = lookups-within sections all

  within-lookups : (sections : List SectionContents) → AllWithin most (flat_map text_lengths
      (filter_map lookup_in sections)) → AllWithin most (map length (flat_map texts_of sections))
  within-lookups [] all = tt
  within-lookups (Looks name entries ∷ sections) all =
      let parts = all-parts most (lengths_in name entries)
      (flat_map text_lengths (filter_map lookup_in sections)) all in
      subst (AllWithin most) (sym (map-append length (entry_texts entries) (flat_map texts_of sections)))
      (all-append most (map length (entry_texts entries)) (map length (flat_map texts_of sections))
      (within-lookup most name entries parts.0) (within-lookups sections parts.1))
  within-lookups (Formats name format ∷ sections) all = within-lookups sections all

-- ---- the macros of lines

lines-within : (lines : List LineContents) → AllWithin 256 (map (λ line. length (values_in_line
    line)) lines) → AllByRecursion (λ line. length (values_in_line line) ≤ 256) lines
lines-within [] all = tt
lines-within (line ∷ lines) all = (all.0, lines-within lines all.1)

within-lines : (lines : List LineContents) → AllByRecursion (λ line. length (values_in_line line)
    ≤ 256) lines → AllWithin 256 (map (λ line. length (values_in_line line)) lines)
within-lines [] all = tt
within-lines (line ∷ lines) all = (all.0, within-lines lines all.1)

-- ---- the limits of a set

fits-parts : (script : Option ScriptParts) → first_over 256 (macro_counts script) ≡ None →
    first_over 1024 (kept_lengths script) ≡ None → OptionalScriptFits (option_map script_of script)
fits-parts None macros texts = tt
fits-parts (Some parts) macros texts = record {
  macros = lines-within parts.lines (none-over 256 (macro_counts (Some parts)) macros);
  texts = lookups-within 1024 (first_named [] parts.sections) (none-over 1024 (kept_lengths (Some parts)) texts);
}

parts-macros : (script : Option ScriptParts) → OptionalScriptFits (option_map script_of script)
    → first_over 256 (macro_counts script) ≡ None
parts-macros None fits = refl
parts-macros (Some parts) fits = within-none 256 (macro_counts (Some parts)) (within-lines parts.lines fits.macros)

parts-texts : (script : Option ScriptParts) → OptionalScriptFits (option_map script_of script)
    → first_over 1024 (kept_lengths script) ≡ None
parts-texts None fits = refl
parts-texts (Some parts) fits = within-none 1024 (kept_lengths (Some parts))
    (within-lookups 1024 (first_named [] parts.sections) fits.texts)

module _ (set : SetContents) (script : Option ScriptParts) (is : set.script ≡ option_map script_of script) where
  -- where items and parts keep their limits the set is within them
  pub keeps-within : KeepsLimits set.items script → IsWithinLimits set
  keeps-within keeps = record {
    items = keeps.items;
    conditions = subst (λ s. sum_by item_conditions set.items + script_conditions s ≤ 65536) (sym is) keeps.conditions;
    script = subst OptionalScriptFits (sym is) (fits-parts script keeps.macros keeps.texts);
  }

  -- and the other way
  pub within-keeps : IsWithinLimits set → KeepsLimits set.items script
  within-keeps limits =
      let fits : OptionalScriptFits (option_map script_of script) = subst OptionalScriptFits is limits.script in
      record {
        items = limits.items;
        conditions = subst (λ s. sum_by item_conditions set.items + script_conditions s ≤ 65536) is limits.conditions;
        macros = parts-macros script fits;
        texts = parts-texts script fits;
      }

-- ---- one limit is told

-- where a limit is passed not all are kept
pub keeps-not_passes : (items : List ItemContents) (script : Option ScriptParts) (why : SetRefused)
    → KeepsLimits items script → PassesLimit items script why → ⊥
keeps-not_passes items script (Limit Items found) keeps passes =
    absurd (let le = keeps.items in let lt = passes.0 in omega (arith, le, lt))
keeps-not_passes items script (Limit Conditions found) keeps passes =
    absurd (let le = keeps.conditions in let lt = passes.1 in omega (arith, le, lt))
keeps-not_passes items script (Limit Macros found) keeps passes = absurd
    (let none : first_over 256 (macro_counts script) ≡ None = keeps.macros in cc (none, passes.2))
keeps-not_passes items script (Limit Lookup found) keeps passes = absurd
    (let none : first_over 1024 (kept_lengths script) ≡ None = keeps.texts in cc (none, passes.3))
keeps-not_passes items script (Limit Bytes found) keeps passes = passes
keeps-not_passes items script (Syntax at) keeps passes = passes
keeps-not_passes items script (DuplicateId id line) keeps passes = passes
keeps-not_passes items script Memory keeps passes = passes

-- the limit that is told
limit_told : List ItemContents → Option ScriptParts → Option SetRefused
limit_told items script =
    if nat_le (length items) 16384 then (if nat_le (all_conditions items script) 65536
    then elim (first_over 256 (macro_counts script)) [
      | Some n ↦ Some (Limit Macros n)
      | None ↦ option_map (λ n. Limit Lookup n) (first_over 1024 (kept_lengths script))
    ] else Some (Limit Conditions (all_conditions items script))) else Some (Limit Items (length items))

passes-told : (items : List ItemContents) (script : Option ScriptParts) (why : SetRefused)
    → PassesLimit items script why → limit_told items script ≡ Some why
unfolding limit_told
passes-told items script (Limit Items found) passes =
    rw (lt-leb (length items) 16384 passes.0) (ap (λ n. Some (Limit Items n)) (sym passes.1))
passes-told items script (Limit Conditions found) passes =
    rw (le-leb (length items) 16384 passes.0, lt-leb (all_conditions items script) 65536 passes.1)
    (ap (λ n. Some (Limit Conditions n)) (sym passes.2))
passes-told items script (Limit Macros found) passes =
    rw (le-leb (length items) 16384 passes.0, le-leb (all_conditions items script) 65536 passes.1, passes.2) refl
passes-told items script (Limit Lookup found) passes =
    rw (
      le-leb (length items) 16384 passes.0,
      le-leb (all_conditions items script) 65536 passes.1,
      passes.2,
      passes.3,
    ) refl
passes-told items script (Limit Bytes found) passes = absurd passes
passes-told items script (Syntax at) passes = absurd passes
passes-told items script (DuplicateId id line) passes = absurd passes
passes-told items script Memory passes = absurd passes

-- one limit is told at most
pub passes-once : (items : List ItemContents) (script : Option ScriptParts) (a b : SetRefused)
    → PassesLimit items script a → PassesLimit items script b → a ≡ b
passes-once items script a b x y = let same : Some a ≡ Some b =
    sym (passes-told items script a x) ∙ passes-told items script b y in cc same

-- ---- what was read

-- the conditions of what was read are those of its parts
pub read-conditions : (parts : Option ScriptParts) (read : Option ReadScript) → IsReadOf parts read
    → read_conditions read ≡ script_conditions (option_map script_of parts)
read-conditions None None is = refl
read-conditions (Some parts) (Some read) is = ap (λ s. script_conditions (Some s)) is.made
read-conditions None (Some read) is = absurd is
read-conditions (Some parts) None is = absurd is
