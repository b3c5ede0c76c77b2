-- A file has one answer: it is a set of certain contents, or refused for one reason.
use Rattle.std.proofs.Common.{◌≡◌, ◌∙◌, ◌⊎◌, inl, inr, ℕ, ◌+◌, ◌<◌, ◌≤◌, List, length, map, Option, Some, None}
use Rattle.std.proofs.Common.{option_map, slice_get, refl, sym, ap, subst, arith}
use Rattle.std.specs.List.{IsDistinct, sum_by}
use Rattle.std.specs.Prelude.{All}
use Rattle.std.proofs.lemmas.Bool.{cases_lt}
use Rattle.md5.specs.Md5.{md5}
use Rattle.ra_richpresence.specs.Contents.{ScriptContents, script_contents}
use Rattle.ra_richpresence.specs.Grammar.{ScriptParts, script_of}
use Rattle.ra_richpresence.specs.declared.read.ReadScript.{ReadScript}
use Rattle.ra_richpresence.specs.declared.script.Script.{Script}
use Rattle.ra_set.specs.declared.item.Item.{Item}
use Rattle.ra_set.specs.declared.read_file.ReadFile.{ReadFile}
use Rattle.ra_set.specs.declared.refused.Which.TheVariants.{Bytes, Items, Conditions, Macros, Lookup}
use Rattle.ra_set.specs.declared.refused.SetRefused.{SetRefused}
use Rattle.ra_set.specs.declared.refused.SetRefused.TheVariants.{Syntax, DuplicateId, Limit, Memory}
use Rattle.ra_set.specs.Accepted.{IsSet, named_by, repeats}
use Rattle.ra_set.specs.Contents.{ItemContents, SetContents, item_contents}
use Rattle.ra_set.specs.Grammar.{Line, FileContents, items_of}
use Rattle.ra_set.specs.Limits.{KeepsLimits, PassesLimit, item_conditions}
use Rattle.ra_set.specs.Places.{IsFileOutside}
use Rattle.ra_set.specs.Read.{IsReadFile, script_read}
use Rattle.ra_set.specs.Refusals.{FirstRepeat, HasContents, HasDistinct, Refuses, id_of}
use Rattle.ra_set.specs.ScriptLimits.{IsReadOf, read_conditions}
use Rattle.ra_set.specs.Spelled.{IsItem, IsSpelled, OptionalScript}
use Rattle.ra_set.specs.Texts.{item_texts, script_text}
use Rattle.ra_set.proofs.ContentsLemmas.{contents-count}
use Rattle.ra_set.proofs.FileLemmas.{file-once}
use Rattle.ra_set.proofs.LimitLemmas.{keeps-within, within-keeps, keeps-not_passes, passes-once, read-conditions}
use Rattle.ra_set.proofs.PlaceLemmas.{one-file_place}
use Rattle.ra_set.proofs.RepeatLemmas.{repeat-apart}
use Rattle.ra_set.proofs.SetStructure.{contents-items}

-- ---- the reasons, with what they tell

-- why a file is refused, as one of four
data Cause (file : List ℕ) (why : SetRefused) : Type 0 where
  too_long : 4194304 < length file → why ≡ Limit Bytes (length file) → Cause file why
  outside : (at : ℕ) → length file ≤ 4194304 → IsFileOutside file at → why ≡ Syntax at → Cause file why
  repeated : (id number : ℕ) (contents : FileContents) → HasContents file contents
      → FirstRepeat contents.lines id number → why ≡ DuplicateId id number → Cause file why
  limited : (contents : FileContents) → HasDistinct file contents
      → PassesLimit (items_of contents.lines) contents.script why → Cause file why

cause : (file : List ℕ) (why : SetRefused) → Refuses file why → Cause file why
cause file (Limit Bytes found) h = too_long h.0 (ap (λ n. Limit Bytes n) h.1)
cause file (Limit Items found) h = limited h.0 h.1 h.2
cause file (Limit Conditions found) h = limited h.0 h.1 h.2
cause file (Limit Macros found) h = limited h.0 h.1 h.2
cause file (Limit Lookup found) h = limited h.0 h.1 h.2
cause file (Syntax at) h = outside at h.0 h.1 refl
cause file (DuplicateId id number) h = repeated id number h.0 h.1 h.2 refl
cause file Memory h = absurd h

-- ---- what excludes what

one-contents : (file : List ℕ) (a b : FileContents) → HasContents file a → HasContents file b → a ≡ b
one-contents file a b x y = file-once file a b x.spelled y.spelled

one-repeat : (lines : List Line) (id number id' number' : ℕ) → FirstRepeat lines id number
    → FirstRepeat lines id' number' → DuplicateId id number ≡ DuplicateId id' number'
one-repeat lines id number id' number' a b =
    let same : a.place ≡ b.place = elim (cases_lt a.place b.place) [
      | inl less ↦ absurd (b.first a.place a.item less a.repeated)
      | inr ge ↦ elim (cases_lt b.place a.place) [
        | inl less ↦
            absurd (a.first b.place b.item less b.repeated)
        | inr le ↦ omega arith
      ]
    ] in
    let lines-same : ◌≡◌ {A = Option Line} (Some (Some a.item)) (Some (Some b.item)) =
    sym a.repeated.here ∙ ap (slice_get lines) same ∙ b.repeated.here in
    let line-same : ◌≡◌ {A = Line} (Some a.item) (Some b.item) = cc lines-same in
    let item-same : a.item ≡ b.item = cc line-same in
    ap (λ i. DuplicateId i number) (a.named ∙ ap id_of item-same ∙ sym b.named)
    ∙ ap (λ n. DuplicateId id' n) (a.counted ∙ ap (λ n. n + 1) same ∙ sym b.counted)

-- contents of which a line repeats an id are not distinct
repeat-no_distinct : (file : List ℕ) (a b : FileContents) (id number : ℕ) → HasContents file a
    → FirstRepeat a.lines id number → HasDistinct file b → ⊥
repeat-no_distinct file a b id number h r d =
    repeat-apart a.lines id number r
    (subst (λ c. IsDistinct repeats (items_of c.lines)) (one-contents file b a d.has h) d.ids)

same-limit : (file : List ℕ) (a b : FileContents) (why why' : SetRefused) → HasDistinct file a
    → HasDistinct file b → PassesLimit (items_of a.lines) a.script why
    → PassesLimit (items_of b.lines) b.script why' → why ≡ why'
same-limit file a b why why' x y p q = passes-once (items_of a.lines) a.script why why' p (subst
    (λ c. PassesLimit (items_of c.lines) c.script why') (one-contents file b a y.has x.has) q)

same-cause : (file : List ℕ) (a b : SetRefused) → Cause file a → Cause file b → a ≡ b
same-cause file a b (too_long l e) (too_long l' e') = e ∙ sym e'
same-cause file a b (too_long l e) (outside at le o e') = absurd (omega arith)
same-cause file a b (too_long l e) (repeated id n contents h r e') = absurd (let s = h.size in omega arith)
same-cause file a b (too_long l e) (limited contents h p) = absurd (let s = h.has.size in omega arith)
same-cause file a b (outside at le o e) (too_long l e') = absurd (omega arith)
same-cause file a b (outside at le o e) (outside at' le' o' e') =
    e ∙ ap (λ n. Syntax n) (one-file_place file at at' o o') ∙ sym e'
same-cause file a b (outside at le o e) (repeated id n contents h r e') = absurd (o.outside contents h.spelled)
same-cause file a b (outside at le o e) (limited contents h p) = absurd (o.outside contents h.has.spelled)
same-cause file a b (repeated id n contents h r e) (too_long l e') = absurd (let s = h.size in omega arith)
same-cause file a b (repeated id n contents h r e) (outside at le o e') = absurd (o.outside contents h.spelled)
same-cause file a b (repeated id n contents h r e) (repeated id' n' contents' h' r' e') =
    e ∙ one-repeat contents.lines id n id' n' r (subst (λ c. FirstRepeat c.lines id' n')
    (one-contents file contents' contents h' h) r') ∙ sym e'
same-cause file a b (repeated id n contents h r e) (limited contents' d p) =
    absurd (repeat-no_distinct file contents contents' id n h r d)
same-cause file a b (limited contents d p) (too_long l e') = absurd (let s = d.has.size in omega arith)
same-cause file a b (limited contents d p) (outside at le o e') = absurd (o.outside contents d.has.spelled)
same-cause file a b (limited contents d p) (repeated id n contents' h r e') =
    absurd (repeat-no_distinct file contents' contents id n h r d)
same-cause file a b (limited contents d p) (limited contents' d' p') = same-limit file contents contents' a b d d' p p'

-- the same file is not refused for two reasons
pub one-refusal : (file : List ℕ) (a b : SetRefused) → Refuses file a → Refuses file b → a ≡ b
one-refusal file a b x y = same-cause file a b (cause file a x) (cause file b y)

-- ---- sets

-- a set has the contents of its file
set-contents : (file : List ℕ) (set : SetContents) → (s : IsSet file set) → HasContents file s.spelled.contents
set-contents file set s = record { size = s.size; spelled = s.spelled.spelled }

-- and these keep the limits
set-keeps : (file : List ℕ) (set : SetContents) → (s : IsSet file set)
    → KeepsLimits (items_of s.spelled.contents.lines) s.spelled.contents.script
set-keeps file set s = subst (λ items. KeepsLimits items s.spelled.contents.script) s.spelled.items
    (within-keeps set s.spelled.contents.script s.spelled.script s.limits)

-- a set is not refused
pub set-not_refused : (file : List ℕ) (set : SetContents) (why : SetRefused) → IsSet file set → Refuses file why → ⊥
set-not_refused file set why s h = elim (cause file why h) [
  | too_long l e ↦ let z = s.size in omega arith
  | outside at le o e ↦ o.outside s.spelled.contents s.spelled.spelled
  | repeated id n contents c r e ↦ repeat-no_distinct file contents s.spelled.contents id n c r
      (record { has = set-contents file set s; ids = subst (IsDistinct repeats) s.spelled.items s.ids })
  | limited contents d p ↦ keeps-not_passes (items_of contents.lines) contents.script why
      (subst (λ c. KeepsLimits (items_of c.lines) c.script) (one-contents file s.spelled.contents
      contents (set-contents file set s) d.has) (set-keeps file set s)) p
]

-- a file spells one set
pub same-set : (file : List ℕ) (a b : SetContents) → IsSet file a → IsSet file b → a ≡ b
same-set file a b x y =
    let same = one-contents file x.spelled.contents y.spelled.contents (set-contents file a x)
    (set-contents file b y) in
    fields a.items b.items a.script b.script a.digest b.digest a.item_names b.item_names a.script_name b.script_name
    (x.spelled.items ∙ ap (λ c. items_of c.lines) same ∙ sym y.spelled.items)
    (x.spelled.script ∙ ap (λ c. option_map script_of c.script) same ∙ sym y.spelled.script)
    (x.digest ∙ sym y.digest) (x.item_names ∙ sym y.item_names) (x.script_name ∙ sym y.script_name) where
      fields : (i j : List ItemContents) (s t : Option ScriptContents) (d e : List ℕ) (m n : List (List ℕ))
          (p q : Option (List ℕ)) → i ≡ j → s ≡ t → d ≡ e → m ≡ n → p ≡ q
          → ◌≡◌ {A = SetContents} (record { items = i; script = s; digest = d; item_names = m; script_name = p })
          (record { items = j; script = t; digest = e; item_names = n; script_name = q })
      fields i j s t d e m n p q is ss ds ms ps =
          ap (λ x. record { items = x; script = s; digest = d; item_names = m; script_name = p }) is
          ∙ ap (λ x. record { items = j; script = x; digest = d; item_names = m; script_name = p }) ss
          ∙ ap (λ x. record { items = j; script = t; digest = x; item_names = m; script_name = p }) ds
          ∙ ap (λ x. record { items = j; script = t; digest = e; item_names = x; script_name = p }) ms
          ∙ ap (λ x. record { items = j; script = t; digest = e; item_names = n; script_name = x }) ps

-- ---- what a call answers

-- an error that is want of memory or a refusal is want of memory where the file is a set
pub error-of_set : (file : List ℕ) (e : SetRefused) → (e ≡ Memory ⊎ Refuses file e)
    → (set : SetContents) → IsSet file set → e ≡ Memory
error-of_set file e (inl memory) set s = memory
error-of_set file e (inr refuses) set s = absurd (set-not_refused file set e s refuses)

-- and it is that refusal where the file is refused
pub error-of_refused : (file : List ℕ) (e : SetRefused) → (e ≡ Memory ⊎ Refuses file e)
    → (why : SetRefused) → Refuses file why → e ≡ Memory ⊎ e ≡ why
error-of_refused file e (inl memory) why h = inl memory
error-of_refused file e (inr refuses) why h = inr (one-refusal file e why refuses h)

-- contents pass a limit
limit-refuses : (file : List ℕ) (contents : FileContents) (why : SetRefused) → HasDistinct file
    contents → PassesLimit (items_of contents.lines) contents.script why → Refuses file why
limit-refuses file contents (Limit Bytes found) h p = absurd p
limit-refuses file contents (Limit Items found) h p = (contents, h, p)
limit-refuses file contents (Limit Conditions found) h p = (contents, h, p)
limit-refuses file contents (Limit Macros found) h p = (contents, h, p)
limit-refuses file contents (Limit Lookup found) h p = (contents, h, p)
limit-refuses file contents (Syntax at) h p = absurd p
limit-refuses file contents (DuplicateId id number) h p = absurd p
limit-refuses file contents Memory h p = absurd p

-- ---- what was read of a file

-- the script that was read is that of its parts
script-made : (parts : Option ScriptParts) (read : Option ReadScript) → IsReadOf parts read
    → script_read read ≡ option_map script_of parts
script-made None None is = refl
script-made None (Some read) is = absurd is
script-made (Some parts) None is = absurd is
script-made (Some parts) (Some read) is = ap (λ s. Some s) is.made

-- the contents of a script without what was noted beside it
alone-read : (read : Option ReadScript) (alone : Option Script) → alone
    ≡ option_map (λ r. r.script) read → option_map script_contents alone ≡ script_read read
alone-read None alone is = ap (option_map script_contents) is
alone-read (Some read) alone is = ap (option_map script_contents) is

-- the digest and the names of a file
pub record HasNames (file digest : List ℕ) (item_names : List (List ℕ)) (script_name : Option (List ℕ)) : Type 0 where
  pub digest_is : digest ≡ md5 file
  pub items_are : item_names ≡ map md5 (item_texts file)
  pub script_is : script_name ≡ option_map md5 (script_text file)

-- a set that these name is that of the file
pub named-set : (file : List ℕ) (set : SetContents) (digest : List ℕ) (item_names : List (List ℕ))
    (script_name : Option (List ℕ)) → HasNames file digest item_names script_name → IsSet file (named_by file set)
    → IsSet file (record set { digest = digest; item_names = item_names; script_name = script_name })
named-set file set digest item_names script_name names is =
    subst (λ x. IsSet file (record set { digest = x; item_names = item_names; script_name = script_name }))
    (sym names.digest_is)
    (subst (λ x. IsSet file (record set { digest = md5 file; item_names = x; script_name = script_name }))
    (sym names.items_are)
    (subst (λ x. IsSet file (record (named_by file set) { script_name = x })) (sym names.script_is) is))

-- a set of what was read, with a script
abbrev pub set_of : ReadFile → (digest : List ℕ) (item_names : List (List ℕ)) (script_name : Option (List ℕ))
    → Option ScriptContents → SetContents
set_of read digest item_names script_name script =
    record {
      items = map item_contents read.items.items;
      script = script;
      digest = digest;
      item_names = item_names;
      script_name = script_name;
    }

module _ (file : List ℕ) (read : ReadFile) (h : IsReadFile file read) (digest : List ℕ) (item_names : List (List ℕ))
    (script_name : Option (List ℕ)) where
  -- what was read has the structure of a set
  pub read-spelled : OptionalScript (script_read read.script) → (alone : Option Script)
      → alone ≡ option_map (λ r. r.script) read.script
      → IsSpelled (set_of read digest item_names script_name (option_map script_contents alone))
  read-spelled spelled alone is = record {
    items = subst (All IsItem) (sym h.items) (contents-items file h.contents h.distinct.has.spelled);
    script = subst OptionalScript (sym (alone-read read.script alone is)) spelled;
  }

  -- what was read is a set
  read-set : KeepsLimits (map item_contents read.items.items) h.contents.script
      → HasNames file digest item_names script_name
      → IsSet file (set_of read digest item_names script_name (script_read read.script))
  read-set keeps names = record {
    size = h.distinct.has.size;
    spelled =
        record {
          contents = h.contents;
          spelled = h.distinct.has.spelled;
          items = h.items;
          script = script-made h.contents.script read.script h.script;
        };
    ids = subst (IsDistinct repeats) (sym h.items) h.distinct.ids;
    limits = keeps-within (set_of read digest item_names script_name (script_read read.script)) h.contents.script
        (script-made h.contents.script read.script h.script) keeps;
    digest = names.digest_is;
    item_names = names.items_are;
    script_name = names.script_is;
  }

module _ (file : List ℕ) (read : ReadFile) (h : IsReadFile file read) where
  -- what was read passes a limit
  read-refuses : (why : SetRefused) → PassesLimit (map item_contents read.items.items) h.contents.script why
      → Refuses file why
  read-refuses why p = limit-refuses file h.contents why h.distinct
      (subst (λ items. PassesLimit items h.contents.script why) h.items p)

  -- the items and the script as they are looked at
  module _ (seen : List Item) (items : seen ≡ read.items.items) (found : Option ReadScript)
      (script : found ≡ read.script) where
    -- they have few conditions
    pub few-conditions : sum_by item_conditions (map item_contents seen) + read_conditions found ≤ 4194304
    few-conditions =
        let few = contents-count file h.contents h.distinct.has.spelled in
        let all : sum_by item_conditions (map item_contents seen)
        ≡ sum_by item_conditions (items_of h.contents.lines) = ap (λ xs. sum_by item_conditions
        (map item_contents xs)) items ∙ ap (sum_by item_conditions) h.items in
        omega (
          arith,
          few,
          h.distinct.has.size,
          all,
          ap read_conditions script,
          read-conditions h.contents.script read.script h.script,
        )

    -- and are those of the file
    seen-read : IsReadOf h.contents.script found
    seen-read = subst (IsReadOf h.contents.script) (sym script) h.script

    pub seen-refuses : (why : SetRefused) → ((parts : Option ScriptParts) → IsReadOf parts found
        → PassesLimit (map item_contents seen) parts why) → Refuses file why
    seen-refuses why p = read-refuses why (subst (λ xs. PassesLimit
        (map item_contents xs) h.contents.script why) items (p h.contents.script seen-read))

    pub seen-set : ((parts : Option ScriptParts) → IsReadOf parts found → KeepsLimits (map item_contents seen) parts)
        → (alone : Option Script) → alone ≡ option_map (λ r. r.script) read.script
        → (digest : List ℕ) (item_names : List (List ℕ)) (script_name : Option (List ℕ))
        → HasNames file digest item_names script_name
        → IsSet file (set_of read digest item_names script_name (option_map script_contents alone))
    seen-set keeps alone is digest item_names script_name names =
        subst (λ s. IsSet file (set_of read digest item_names script_name s)) (sym (alone-read read.script alone is))
        (read-set file read h digest item_names script_name
        (subst (λ xs. KeepsLimits (map item_contents xs) h.contents.script) items
        (keeps h.contents.script seen-read)) names)
