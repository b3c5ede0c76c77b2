-- A normal text is a set file, and its own normal text.
use Rattle.std.proofs.Common.{◌≡◌, ◌∙◌, ℕ, ◌+◌, true, false, List, [], ◌∷◌, ◌++◌, map, Option, None, Some, option_map}
use Rattle.std.proofs.Common.{option_to_list, refl, sym, ap, ap₂, subst, arith, append-nil}
use Rattle.std.specs.Prelude.{All}
use Rattle.std.specs.List.{AllByRecursion, IsDistinct, flat_map, sum_by}
use Rattle.std.proofs.lemmas.List.{length-map}
use Rattle.std.proofs.lemmas.List.Elements.{recursion_from_All}
use Rattle.md5.specs.Md5.{md5}
use Rattle.ra_richpresence.specs.Grammar.{ScriptParts, script_of}
use Rattle.ra_set.specs.Accepted.{repeats, IsSet}
use Rattle.ra_set.specs.Contents.{ItemContents, Unlocks, Ranks, SetContents}
use Rattle.ra_set.specs.Grammar.{Line, FileContents, SetFile, items_of, set_file}
use Rattle.ra_set.specs.Limits.{item_conditions, script_conditions}
use Rattle.ra_set.specs.Reading.{Tail, Ends, Letter, Opens}
use Rattle.ra_set.specs.Spelled.{IsItem, HasSmallId}
use Rattle.ra_set.specs.Texts.{item_texts, script_text}
use Rattle.ra_set.proofs.ContentsLemmas.{lines-of_file}
use Rattle.ra_set.proofs.CountLemmas.{sum-map}
use Rattle.ra_set.proofs.FileReaders.{Front, TailOf, empty-line}
use Rattle.ra_set.proofs.FrontLemmas.{TailIn, ended-front, front-ended, front-head, front-lines, front-of_file}
use Rattle.ra_set.proofs.FrontLemmas.{file-of_lines, file-of_script}
use Rattle.ra_set.proofs.SetSpelling.{spelled-set}
use Rattle.ra_set.proofs.SetStructure.{contents-items}
use Rattle.ra_normal.specs.Contents.{normal_item}
use Rattle.ra_normal.specs.Text.{item_text, script_from, normal_text, normal_conditions, IsNormal}
use Rattle.ra_normal.proofs.NormalLines.{items_spelled, texts_again}
use Rattle.ra_normal.proofs.NormalStructure.{items_again}
use Rattle.ra_normal.proofs.ScriptLemmas.{lines_skipped, last_unscripted, script_stays}
use Rattle.ra_text.proofs.Spelled.{then-spelled, none-spelled}

-- ---- the items of a set

-- each item of a file is one that some line spells
pub items_are : (file : List ℕ) (set : SetContents) → SetFile file set → All IsItem set.items
items_are file set h = subst (All IsItem) (sym h.items) (contents-items file h.contents h.spelled)

-- each id of a file is of 32 bits
ids_are : (file : List ℕ) (set : SetContents) → SetFile file set → All HasSmallId set.items
ids_are file set h =
    let l = lines-of_file file h.contents h.spelled in
    let lines = l.ended ++ l.last ∷ [] in
    let bare : SetContents = record set { script = None } in
    let spelled = file-of_lines (l.front ++ l.behind) lines
    (then-spelled l.front l.behind l.ended refl l.of_ended
    (then-spelled l.behind [] l.last (sym (append-nil l.behind)) l.of_last none-spelled)) in
    (spelled-set bare refl (
      l.front ++ l.behind,
      record {
        contents = record { lines = lines; script = None };
        spelled = spelled;
        items = h.items ∙ l.items;
        script = refl;
      },
    )).1

-- ---- what the file has from its line "P" on

-- how a file goes on behind lines of items: with its script, or with nothing
pub record GoesOn (file : List ℕ) (script : Option ScriptParts) : Type 0 where
  pub tail : Tail
  pub of_tail : TailOf tail (script_from true file)
  pub stays : script_from true (script_from true file) ≡ script_from true file
  pub tells : (lines : List Line) → (contents : FileContents) × TailIn contents tail lines
      × (items_of contents.lines ≡ items_of lines) × (contents.script ≡ script)

with_none : (lines : List Line) → items_of (lines ++ None ∷ []) ≡ items_of lines
with_none [] = refl
with_none (l ∷ lines) = ap (λ xs. option_to_list l ++ xs) (with_none lines)

pub goes_on : (file : List ℕ) (contents : FileContents) → set_file file contents → GoesOn file contents.script
goes_on file contents h = let f = front-of_file file contents h in cases f.ended f.tail f.spelled f.tells where
  cases : (ended : List Line) (tail : Tail) → Front ended tail file → TailIn contents tail ended
      → GoesOn file contents.script
  cases ended (Ends last) front tells =
      let p = front-ended (Ends last) ended file front in
      let none : script_from true file ≡ [] = ap (script_from true) p.parts ∙ lines_skipped ended
      p.front p.of_ended p.behind ∙ last_unscripted p.behind last p.of_tail in record {
        tail = Ends None;
        of_tail = subst (TailOf (Ends None)) (sym none) empty-line;
        stays = ap (script_from true) none ∙ sym none;
        tells = λ lines.
            (record { lines = lines ++ None ∷ []; script = None }, (refl, refl), with_none lines, sym tells.1);
      }
  cases ended Letter front tells = absurd tells
  cases ended (Opens text) front tells =
      let p = front-ended (Opens text) ended file front in
      let is : script_from true file ≡ p.behind = ap (script_from true) p.parts ∙ lines_skipped
      ended p.front p.of_ended p.behind ∙ script_stays p.behind text p.of_tail in record {
        tail = Opens text;
        of_tail = subst (TailOf (Opens text)) (sym is) p.of_tail;
        stays = ap (script_from true) is ∙ script_stays p.behind text p.of_tail ∙ sym is;
        tells = λ lines.
            (record { lines = lines; script = Some tells.1 }, (refl, tells.1, tells.2, refl), refl, sym tells.3);
      }

-- a file of a front
file_of : (text : List ℕ) (contents : FileContents) (tail : Tail) (lines : List Line)
    → Front lines tail text → TailIn contents tail lines → set_file text contents
file_of text contents (Ends last) lines front tells =
    subst (set_file text) (λ i. record { lines = sym tells.0 i; script = sym tells.1 i })
    (file-of_lines text (lines ++ last ∷ []) (front-lines text lines last front))
file_of text contents Letter lines front tells = absurd tells
file_of text contents (Opens behind) lines front tells =
    subst (set_file text) (λ i. record { lines = sym tells.0 i; script = sym tells.3 i })
    (file-of_script text behind lines tells.1 (front-head text behind lines front) tells.2)

-- ---- the set of a normal text

-- what the normal text contains as a set file
abbrev pub normal_set : SetContents → (text : List ℕ) → SetContents
normal_set set text = record {
  items = map normal_item set.items;
  script = set.script;
  digest = md5 text;
  item_names = map md5 (item_texts text);
  script_name = option_map md5 (script_text text);
}

all_items : (items : List ItemContents) → items_of (map Some items) ≡ items
all_items [] = refl
all_items (x ∷ items) = ap (λ xs. x ∷ xs) (all_items items)

text_spelled : (file : List ℕ) (set : SetContents) → SetFile file set
    → SetFile (normal_text file set) (normal_set set (normal_text file set))
text_spelled file set h =
    let goes = goes_on file h.contents h.spelled in
    let lines : List Line = map Some (map normal_item set.items) in
    let told = goes.tells lines in
    let each = recursion_from_All IsItem set.items (items_are file set h) in
    let small = recursion_from_All HasSmallId set.items (ids_are file set h) in
    let front = ended-front goes.tail lines (flat_map item_text set.items)
    (items_spelled set.items each small) (script_from true file) goes.of_tail in record {
      contents = told.0;
      spelled = file_of (normal_text file set) told.0 goes.tail lines front told.1;
      items = sym (told.2 ∙ all_items (map normal_item set.items));
      script = h.script ∙ ap (option_map script_of) (sym told.3);
    }

-- no id of one letter stands twice
same_repeats : (x y : ItemContents) → repeats (normal_item x) (normal_item y) ≡ repeats x y
same_repeats (Unlocks id t) (Unlocks id' t') = refl
same_repeats (Unlocks id t) (Ranks id' format b) = refl
same_repeats (Ranks id format b) (Unlocks id' t) = refl
same_repeats (Ranks id format b) (Ranks id' format' b') = refl

apart : (x : ItemContents) (items : List ItemContents) → AllByRecursion (λ y. repeats x y
    ≡ false) items → AllByRecursion (λ y. repeats (normal_item x) y ≡ false) (map normal_item items)
apart x [] each = tt
apart x (y ∷ items) each = (same_repeats x y ∙ each.0, apart x items each.1)

distinct : (items : List ItemContents) → IsDistinct repeats items → IsDistinct repeats (map normal_item items)
unfolding IsDistinct
distinct [] h = tt
distinct (x ∷ items) h = (apart x items h.0, distinct items h.1)

-- the normal text of a set, where it keeps the limits, is accepted
pub text_accepted : (file : List ℕ) (set : SetContents) → IsSet file set → (text : List ℕ)
    → IsNormal file set text → IsSet text (normal_set set text)
text_accepted file set s text h = record {
  size = h.bytes;
  spelled = subst (λ t. SetFile t (normal_set set t)) (sym h.is) (text_spelled file set s.spelled);
  ids = distinct set.items s.ids;
  limits = record {
    items = omega (arith, length-map set.items normal_item, s.limits.items);
    conditions = omega (arith, sum-map item_conditions normal_item set.items, h.conditions);
    script = s.limits.script;
  };
  digest = refl;
  item_names = refl;
  script_name = refl;
}

-- ---- again

-- the normal text of a normal text is itself
pub normal_again : (file : List ℕ) (set : SetContents) → IsSet file set → (text : List ℕ)
    → IsNormal file set text → IsNormal text (normal_set set text) text
normal_again file set s text h =
    let goes = goes_on file s.spelled.contents s.spelled.spelled in
    let each = recursion_from_All IsItem set.items (items_are file set s.spelled) in
    let small = recursion_from_All HasSmallId set.items (ids_are file set s.spelled) in
    let script : script_from true text ≡ script_from true file =
    ap (script_from true) h.is
    ∙ lines_skipped (map Some (map normal_item set.items)) (flat_map item_text set.items)
    (items_spelled set.items each small) (script_from true file)
    ∙ goes.stays in
    let conditions : normal_conditions (normal_set set text) ≡ normal_conditions set =
    ap (λ n. n + script_conditions set.script) (sym
    (sum-map item_conditions normal_item (map normal_item set.items)) ∙ ap (sum_by item_conditions)
    (items_again set.items) ∙ sum-map item_conditions normal_item set.items) in record {
      is = h.is ∙ ap₂ (λ s t. s ++ t) (sym (texts_again set.items)) (sym script);
      bytes = h.bytes;
      conditions = omega (arith, conditions, h.conditions);
    }
