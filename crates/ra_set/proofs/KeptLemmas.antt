-- One line more is kept.
use Rattle.std.proofs.Common.{◌≡◌, ◌∙◌, ℕ, ◌+◌, Bool, true, false, ◌||◌, if◌then◌else◌, List, [], ◌∷◌, ◌++◌, length}
use Rattle.std.proofs.Common.{map, Option, Some, None, option_map, refl, sym, ap, subst, arith, length-append}
use Rattle.std.proofs.Common.{append-nil}
use Rattle.std.specs.List.{IsDistinct, list_any}
use Rattle.std.proofs.lemmas.List.{map-append}
use Rattle.std.proofs.lemmas.List.Folds.{list_any-append}
use Rattle.ra_set.specs.declared.item.Item.{Item}
use Rattle.ra_set.specs.declared.kept_lines.KeptLines.{KeptLines}
use Rattle.ra_set.specs.declared.kept_lines.Repeat.{Repeat}
use Rattle.ra_set.specs.Accepted.{repeats}
use Rattle.ra_set.specs.Contents.{ItemContents, item_contents}
use Rattle.ra_set.specs.Grammar.{Line, items_of}
use Rattle.ra_set.specs.Kept.{Keeps, KeepsBefore, TellsRepeat, NotesId, has_id, earlier_repeat}
use Rattle.ra_set.specs.Refusals.{FirstRepeat, id_of}
use Rattle.ra_set.proofs.RepeatLemmas.{first-more, first-last, distinct-last, items-more, repeats-symm}

one-more : (lines : List Line) (l : Line) → length (lines ++ l ∷ []) ≡ length lines + 1
one-more lines l = omega (arith, length-append lines (l ∷ []))

pub items-none : (lines : List Line) → items_of (lines ++ None ∷ []) ≡ items_of lines
items-none lines = items-more lines None ∙ append-nil (items_of lines)

tells-none : (repeat : Option Repeat) (lines : List Line) → TellsRepeat repeat lines
    → TellsRepeat repeat (lines ++ None ∷ [])
tells-none (Some repeat) lines told = first-more lines (None ∷ []) repeat.id repeat.line told
tells-none None lines told = subst (IsDistinct repeats) (sym (items-none lines)) told

-- a line without an item
pub keeps-none : (kept : KeptLines) (lines : List Line) (l : Option Item) → l ≡ None → Keeps kept
    lines → Keeps (record kept { count = kept.count + 1 })
    (lines ++ option_map item_contents l ∷ [])
keeps-none kept lines l none k = subst (λ x. Keeps (record kept { count = kept.count + 1 })
    (lines ++ option_map item_contents x ∷ [])) (sym none) (record {
      items = k.items ∙ sym (items-none lines);
      ids = λ x. k.ids x ∙ ap (list_any (repeats x)) (sym (items-none lines));
      count = ap (λ n. n + 1) k.count ∙ sym (one-more lines None);
      repeat = tells-none kept.repeat lines k.repeat;
    })

tells-item : (repeat : Option Repeat) (lines : List Line) (x : ItemContents) (number : ℕ)
    (old : Bool) → old ≡ list_any (repeats x) (items_of lines) → number ≡ length lines + 1
    → TellsRepeat repeat lines
    → TellsRepeat (earlier_repeat repeat (if old then Some (record { id = id_of x; line = number })
    else None)) (lines ++ Some x ∷ [])
tells-item (Some repeat) lines x number old known counted told =
    first-more lines (Some x ∷ []) repeat.id repeat.line told
tells-item None lines x number true known counted told = subst (λ n. FirstRepeat
    (lines ++ Some x ∷ []) (id_of x) n) (sym counted) (first-last lines x told (sym known))
tells-item None lines x number false known counted told = distinct-last lines x told (sym known)

-- a line with an item
pub keeps-item : (old noted kept : KeptLines) (lines : List Line) (item : Item) → NotesId old (item_contents item) noted
    → kept.items.items ≡ noted.items.items ++ item ∷ [] → kept.ids ≡ noted.ids → kept.count
    ≡ noted.count → kept.repeat ≡ noted.repeat
    → KeepsBefore old lines → Keeps kept (lines ++ Some (item_contents item) ∷ [])
keeps-item old noted kept lines item n items ids count repeat k = let x = item_contents item in record {
  items = ap (map item_contents) (items ∙ ap (λ v. v.items ++ item ∷ []) n.items)
      ∙ map-append item_contents old.items.items (item ∷ []) ∙ ap (λ t. t ++ x ∷ []) k.items
      ∙ sym (items-more lines (Some x));
  ids = λ y. ap (λ i. has_id i y) ids ∙ n.ids y ∙ ap (λ b. repeats x y || b) (k.ids y)
      ∙ among y x (list_any (repeats y) (items_of lines))
      ∙ sym (list_any-append (repeats y) (items_of lines) (x ∷ []))
      ∙ ap (list_any (repeats y)) (sym (items-more lines (Some x)));
  count = count ∙ n.count ∙ k.count ∙ sym (one-more lines (Some x));
  repeat = subst (λ r. TellsRepeat r (lines ++ Some x ∷ [])) (sym (repeat ∙ n.repeat))
      (tells-item old.repeat lines x old.count (has_id old.ids x) (k.ids x) k.count k.repeat);
} where
  either : (a b : Bool) → (a || b) ≡ (b || (a || false))
  either true true = refl
  either true false = refl
  either false true = refl
  either false false = refl

  among : (y x : ItemContents) (b : Bool) → (repeats x y || b) ≡ (b || (repeats y x || false))
  among y x b = ap (λ a. a || b) (repeats-symm x y) ∙ either (repeats y x) b
