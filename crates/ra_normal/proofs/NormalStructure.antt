-- Normal items are such as some line spells, and are their own normal items.
use Rattle.std.proofs.Common.{◌≡◌, ◌∙◌, true, ◌||◌, List, [], ◌∷◌, map, get_or, Option, None, Some, IfSome, option_map}
use Rattle.std.proofs.Common.{refl, sym, ap, ap₂, arith, lit<}
use Rattle.std.specs.List.{AllByRecursion}
use Rattle.std.proofs.lemmas.List.{length-map}
use Rattle.std.proofs.lemmas.List.Elements.{All-map, All-from_recursion, recursion_from_All}
use Rattle.ra_operand.specs.declared.operand.Operand.{Operand}
use Rattle.ra_condition.specs.declared.flag.Flag.TheVariants.{AddSource, Plain}
use Rattle.ra_condition.specs.declared.part.Term.{Term}
use Rattle.ra_condition.specs.declared.setting.Setting.TheVariants.{InValue}
use Rattle.ra_condition.specs.Contents.{PartContents, Legacy, Grouped}
use Rattle.ra_condition.specs.Flags.{is_measured}
use Rattle.ra_condition.specs.Spelled.{IsCondition, IsPart, IsTerm, IsValue, first_flagged, some_measured}
use Rattle.ra_leaderboard.specs.Contents.{BoardContents}
use Rattle.ra_leaderboard.specs.Spelled.{IsBoard}
use Rattle.ra_set.specs.Contents.{ItemContents, Unlocks, Ranks}
use Rattle.ra_set.specs.Spelled.{IsItem}
use Rattle.ra_normal.specs.Contents.{adding, measured_zero, legacy_conditions, normal_part, normal_value, normal_board}
use Rattle.ra_normal.specs.Contents.{normal_item}
use Rattle.ra_normal.proofs.LegacyLemmas.{adding_flag}

-- ---- a legacy part becomes a group of a value

adding_is : (operand : Operand) (factor : Option Operand) → IsTerm
    (record { operand = operand; factor = factor }) → IsCondition InValue (adding operand factor)
adding_is operand None is =
    record {
      op = refl;
      left = is.operand;
      right = lit< tt;
      target = lit< tt;
      bare_right = λ bare. refl;
      bare_target = λ bare. refl;
      handed_target = λ handed. refl;
    }
adding_is operand (Some factor) is =
    record {
      op = refl;
      left = is.operand;
      right = is.factor;
      target = lit< tt;
      bare_right = λ bare. absurd (cc bare);
      bare_target = λ bare. refl;
      handed_target = λ handed. refl;
    }

zero_is : IsCondition InValue measured_zero
zero_is =
    record {
      op = refl;
      left = lit< tt;
      right = lit< tt;
      target = lit< tt;
      bare_right = λ bare. refl;
      bare_target = λ bare. refl;
      handed_target = λ handed. refl;
    }

conditions_are : (terms : List Term) → AllByRecursion IsTerm terms
    → AllByRecursion (IsCondition InValue) (legacy_conditions terms)
conditions_are [] each = (zero_is, tt)
conditions_are (t ∷ ts) each = (adding_is t.operand t.factor each.0, conditions_are ts each.1)

first_is_flagged : (terms : List Term) → first_flagged (legacy_conditions terms)
first_is_flagged [] = λ plain. cc plain
first_is_flagged (t ∷ ts) = λ plain. let e : AddSource ≡ Plain = sym (adding_flag t.operand t.factor) ∙ plain in cc e

last_measures : (terms : List Term) → some_measured (legacy_conditions terms) ≡ true
last_measures [] = refl
last_measures (t ∷ ts) = ap (λ flag. is_measured flag || some_measured (legacy_conditions ts))
    (adding_flag t.operand t.factor) ∙ last_measures ts

part_is : (part : PartContents) → IsPart part → IsPart (normal_part part)
part_is (Legacy terms) is = record {
  conditions = All-from_recursion (IsCondition InValue) (legacy_conditions terms)
      (conditions_are terms (recursion_from_All IsTerm terms is.1));
  flagged = first_is_flagged terms;
  measured = last_measures terms;
}
part_is (Grouped cs) is = is

-- ---- values, boards and items

-- the normal value of a value that some text spells is one
pub value_is : (parts : List PartContents) → IsValue parts → IsValue (normal_value parts)
value_is parts is = record {
  some = omega (arith, is.some, length-map parts normal_part);
  each = All-map IsPart normal_part parts (λ i d within. part_is (get_or parts i d) (is.each i d within));
}

progress_is : (progress : Option (List PartContents)) → IfSome progress IsValue
    → IfSome (option_map normal_value progress) IsValue
progress_is None is = tt
progress_is (Some parts) is = value_is parts is

pub board_is : (b : BoardContents) → IsBoard b → IsBoard (normal_board b)
board_is b is =
    record {
      start = is.start;
      cancel = is.cancel;
      submit = is.submit;
      value = value_is b.value is.value;
      progress = progress_is b.progress is.progress;
    }

-- ---- twice is once

part_again : (part : PartContents) → normal_part (normal_part part) ≡ normal_part part
part_again (Legacy terms) = refl
part_again (Grouped cs) = refl

pub value_again : (parts : List PartContents) → normal_value (normal_value parts) ≡ normal_value parts
value_again [] = refl
value_again (part ∷ parts) = ap₂ (λ p ps. p ∷ ps) (part_again part) (value_again parts)

progress_again : (progress : Option (List PartContents))
    → option_map normal_value (option_map normal_value progress) ≡ option_map normal_value progress
progress_again None = refl
progress_again (Some parts) = ap Some (value_again parts)

pub item_again : (x : ItemContents) → normal_item (normal_item x) ≡ normal_item x
item_again (Unlocks id t) = refl
item_again (Ranks id format b) =
    let values = value_again b.value in
    let progress = progress_again b.progress in
    (λ i. Ranks id format (record b { value = values i; progress = progress i }))

pub items_again : (items : List ItemContents) → map normal_item (map normal_item items) ≡ map normal_item items
items_again [] = refl
items_again (x ∷ items) = ap₂ (λ y ys. y ∷ ys) (item_again x) (items_again items)
