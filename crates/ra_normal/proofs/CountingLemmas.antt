-- A normal text has a condition more for each legacy part.
use Rattle.std.proofs.Common.{◌≡◌, ℕ, ◌+◌, ◌<◌, ◌≤◌, ◌^◌, List, [], ◌∷◌, Option, None, Some, option_map, IfSome, refl}
use Rattle.std.proofs.Common.{arith, lit≤}
use Rattle.std.specs.List.{AllByRecursion, sum_by}
use Rattle.std.proofs.lemmas.List.Elements.{recursion_from_All}
use Rattle.std.proofs.lemmas.List.Sums.{sum_by-cons}
use Rattle.ra_condition.specs.Contents.{PartContents, Legacy, Grouped}
use Rattle.ra_condition.specs.Spelled.{IsPart, IsValue}
use Rattle.ra_set.specs.Accepted.{IsSet}
use Rattle.ra_set.specs.Contents.{ItemContents, Unlocks, Ranks, SetContents}
use Rattle.ra_set.specs.Limits.{part_conditions, value_conditions, optional_value, item_conditions, set_conditions}
use Rattle.ra_set.specs.Spelled.{IsItem}
use Rattle.ra_normal.specs.Contents.{normal_part, normal_value, normal_item}
use Rattle.ra_normal.specs.Counting.{legacy_in_part, legacy_in_value, legacy_in_optional, legacy_in_item}
use Rattle.ra_normal.specs.Text.{normal_conditions}
use Rattle.ra_normal.proofs.AcceptedLemmas.{items_are}
use Rattle.ra_normal.proofs.LegacyLemmas.{many}

-- ---- one more for each legacy part

part_more : (part : PartContents) → part_conditions (normal_part part) ≡ part_conditions part + legacy_in_part part
part_more (Legacy terms) = omega (arith, many terms)
part_more (Grouped cs) = omega arith

value_more : (parts : List PartContents) → value_conditions (normal_value parts)
    ≡ value_conditions parts + legacy_in_value parts
value_more [] = refl
value_more (part ∷ parts) =
    let first = part_more part in
    let others = value_more parts in
    let normal = sum_by-cons part_conditions (normal_part part) (normal_value parts) in
    let plain = sum_by-cons part_conditions part parts in
    let legacy = sum_by-cons legacy_in_part part parts in
    omega (arith, first, others, normal, plain, legacy)

optional_more : (progress : Option (List PartContents)) → optional_value
    (option_map normal_value progress) ≡ optional_value progress + legacy_in_optional progress
optional_more None = refl
optional_more (Some parts) = value_more parts

item_more : (x : ItemContents) → item_conditions (normal_item x) ≡ item_conditions x + legacy_in_item x
item_more (Unlocks id t) = omega arith
item_more (Ranks id format b) =
    let value = value_more b.value in
    let progress = optional_more b.progress in
    omega (arith, value, progress)

items_more : (items : List ItemContents) → sum_by (λ x. item_conditions (normal_item x)) items
    ≡ sum_by item_conditions items + sum_by legacy_in_item items
items_more [] = refl
items_more (x ∷ items) =
    let first = item_more x in
    let others = items_more items in
    let normal = sum_by-cons (λ (x : ItemContents). item_conditions (normal_item x)) x items in
    let plain = sum_by-cons item_conditions x items in
    let legacy = sum_by-cons legacy_in_item x items in
    omega (arith, first, others, normal, plain, legacy)

-- the conditions of a normal text are those of its set and one for each legacy part
pub conditions_more : (set : SetContents) → normal_conditions set ≡ set_conditions set + sum_by legacy_in_item set.items
conditions_more set = let items = items_more set.items in omega (arith, items)

-- ---- there are not many

part_few : (part : PartContents) → IsPart part → legacy_in_part part ≤ part_conditions part
part_few (Legacy terms) is = let some = is.0 in omega (arith, some)
part_few (Grouped cs) is = omega arith

value_few : (parts : List PartContents) → AllByRecursion IsPart parts → legacy_in_value parts ≤ value_conditions parts
value_few [] each = lit≤ tt
value_few (part ∷ parts) each =
    let first = part_few part each.0 in
    let others = value_few parts each.1 in
    let plain = sum_by-cons part_conditions part parts in
    let legacy = sum_by-cons legacy_in_part part parts in
    omega (arith, first, others, plain, legacy)

optional_few : (progress : Option (List PartContents)) → IfSome progress IsValue
    → legacy_in_optional progress ≤ optional_value progress
optional_few None is = lit≤ tt
optional_few (Some parts) is = value_few parts (recursion_from_All IsPart parts is.each)

item_few : (x : ItemContents) → IsItem x → legacy_in_item x ≤ item_conditions x
item_few (Unlocks id t) is = omega arith
item_few (Ranks id format b) is =
    let value = value_few b.value (recursion_from_All IsPart b.value is.0.value.each) in
    let progress = optional_few b.progress is.0.progress in
    omega (arith, value, progress)

items_few : (items : List ItemContents) → AllByRecursion IsItem items
    → sum_by legacy_in_item items ≤ sum_by item_conditions items
items_few [] each = lit≤ tt
items_few (x ∷ items) each =
    let first = item_few x each.0 in
    let others = items_few items each.1 in
    let plain = sum_by-cons item_conditions x items in
    let legacy = sum_by-cons legacy_in_item x items in
    omega (arith, first, others, plain, legacy)

-- a normal text has at most twice the conditions of its set
pub conditions_few : (file : List ℕ) (set : SetContents) → IsSet file set → normal_conditions set < 2 ^ 64
conditions_few file set s =
    let few = items_few set.items (recursion_from_All IsItem set.items (items_are file set s.spelled)) in
    let more = conditions_more set in
    omega (arith, few, more, s.limits.conditions)
