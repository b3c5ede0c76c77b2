use Rattle.std.proofs.Common.{◌≡◌, [], get_or, map, sym, ap, ◌∙◌, subst, arith}
use Rattle.std.specs.List.{AllByRecursion}
use Rattle.std.proofs.lemmas.List.{take_all}
use Rattle.ra_set.specs.Contents.{item_contents, set_contents}
use Rattle.ra_set.specs.Limits.{item_conditions}
use Rattle.ra_set.specs.Spelled.{IsItem}
use Rattle.ra_member.proofs.GrowthLemmas.{holds_at, weight_at}
use Rattle.ra_lint.specs.Fewness.{item_alts}
use Rattle.ra_lint.specs.Laws.{Holds}
use Rattle.ra_lint.specs.Warnings.{item_warnings, warnings_on}
use Rattle.ra_lint.proofs.HoldLemmas.{all_hold}
use Rattle.ra_lint.proofs.RowLemmas.{items_more, row_taken}
use Rattle.ra_lint.proofs.on_set.lint.Goals as goal

pub lint_item-requires-clause-spelled : goal.lint_item-requires-clause-spelled
lint_item-requires-clause-spelled c =
    let items = c.args.set.now.items.items in
    let k = c.loop-number.number in
    let item = c.item-item.result in
    let is : item ≡ get_or items k item = c.item-item.is ∙ ap (λ xs. get_or xs k item)
    c.deref-item-items.ensures.value in
    holds_at item_contents items k item (omega (arith, c.deref-item-items.ensures.len)) is IsItem
    c.requires.spelled.items

pub lint_item-requires-clause-few : goal.lint_item-requires-clause-few
lint_item-requires-clause-few c =
    let items = c.args.set.now.items.items in
    let k = c.loop-number.number in
    let item = c.item-item.result in
    let is : item ≡ get_or items k item = c.item-item.is ∙ ap (λ xs. get_or xs k item)
    c.deref-item-items.ensures.value in
    omega (
      arith,
      weight_at item_contents items k item (omega (arith, c.deref-item-items.ensures.len)) is
          item_conditions,
      c.requires.limits.conditions,
    )

pub lint_item-requires-clause-groups : goal.lint_item-requires-clause-groups
lint_item-requires-clause-groups c =
    let items = c.args.set.now.items.items in
    let k = c.loop-number.number in
    let item = c.item-item.result in
    let is : item ≡ get_or items k item = c.item-item.is ∙ ap (λ xs. get_or xs k item)
    c.deref-item-items.ensures.value in
    omega (
      arith,
      weight_at item_contents items k item (omega (arith, c.deref-item-items.ensures.len)) is item_alts,
      c.requires.groups,
    )

pub loop-number-preserved : goal.loop-number-preserved
loop-number-preserved c =
    let items = c.args.set.now.items.items in
    let k = c.loop-number.number in
    let item = c.item-item.result in
    let is : item ≡ get_or items k item = c.item-item.is ∙ ap (λ xs. get_or xs k item)
    c.deref-item-items.ensures.value in
    row_taken item_contents (warnings_on 0) item_warnings 0 (items_more 0) items k item
    (omega (arith, c.deref-item-items.ensures.len)) is
    [] c.loop-number.found.items c.lint_item.new.found.items k (omega arith) c.loop-number.invariant
    c.in_ok-lint_item.ensures

pub returns-clause-hold : goal.returns-clause-hold
returns-clause-hold c =
    let set = set_contents c.args.set.now in
    let items = c.args.set.now.items.items in
    let all : c.loop-number.found.items ≡ warnings_on 0 set.items =
    c.loop-number.invariant ∙ ap (λ xs. warnings_on 0 (map item_contents xs))
    (take_all c.loop-number.number items (omega (arith, c.deref-item-items.ensures.len))) in
    subst (AllByRecursion (Holds set.items)) (sym all) (all_hold set c.requires.spelled.items)
