use Rattle.std.proofs.Common.{◌≡◌, ◌++◌, List, ℕ, option_to_list, sym, ◌∙◌, ap₂, subst}
use Rattle.ra_set.specs.Contents.{set_contents}
use Rattle.ra_progress.specs.Names.{IsOrder}
use Rattle.ra_runtime.proofs.shapes.shape_with.Goals as goal

pub returns-clause-shape : goal.returns-clause-shape
returns-clause-shape c =
    let set = set_contents c.args.set.now in
    let names : c.extend_from_slice.new.self.items ≡ set.item_names =
    c.in_ok-extend_from_slice.ensures.items
    ∙ ap₂ (λ xs ys. xs ++ ys) c.new-item_names.ensures.items c.deref.ensures.value in
    let items = c.in_ok-items.ensures ∙ c.requires.items in
    (λ i. record {
      digest = set.digest;
      cells = c.args.naming.cells.items;
      priors = c.args.naming.priors.items;
      items = items i;
      item_names = names i;
      presence = c.requires.presence i;
      presence_name = set.script_name;
    })

pub returns-clause-entries : goal.returns-clause-entries
returns-clause-entries c =
    let set = set_contents c.args.set.now in
    let names : c.extend_from_slice.new.self.items ≡ set.item_names =
    c.in_ok-extend_from_slice.ensures.items
    ∙ ap₂ (λ xs ys. xs ++ ys) c.new-item_names.ensures.items c.deref.ensures.value in
    subst (λ (ns : List (List ℕ)). IsOrder (ns ++ option_to_list c.args.set.now.script_name)
    c.in_ok-entry_order.entry_order.items) (c.deref-2.ensures.value
    ∙ names) c.in_ok-entry_order.ensures
