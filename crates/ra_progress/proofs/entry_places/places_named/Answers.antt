use Rattle.std.proofs.Common.{◌≡◌, ℕ, ◌+◌, ◌-◌, ◌<◌, ◌∙◌, if◌then◌else◌, bytes_eq, sym, ap, ap₂, refl, [], None, Some}
use Rattle.std.proofs.Common.{length, slice_index, slice_index_or, subst, replicate, arith}
use Rattle.std.proofs.lemmas.List.{get_or-replicate, length-replicate}
use Rattle.ra_progress.specs.Contents.{Name, shape_contents, own_entries, own_at}
use Rattle.ra_progress.specs.Layout.{name_at, entry_after, entries_from, entries_in}
use Rattle.ra_progress.specs.Names.{IsOrder, IsRange, entry_names}
use Rattle.ra_progress.specs.Saying.{last_block}
use Rattle.ra_progress.proofs.OwnOrder.{number_within}
use Rattle.ra_progress.proofs.Owns.{names_count}
use Rattle.ra_progress.proofs.OwnNames.{own_name}
use Rattle.ra_progress.proofs.Walks.{walk_first, walk_next}
use Rattle.ra_progress.proofs.ByName.{put_by_name, block_next, by_index}
use Rattle.ra_progress.proofs.entry_places.places_named.Goals as goal

pub loop-left-init : goal.loop-left-init
loop-left-init c =
    let owns = own_entries (shape_contents c.args.shape.now) in
    let none : c.fill_all.new.values.items ≡ replicate (length owns) None =
    c.fill_all.ensures ∙ ap (λ n. replicate n None) c.requires.room in
    record {
      walk = rw (c.first_entry-at.ensures, c.entry_count-left.ensures)
          (walk_first c.args.bytes.now c.requires.layout);
      many = ap length none ∙ length-replicate (length owns) None;
      rest = λ n less.
          let plain : slice_index_or c.fill_all.new.values.items n None ≡ None = ap
          (λ places. slice_index_or places n None) none ∙ get_or-replicate (length owns) n None None less in
          rw (c.first_entry-at.ensures, c.entry_count-left.ensures, plain) refl;
    }

pub put_all-requires-clause-numbers : goal.put_all-requires-clause-numbers
put_all-requires-clause-numbers c =
    subst (λ order. (k : ℕ) → k < length order → slice_index order k < length c.loop-left.places.items)
    (sym c.deref.ensures.value)
    (λ k less. let below = number_within c.args.shape.now c.requires.usable k less in omega
    (arith, below, c.loop-left.invariant.many))

pub loop-left-preserved : goal.loop-left-preserved
loop-left-preserved c =
    let bytes = c.args.bytes.now in
    let shape = shape_contents c.args.shape.now in
    let owns = own_entries shape in
    let names = entry_names shape in
    let left = c.loop-left.left in
    let at = c.loop-left.at in
    let paired = c.requires.usable.searchable.paired in
    let same : c.deref.result.now ≡ c.args.shape.now.entry_order.items = c.deref.ensures.value in
    let is = subst (IsOrder names) (sym same) c.requires.usable.searchable.entries in
    let range = subst
    (λ order. IsRange names order c.name_at.result c.matches-range.result.0 c.matches-range.result.1)
    (sym same) c.matches-range.ensures in
    record {
      walk = rw c.entry_after-at.ensures
          (walk_next bytes left at c.loop-left-test.true c.loop-left.invariant.walk).1;
      many = c.put_all.ensures.long ∙ c.loop-left.invariant.many;
      rest = λ n less.
          let own = own_at owns n in
          let old = slice_index_or c.loop-left.places.items n None in
          let below : n < length names = omega (arith, less, names_count shape paired) in
          let put = put_by_name names c.deref.result.now c.name_at.result c.matches-range.result.0
          c.matches-range.result.1 c.loop-left.places.items c.put_all.new.values.items
          (Some (at + 20)) is range c.put_all.ensures.there c.put_all.ensures.kept n None below in
          let named : slice_index_or c.put_all.new.values.items n None ≡
          (if bytes_eq (name_at bytes at) own.name then Some (at + 20) else old) =
          put ∙ ap₂ (λ (x y : Name). if bytes_eq x y then Some (at + 20) else old) c.name_at.ensures
          (own_name shape paired n) in
          rw c.entry_after-at.ensures
          (ap (last_block own.name (entries_from bytes (left - 1) (entry_after bytes at))) named
          ∙ sym (block_next bytes own.name left at old c.loop-left-test.true)
          ∙ c.loop-left.invariant.rest n less);
    }

pub returns : goal.returns
returns c =
    let owns = own_entries (shape_contents c.args.shape.now) in
    let none : c.loop-left.left ≡ 0 = omega (arith, c.loop-left-test.false) in
    by_index (λ own. last_block own.name (entries_in c.args.bytes.now) None) owns c.loop-left.places.items
    (own_at [] 0) None c.loop-left.invariant.many
    (λ n less. sym (ap (λ left. last_block (own_at owns n).name (entries_from c.args.bytes.now left c.loop-left.at)
    (slice_index_or c.loop-left.places.items n None)) none) ∙ c.loop-left.invariant.rest n less)
