use Rattle.std.proofs.Common.{◌≡◌, ℕ, ◌+◌, ◌*◌, ◌-◌, ◌<◌, [], ◌∙◌, if◌then◌else◌, bytes_eq, sym, ap, ap₂, length}
use Rattle.std.proofs.Common.{slice_index, subst, replicate, arith}
use Rattle.std.proofs.lemmas.List.{get_or-replicate, length-replicate}
use Rattle.ra_progress.specs.Contents.{Name, shape_contents}
use Rattle.ra_text.specs.Words.{word_at}
use Rattle.ra_progress.specs.Layout.{numbered_at, name_at}
use Rattle.ra_progress.specs.Names.{IsOrder, IsRange, names_of, order_in, named_by}
use Rattle.ra_progress.specs.Saying.{last_number}
use Rattle.ra_progress.proofs.Orders.{numbers_within}
use Rattle.ra_progress.proofs.ByName.{order_is, put_by_name, numbered_from, last_next, last_end, by_index}
use Rattle.ra_progress.proofs.numbers.read_named.Goals as goal

pub loop-k-init : goal.loop-k-init
loop-k-init c =
    let names = names_of c.args.named (shape_contents c.args.shape.now) in
    let order = c.order_of_names-order.result.now in
    let zeros : c.fill_all.new.values.items ≡ replicate (length names) 0 = c.fill_all.ensures
    ∙ ap (λ n. replicate n 0) c.requires.room in
    let all : c.args.entries.now.count - 0 ≡ c.args.entries.now.count = omega arith in
    record {
      many = ap length zeros ∙ length-replicate (length names) 0;
      rest = λ n less.
          let plain : slice_index c.fill_all.new.values.items n ≡ 0 = ap (λ l. slice_index l n) zeros
          ∙ get_or-replicate (length names) n 0 0 less in
          ap₂ (λ count earlier. last_number (named_by names n)
          (numbered_from c.args.entries.now.bytes.now c.args.entries.now.at 0 count) earlier) all plain;
    }

pub put_all-requires-clause-numbers : goal.put_all-requires-clause-numbers
put_all-requires-clause-numbers c =
    let names = names_of c.args.named (shape_contents c.args.shape.now) in
    let is = order_is c.args.shape.now c.args.named c.requires.usable in
    subst (λ order. (k : ℕ) → k < length order → slice_index order k < length c.loop-k.numbers.items)
    (sym c.order_of_names-order.ensures)
    (λ k less. let below = numbers_within names (order_in c.args.named c.args.shape.now) is k less in omega
    (arith, below, c.loop-k.invariant.many))

pub loop-k-preserved : goal.loop-k-preserved
loop-k-preserved c =
    let bytes = c.args.entries.now.bytes.now in
    let names = names_of c.args.named (shape_contents c.args.shape.now) in
    let k = c.loop-k.k in
    let same = c.order_of_names-order.ensures in
    let is = subst (IsOrder names) (sym same) (order_is c.args.shape.now c.args.named c.requires.usable) in
    let range = subst
    (λ order. IsRange names order c.name_at.result c.matches-range.result.0 c.matches-range.result.1)
    (sym same) c.matches-range.ensures in
    let name : c.name_at.result ≡ name_at bytes (c.args.entries.now.at + 20 * k) = c.name_at.ensures ∙ ap
    (λ j. name_at bytes (c.args.entries.now.at + 20 * j)) c.from.ensures in
    let value : c.word_at.result ≡ word_at bytes (c.args.entries.now.at + 20 * k + 16) = c.word_at.ensures ∙ ap
    (λ j. word_at bytes (c.args.entries.now.at + 20 * j + 16)) c.from.ensures in
    record {
      many = c.put_all.ensures.long ∙ c.loop-k.invariant.many;
      rest = λ n less.
          let old = slice_index c.loop-k.numbers.items n in
          let put = put_by_name names c.order_of_names-order.result.now c.name_at.result c.matches-range.result.0
          c.matches-range.result.1 c.loop-k.numbers.items c.put_all.new.values.items c.word_at.result is range
          c.put_all.ensures.there c.put_all.ensures.kept n 0 less in
          ap (last_number (named_by names n)
          (numbered_from bytes c.args.entries.now.at (k + 1) (c.args.entries.now.count - (k + 1))))
          (put ∙ ap₂ (λ (x : Name) (v : ℕ). if bytes_eq x (named_by names n) then v else old) name value)
          ∙ sym (last_next bytes (named_by names n) c.args.entries.now.at k c.args.entries.now.count old
          c.loop-k-test.true)
          ∙ c.loop-k.invariant.rest n less;
    }

pub returns : goal.returns
returns c =
    let names = names_of c.args.named (shape_contents c.args.shape.now) in
    by_index (λ name. last_number name
    (numbered_at c.args.entries.now.bytes.now c.args.entries.now.at c.args.entries.now.count) 0) names
    c.loop-k.numbers.items [] 0 c.loop-k.invariant.many
    (λ n less. sym (last_end c.args.entries.now.bytes.now (named_by names n) c.args.entries.now.at c.loop-k.k
    c.args.entries.now.count
    (slice_index c.loop-k.numbers.items n) c.loop-k-test.false) ∙ c.loop-k.invariant.rest n less)
