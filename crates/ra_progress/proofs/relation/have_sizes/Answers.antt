use Rattle.std.proofs.Common.{◌≡◌, ◌+◌, ◌-◌, ◌==◌, ◌<◌, ◌≤◌, ◌∙◌, refl, sym, ap, length, false, arith}
use Rattle.std.proofs.lemmas.Bool.{eq-eqb, ne_eqb}
use Rattle.ra_progress.specs.Contents.{shape_contents, own_entries, own_at}
use Rattle.ra_text.specs.Words.{word_at}
use Rattle.ra_progress.specs.Layout.{block_length, own_length, entries_in, entry_count, first_entry}
use Rattle.ra_progress.proofs.Walks.{walk_next}
use Rattle.ra_progress.proofs.Sizes.{entries_count, sizes_count, sizes_step, sizes_end}
use Rattle.ra_progress.proofs.relation.have_sizes.Goals as goal

pub returns-then-entry_count-count : goal.returns-then-entry_count-count
returns-then-entry_count-count c =
    let count = entries_count c.args.bytes.now (entry_count c.args.bytes.now) (first_entry c.args.bytes.now) in
    sym (sizes_count (own_entries (shape_contents c.args.shape.now)) (entries_in c.args.bytes.now)
    (λ same. c.if-entry_count-count.true (c.entry_count.ensures ∙ sym count ∙ same ∙ sym c.own_count-count.ensures)))

pub returns-then-from-block_length : goal.returns-then-from-block_length
returns-then-from-block_length c =
    let owns = own_entries (shape_contents c.args.shape.now) in
    let below : c.loop-number.number < length owns =
    omega (arith, c.loop-number-test.true, c.own_count-count.ensures) in
    let long : c.block_length.result ≡ own_length (own_at owns c.loop-number.number) =
    c.block_length.ensures.length ∙ ap block_length c.own_shape.ensures in
    let other : (word_at c.args.bytes.now (c.loop-number.at + 16) == own_length
    (own_at owns c.loop-number.number)) ≡ false =
    ne_eqb (word_at c.args.bytes.now (c.loop-number.at + 16))
    (own_length (own_at owns c.loop-number.number))
    (λ same. c.if-from-block_length.true (c.from.ensures ∙ c.word_at.ensures ∙ same ∙ sym long)) in
    sym (sym c.loop-number.invariant.rest
    ∙ sizes_step c.args.bytes.now owns c.loop-number.number c.loop-number.at below ∙ rw other refl)

pub loop-number-preserved : goal.loop-number-preserved
loop-number-preserved c =
    let owns = own_entries (shape_contents c.args.shape.now) in
    let below : c.loop-number.number < length owns =
    omega (arith, c.loop-number-test.true, c.own_count-count.ensures) in
    let long : c.block_length.result ≡ own_length (own_at owns c.loop-number.number) =
    c.block_length.ensures.length ∙ ap block_length c.own_shape.ensures in
    let same = eq-eqb (word_at c.args.bytes.now (c.loop-number.at + 16))
    (own_length (own_at owns c.loop-number.number)) (sym c.word_at.ensures ∙ sym c.from.ensures
    ∙ c.if-from-block_length.false ∙ long) in
    let next = walk_next c.args.bytes.now (length owns - c.loop-number.number) c.loop-number.at
    (omega (arith, below)) c.loop-number.invariant.walk in
    let one : length owns - c.loop-number.number - 1 ≡ length owns - (c.loop-number.number + 1) = omega arith in
    record {
      walk = rw (c.entry_after-at.ensures, ← one) next.1;
      rest = rw c.entry_after-at.ensures (sym (sizes_step c.args.bytes.now owns c.loop-number.number
          c.loop-number.at below ∙ rw same refl) ∙ c.loop-number.invariant.rest);
    }

pub returns : goal.returns
returns c =
    let owns = own_entries (shape_contents c.args.shape.now) in
    let over : length owns ≤ c.loop-number.number =
    omega (arith, c.loop-number-test.false, c.own_count-count.ensures) in
    sym (sizes_end c.args.bytes.now owns c.loop-number.number c.loop-number.at over) ∙ c.loop-number.invariant.rest
