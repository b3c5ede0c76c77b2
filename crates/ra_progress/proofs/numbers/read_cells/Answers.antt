use Rattle.std.proofs.Common.{◌≡◌, ◌∙◌, map, length, sym, ap, arith}
use Rattle.std.proofs.lemmas.Bool.{ne_eqb}
use Rattle.ra_progress.specs.Contents.{shape_contents}
use Rattle.ra_progress.specs.Layout.{Numbered, version_in, numbered_at, cell_count, cells_in}
use Rattle.ra_text.specs.Words.{words_at}
use Rattle.ra_progress.specs.Saying.{last_number}
use Rattle.ra_progress.proofs.ByName.{put_over, said_by_name, said_by_place, said_in_1}
use Rattle.ra_progress.proofs.Placed.{counts_of_this_set, numbers_in_1, numbers_named, whole_layout}
use Rattle.ra_progress.proofs.numbers.read_cells.Goals as goal

pub read_words-requires : goal.read_words-requires
read_words-requires c =
    let long = numbers_in_1 (shape_contents c.args.shape.now) c.args.bytes.now
    c.requires.accepted.whole c.if-bytes-eq1.true in
    omega (arith, ap length c.deref_mut.ensures.value, c.requires.room, long)

pub cell_count-requires : goal.cell_count-requires
cell_count-requires c =
    whole_layout (shape_contents c.args.shape.now) c.args.bytes.now c.requires.accepted.whole
    (ne_eqb (version_in c.args.bytes.now) 1 c.if-bytes-eq1.false)

pub read_numbers-requires : goal.read_numbers-requires
read_numbers-requires c =
    let shape = shape_contents c.args.shape.now in
    let layout = whole_layout shape c.args.bytes.now c.requires.accepted.whole
    (ne_eqb (version_in c.args.bytes.now) 1 c.if-bytes-eq1.false) in
    let counts = counts_of_this_set shape c.args.bytes.now (sym (c.requires.own
    (ne_eqb (version_in c.args.bytes.now) 1 c.if-bytes-eq1.false)) ∙ c.if-own.true) in
    omega (
      arith,
      ap length c.deref_mut-then-own.ensures.value,
      c.requires.room,
      counts.0,
      numbers_named c.args.bytes.now layout,
    )

pub read_named-requires-clause-within : goal.read_named-requires-clause-within
read_named-requires-clause-within c =
    let layout = whole_layout (shape_contents c.args.shape.now) c.args.bytes.now c.requires.accepted.whole
    (ne_eqb (version_in c.args.bytes.now) 1 c.if-bytes-eq1.false) in
    omega (arith, c.cell_count.ensures, numbers_named c.args.bytes.now layout)

pub returns-then-bytes-eq1-clause-says : goal.returns-then-bytes-eq1-clause-says
returns-then-bytes-eq1-clause-says c =
    let bytes = c.args.bytes.now in
    let cells = c.args.shape.now.cells.items in
    let long : length c.deref_mut.result.now ≡ length cells = omega
    (arith, ap length c.deref_mut.ensures.value, c.requires.room) in
    put_over c.args.numbers.now.len c.read_words.new.numbers c.args.numbers.now.items
    (omega (arith, c.read_words.auto.numbers, ap length c.deref_mut.ensures.value, c.args.numbers.now.ok.0))
    (omega (arith, c.args.numbers.now.ok.0))
    ∙ c.read_words.ensures ∙ ap (words_at bytes 29) long
    ∙ sym (said_in_1 (shape_contents c.args.shape.now) bytes 29 cells (cells_in bytes) c.if-bytes-eq1.true)

pub returns-then-own-clause-says : goal.returns-then-own-clause-says
returns-then-own-clause-says c =
    let bytes = c.args.bytes.now in
    let shape = shape_contents c.args.shape.now in
    let cells = c.args.shape.now.cells.items in
    let other = ne_eqb (version_in bytes) 1 c.if-bytes-eq1.false in
    let own = sym (c.requires.own (ne_eqb (version_in c.args.bytes.now) 1 c.if-bytes-eq1.false)) ∙ c.if-own.true in
    let counts = counts_of_this_set shape bytes own in
    let long : length c.deref_mut-then-own.result.now ≡ cell_count bytes = omega
    (arith, ap length c.deref_mut-then-own.ensures.value, c.requires.room, counts.0) in
    put_over c.args.numbers.now.len c.read_numbers.new.numbers c.args.numbers.now.items
    (omega (arith, c.read_numbers.auto.numbers, ap length c.deref_mut-then-own.ensures.value, c.args.numbers.now.ok.0))
    (omega (arith, c.args.numbers.now.ok.0))
    ∙ c.read_numbers.ensures ∙ ap (λ count. map (λ (n : Numbered). n.number) (numbered_at bytes 33 count)) long
    ∙ sym (said_by_place shape bytes 29 cells (cells_in bytes) other own)

pub returns-else-own-clause-says : goal.returns-else-own-clause-says
returns-else-own-clause-says c =
    let bytes = c.args.bytes.now in
    let cells = c.args.shape.now.cells.items in
    let other = ne_eqb (version_in bytes) 1 c.if-bytes-eq1.false in
    let said = said_by_name (shape_contents c.args.shape.now) bytes 29 cells (cells_in bytes) other
    (sym (c.requires.own (ne_eqb (version_in c.args.bytes.now) 1 c.if-bytes-eq1.false)) ∙ c.if-own.false) in
    c.read_named.ensures
    ∙ ap (λ count. map (λ name. last_number name (numbered_at bytes 33 count) 0) cells) c.cell_count.ensures
    ∙ sym said
