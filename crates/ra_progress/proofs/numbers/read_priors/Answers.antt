use Rattle.std.proofs.Common.{◌≡◌, ◌+◌, ◌*◌, ◌∙◌, List, map, length, sym, ap, ap₂, arith}
use Rattle.std.proofs.lemmas.Bool.{ne_eqb}
use Rattle.ra_progress.specs.Contents.{shape_contents}
use Rattle.ra_text.specs.Words.{words_at}
use Rattle.ra_progress.specs.Layout.{Numbered, version_in, numbered_at, cell_count, prior_count, priors_in}
use Rattle.ra_progress.specs.Saying.{last_number}
use Rattle.ra_progress.proofs.ByName.{put_over, said_by_name, said_by_place, said_in_1}
use Rattle.ra_progress.proofs.Placed.{counts_of_this_set, numbers_in_1, numbers_named, whole_layout}
use Rattle.ra_progress.proofs.numbers.read_priors.Goals as goal

pub read_words-requires : goal.read_words-requires
read_words-requires c =
    let long = numbers_in_1 (shape_contents c.args.shape.now) c.args.bytes.now c.requires.accepted.whole
    c.if-bytes-eq1.true in
    let many = ap length c.deref_mut.ensures.value in
    omega (arith, many, c.requires.room, c.len.ensures, c.args.shape.now.cells.ok.0, long)

pub cell_count-requires : goal.cell_count-requires
cell_count-requires c =
    whole_layout (shape_contents c.args.shape.now) c.args.bytes.now c.requires.accepted.whole
    (ne_eqb (version_in c.args.bytes.now) 1 c.if-bytes-eq1.false)

pub read_numbers-requires : goal.read_numbers-requires
read_numbers-requires c =
    let shape = shape_contents c.args.shape.now in
    let layout = whole_layout shape c.args.bytes.now c.requires.accepted.whole
    (ne_eqb (version_in c.args.bytes.now) 1 c.if-bytes-eq1.false) in
    let counts = counts_of_this_set shape c.args.bytes.now (sym (c.requires.own
    (ne_eqb (version_in c.args.bytes.now) 1 c.if-bytes-eq1.false)) ∙ c.if-own.true) in
    let named = numbers_named c.args.bytes.now layout in
    let long = ap length c.deref_mut-then-own.ensures.value in
    omega (arith, long, c.requires.room, counts.1, c.from.ensures, c.cell_count.ensures, named)

pub prior_count-requires : goal.prior_count-requires
prior_count-requires c =
    whole_layout (shape_contents c.args.shape.now) c.args.bytes.now c.requires.accepted.whole
    (ne_eqb (version_in c.args.bytes.now) 1 c.if-bytes-eq1.false)

pub read_named-requires-clause-within : goal.read_named-requires-clause-within
read_named-requires-clause-within c =
    let layout = whole_layout (shape_contents c.args.shape.now) c.args.bytes.now c.requires.accepted.whole
    (ne_eqb (version_in c.args.bytes.now) 1 c.if-bytes-eq1.false) in
    let named = numbers_named c.args.bytes.now layout in
    omega (arith, c.from.ensures, c.cell_count.ensures, c.prior_count.ensures, named)

pub returns-then-bytes-eq1-clause-says : goal.returns-then-bytes-eq1-clause-says
returns-then-bytes-eq1-clause-says c =
    let bytes = c.args.bytes.now in
    let cells = c.args.shape.now.cells.items in
    let priors = c.args.shape.now.priors.items in
    let long : length c.deref_mut.result.now ≡ length priors = omega
    (arith, ap length c.deref_mut.ensures.value, c.requires.room) in
    let place : 29 + 4 * c.len.result ≡ 29 + 4 * length cells = omega
    (arith, c.len.ensures, c.args.shape.now.cells.ok.0) in
    put_over c.args.numbers.now.len c.read_words.new.numbers c.args.numbers.now.items
    (omega (arith, c.read_words.auto.numbers, ap length c.deref_mut.ensures.value, c.args.numbers.now.ok.0))
    (omega (arith, c.args.numbers.now.ok.0))
    ∙ c.read_words.ensures ∙ ap₂ (words_at bytes) place long
    ∙ sym (said_in_1 (shape_contents c.args.shape.now) bytes (29 + 4 * length cells) priors (priors_in bytes)
    c.if-bytes-eq1.true)

pub returns-then-own-clause-says : goal.returns-then-own-clause-says
returns-then-own-clause-says c =
    let bytes = c.args.bytes.now in
    let shape = shape_contents c.args.shape.now in
    let priors = c.args.shape.now.priors.items in
    let other = ne_eqb (version_in bytes) 1 c.if-bytes-eq1.false in
    let own = sym (c.requires.own other) ∙ c.if-own.true in
    let counts = counts_of_this_set shape bytes own in
    let long : length c.deref_mut-then-own.result.now ≡ prior_count bytes = omega
    (arith, ap length c.deref_mut-then-own.ensures.value, c.requires.room, counts.1) in
    let place : 37 + 20 * c.from.result ≡ 37 + 20 * cell_count bytes = ap (λ n. 37 + 20 * n)
    (c.from.ensures ∙ c.cell_count.ensures) in
    let numbered : numbered_at bytes (37 + 20 * c.from.result) (length c.deref_mut-then-own.result.now)
    ≡ priors_in bytes = ap₂ (numbered_at bytes) place long in
    put_over c.args.numbers.now.len c.read_numbers.new.numbers c.args.numbers.now.items
    (omega (arith, c.read_numbers.auto.numbers, ap length c.deref_mut-then-own.ensures.value, c.args.numbers.now.ok.0))
    (omega (arith, c.args.numbers.now.ok.0))
    ∙ c.read_numbers.ensures ∙ ap (map (λ (n : Numbered). n.number)) numbered
    ∙ sym (said_by_place shape bytes (29 + 4 * length c.args.shape.now.cells.items) priors (priors_in bytes) other own)

pub returns-else-own-clause-says : goal.returns-else-own-clause-says
returns-else-own-clause-says c =
    let bytes = c.args.bytes.now in
    let priors = c.args.shape.now.priors.items in
    let other = ne_eqb (version_in bytes) 1 c.if-bytes-eq1.false in
    let said = said_by_name (shape_contents c.args.shape.now) bytes
    (29 + 4 * length c.args.shape.now.cells.items) priors (priors_in bytes) other
    (sym (c.requires.own other) ∙ c.if-own.false) in
    let place : 37 + 20 * c.from.result ≡ 37 + 20 * cell_count bytes = ap (λ n. 37 + 20 * n)
    (c.from.ensures ∙ c.cell_count.ensures) in
    let numbered : numbered_at bytes (37 + 20 * c.from.result) c.prior_count.result ≡ priors_in bytes = ap₂
    (numbered_at bytes) place c.prior_count.ensures in
    c.read_named.ensures
    ∙ ap (λ (l : List Numbered). map (λ name. last_number name l 0) priors) numbered
    ∙ sym said
