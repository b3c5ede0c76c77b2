use Rattle.std.proofs.Common.{◌≡◌, ◌+◌, ◌*◌, get_or, set, length, sym, ◌∙◌, arith, below_more, get_or-set_same}
use Rattle.std.proofs.Common.{get_or-set_other}
use Rattle.std.proofs.lemmas.List.FromFn.{fill_by_all}
use Rattle.ra_text.specs.Words.{word_at}
use Rattle.ra_progress.proofs.ByName.{numbers_of}
use Rattle.ra_progress.proofs.numbers.read_numbers.Goals as goal

pub loop-place-preserved : goal.loop-place-preserved
loop-place-preserved c =
    let place = c.loop-place.place in
    let bytes = c.args.bytes.now in
    below_more
    (λ k. get_or (set c.loop-place.numbers place c.word_at.result) k 0 ≡ word_at bytes (c.args.at + 20 * k + 16)) place
    (λ k l. get_or-set_other c.loop-place.numbers place k c.word_at.result 0 (λ e. omega (arith, e))
    ∙ c.loop-place.invariant k l)
    (get_or-set_same c.loop-place.numbers place c.word_at.result 0 (omega arith) ∙ c.word_at.ensures)

pub returns : goal.returns
returns c =
    fill_by_all (λ k. word_at c.args.bytes.now (c.args.at + 20 * k + 16)) c.loop-place.numbers _ 0 (omega arith)
    (λ k l. c.loop-place.invariant k (omega arith))
    ∙ sym (numbers_of c.args.bytes.now c.args.at (length c.args.numbers.now))
