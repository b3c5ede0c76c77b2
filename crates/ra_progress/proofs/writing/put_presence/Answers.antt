use Rattle.std.proofs.Common.{◌≡◌, ◌+◌, ◌*◌, ◌++◌, ◌∙◌, [], ◌∷◌, ap, length, length-append, arith}
use Rattle.std.specs.Int.{w32, to_le_bytes}
use Rattle.ra_text.specs.Words.{words}
use Rattle.ra_text.proofs.Pieces.{length_words}
use Rattle.ra_progress.proofs.Blocks.{steps_3}
use Rattle.ra_progress.proofs.Written.{block_behind}
use Rattle.ra_progress.proofs.writing.put_presence.Goals as goal

pub returns : goal.returns
returns c =
    let hits = c.args.hits.now in
    let numbers = c.args.numbers.now in
    let one = words (c.args.shown ∷ []) in
    let block = words (c.args.shown ∷ hits) ++ words numbers in
    let long : 4 + 4 * (length hits + length numbers) ≡ length block =
    omega (
      arith,
      length_words (c.args.shown ∷ hits),
      length_words numbers,
      length-append (words (c.args.shown ∷ hits)) (words numbers),
    ) in
    block_behind c.args.bytes.now.items c.args.name.now
    (to_le_bytes w32 (length block)) block c.write_words-3.new.bytes.items
    (c.in_ok-write_words-3.ensures ∙ ap (λ xs. xs ++ words numbers) (c.in_ok-write_words-2.ensures
    ∙ ap (λ xs. xs ++ words hits) c.in_ok-write_words.ensures)
    ∙ steps_3 c.put_named.new.bytes.items one (words hits) (words numbers)
    ∙ ap (λ xs. xs ++ block) (c.in_ok-put_named.ensures
    ∙ ap (λ n. c.args.bytes.now.items ++ (c.args.name.now ++ to_le_bytes w32 n)) long))
