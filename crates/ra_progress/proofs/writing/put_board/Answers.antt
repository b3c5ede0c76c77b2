use Rattle.std.proofs.Common.{◌≡◌, ◌+◌, ◌*◌, ◌++◌, ◌∙◌, [], ◌∷◌, ap, length, length-append, arith}
use Rattle.std.specs.Int.{w32, to_le_bytes}
use Rattle.ra_text.specs.Words.{words}
use Rattle.ra_text.proofs.Pieces.{length_words}
use Rattle.ra_progress.proofs.Blocks.{steps_3}
use Rattle.ra_progress.proofs.Written.{block_behind}
use Rattle.ra_progress.proofs.writing.put_board.Goals as goal

pub returns : goal.returns
returns c =
    let hits = c.args.hits.now in
    let numbers = c.args.numbers.now in
    let block = c.args.state ∷ (words hits ++ words numbers) in
    let long : 1 + 4 * (length hits + length numbers) ≡ length block =
    omega (arith, length_words hits, length_words numbers, length-append (words hits) (words numbers)) in
    block_behind c.args.bytes.now.items c.args.name.now
    (to_le_bytes w32 (length block)) block c.write_words-2.new.bytes.items
    (c.in_ok-write_words-2.ensures ∙ ap (λ xs. xs ++ words numbers) (c.in_ok-write_words.ensures
    ∙ ap (λ xs. xs ++ words hits) c.in_ok-push.ensures.items)
    ∙ steps_3 c.put_named.new.bytes.items (c.args.state ∷ []) (words hits) (words numbers)
    ∙ ap (λ xs. xs ++ block) (c.in_ok-put_named.ensures
    ∙ ap (λ n. c.args.bytes.now.items ++ (c.args.name.now ++ to_le_bytes w32 n)) long))
