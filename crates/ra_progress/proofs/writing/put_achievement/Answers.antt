use Rattle.std.proofs.Common.{refl, ◌≡◌, ◌+◌, ◌*◌, ◌++◌, ◌∙◌, [], ◌∷◌, ap, length, arith}
use Rattle.std.specs.Int.{w32, to_le_bytes}
use Rattle.ra_text.specs.Words.{words}
use Rattle.ra_text.proofs.Pieces.{length_words}
use Rattle.ra_progress.proofs.Blocks.{steps_3}
use Rattle.ra_progress.proofs.Written.{all_fit, block_behind}
use Rattle.ra_progress.proofs.writing.put_achievement.Goals as goal

pub returns-clause-bytes : goal.returns-clause-bytes
returns-clause-bytes c =
    let hits = c.args.hits.now in
    let one = words (c.args.measured ∷ []) in
    let block = c.args.state ∷ words (c.args.measured ∷ hits) in
    let long : 5 + 4 * length hits ≡ length block = omega (arith, length_words hits) in
    block_behind c.args.bytes.now.items c.args.name.now
    (to_le_bytes w32 (length block)) block c.write_words-2.new.bytes.items
    (c.in_ok-write_words-2.ensures ∙ ap (λ xs. xs ++ words hits) (c.in_ok-write_words.ensures
    ∙ ap (λ xs. xs ++ one) c.in_ok-push.ensures.items)
    ∙ steps_3 c.put_named.new.bytes.items (c.args.state ∷ []) one (words hits)
    ∙ ap (λ xs. xs ++ block) (c.in_ok-put_named.ensures
    ∙ ap (λ n. c.args.bytes.now.items ++ (c.args.name.now ++ to_le_bytes w32 n)) long))

pub returns-clause-hits : goal.returns-clause-hits
returns-clause-hits c = record { as_many = refl; fit = all_fit c.args.hits.now c.type_inv.hits }
