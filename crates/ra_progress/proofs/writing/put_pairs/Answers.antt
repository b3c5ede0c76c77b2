use Rattle.std.proofs.Common.{◌++◌, ◌∙◌, sym, ap, ap₂, take, get_or, arith, []}
use Rattle.std.proofs.lemmas.List.{take_all}
use Rattle.ra_progress.specs.Spelling.{named_words}
use Rattle.ra_progress.proofs.Blocks.{words_more, steps_3}
use Rattle.ra_progress.proofs.writing.put_pairs.Goals as goal

pub loop-k-preserved : goal.loop-k-preserved
loop-k-preserved c =
    let more = words_more c.args.names.now c.args.numbers.now c.loop-k.k []
    (omega (arith, c.loop-k-test.true)) (omega (arith, c.loop-k-test.true, c.requires)) in
    c.in_ok-extend_from_slice-2.ensures.items
    ∙ ap (λ xs. xs ++ c.to_le_bytes.result) (c.in_ok-extend_from_slice.ensures.items
    ∙ ap (λ xs. xs ++ get_or c.args.names.now c.loop-k.k []) c.loop-k.invariant)
    ∙ steps_3 c.args.bytes.now.items (named_words (take c.loop-k.k c.args.names.now) (take
    c.loop-k.k c.args.numbers.now)) (get_or c.args.names.now c.loop-k.k []) c.to_le_bytes.result
    ∙ sym (ap (λ xs. c.args.bytes.now.items ++ xs) (more
    ∙ ap (λ xs. named_words (take c.loop-k.k c.args.names.now) (take c.loop-k.k c.args.numbers.now)
    ++ (get_or c.args.names.now c.loop-k.k [] ++ xs)) (sym c.to_le_bytes.ensures)))

pub returns : goal.returns
returns c =
    let names = take_all c.loop-k.k c.args.names.now (omega (arith, c.loop-k-test.false)) in
    let numbers = take_all c.loop-k.k c.args.numbers.now (omega (arith, c.loop-k-test.false, c.requires)) in
    c.loop-k.invariant ∙ ap (λ xs. c.args.bytes.now.items ++ xs) (ap₂ named_words names numbers)
