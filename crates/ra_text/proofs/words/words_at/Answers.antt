use Rattle.std.proofs.Common.{◌+◌, ◌*◌, arith}
use Rattle.std.proofs.lemmas.List.FromFn.{map-range_with_len_more}
use Rattle.ra_text.specs.Words.{word_at}
use Rattle.ra_text.proofs.words.words_at.Goals as goal

pub loop-k-preserved : goal.loop-k-preserved
loop-k-preserved c =
    rw (map-range_with_len_more (λ k. word_at c.args.bytes.now (c.args.at + 4 * k)) 0 c.loop-k.k
    c.loop-k.k (omega arith)) (grind arith)
