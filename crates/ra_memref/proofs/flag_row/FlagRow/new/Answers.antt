use Rattle.std.proofs.Common.{length, true, ◌+◌, ◌/◌, ap, ◌∙◌, arith}
use Rattle.std.proofs.lemmas.List.{length-replicate}
use Rattle.ra_memref.proofs.FlagLemmas.{worded_full}
use Rattle.ra_memref.proofs.flag_row.FlagRow.new.Goals as goal

pub invariant_of-result : goal.invariant_of-result
invariant_of-result c =
    worded_full c.in_ok-flags.flags.items c.in_ok-words.words.items (c.args.count / 64 + 1) c.in_ok-words.ensures
    (omega (arith, ap length c.in_ok-flags.ensures ∙ length-replicate c.args.count true))
