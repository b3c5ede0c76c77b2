use Rattle.std.proofs.Common.{length, true, ap, ◌∙◌, arith}
use Rattle.std.proofs.lemmas.List.{length-replicate}
use Rattle.ra_memref.proofs.FlagLemmas.{worded_full}
use Rattle.ra_memref.proofs.flag_row.FlagRow.fill.Goals as goal

pub invariant_of-self : goal.invariant_of-self
invariant_of-self c =
    let count = length c.self.inside.flags.items in
    worded_full c.fill_flags.new.flags.items c.fill_words.new.words.items (length c.self.inside.words.items)
    c.fill_words.ensures
    (omega (arith, c.self.invariant.enough, ap length c.fill_flags.ensures ∙ length-replicate count true))
