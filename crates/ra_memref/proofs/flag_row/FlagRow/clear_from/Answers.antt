use Rattle.std.proofs.Common.{◌+◌, ◌/◌, arith}
use Rattle.ra_memref.proofs.FlagLemmas.{cleared_worded}
use Rattle.ra_memref.proofs.flag_row.FlagRow.clear_from.Goals as goal

pub invariant_of-self : goal.invariant_of-self
invariant_of-self c =
    cleared_worded c.self.inside.flags.items c.clear.new.flags.items c.self.inside.words.items
    c.clear_words.new.words.items c.args.from (c.args.from / 64 + 1)
    (record { long = c.clear.ensures.long; before = c.clear.ensures.before; none = c.clear.ensures.none })
    c.self.invariant c.clear_words.ensures.long (omega arith) c.clear_words.ensures.before
