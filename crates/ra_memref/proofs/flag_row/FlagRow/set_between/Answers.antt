use Rattle.ra_memref.proofs.FlagLemmas.{worded_between}
use Rattle.ra_memref.proofs.flag_row.FlagRow.set_between.Goals as goal

pub invariant_of-self : goal.invariant_of-self
invariant_of-self c =
    worded_between c.self.inside.flags.items c.set_each.new.flags.items c.self.inside.words.items
    c.fill_between.new.words.items c.args.from c.args.to c.requires.some c.set_each.ensures c.fill_between.ensures
    c.self.invariant
