use Rattle.std.proofs.Common.{arith}
use Rattle.ra_memref.proofs.FlagLemmas.{blocked_between}
use Rattle.ra_memref.proofs.flags.Flags.set_whole.Goals as goal

pub invariant_of-self : goal.invariant_of-self
invariant_of-self c =
    let is = c.self.invariant in
    let sets = c.set_between.ensures in
    let fills = c.set_between-2.ensures in
    record {
      in_blocks = record {
        tight = omega (arith, is.in_blocks.tight, sets.long, fills.long);
        blocked = blocked_between c.self.inside.flags c.set_between.new.self c.self.inside.blocks
            c.set_between-2.new.self c.args.from c.args.to c.requires.some sets fills is.in_blocks.blocked;
      };
      none = λ none. cc;
    }
