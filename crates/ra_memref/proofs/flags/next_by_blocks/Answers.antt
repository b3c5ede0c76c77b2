use Rattle.std.proofs.Common.{Bool, List, ◌*◌, ap, arith, length, nat_lt, set, subst, sym, ◌∙◌}
use Rattle.std.proofs.lemmas.Bool.{ltb-false}
use Rattle.std.proofs.lemmas.List.{length-set}
use Rattle.ra_memref.specs.Flags.{AreBlocked, IsFirstSet, NoneSet}
use Rattle.ra_memref.proofs.FlagLemmas.{none_further, none_to_block, block_gone}
use Rattle.ra_memref.proofs.flags.next_by_blocks.Goals as goal

pub returns-in-Some-next_in-clause-first : goal.returns-in-Some-next_in-clause-first
returns-in-Some-next_in-clause-first c =
    let done = c.loop-block.invariant in
    let found = subst (λ (flags : List Bool). IsFirstSet flags c.max-at.result c.in-Some-next_in.place) done.same
    c.in-Some-next_in.ensures.first in
    let up = none_to_block c.args.flags.now c.loop-block.blocks done.blocked c.args.from c.loop-block.at c.in-Some.block
    c.max-at.result (omega (arith, c.if-at-len.false)) done.none c.in-Some.ensures.first.none_before
    (λ k low high. omega (arith, c.max-at.ensures, low, high)) in
    record {
      after = omega (arith, done.after, c.max-at.ensures, found.after);
      within = found.within;
      here = found.here;
      none_before = none_further c.args.flags.now c.args.from c.max-at.result
          c.in-Some-next_in.place up found.none_before;
    }

pub loop-block-preserved : goal.loop-block-preserved
loop-block-preserved c =
    let done = c.loop-block.invariant in
    let up = none_to_block c.args.flags.now c.loop-block.blocks done.blocked c.args.from c.loop-block.at c.in-Some.block
    c.max-at.result (omega (arith, c.if-at-len.false)) done.none c.in-Some.ensures.first.none_before
    (λ k low high. omega (arith, c.max-at.ensures, low, high)) in
    let none = subst (λ (flags : List Bool). NoneSet flags c.max-at.result c.block_end-end.result) done.same
    (c.next_in.ensures.none c.in_default-next_in.is) in
    let flag = nat_lt (c.in-Some.block * 64) c.max-at.result in
    let is = c.put.ensures.put
    ∙ ap (λ (blocks : List Bool). set blocks c.in-Some.block flag) c.next_from.ensures.same in
    record {
      same = c.next_in.ensures.same ∙ done.same;
      none = none_further c.args.flags.now c.args.from c.max-at.result c.block_end-end.result up none;
      after = omega (arith, done.after, c.max-at.ensures, c.block_end-end.ensures.further);
      tight = omega (arith, done.tight, ap length is ∙ length-set c.loop-block.blocks c.in-Some.block flag);
      blocked = subst (AreBlocked c.args.flags.now) (sym is)
          (block_gone c.args.flags.now c.loop-block.blocks done.blocked c.in-Some.block c.max-at.result
          c.block_end-end.result c.in-Some.ensures.first.within none
          (λ k below here. c.block_end-end.ensures.whole k (omega (arith, below))
          (omega (arith, here, c.max-at.ensures, c.in-Some.ensures.first.after)))
          flag (ltb-false (c.in-Some.block * 64) c.max-at.result));
    }
