use Rattle.std.proofs.Common.{arith}
use Rattle.ra_member.specs.declared.member.Member.{Member}
use Rattle.ra_member.specs.Members.{saved_hits, saved_numbers}
use Rattle.ra_member.specs.MemberRuns.{kept_by}
use Rattle.ra_member.proofs.Lengths.{row_within}
use Rattle.ra_display.proofs.shape.kept_by_lines.Goals as goal

pub shape-kept-requires-clause-hits : goal.shape-kept-requires-clause-hits
shape-kept-requires-clause-hits c =
    omega (
      arith,
      c.requires.hits,
      row_within (λ (m : Member). saved_hits (kept_by m)) c.args.lines.now c.loop-line.line-index
          c.line-item.result c.loop-line-test.true c.line-item.is,
    )

pub shape-kept-requires-clause-numbers : goal.shape-kept-requires-clause-numbers
shape-kept-requires-clause-numbers c =
    omega (
      arith,
      c.requires.numbers,
      row_within (λ (m : Member). saved_numbers (kept_by m)) c.args.lines.now c.loop-line.line-index
          c.line-item.result c.loop-line-test.true c.line-item.is,
    )

pub overflow_add-hits : goal.overflow_add-hits
overflow_add-hits c =
    omega (
      arith,
      c.requires.hits,
      c.loop-line.invariant.hits,
      c.shape-kept.ensures.hits,
      row_within (λ (m : Member). saved_hits (kept_by m)) c.args.lines.now c.loop-line.line-index
          c.line-item.result c.loop-line-test.true c.line-item.is,
    )

pub overflow_add-numbers : goal.overflow_add-numbers
overflow_add-numbers c =
    omega (
      arith,
      c.requires.numbers,
      c.loop-line.invariant.numbers,
      c.shape-kept.ensures.numbers,
      row_within (λ (m : Member). saved_numbers (kept_by m)) c.args.lines.now c.loop-line.line-index
          c.line-item.result c.loop-line-test.true c.line-item.is,
    )
