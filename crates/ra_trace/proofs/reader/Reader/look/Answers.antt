use Rattle.std.proofs.Common.{rules}
use Rattle.ra_trace.specs.Heads.{why_of}
use Rattle.ra_trace.proofs.Looking.{knows_by, falls}
use Rattle.ra_trace.proofs.reader.Reader.look.Goals.{in-Err-Cut, in_default, in_default-2}
use Rattle.ra_trace.proofs.reader.Reader.look.Goals as goal

pub loop-more-smaller : goal.loop-more-smaller
loop-more-smaller g c =
    let on = c.in_ok-more.ensures.on in
    rw c.loop-more-test.true (falls c.loop-more.self.limit c.loop-more.self.taken
    c.read_on.new.self.limit c.read_on.new.self.taken c.in_ok-more.more on.same.limit
    on.inside.within on.later on.on)

pub returns-else-matches-clause-knows : goal.returns-else-matches-clause-knows
returns-else-matches-clause-knows g c =
    let i = c.loop-more.invariant in
    knows_by _ c.args.size c.loop-more.more (why_of c.loop-more.found) c.args.self.now
    c.loop-more.self i.inside i.kept i.sized i.last i.next i.here i.holds i.end
    (λ cut. elim c.match-matches.branch [
      | in-Err-Cut w ↦ search rules
      | in_default w ↦ search rules
      | in_default-2 w ↦ search rules
    ])

pub returns-after-loop-more-clause-knows : goal.returns-after-loop-more-clause-knows
returns-after-loop-more-clause-knows g c =
    let i = c.loop-more.invariant in
    knows_by _ c.args.size c.loop-more.more (why_of c.loop-more.found) c.args.self.now
    c.loop-more.self i.inside i.kept i.sized i.last i.next i.here i.holds i.end
    (λ cut. search rules)
