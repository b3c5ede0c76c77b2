use Rattle.std.proofs.Common.{List, Bool, ap, arith, length, ◌∙◌}
use Rattle.ra_memref.specs.contracts.watches.Watches.{the_view}
use Rattle.ra_memref.proofs.MarkLemmas.{owned}
use Rattle.ra_memref.proofs.Indexed.{rewatched}
use Rattle.ra_memref.proofs.watches.Watches.next_marked.Goals as goal

pub invariant_of-self : goal.invariant_of-self
invariant_of-self c =
    rewatched (ap length c.next_from.ensures.same ∙ c.own_marks-self-inside.ensures.long) c.self.invariant

pub returns-clause-same : goal.returns-clause-same
returns-clause-same c =
    ap (λ (marks : List Bool). record (the_view c.self.inside) { marked = marks })
    (owned c.self.inside.marked_from c.own_marks-self-inside.result c.self.inside.marks c.next_from.new.self
    (omega (arith, c.own_marks-self-inside.ensures.past, c.len.ensures, c.self.invariant.indexed.marks_too))
    (c.next_from.ensures.same ∙ c.own_marks-self-inside.ensures.own)) ∙ c.self.view_is
