use Rattle.std.proofs.Common.{◌-◌, None, leb, sym, arith, rules}
use Rattle.std.proofs.lemmas.List.Sorted.{IsPartitionPoint-from_clause, IsPartitionedBy-leb}
use Rattle.ra_richpresence.specs.declared.span.Span.{Span}
use Rattle.ra_richpresence.proofs.SpanMerges.{froms}
use Rattle.ra_richpresence.proofs.SpanRows.{found-none, found-last}
use Rattle.ra_richpresence.proofs.looked_up.line_at.Goals as goal

pub returns-then-behind-eq0 : goal.returns-then-behind-eq0
returns-then-behind-eq0 c =
    let point = IsPartitionPoint-from_clause (λ (s : Span). leb s.from c.args.number) c.args.spans.now
    c.partition_point-behind.result c.partition_point-behind.ensures.partitioned
    (IsPartitionedBy-leb froms c.args.spans.now c.args.number c.requires) (λ a r q k. search rules) in
    let none : Span = record { from = 0; line = None } in
    sym (found-none None c.args.spans.now c.args.number none (λ k less. point.1 k none (omega arith) less))

pub returns-else-behind-eq0 : goal.returns-else-behind-eq0
returns-else-behind-eq0 c =
    let point = IsPartitionPoint-from_clause (λ (s : Span). leb s.from c.args.number) c.args.spans.now
    c.partition_point-behind.result c.partition_point-behind.ensures.partitioned
    (IsPartitionedBy-leb froms c.args.spans.now c.args.number c.requires) (λ a r q k. search rules) in
    let none : Span = record { from = 0; line = None } in
    let last = c.partition_point-behind.result - 1 in
    sym (found-last None c.args.spans.now last c.args.number none
    (omega (arith, c.partition_point-behind.ensures.bound)) (λ k low. point.0 k none (omega arith) (omega arith))
    (λ k above less. point.1 k none (omega arith) less))
