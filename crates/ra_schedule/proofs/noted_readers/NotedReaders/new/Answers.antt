use Rattle.std.proofs.Common.{◌≡◌, ◌∙◌, ap, map, replicate, rules}
use Rattle.ra_schedule.specs.Noted.{noted_seen, reader_of}
use Rattle.ra_schedule.proofs.WhoReads.NoteLemmas.{no_readers, noted_none, seen_none}
use Rattle.ra_schedule.proofs.noted_readers.NotedReaders.new.Goals as goal

pub invariant_of-result : goal.invariant_of-result
invariant_of-result c =
    let zeros : c.in_ok-lasts.lasts.items ≡ replicate c.args.nodes 0 = search rules in
    rw (c.in_ok-entries.ensures.items, zeros, no_readers c.args.nodes) (noted_none c.args.nodes c.args.readers)

pub returns : goal.returns
returns c =
    let entries = c.in_ok-entries.ensures.items in
    let zeros : c.in_ok-lasts.lasts.items ≡ replicate c.args.nodes 0 = search rules in
    let lasts = ap (map reader_of) zeros ∙ no_readers c.args.nodes in
    (λ i. noted_seen (entries i) (lasts i) c.args.readers) ∙ seen_none c.args.nodes c.args.readers
