use Rattle.std.proofs.Common.{◌<◌, ◌+◌, None, [], get_or, map, set, arith, ap, subst, sym, ◌∙◌, length, length-set}
use Rattle.std.proofs.lemmas.List.{get_or_default, get_or-map, length-map}
use Rattle.ra_links.proofs.Cuts.{length-rows_by}
use Rattle.ra_schedule.specs.Noted.{noted_seen, reader_of}
use Rattle.ra_schedule.specs.Readers.{IsLast, Notes, ReadersSeen}
use Rattle.ra_schedule.proofs.WhoReads.NoteLemmas.{in_nodes, is_known, many_nodes, many_readers, noted_more}
use Rattle.ra_schedule.proofs.WhoReads.NoteLemmas.{notes_again, notes_more, reader_known, reader_next, set_reader}
use Rattle.ra_schedule.proofs.noted_readers.NotedReaders.note.Goals as goal

pub index-requires : goal.index-requires
index-requires c =
    let s = c.self.inside in
    omega (
      arith,
      c.requires.node,
      s.lasts.ok.0,
      length-map s.lasts.items reader_of,
      many_nodes s.entries.items (map reader_of s.lasts.items) s.readers c.args.self.now c.self.view_is,
    )

pub returns-then-index-last-clause-noted : goal.returns-then-index-last-clause-noted
returns-then-index-last-clause-noted c =
    let s = c.self.inside in
    let lasts = map reader_of s.lasts.items in
    let node = in_nodes s.entries.items lasts s.readers c.args.self.now c.self.view_is c.args.node c.requires.node in
    let inside : c.args.node < length s.lasts.items = omega (arith, node, length-map s.lasts.items reader_of) in
    let last = get_or_default s.lasts.items c.args.node 0 c.index.result.now inside
    ∙ sym c.index.ensures ∙ c.if-index-last.true in
    subst (λ r. Notes c.args.node c.args.reader r r) c.self.view_is
    (notes_again s.entries.items lasts s.readers c.self.invariant c.args.node c.args.reader node
    (get_or-map reader_of s.lasts.items c.args.node 0 None inside ∙ ap reader_of last ∙ reader_next c.args.reader))

pub index_mut-requires : goal.index_mut-requires
index_mut-requires c =
    let s = c.self.inside in
    omega (
      arith,
      c.requires.node,
      s.lasts.ok.0,
      length-map s.lasts.items reader_of,
      many_nodes s.entries.items (map reader_of s.lasts.items) s.readers c.args.self.now c.self.view_is,
    )

pub invariant_of-self-2 : goal.invariant_of-self-2
invariant_of-self-2 c =
    let s = c.self.inside in
    let lasts = map reader_of s.lasts.items in
    let node = in_nodes s.entries.items lasts s.readers c.args.self.now c.self.view_is c.args.node c.requires.node in
    let reader : c.args.reader < s.readers = omega (
      arith,
      c.requires.reader,
      many_readers s.entries.items lasts s.readers c.args.self.now c.self.view_is,
    ) in
    rw (c.in_ok-push.ensures.items, set_reader s.lasts.items c.args.node c.args.reader)
    (noted_more s.entries.items lasts s.readers c.self.invariant c.args.node c.args.reader node reader)

pub returns-clause-noted : goal.returns-clause-noted
returns-clause-noted c =
    let s = c.self.inside in
    let lasts = map reader_of s.lasts.items in
    let node = in_nodes s.entries.items lasts s.readers c.args.self.now c.self.view_is c.args.node c.requires.node in
    subst (λ r. Notes c.args.node c.args.reader r
    (noted_seen c.push.new.self.items (map reader_of (set s.lasts.items c.args.node (c.args.reader + 1))) s.readers))
    c.self.view_is
    (rw (c.in_ok-push.ensures.items, set_reader s.lasts.items c.args.node c.args.reader)
    (notes_more s.entries.items lasts s.readers c.self.invariant c.args.node c.args.reader node))

pub returns-clause-again : goal.returns-clause-again
returns-clause-again c = λ again.
    let s = c.self.inside in
    let lasts = map reader_of s.lasts.items in
    let node = in_nodes s.entries.items lasts s.readers c.args.self.now c.self.view_is c.args.node c.requires.node in
    let inside : c.args.node < length s.lasts.items = omega (arith, node, length-map s.lasts.items reader_of) in
    let known = is_known s.entries.items lasts s.readers c.self.invariant c.args.node c.args.reader node
    (subst (λ (r : ReadersSeen). IsLast c.args.reader (get_or r.rows c.args.node [])) (sym c.self.view_is) again) in
    let last = c.index.ensures ∙ get_or_default s.lasts.items c.args.node c.index.result.now 0 inside in
    absurd (c.if-index-last.false (reader_known c.index.result.now c.args.reader
    (ap reader_of last ∙ sym (get_or-map reader_of s.lasts.items c.args.node 0 None inside) ∙ known)))

pub returns-clause-rows : goal.returns-clause-rows
returns-clause-rows c =
    let s = c.self.inside in
    length-rows_by _ c.push.new.self.items ∙ length-map _ reader_of
    ∙ length-set s.lasts.items c.args.node (c.args.reader + 1)
    ∙ sym (length-map s.lasts.items reader_of)
    ∙ sym (many_nodes s.entries.items (map reader_of s.lasts.items) s.readers c.args.self.now c.self.view_is)
