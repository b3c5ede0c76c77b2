use Rattle.std.proofs.Common.{◌≡◌, ◌∙◌, length, map, ap, subst, sym}
use Rattle.ra_links.specs.FlatRows.{AreOnRows, rows_by}
use Rattle.ra_schedule.specs.Noted.{reader_of}
use Rattle.ra_schedule.specs.Readers.{AreWithin, ReadersSeen}
use Rattle.ra_schedule.proofs.WhoReads.NoteLemmas.{many_nodes, noted_within}
use Rattle.ra_schedule.proofs.noted_readers.NotedReaders.into_entries.Goals as goal

pub returns : goal.returns
returns c =
    let s = c.self.inside in
    let lasts = map reader_of s.lasts.items in
    let many : length c.args.self.rows ≡ length lasts =
    many_nodes s.entries.items lasts s.readers c.args.self c.self.view_is in
    record {
      on = subst (λ n. AreOnRows n s.entries.items) (sym many) c.self.invariant.rows;
      rows = ap (λ n. rows_by n s.entries.items) many ∙ ap (λ (r : ReadersSeen). r.rows) c.self.view_is;
      due = ap (λ (r : ReadersSeen). r.due) c.self.view_is;
      within = subst AreWithin c.self.view_is (noted_within s.entries.items lasts s.readers c.self.invariant);
    }
