use Rattle.std.proofs.Common.{map, [], ◌∷◌, ◌++◌, ap, subst, sym, ◌∙◌}
use Rattle.ra_schedule.specs.Noted.{AreNoted, noted_seen, reader_of}
use Rattle.ra_schedule.specs.Readers.{ReadersSeen}
use Rattle.ra_schedule.proofs.WhoReads.NoteLemmas.{added_noted, added_seen, one_none}
use Rattle.ra_schedule.proofs.noted_readers.NotedReaders.add.Goals as goal

pub invariant_of-self-2 : goal.invariant_of-self-2
invariant_of-self-2 c =
    subst (λ ls. AreNoted c.self.inside.entries.items ls c.self.inside.readers)
    (sym (one_none _ _ c.in_ok-push.ensures.items))
    (added_noted c.self.inside.entries.items (map reader_of c.self.inside.lasts.items) c.self.inside.readers
    c.self.invariant)

pub returns-clause-added : goal.returns-clause-added
returns-clause-added c =
    ap (λ ls. noted_seen c.self.inside.entries.items ls c.self.inside.readers) (one_none _ _ c.in_ok-push.ensures.items)
    ∙ added_seen c.self.inside.entries.items (map reader_of c.self.inside.lasts.items) c.self.inside.readers
    c.self.invariant
    ∙ ap (λ (r : ReadersSeen). record r { rows = r.rows ++ [] ∷ [] }) c.self.view_is
