use Rattle.std.proofs.Common.{refl}
use Rattle.ra_set.proofs.KeptLemmas.{keeps-item}
use Rattle.ra_set.proofs.kept_lines.KeptLines.add_item.Goals as goal

pub returns-clause-kept : goal.returns-clause-kept
returns-clause-kept c = λ lines k. keeps-item c.args.self.now c.note_id.new.self _ lines c.args.item
    c.in_ok-note_id.ensures.noted (c.in_ok-push.ensures.items) refl refl refl k
