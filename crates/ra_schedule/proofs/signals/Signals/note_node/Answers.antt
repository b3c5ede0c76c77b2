use Rattle.std.proofs.Common.{refl, subst}
use Rattle.std.proofs.lemmas.Result.{on_ok_weaker}
use Rattle.ra_schedule.specs.Signals.{NotesNode, SignalsSeen}
use Rattle.ra_schedule.proofs.MembersRest.Signals.{node_noted}
use Rattle.ra_schedule.proofs.signals.Signals.note_node.Goals as goal

pub returns : goal.returns
returns c =
    let s = c.self.inside in
    let before : SignalsSeen = record { nodes = s.nodes; comparisons = s.comparisons; readers = s.readers } in
    let after : SignalsSeen = record { nodes = s.nodes; comparisons = s.comparisons; readers = c.note.new.self } in
    on_ok_weaker c.note.result
    (λ notes. subst (λ (old : SignalsSeen). NotesNode c.args.node c.args.reader old after) c.self.view_is
    (node_noted c.args.node c.args.reader before after refl refl notes)) c.note.ensures.noted
