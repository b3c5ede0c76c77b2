use Rattle.std.proofs.Common.{length, take, sym, ap, subst, ◌∙◌}
use Rattle.ra_member.specs.Laid.{LaidSeen, left_nodes, right_nodes, operators}
use Rattle.ra_member.specs.Readings.{numbers_at, truths_by}
use Rattle.ra_member.specs.Runs.{HasRoom}
use Rattle.ra_member.proofs.LaidLemmas.{filled_few, filled_many}
use Rattle.ra_member.proofs.laid.Laid.fill.Goals.{in-Some, in-None}
use Rattle.ra_member.proofs.laid.Laid.fill.Goals as goal

pub returns : goal.returns
returns c =
    let values = c.args.table.now.values in
    let old = c.self.inside in
    let room = subst (λ (l : LaidSeen). HasRoom (length l.ops) l.room) (sym c.self.view_is) c.requires.room in
    rw (← c.self.view_is) (elim c.match-self.branch [
      | in-Some w ↦ rw (w.self-inside-is, w.few-is) (
          let same = w.deref.ensures.value in
          filled_many values old.turns.items old.sides.items old.room _ _
          (w.fill_many.ensures.lefts ∙ ap (λ s. numbers_at values (left_nodes s)) same)
          (w.fill_many.ensures.truths ∙ ap (λ s. truths_by (operators s) (numbers_at values (left_nodes s))
          (numbers_at values (right_nodes s))) same))
      | in-None w ↦ rw (w.self-inside-is, w.few-is) (
          let same = w.deref-in-None.ensures.value in
          filled_few values old.turns.items old.sides.items old.room _ w.in-None.is room
          (ap (λ s. take (length s) w.fill_few.new.lefts) (sym same) ∙ w.fill_few.ensures.lefts
          ∙ ap (λ s. numbers_at values (left_nodes s)) same)
          (ap (λ s. take (length s) w.fill_few.new.truths) (sym same) ∙ w.fill_few.ensures.truths
          ∙ ap (λ s. truths_by (operators s) (numbers_at values (left_nodes s))
          (numbers_at values (right_nodes s))) same))
    ])
