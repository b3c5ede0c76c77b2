use Rattle.std.proofs.Common.{◌≡◌, ◌+◌, ℕ, refl, ap, subst}
use Rattle.std.proofs.lemmas.Result.{on_ok_weaker}
use Rattle.ra_indirect.specs.Interned.{Interns}
use Rattle.ra_schedule.specs.Readers.{Notes, ReadersSeen, Reads}
use Rattle.ra_schedule.specs.Signals.{NotesComparison, SignalsSeen}
use Rattle.ra_schedule.specs.declared.signals.Signals.TheInside.{Inside}
use Rattle.ra_schedule.proofs.MembersRest.Signals.{comparison_noted}
use Rattle.ra_schedule.proofs.WhoReads.Rows.{reads_still}
use Rattle.ra_schedule.proofs.signals.Signals.note_comparison.Goals.{then-nodes-self+in_ok-add, else-nodes-self}
use Rattle.ra_schedule.proofs.signals.Signals.note_comparison.Goals as goal

-- with room for one row more, nothing else is another
record HasRow (old mid : Inside) : Type 0 where
  nodes : mid.nodes ≡ old.nodes
  comparisons : mid.comparisons ≡ old.comparisons
  kept : (s r : ℕ) → Reads old.readers s r → Reads mid.readers s r
  due : mid.readers.due ≡ old.readers.due

pub returns : goal.returns
returns c =
    let s = c.self.inside in
    let q = c.if-nodes-self.self-inside in
    let number = c.in_ok-number.number in
    let row : HasRow s q = elim c.if-nodes-self.branch [
      | then-nodes-self+in_ok-add w ↦ rw w.self-inside-is (record {
        nodes = refl;
        comparisons = refl;
        kept = λ n r reads. rw w.in_ok-add.ensures.added (reads_still s.readers n r reads);
        due = ap (λ (rs : ReadersSeen). rs.due) w.in_ok-add.ensures.added;
      })
      | else-nodes-self w ↦ rw w.self-inside-is
          (record { nodes = refl; comparisons = refl; kept = λ n r reads. reads; due = refl })
    ] in
    let before : SignalsSeen = record { nodes = s.nodes; comparisons = s.comparisons; readers = s.readers } in
    let after : SignalsSeen = record { nodes = q.nodes; comparisons = c.intern.new.self; readers = c.note.new.self } in
    on_ok_weaker c.note.result
    (λ notes. subst (λ (old : SignalsSeen). NotesComparison c.args.comparison c.args.reader old after) c.self.view_is
    (comparison_noted c.args.comparison c.args.reader number before after q.readers row.nodes
    (subst (λ cs. Interns cs c.intern.new.self c.args.comparison number) row.comparisons
    c.in_ok-number.ensures.ok) row.kept row.due
    (subst (λ n. Notes (n + number) c.args.reader q.readers c.note.new.self) row.nodes notes))) c.note.ensures.noted
