use Rattle.std.proofs.Common.{◌≡◌, true, false, slice_index, slice_index_or, sym, ◌∙◌, subst, arith}
use Rattle.std.proofs.lemmas.List.{get_or_past}
use Rattle.std.proofs.lemmas.Bool.{false≢true}
use Rattle.ra_schedule.specs.Readers.{Reads}
use Rattle.ra_schedule.specs.Signals.{KeepsAll}
use Rattle.ra_schedule.proofs.MembersRest.Signals.{given_more, heard_more, heard_still, hears_still, keeps_both}
use Rattle.ra_schedule.proofs.MembersRest.Signals.{keeps_itself}
use Rattle.ra_schedule.proofs.reads.note_laid.Goals.{then-place-given+then-given-place+in_ok-note_node}
use Rattle.ra_schedule.proofs.reads.note_laid.Goals.{else-place-given}
use Rattle.ra_schedule.proofs.reads.note_laid.Goals.{else-place-given-via-then-place-given+else-given-place}
use Rattle.ra_schedule.proofs.reads.note_laid.Goals.{else-place-given-via-else-place-given}
use Rattle.ra_schedule.proofs.reads.note_laid.Goals as goal

pub loop-place-preserved : goal.loop-place-preserved
loop-place-preserved c =
    let nodes = c.args.table.now.nodes in
    let laid = c.args.laid.now in
    let reader = c.args.reader in
    let place = c.loop-place.place in
    let first = c.loop-place.signals in
    let mid = c.note_compared.new.signals in
    let last = c.if-place-given.signals in
    let one = c.in_ok-note_compared.ensures in
    let left : KeepsAll nodes mid last × (slice_index_or c.args.given.now place false ≡ true
    → Reads last.readers (slice_index laid.plan.lefts place) reader) =
    elim c.if-place-given.branch [
      | then-place-given+then-given-place+in_ok-note_node w ↦ rw w.signals-is (
        w.in_ok-note_node.ensures.keeps nodes,
        λ given. subst (λ n. Reads w.note_node.new.self.readers n reader)
            w.side.ensures.left
            w.in_ok-note_node.ensures.reads,
      )
      | else-place-given w ↦ rw w.signals-is (
        keeps_itself nodes mid,
        λ given. absurd (false≢true (sym (elim w.else-place-given.branch [
          | else-place-given-via-then-place-given+else-given-place v ↦ v.if-given-place.false
          | else-place-given-via-else-place-given v ↦
              get_or_past c.args.given.now place false (omega (arith, v.if-place-given.false))
        ]) ∙ given)),
      )
    ] in
    let both = keeps_both nodes first mid last one.keeps left.0 in
    record {
      keeps = keeps_both nodes c.args.signals.now first last c.loop-place.invariant.keeps both;
      heard = heard_more last laid place reader
          (heard_still nodes first last laid place reader both c.loop-place.invariant.heard)
          (λ comparing. hears_still nodes mid last _ reader left.0 (one.heard comparing));
      read = given_more last.readers reader c.args.given.now laid place
          (λ j below given. both.kept (slice_index laid.plan.lefts j) reader
          (c.loop-place.invariant.read j below given)) left.1;
    }
