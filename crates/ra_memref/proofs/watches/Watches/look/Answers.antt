use Rattle.std.proofs.Common.{List, Bool, ◌≡◌, ◌||◌, true, length, get_or, slice_index, refl, ap, arith, ◌∙◌}
use Rattle.ra_memref.specs.Marking.{is_other}
use Rattle.ra_memref.proofs.MarkLemmas.{length-marked_by, marked_past}
use Rattle.ra_memref.proofs.watches.Watches.look.Goals as goal

pub returns-clause-marks : goal.returns-clause-marks
returns-clause-marks g c =
    let anew = rw (c.deref.ensures.value, c.deref-2.ensures.value) at c.mark_anew-anew.ensures.marked in
    let long = c.mark_anew-anew.ensures.long in
    let own = c.own_marks-self-inside.ensures in
    let many : length c.mark_anew-anew.new.marks ≡ length c.self.inside.places.items =
    omega (arith, long, own.long, c.self.invariant.indexed.marks_too) in
    rw (← c.self.view_is) (record {
      rest = refl;
      long = length-marked_by c.own_marks-self-inside.result c.mark_anew-anew.new.marks ∙ long ∙ ap length own.own;
      marked = λ k below.
          ap (λ (ms : List Bool). get_or ms k true) (marked_past c.own_marks-self-inside.result
          c.mark_anew-anew.new.marks (omega (arith, many, own.past, c.len.ensures)))
          ∙ anew k (omega (arith, below, own.long, c.self.invariant.indexed.marks_too))
          ∙ ap (λ (ms : List Bool). get_or ms k true || is_other (g.I.Image.bytes c.args.image.now)
          (slice_index c.self.inside.widths.items k) (slice_index c.self.inside.places.items k)
          (slice_index c.args.numbers.now k)) own.own;
    })
