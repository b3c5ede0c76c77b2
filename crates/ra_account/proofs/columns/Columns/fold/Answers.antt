use Rattle.std.proofs.Common.{◌≡◌, ◌+◌, ◌*◌, ◌++◌, ◌∙◌, List, take, drop, ap, sym, subst, arith, length}
use Rattle.std.proofs.Math.Seq.{take-append_seam}
use Rattle.std.specs.Vec.{with_items}
use Rattle.ra_account.specs.declared.mark.Mark.{Mark}
use Rattle.ra_account.proofs.ColumnLemmas.{AreMarks, join_marks}
use Rattle.ra_account.proofs.columns.Columns.fold.Goals as goal

pub returns-clause-joined : goal.returns-clause-joined
returns-clause-joined c = λ counts known.
    let t = c.args.self.now in
    let full : t.full * t.width ≡ 60 * t.width = ap (λ n. n * t.width) c.requires.full in
    let begun : t.begun ≡ 0 = c.requires.sound.none_begun c.requires.full in
    let frames = known.frames in
    let marks = join_marks t.width c.deref_mut.result.now c.join_pairs.new.marks counts (omega
    arith) (omega arith) (rw c.deref_mut.ensures.value known.marks_too) c.join_pairs.ensures in
    let as_many : t.marks.len ≡ length c.join_pairs.new.marks =
    sym (c.join_pairs.auto.marks ∙ c.deref_mut.ensures.len) in
    let items : (with_items t.marks c.join_pairs.new.marks).items ≡ c.join_pairs.new.marks =
    ap (λ n. take n (c.join_pairs.new.marks ++ drop (length c.join_pairs.new.marks) t.marks.items))
    as_many ∙ take-append_seam c.join_pairs.new.marks
    (drop (length c.join_pairs.new.marks) t.marks.items) in
    record {
      frames = omega arith;
      marks_too = subst (λ (ms : List Mark). AreMarks (t.width + t.width) ms counts) (sym items) marks;
    }
