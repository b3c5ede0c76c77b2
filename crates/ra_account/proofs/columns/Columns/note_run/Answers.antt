use Rattle.std.proofs.Common.{◌≡◌, ◌+◌, ◌-◌, ◌++◌, Bool, List, ℕ, replicate, append_assoc, sym, ap, subst, ◌∙◌, arith}
use Rattle.std.proofs.lemmas.List.{replicate-append-replicate}
use Rattle.ra_account.specs.Marks.{IsTimeline}
use Rattle.ra_account.proofs.columns.Columns.note_run.Goals as goal

pub loop-left-preserved : goal.loop-left-preserved
loop-left-preserved c =
    let known = c.loop-left.invariant in
    let now = c.args.now in
    let some = c.note_some-left.result in
    let left = c.loop-left.left in
    let done : ℕ = c.args.frames - left in
    let next : some + done ≡ c.args.frames - (left - some) = omega (arith, known.most, c.note_some-left.ensures.most) in
    record {
      sound = c.note_some-left.ensures.sound;
      most = omega (arith, known.most);
      long = omega (arith, known.long, c.note_some-left.ensures.long, c.note_some-left.ensures.most);
      noted = λ earlier was. subst (λ (xs : List Bool). IsTimeline xs c.note_some-left.new.self)
          (sym (append_assoc (replicate some now) (replicate done now) earlier)
          ∙ ap (λ (xs : List Bool). xs ++ earlier) (replicate-append-replicate some done now)
          ∙ ap (λ n. replicate n now ++ earlier) next)
          (c.note_some-left.ensures.noted (replicate done now ++ earlier) (known.noted earlier was));
    }
