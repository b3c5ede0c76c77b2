use Rattle.std.proofs.Common.{◌≡◌, ℕ, Option, IfSome, length, map, refl, sym, ◌∙◌, ap, subst, arith}
use Rattle.std.specs.Vec.{with_items}
use Rattle.std.proofs.lemmas.List.{length-map}
use Rattle.ra_set.specs.Contents.{set_contents}
use Rattle.ra_progress.specs.declared.shape.PresenceShape.{PresenceShape}
use Rattle.ra_progress.specs.Contents.{ShapeContents}
use Rattle.ra_items.specs.AllRuns.{all_events}
use Rattle.ra_items.specs.Shapes.{run_shape}
use Rattle.ra_items.proofs.ShapeLemmas.{runs_shaped}
use Rattle.ra_display.specs.PresenceBack.{HasDisplay}
use Rattle.ra_meaning.specs.Order.{shape_of}
use Rattle.ra_runtime.specs.Keeping.{IsKeptFor}
use Rattle.ra_runtime.specs.Seen.{events_where, lines_where}
use Rattle.ra_runtime.proofs.LaidShapes.{presence_shaped}
use Rattle.ra_runtime.proofs.PutBack.{IsPutBack, back_earned, back_seen, back_shown, course_back, current_back}
use Rattle.ra_runtime.proofs.TakenStates.{kept_taken, many_kept, marked_taken, over_taken}
use Rattle.ra_runtime.proofs.course.Course.take_kept.Goals as goal

pub take_numbers-requires-clause-cells : goal.take_numbers-requires-clause-cells
take_numbers-requires-clause-cells c = ap length c.cells.ensures
    ∙ (many_kept c.self.inside.table c.self.invariant.over (rw (← c.self.view_is) at c.requires)).0

pub take_numbers-requires-clause-priors : goal.take_numbers-requires-clause-priors
take_numbers-requires-clause-priors c = ap length c.priors.ensures
    ∙ (many_kept c.self.inside.table c.self.invariant.over (rw (← c.self.view_is) at c.requires)).1

pub put_back_runs-requires : goal.put_back_runs-requires
put_back_runs-requires c =
    let t = c.self.inside in
    let for_it : IsKeptFor (shape_of (set_contents t.set)) c.args.kept.now = rw (← c.self.view_is) at c.requires in
    let same : map run_shape c.deref_mut.result.now ≡ c.args.kept.now.items =
    ap (map run_shape) c.deref_mut.ensures.value
    ∙ runs_shaped t.table.nodes (set_contents t.set).items t.runs.items c.self.invariant.runs ∙ sym for_it.items in
    let long : length c.deref_mut.result.now ≡ length c.args.kept.now.items = omega
    (arith, ap length same, length-map c.deref_mut.result.now run_shape) in
    record {
      many = omega (arith, long, c.blocks-display.ensures.many);
      blocks = λ k d less. rw same (c.blocks-display.ensures.has k d (omega (arith, less, long)));
    }

pub put_back_presence-requires : goal.put_back_presence-requires
put_back_presence-requires c =
    let t = c.self.inside in
    let for_it : IsKeptFor (shape_of (set_contents t.set)) c.args.kept.now = rw (← c.self.view_is) at c.requires in
    let same = ap (λ (s : ShapeContents). s.presence) c.self.invariant.lazy.shape in
    record {
      shape = same ∙ sym (presence_shaped _ _ t.presence c.self.invariant.presence);
      block = subst (λ (p : Option PresenceShape). IfSome p (HasDisplay c.blocks-display.result.0.now
          c.blocks-display.result.2)) (sym (same ∙ sym for_it.presence)) c.blocks-display.ensures.shows;
    }

-- the numbers and blocks of the state are taken up
back : (c : goal.After-take-last) → IsPutBack c.self.inside c.take_numbers.new.table c.args.kept.now.opening.cells
    c.args.kept.now.opening.priors c.blocks-display.result.0.now c.blocks-display.result.1.now
    c.blocks-display.result.2 c.put_back_runs.new.runs c.forget.new.self c.put_back_presence.new.run
    c.forget-2.new.self
back c =
    let puts = rw c.deref_mut.ensures.value at c.put_back_runs.ensures in
    record {
      takes = rw (c.cells.ensures, c.priors.ensures) at c.take_numbers.ensures;
      kept = puts.kept;
      runs = puts.runs;
      many = c.put_back_runs.auto.runs ∙ c.deref_mut.ensures.len;
      each = c.forget.ensures.each;
      seen = c.forget.ensures.kept;
      presence = c.put_back_presence.ensures;
      lines_too = record { each = c.forget-2.ensures.each; kept = c.forget-2.ensures.kept };
    }

pub invariant_of-self : goal.invariant_of-self
invariant_of-self c =
    let t = c.self.inside in
    let inv = c.self.invariant in
    let for_it : IsKeptFor (shape_of (set_contents t.set)) c.args.kept.now = rw (← c.self.view_is) at c.requires in
    course_back inv (back c) t.shape inv.lazy inv.names t.said inv.room (over_taken (set_contents t.set) t.table
    c.take_numbers.new.table inv.over c.args.kept.now for_it (back c).takes) _ _ c.take-last.ensures.after

pub returns : goal.returns
returns c =
    let t = c.self.inside in
    let set = set_contents t.set in
    let inv = c.self.invariant in
    let kept = c.args.kept.now in
    let table = c.take_numbers.new.table in
    let for_it : IsKeptFor (shape_of set) kept = rw (← c.self.view_is) at c.requires in
    let told = all_events set.items (with_items t.runs c.put_back_runs.new.runs).items in
    rw (← c.self.view_is) (record {
      set = refl;
      size = refl;
      kept = kept_taken set t.table table inv.over kept for_it (back c).takes c.blocks-display.result.0.now
          c.blocks-display.result.1.now c.blocks-display.result.2 c.blocks-display.ensures t.runs.items _ _
          t.presence c.put_back_presence.new.run _ inv.runs inv.presence (back_earned inv (back c))
          (back_seen inv (back c)) c.put_back_presence.ensures (back_shown inv (back c))
          c.frames-self-inside.result c.frames-self-inside.ensures;
      events = ap (λ (o : Option ℕ). events_where o told) c.take-last.ensures.after;
      lines = ap (λ (o : Option ℕ). lines_where o told) c.take-last.ensures.after;
      marked = marked_taken set t.table table inv.over kept for_it (back c).takes;
      places = (back c).takes.places;
      current = current_back inv (back c) (over_taken set t.table table inv.over kept for_it (back c).takes);
    })
