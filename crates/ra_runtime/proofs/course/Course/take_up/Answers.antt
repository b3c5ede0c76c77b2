use Rattle.std.proofs.Common.{◌≡◌, None, length, slice_index_or, refl, sym, ◌∙◌, ap, subst, arith}
use Rattle.ra_set.specs.Contents.{set_contents}
use Rattle.ra_progress.specs.Contents.{ShapeContents}
use Rattle.ra_progress.specs.Room.{IsFilled, IsRoom, Says}
use Rattle.ra_runtime.proofs.PutBack.{IsPutBack, back_earned, back_seen, back_shown, course_back, current_back}
use Rattle.ra_runtime.proofs.LazyNames.{FitNumbers, course_made, numbers_fit}
use Rattle.ra_runtime.proofs.TakenUp.{over_restored, marked_restored, kept_restored}
use Rattle.ra_runtime.proofs.MadeBlocks.{accepted_made, display_made, items_made, many_places, presence_made}
use Rattle.ra_runtime.proofs.course.Course.take_up.Goals as goal

pub read-requires : goal.read-requires
read-requires c =
    let made = course_made c.self.inside c.self.invariant c.make.new.self c.make.ensures in
    record {
      accepted = accepted_made c.self.invariant made c.self.view_is c.requires;
      usable = made.whole_now.usable;
      room = subst (λ (s : ShapeContents). IsRoom s c.self.inside.said) (sym made.whole_now.same)
          c.self.invariant.room;
    }

pub take_numbers-requires : goal.take_numbers-requires
take_numbers-requires c =
    let made = course_made c.self.inside c.self.invariant c.make.new.self c.make.ensures in
    let f : FitNumbers c.self.inside.table c.read.new.self.cells.items c.read.new.self.priors.items =
    numbers_fit c.self.inside c.self.invariant c.make.new.self made c.read.new.self c.read.ensures.filled in
    rw (c.deref.ensures.value, c.deref-2.ensures.value)
    (record { cells = f.cells_many; priors = f.priors_many; few_cells = f.few_cells; few_priors = f.few_priors })

pub put_back_runs-requires : goal.put_back_runs-requires
put_back_runs-requires c =
    let made = course_made c.self.inside c.self.invariant c.make.new.self c.make.ensures in
    rw (c.deref_mut.ensures.value, c.deref-3.ensures.value) (record {
      many = many_places c.self.invariant made c.self.view_is c.requires c.read.new.self c.read.ensures.filled;
      blocks = items_made c.self.invariant made c.self.view_is c.requires _ c.read.ensures.says.places;
    })

pub put_back_presence-requires : goal.put_back_presence-requires
put_back_presence-requires c =
    let made = course_made c.self.inside c.self.invariant c.make.new.self c.make.ensures in
    let many : c.len.result ≡ length c.self.inside.runs.items = omega
    (arith, c.len.ensures, c.put_back_runs.auto.runs, c.deref_mut.ensures.len) in
    record {
      shape = presence_made c.self.invariant made;
      block = display_made c.self.invariant made c.self.view_is c.requires c.place-display.result
          (c.place-display.ensures ∙ (λ i. slice_index_or (c.read.ensures.says.places i) (many i) None));
    }

-- what the bytes say is taken up
back : (c : goal.After-self-3-1) → IsPutBack c.self.inside c.take_numbers.new.table c.read.new.self.cells.items
    c.read.new.self.priors.items c.args.bytes.now c.read.new.self.places.items c.place-display.result
    c.put_back_runs.new.runs c.forget.new.self c.put_back_presence.new.run c.forget-2.new.self
back c =
    let puts = rw (c.deref_mut.ensures.value, c.deref-3.ensures.value) at c.put_back_runs.ensures in
    record {
      takes = rw (c.deref.ensures.value, c.deref-2.ensures.value) at c.take_numbers.ensures;
      kept = puts.kept;
      runs = puts.runs;
      many = c.put_back_runs.auto.runs ∙ c.deref_mut.ensures.len;
      each = c.forget.ensures.each;
      seen = c.forget.ensures.kept;
      presence = c.put_back_presence.ensures;
      lines_too = record { each = c.forget-2.ensures.each; kept = c.forget-2.ensures.kept };
    }

pub invariant_of-self : goal.invariant_of-self
invariant_of-self c =
    let made = course_made c.self.inside c.self.invariant c.make.new.self c.make.ensures in
    let room = subst (λ (s : ShapeContents). IsRoom s c.read.new.self) made.whole_now.same c.read.ensures.room in
    let filled = subst (λ (s : ShapeContents). IsFilled s c.read.new.self) made.whole_now.same c.read.ensures.filled in
    course_back c.self.invariant (back c) c.make.new.self made.lazy (rw made.room c.self.invariant.names)
    c.read.new.self room (over_restored _ _ _ c.self.invariant.over c.args.bytes.now _ filled (back c).takes) _ None
    refl

pub returns-clause-taken : goal.returns-clause-taken
returns-clause-taken c =
    let t = c.self.inside in
    let set = set_contents t.set in
    let inv = c.self.invariant in
    let made = course_made t inv c.make.new.self c.make.ensures in
    let said = c.read.new.self in
    let room = subst (λ (s : ShapeContents). IsFilled s said) made.whole_now.same c.read.ensures.filled in
    let says = subst (λ (s : ShapeContents). Says s c.args.bytes.now said) made.whole_now.same c.read.ensures.says in
    rw (← c.self.view_is) (λ image. record {
      set = refl;
      image = refl;
      kept = kept_restored set t.table c.take_numbers.new.table inv.over c.args.bytes.now said room (back c).takes
          says t.runs.items _ _ t.presence c.put_back_presence.new.run _ inv.runs inv.presence
          (back_earned inv (back c)) (back_seen inv (back c)) c.place-display.result
          (c.place-display.ensures ∙ ap (λ n. slice_index_or said.places.items n None)
          (omega (arith, c.len.ensures, c.put_back_runs.auto.runs, c.deref_mut.ensures.len)))
          c.put_back_presence.ensures (back_shown inv (back c)) _ c.frames_at-self-inside.ensures;
      events = refl;
      lines = refl;
      marked = marked_restored set t.table c.take_numbers.new.table inv.over c.args.bytes.now said room (back c).takes;
      places = (back c).takes.places;
    })

pub returns-clause-current : goal.returns-clause-current
returns-clause-current c =
    let made = course_made c.self.inside c.self.invariant c.make.new.self c.make.ensures in
    let room = subst (λ (s : ShapeContents). IsFilled s c.read.new.self) made.whole_now.same c.read.ensures.filled in
    current_back c.self.invariant (back c)
    (over_restored _ _ _ c.self.invariant.over c.args.bytes.now c.read.new.self room (back c).takes)
