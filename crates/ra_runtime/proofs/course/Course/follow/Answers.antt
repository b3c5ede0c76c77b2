use Rattle.std.proofs.Common.{◌≡◌, ◌-◌, ap, subst, ◌∙◌, arith}
use Rattle.ra_memref.specs.Marks.{reads_of}
use Rattle.ra_meaning.specs.Runtime.{ReadsFew, TakesFrame}
use Rattle.ra_runtime.specs.Courses.{CourseSeen, over, TakesImage}
use Rattle.ra_runtime.proofs.course.Course.follow.Goals as goal

pub returns-clause-taken : goal.returns-clause-taken
returns-clause-taken g c =
    let image = g.I.Image.bytes c.args.image.now in
    let new = c.frame.new.self in
    let rest = c.look.ensures.looked.rest in
    let taken : TakesImage c.look.new.self new image =
    subst (TakesImage c.look.new.self new) c.look.ensures.bytes c.frame.ensures.taken in
    let t = subst (λ s. TakesFrame (over s image) (over new image)) rest taken.frame in
    record {
      frame = record {
        set = t.set;
        image = t.image;
        kept = t.kept;
        earned = t.earned;
        events = t.events;
        lines = t.lines;
      };
      current = taken.current;
      size = taken.size ∙ ap (λ (s : CourseSeen). s.size) rest;
    }

pub returns-clause-reads : goal.returns-clause-reads
returns-clause-reads g c =
    let image = g.I.Image.bytes c.args.image.now in
    let old = c.args.self.now in
    let mid = c.look.new.self in
    let new = c.frame.new.self in
    let reads = g.I.Image.reads c.frame.new.image - g.I.Image.reads c.look.new.image in
    let looked = c.look.ensures.looked in
    let few : ReadsFew (over mid image) (over new image) reads = subst (λ bytes. ReadsFew
    (over mid bytes) (over new bytes) reads) c.look.ensures.bytes c.frame.ensures.reads in
    let places : reads_of mid.marked mid.places new.places ≡ reads_of mid.marked old.places
    new.places = ap (λ (s : CourseSeen). reads_of mid.marked s.places new.places) looked.rest in
    let marked = ap (λ ms. reads_of ms old.places new.places) looked.marked in
    let rested = subst (λ (s : CourseSeen). ReadsFew (over s image) (over new image) reads) looked.rest few in
    let counted = few.counted ∙ places ∙ marked in
    record {
      unmarked = rested.unmarked;
      places = rested.places;
      counted = omega (arith, c.look.ensures.reads, counted, c.frame.ensures.counts);
    }
