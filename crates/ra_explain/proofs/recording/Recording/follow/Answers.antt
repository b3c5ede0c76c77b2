use Rattle.std.proofs.Common.{◌≡◌, ◌-◌, Bool, ap, subst, sym, ◌∙◌, arith}
use Rattle.std.proofs.Math.Path.{transport}
use Rattle.std.proofs.lemmas.Result.{IfOk-weaker, MatchResult-weaker}
use Rattle.ra_memref.specs.Marks.{reads_of}
use Rattle.ra_explain.specs.declared.refused.ExplainRefused.{ExplainRefused}
use Rattle.ra_explain.specs.Recorders.{KeepsSlots, RefusesFrame, TakesFrame}
use Rattle.ra_explain.specs.Recordings.{RecordingSeen, IsCurrent, LooksAt, ReadsFew, RefusesTold, TakesTold, over}
use Rattle.ra_explain.proofs.recording.Recording.follow.Goals as goal

pub returns-clause-taken : goal.returns-clause-taken
returns-clause-taken g c =
    let image = g.I.Image.bytes c.args.image.now in
    let old = c.args.self.now in
    let mid = c.look.new.self in
    let new = c.frame.new.self in
    let reads = g.I.Image.reads c.frame.new.image - g.I.Image.reads c.look.new.image in
    let looked = c.look.ensures.looked in
    IfOk-weaker c.frame.result _ _
    (λ (unlock : Bool) (took : TakesTold mid new (g.I.Image.bytes c.look.new.image)
    (g.I.Image.reads c.look.new.image) (g.I.Image.reads c.frame.new.image) unlock).
    let frame = transport (λ i. TakesFrame (over (looked.rest i) (c.look.ensures.bytes i))
    (over new (c.look.ensures.bytes i)) unlock) took.frame in
    let rested = transport (λ i. ReadsFew (looked.rest i) new (c.look.ensures.bytes i) reads) took.reads in
    let places : reads_of mid.marked mid.places new.places ≡ reads_of mid.marked old.places
    new.places = ap (λ (s : RecordingSeen). reads_of mid.marked s.places new.places) looked.rest in
    let marked = ap (λ ms. reads_of ms old.places new.places) looked.marked in
    let counted = took.reads.counted ∙ places ∙ marked in
    record {
      frame = frame;
      reads = record {
        unmarked = rested.unmarked;
        places = rested.places;
        counted = omega (arith, c.look.ensures.reads, counted, took.counts);
      };
      counts = omega (arith, c.look.ensures.reads, took.counts);
    })
    c.frame.ensures.taken

pub returns-clause-refused : goal.returns-clause-refused
returns-clause-refused g c =
    let image = g.I.Image.bytes c.args.image.now in
    let old = c.args.self.now in
    let mid = c.look.new.self in
    let new = c.frame.new.self in
    let looked = c.look.ensures.looked in
    MatchResult-weaker c.frame.result c.frame.ensures.refused (λ unlock none. none)
    (λ (why : ExplainRefused) (no : RefusesTold mid new (g.I.Image.bytes c.look.new.image)
    (g.I.Image.reads c.look.new.image) (g.I.Image.reads c.frame.new.image) why). record {
      refused = transport (λ i. RefusesFrame (over (looked.rest i) (c.look.ensures.bytes i)) why) no.refused;
      looked = subst (λ s. LooksAt old s image) (sym no.unchanged) looked;
      reads = no.unread ∙ c.look.ensures.reads;
    })

pub returns-clause-stays : goal.returns-clause-stays
returns-clause-stays g c =
    let looked = c.look.ensures.looked in
    let stays = c.frame.ensures.stays in
    record {
      slots = transport (λ i. KeepsSlots (over (looked.rest i) (c.look.ensures.bytes i))
          (over c.frame.new.self (c.look.ensures.bytes i))) stays.slots;
      current = subst (IsCurrent c.frame.new.self) c.look.ensures.bytes stays.current;
      size = stays.size ∙ ap (λ (s : RecordingSeen). s.size) looked.rest;
    }
