use Rattle.std.proofs.Common.{◌≡◌, ◌-◌, ap, subst, ◌∙◌, arith}
use Rattle.ra_memref.specs.Marks.{reads_of}
use Rattle.ra_memref.specs.Table.{TableSeen, Samples, ListsChanged, ReadsWanted}
use Rattle.ra_memref.proofs.table.Table.follow.Goals as goal

pub returns-clause-taken : goal.returns-clause-taken
returns-clause-taken g c =
    let image = g.I.Image.bytes c.args.image.now in
    let taken : Samples c.look.new.self c.sample.new.self image = subst (λ bytes. Samples
    c.look.new.self c.sample.new.self bytes) c.look.ensures.bytes c.sample.ensures.taken in
    let s = subst (λ t. Samples t c.sample.new.self image) c.look.ensures.looked.rest taken in
    record {
      pool = s.pool;
      kept = s.kept;
      values = s.values;
      is_sampled = s.is_sampled;
      places = s.places;
      agrees = s.agrees;
    }

pub returns-clause-changed : goal.returns-clause-changed
returns-clause-changed g c =
    let s = subst (λ t. ListsChanged t c.sample.new.self) c.look.ensures.looked.rest c.sample.ensures.changed in
    record { each = s.each; nodes = s.nodes; few = s.few }

pub returns-clause-reads : goal.returns-clause-reads
returns-clause-reads g c =
    let old = c.args.self.now in
    let mid = c.look.new.self in
    let new = c.sample.new.self in
    let looked = c.look.ensures.looked in
    let wanted = c.sample.ensures.reads in
    let places : reads_of mid.marked mid.places new.places ≡ reads_of mid.marked old.places
    new.places = ap (λ (t : TableSeen). reads_of mid.marked t.places new.places) looked.rest in
    let marked = ap (λ ms. reads_of ms old.places new.places) looked.marked in
    let counted = wanted.counted ∙ places ∙ marked in
    record {
      unmarked = (subst (λ (t : TableSeen). ReadsWanted t new (g.I.Image.reads
          c.sample.new.image - g.I.Image.reads c.look.new.image)) looked.rest wanted).unmarked;
      counted = omega (arith, c.look.ensures.reads, counted, c.sample.ensures.counts);
    }
