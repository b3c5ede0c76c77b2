-- A course whose table has other marks, and nothing else that is new.
use Rattle.std.proofs.Common.{◌≡◌, ◌≤◌, ℕ, ◌∙◌, ap, sym, subst, length, List}
use Rattle.ra_indirect.specs.declared.node.Node.{Node}
use Rattle.ra_indirect.specs.Pools.{cells_of, tracked_of}
use Rattle.ra_memref.specs.Table.{TableSeen}
use Rattle.ra_set.specs.Contents.{set_contents}
use Rattle.ra_items.specs.AllRuns.{AreItemRuns}
use Rattle.ra_items.specs.Rests.{AreRests}
use Rattle.ra_display.specs.LineRests.{AreOptionalRests}
use Rattle.ra_display.specs.PresenceRuns.{IsOptionalPresence}
use Rattle.ra_runtime.specs.declared.course.Course.TheInside.{Inside}
use Rattle.ra_runtime.specs.Laid.{IsOver}
use Rattle.ra_runtime.specs.Seen.{course_seen, IsCourse}

-- the course with another table
abbrev pub with_table : Inside → TableSeen → Inside
with_table t table = record {
  set = t.set;
  shape = t.shape;
  said = t.said;
  table = table;
  runs = t.runs;
  rests = t.rests;
  presence = t.presence;
  line_rests = t.line_rests;
  size = t.size;
  count = t.count;
  last = t.last;
}

module _ (t : Inside) (is : IsCourse t) (table : TableSeen) (rest : table
    ≡ record t.table { marked = table.marked }) where
  nodes : t.table.nodes ≡ table.nodes
  nodes = sym (ap (λ (x : TableSeen). x.nodes) rest)

  values : t.table.values ≡ table.values
  values = sym (ap (λ (x : TableSeen). x.values) rest)

  pub marked_over : IsOver (set_contents t.set) table
  marked_over = record {
    cells = ap cells_of (sym nodes) ∙ is.over.cells;
    tracked = ap tracked_of (sym nodes) ∙ is.over.tracked;
    cells_many = ap (λ (x : TableSeen). length x.cells) rest ∙ is.over.cells_many;
    priors_many = ap (λ (x : TableSeen). length x.priors) rest ∙ is.over.priors_many;
  }

  pub marked_course : IsCourse (with_table t table)
  marked_course = record {
    script = is.script;
    limits = is.limits;
    lazy = is.lazy;
    names = subst (λ (ns : List Node). length ns ≤ t.shape.room) nodes is.names;
    room = is.room;
    over = marked_over;
    runs = subst (λ (ns : List Node). AreItemRuns ns (set_contents t.set).items t.runs.items) nodes is.runs;
    rests =
        subst (λ (ns : List Node). AreRests ns table.values (set_contents t.set).items t.runs.items t.rests) nodes
        (subst (λ (vs : List ℕ). AreRests t.table.nodes vs
        (set_contents t.set).items t.runs.items t.rests) values is.rests);
    told = is.told;
    presence = subst (λ (ns : List Node). IsOptionalPresence ns
        (set_contents t.set).script t.presence) nodes is.presence;
    lines =
        subst (λ (ns : List Node). AreOptionalRests ns table.values
        (set_contents t.set).script t.presence t.line_rests) nodes
        (subst (λ (vs : List ℕ). AreOptionalRests t.table.nodes vs
        (set_contents t.set).script t.presence t.line_rests) values is.lines);
    digits = is.digits;
    size = ap (λ (x : TableSeen). x.size) rest ∙ is.size;
    small = is.small;
  }

  pub marked_rest : course_seen (with_table t table) ≡ record (course_seen t) { marked = table.marked }
  marked_rest = ap (λ (x : TableSeen). course_seen (with_table t x)) rest
