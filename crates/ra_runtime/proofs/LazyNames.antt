-- A shape whose names of cells and tracked masks are made late stands for one shape.
use Rattle.std.proofs.Common.{◌≡◌, ℕ, ◌+◌, ◌*◌, ◌<◌, ◌≤◌, ◌^◌, true, false, List, length, map, sum_by, ap, sym, subst}
use Rattle.std.proofs.Common.{◌∙◌, arith}
use Rattle.std.proofs.lemmas.List.{length-map}
use Rattle.ra_memref.specs.Names.{cell_name, tracked_name}
use Rattle.ra_memref.specs.Table.{TableSeen}
use Rattle.ra_set.specs.Contents.{SetContents, set_contents}
use Rattle.ra_progress.specs.declared.shape.Shape.{Shape}
use Rattle.ra_progress.specs.Contents.{Name, ShapeContents, shape_contents}
use Rattle.ra_progress.specs.Layout.{length_of, length_with}
use Rattle.ra_progress.specs.Names.{IsOrder, IsPaired, entry_names}
use Rattle.ra_progress.specs.Room.{IsFilled}
use Rattle.ra_progress.specs.declared.said.Said.{Said}
use Rattle.ra_meaning.specs.Order.{set_cells, set_tracked, shape_of}
use Rattle.ra_runtime.specs.declared.course.Course.TheInside.{Inside}
use Rattle.ra_runtime.specs.declared.lazy_shape.LazyShape.{LazyShape}
use Rattle.ra_runtime.specs.Laid.{IsOver}
use Rattle.ra_runtime.specs.Seen.{IsCourse}
use Rattle.ra_runtime.specs.Lazy.{HasNameRoom, HasRows, IsCopy, IsLazy, IsWhole, MakesNames, MayName, NamesTable}
use Rattle.ra_runtime.specs.Lazy.{with_names}

-- the names of a set are those of a table over it
pub names_table : (set : SetContents) (table : TableSeen) → IsOver set table → NamesTable table (shape_of set)
names_table set table over = record {
  cells = ap (map cell_name) over.cells;
  priors = ap (map tracked_name) over.tracked;
  many_cells = over.cells_many ∙ sym (length-map (set_cells set) cell_name);
  many_priors = over.priors_many ∙ sym (length-map (set_tracked set) tracked_name);
}

-- a course has room for the names of its table
pub may_name : (t : Inside) → IsCourse t → MayName t.table t.shape
may_name t is =
    let names = names_table (set_contents t.set) t.table is.over in
    record {
      nodes = is.names;
      room = subst (λ n. HasNameRoom n (length t.table.priors) t.shape) (sym names.many_cells)
          (subst (λ n. HasNameRoom (length (shape_of (set_contents t.set)).cells) n t.shape)
          (sym names.many_priors) is.lazy.room);
    }

-- a course with other names is the same course
abbrev pub with_shape : Inside → LazyShape → Inside
with_shape t shape = record {
  set = t.set;
  shape = shape;
  said = t.said;
  table = t.table;
  runs =
      t.runs;
  rests = t.rests;
  presence = t.presence;
  line_rests = t.line_rests;
  size =
      t.size;
  count = t.count;
  last = t.last;
}

pub named_course : (t : Inside) (is : IsCourse t) (shape : LazyShape)
    → MakesNames (shape_of (set_contents t.set)) t.shape shape → IsCourse (with_shape t shape)
named_course t is shape made = record {
  script = is.script;
  limits = is.limits;
  lazy = made.lazy;
  names = subst (λ n. length t.table.nodes ≤ n) (sym made.room) is.names;
  room = is.room;
  over = is.over;
  runs = is.runs;
  rests = is.rests;
  told = is.told;
  presence = is.presence;
  lines = is.lines;
  digits = is.digits;
  size = is.size;
  small = is.small;
}

-- what a call that makes the names of a course does to its shape
pub course_made : (t : Inside) (is : IsCourse t) (shape : LazyShape)
    → ((whole : ShapeContents) → IsLazy whole t.shape → NamesTable t.table whole → MakesNames whole t.shape shape)
    → MakesNames (shape_of (set_contents t.set)) t.shape shape
course_made t is shape makes = makes (shape_of (set_contents t.set)) is.lazy
    (names_table (set_contents t.set) t.table is.over)

-- what a file says of a shape has as many numbers as its table, and few
pub record FitNumbers (table : TableSeen) (cells priors : List ℕ) : Type 0 where
  pub cells_many : length cells ≡ length table.cells
  pub priors_many : length priors ≡ length table.priors
  pub few_cells : length cells < 2 ^ 32
  pub few_priors : length priors < 2 ^ 32

pub numbers_fit : (t : Inside) (is : IsCourse t) (shape : LazyShape)
    → MakesNames (shape_of (set_contents t.set)) t.shape shape → (said : Said)
    → IsFilled (shape_contents shape.shape) said
    → FitNumbers t.table said.cells.items said.priors.items
numbers_fit t is shape made said room =
    let set = set_contents t.set in
    let cells : length said.cells.items ≡ length (shape_of set).cells = room.cells
    ∙ ap (λ (s : ShapeContents). length s.cells) made.whole_now.same in
    let priors : length said.priors.items ≡ length (shape_of set).priors = room.priors
    ∙ ap (λ (s : ShapeContents). length s.priors) made.whole_now.same in
    record {
      cells_many = cells ∙ length-map (set_cells set) cell_name ∙ sym is.over.cells_many;
      priors_many = priors ∙ length-map (set_tracked set) tracked_name ∙ sym is.over.priors_many;
      few_cells = omega (arith, cells, made.lazy.short);
      few_priors = omega (arith, priors, made.lazy.short);
    }

-- items, names and presence of a shape are paired whatever its names of cells and tracked masks are
pub paired_lazy : (whole : ShapeContents) (shape : Shape) (cells priors : List Name)
    → shape_contents shape ≡ with_names whole cells priors → IsPaired whole → IsPaired (shape_contents shape)
paired_lazy whole shape cells priors same paired = subst IsPaired (sym same)
    (record { few = paired.few; items = paired.items; presence = paired.presence })

-- how long a progress file is depends on how many names there are
pub length_lazy : (whole : ShapeContents) (t : LazyShape) → IsLazy whole t
    → length_with (length whole.cells + length whole.priors) (shape_contents t.shape) ≡ length_of whole
length_lazy whole t lazy = ap (length_with (length whole.cells + length whole.priors)) lazy.shape

-- a shape whose names were put, and whose orders are those of its names, is the whole one
pub made_names : (whole : ShapeContents) (t u : LazyShape) → IsLazy whole t
    → shape_contents u.shape ≡ with_names (shape_contents t.shape) u.shape.cells.items u.shape.priors.items
    → u.shape.cells.items ≡ whole.cells → u.shape.priors.items ≡ whole.priors
    → IsOrder u.shape.cells.items u.shape.cell_order.items → IsOrder u.shape.priors.items u.shape.prior_order.items
    → length u.shape.cell_order.items ≡ length whole.cells → length u.shape.prior_order.items ≡ length whole.priors
    → u.shape.entry_order.items ≡ t.shape.entry_order.items → u.orders ≡ t.orders → u.room ≡ t.room
    → MakesNames whole t u
made_names whole t u lazy other cells priors cell_order prior_order many_cells many_priors entries orders room =
    let same : shape_contents u.shape ≡ whole = other ∙ (λ i. with_names (lazy.shape i) (cells i) (priors i)) in
    let ordered : IsOrder (entry_names whole) u.shape.entry_order.items = subst
    (IsOrder (entry_names whole)) (sym entries) lazy.entries in
    let is : IsWhole whole u.shape = record {
      same = same;
      usable = record {
        searchable = record {
          paired = subst IsPaired (sym same) lazy.paired;
          cells = cell_order;
          priors = prior_order;
          entries = subst (λ (s : ShapeContents). IsOrder (entry_names s) u.shape.entry_order.items) (sym same) ordered;
        };
        short = subst (λ (s : ShapeContents). length_of s ≤ 8388608) (sym same) lazy.short;
      };
    } in
    record {
      lazy = record {
        shape = other ∙ (λ i. with_names (lazy.shape i) u.shape.cells.items u.shape.priors.items);
        paired = lazy.paired;
        entries = ordered;
        short = lazy.short;
        room = record {
          rows = record {
            cells = omega (arith, ap length cells, u.shape.cells.ok.0, u.shape.cells.ok.1);
            priors = omega (arith, ap length priors, u.shape.priors.ok.0, u.shape.priors.ok.1);
            cell_order = omega (arith, many_cells, u.shape.cell_order.ok.0, u.shape.cell_order.ok.1);
            prior_order = omega (arith, many_priors, u.shape.prior_order.ok.0, u.shape.prior_order.ok.1);
          };
          few_cells = subst (λ n. length whole.cells ≤ n) (sym orders) lazy.room.few_cells;
          few_priors = subst (λ n. length whole.priors ≤ n) (sym orders) lazy.room.few_priors;
          few = subst (λ n. n ≤ 2 ^ 32) (sym orders) lazy.room.few;
        };
        made = λ _. is;
      };
      whole_now = is;
      room = room;
    }

-- a shape without names, with room for as many as its table has cells and tracked masks, stands for that of the set
pub new_lazy : (set : SetContents) (table : TableSeen) (u : LazyShape) (s : Shape)
    → IsOver set table → u.shape ≡ s → shape_contents s ≡ with_names (shape_of set) s.cells.items s.priors.items
    → HasRows (length table.cells) (length table.priors) s
    → IsOrder (entry_names (shape_of set)) s.entry_order.items → IsPaired (shape_of set)
    → length_of (shape_of set) ≤ 8388608
    → u.named ≡ false → length table.cells ≤ u.orders → length table.priors ≤ u.orders
    → u.orders ≤ 2 ^ 32 → IsLazy (shape_of set) u
new_lazy set table u s over same shape rows entries paired short unnamed few_cells few_priors few =
    let many_cells : length table.cells ≡ length (shape_of set).cells = over.cells_many
    ∙ sym (length-map (set_cells set) cell_name) in
    let many_priors : length table.priors ≡ length (shape_of set).priors = over.priors_many
    ∙ sym (length-map (set_tracked set) tracked_name) in
    record {
      shape = subst (λ (x : Shape). shape_contents x ≡ with_names
          (shape_of set) x.cells.items x.priors.items) (sym same) shape;
      paired = paired;
      entries = subst (λ (x : Shape). IsOrder (entry_names (shape_of set)) x.entry_order.items) (sym same) entries;
      short = short;
      room = record {
        rows = subst (HasRows (length (shape_of set).cells) (length (shape_of set).priors)) (sym same)
            (subst (λ n. HasRows n (length (shape_of set).priors) s) many_cells
            (subst (λ n. HasRows (length table.cells) n s) many_priors rows));
        few_cells = subst (λ n. n ≤ u.orders) many_cells few_cells;
        few_priors = subst (λ n. n ≤ u.orders) many_priors few_priors;
        few = few;
      };
      made = λ named. absurd (not_both (sym unnamed ∙ named));
    }
  where
    not_both : false ≡ true → ⊥
    not_both same = cc

-- a copy of a shape, with room for the names of a table, stands for the same shape, and names the same table
pub record HasOwnRoom (table : TableSeen) (t u : LazyShape) : Type 0 where
  pub copy : IsCopy (length table.cells) (length table.priors) t.shape u.shape
  pub room : HasNameRoom (length table.cells) (length table.priors) u

pub own_room : (table : TableSeen) (t u : LazyShape) (s : Shape) (cells priors : List ℕ) → cells ≡ table.cells
    → priors ≡ table.priors → MayName table t → IsCopy (length cells) (length priors) t.shape s → u.shape ≡ s
    → length cells ≤ u.orders → length priors ≤ u.orders
    → (length cells ≤ 2 ^ 32 → length priors ≤ 2 ^ 32 → u.orders ≤ 2 ^ 32) → HasOwnRoom table t u
own_room table t u s cells priors same_cells same_priors may copy same few_cells few_priors few =
    let many_cells = ap length same_cells in
    let many_priors = ap length same_priors in
    let own = rw (many_cells, many_priors) at copy in
    record {
      copy = subst (IsCopy (length table.cells) (length table.priors) t.shape) (sym same) own;
      room = record {
        rows = subst (HasRows (length table.cells) (length table.priors)) (sym same) own.rows;
        few_cells = omega (arith, many_cells, few_cells);
        few_priors = omega (arith, many_priors, few_priors);
        few = few (omega (arith, many_cells, may.room.few_cells, may.room.few))
            (omega (arith, many_priors, may.room.few_priors, may.room.few));
      };
    }

pub lazy_copy : (table : TableSeen) (t u : LazyShape) → HasOwnRoom table t u → (whole : ShapeContents)
    → IsLazy whole t → NamesTable table whole → u.named ≡ false → IsLazy whole u
lazy_copy table t u own whole lazy names unnamed = record {
  shape = own.copy.same ∙ (λ i. with_names (lazy.shape i) u.shape.cells.items u.shape.priors.items);
  paired = lazy.paired;
  entries = subst (IsOrder (entry_names whole)) (sym own.copy.entry_order) lazy.entries;
  short = lazy.short;
  room = subst (λ n. HasNameRoom n (length whole.priors) u) names.many_cells
      (subst (λ n. HasNameRoom (length table.cells) n u) names.many_priors own.room);
  made = λ named. absurd (not_both (sym unnamed ∙ named));
}
  where
    not_both : false ≡ true → ⊥
    not_both same = cc
