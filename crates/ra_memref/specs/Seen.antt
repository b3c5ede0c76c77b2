-- What a table is seen as, by its fields, and what these always have: docs/DEFINITIONS.md, "Values at a frame".
use Rattle.std.specs.Prelude.{◌≡◌, ◌^◌, ◌<◌, ◌≤◌, List, false, length}
use Rattle.ra_indirect.specs.declared.node.Node.{Node}
use Rattle.ra_indirect.specs.Interned.{IsPool}
use Rattle.ra_memref.specs.declared.table.Table.TheInside.{Inside}
use Rattle.ra_memref.specs.Table.{TableSeen}
use Rattle.ra_memref.specs.Layout.{IsLaid}
use Rattle.ra_memref.specs.Pass.{IsSizedFor}
use Rattle.ra_memref.specs.declared.agenda.Agenda.{Agenda}
use Rattle.ra_memref.specs.Due.{AreQuiet, AreDependents, AreCellNodes}

-- a table by its fields
abbrev pub table_seen : Inside → TableSeen
table_seen t = record {
  nodes = t.nodes.items;
  size = t.numbers.watches.size;
  cells = t.numbers.cells;
  priors = t.numbers.priors;
  values = t.numbers.values;
  sampled = t.sampled;
  marked = t.numbers.watches.marked;
  places = t.numbers.watches.places;
  changed = t.changes.listed;
}

-- an agenda of these nodes: what names each of them, and where the cells are
pub record IsAgenda (nodes : List Node) (agenda : Agenda) : Type 0 where
  pub dues : length agenda.due ≡ length nodes
  pub dependents : AreDependents nodes agenda.dependents
  pub cells : AreCellNodes nodes (length nodes) agenda.cell_nodes.items

-- the nodes are a pool that is laid out, each list has its length, and each node that is not due is quiet
pub record IsTable (t : Inside) : Type 0 where
  pub pool : IsPool t.nodes.items
  pub few : length t.nodes.items < 2 ^ 30
  pub laid : IsLaid t.nodes.items t.slots.items
  pub small : t.numbers.watches.size ≤ 2 ^ 27
  pub sized : IsSizedFor t.nodes.items t.numbers
  pub agenda : IsAgenda t.nodes.items t.agenda
  pub room : t.changes.room ≡ length t.nodes.items
  pub quiet : t.agenda.all ≡ false → AreQuiet t.nodes.items t.agenda.due t.numbers t.slots.items
