-- What the numbers of a table are seen as, by their fields: docs/DEFINITIONS.md, "Values at a frame".
use Rattle.ra_memref.specs.declared.numbers.Numbers.TheInside.{Inside}
use Rattle.ra_memref.specs.Numbers.{NumbersSeen, HasRows}

-- numbers by their fields
abbrev pub numbers_seen : Inside → NumbersSeen
numbers_seen n = record {
  cells = n.cells.items;
  earlier = n.earlier.items;
  watches = n.watches;
  priors = n.priors.items;
  values = n.values.items;
}

-- each cell has an entry in each row of the cells
abbrev pub AreNumbers : Inside → Type 0
AreNumbers n = HasRows (numbers_seen n)
