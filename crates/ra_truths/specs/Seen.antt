-- What truths are seen as, by their fields, and what these always have: docs/INTERNALS.md, "Truths of comparisons".
use Rattle.std.specs.Prelude.{◌≡◌, ◌^◌, ◌≤◌, length}
use Rattle.ra_truths.specs.declared.truths.Truths.TheInside.{Inside}
use Rattle.ra_truths.specs.Truths.{TruthsSeen}
use Rattle.ra_truths.specs.Uses.{AreUses}

-- truths by their fields
abbrev pub truths_seen : Inside → TruthsSeen
truths_seen t = record {
  comparisons = t.comparisons.items;
  nodes = t.nodes;
  truths = t.kept.truths;
  flipped = t.kept.flipped;
  known = t.known;
}

-- each comparison has a truth, and stands on the rows of its nodes
pub record AreTruths (t : Inside) : Type 0 where
  pub few : length t.comparisons.items ≤ 2 ^ 30
  pub long : length t.kept.truths ≡ length t.comparisons.items
  pub uses : AreUses t.comparisons.items t.nodes t.rows
