use Rattle.std.proofs.Common.{◌≡◌, map, take}
use Rattle.ra_richpresence.specs.declared.line.Line.{Line}
use Rattle.ra_richpresence.specs.Meanings.{FindsNames, meanings_in}
use Rattle.ra_richpresence.specs.Parts.{lookup_contents, piece_contents}
use Rattle.ra_richpresence.proofs.naming.meanings_of_lines.Given as goal

abbrev pub invariant-loop-line : goal.invariant-loop-line
invariant-loop-line l = record {
  finds : FindsNames (map lookup_contents l.lookups) 0 (map (λ f. (f.0.items, f.1)) l.formats) l.names;
  meanings : map (λ m. m.items) l.meanings.items
      ≡ map (λ (line : Line). meanings_in (map lookup_contents l.lookups) (map
      (λ f. (f.0.items, f.1)) l.formats) (map piece_contents line.pieces.items))
      (take l.line-index l.lines);
}
