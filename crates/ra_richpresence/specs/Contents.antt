-- What a presence script contains: docs/DEFINITIONS.md, "Presence scripts".
use Rattle.std.specs.Prelude.{map}
use Rattle.ra_richpresence.specs.declared.script.Script.{Script}
use Rattle.ra_richpresence.specs.Parts.{ScriptContents, line_contents, lookup_contents}
pub use Rattle.ra_richpresence.specs.Parts.{PieceContents, Bytes, Shows, piece_contents, LineContents, line_contents}
pub use Rattle.ra_richpresence.specs.Parts.{KeysContents, keys_contents, LookupContents, lookup_contents}
pub use Rattle.ra_richpresence.specs.Parts.{ScriptContents, value_in, values_in_line, values_in_script}

-- the contents of a script
abbrev pub script_contents : Script → ScriptContents
script_contents s = record {
  lookups = map lookup_contents s.lookups.items;
  formats = map (λ f. (f.0.items, f.1)) s.formats.items;
  lines = map line_contents s.lines.items;
}
