-- The tests and values of the lines of a script, and their shape: docs/DEFINITIONS.md, "Presence over frames" and
-- "Shape of a set".
use Rattle.std.specs.Prelude.{Option, None, Some, List, [], ◌∷◌, length, map, sum}
use Rattle.ra_condition.specs.Contents.{TriggerContents}
use Rattle.ra_richpresence.specs.Contents.{LineContents, ScriptContents, values_in_line}
use Rattle.ra_indirect.specs.Trees.{Tree}
use Rattle.ra_progress.specs.declared.shape.PresenceShape.{PresenceShape}
use Rattle.ra_member.specs.Members.{MemberContents, trees_in_member, member_hits, member_numbers}

-- the tests of a line, which are one or none
abbrev pub tests_in : Option TriggerContents → List TriggerContents
tests_in None = []
tests_in (Some test) = test ∷ []

-- the tests and the values of a line
abbrev pub line_member : LineContents → MemberContents
line_member line = record { tests = tests_in line.test; values = values_in_line line }

-- the tests and the values of each line of a script
abbrev pub script_members : ScriptContents → List MemberContents
script_members script = map line_member script.lines

-- the trees of a line: those of its test, and then those of its macros
abbrev pub trees_in_line : LineContents → List Tree
trees_in_line line = trees_in_member (line_member line)

-- the lines of a script that may be missing
abbrev pub lines_in : Option ScriptContents → List LineContents
lines_in None = []
lines_in (Some script) = script.lines

-- how many lines, hits and numbers a script keeps
abbrev pub presence_shape : ScriptContents → PresenceShape
presence_shape script = record {
  lines = length script.lines;
  hits = sum (map member_hits (script_members script));
  parts = sum (map member_numbers (script_members script));
}
