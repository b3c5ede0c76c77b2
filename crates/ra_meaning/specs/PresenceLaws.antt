-- The presence after a history, line by line: docs/DEFINITIONS.md, "Presence over frames".
use Rattle.std.specs.Prelude.{◌≡◌, ℕ, Bool, true, Option, None, Some, List, [], ◌∷◌, map, zip}
use Rattle.std.specs.List.{concat}
use Rattle.ra_condition.specs.Contents.{TriggerContents}
use Rattle.ra_richpresence.specs.Contents.{LineContents, ScriptContents, values_in_line}
use Rattle.ra_memory.specs.Image.{History}
use Rattle.ra_memref.specs.Values.{Start}
use Rattle.ra_value.specs.Steps.{ValueKept}
use Rattle.ra_member.specs.Members.{MemberKept, HaveShapes}
use Rattle.ra_meaning.specs.Order.{script_members}
use Rattle.ra_meaning.specs.Histories.{test_hits, test_truth, value_after}
use Rattle.ra_meaning.specs.Presence.{DisplayKept, first_true, display_after}

-- what is kept of a line between frames: the hits of its test, and its macros' values
pub record LineKept : Type 0 where
  pub test : List ℕ
  pub values : List ValueKept

-- what is kept of a line, by its test and its values
abbrev pub kept_line : MemberKept → LineKept
kept_line kept = record { test = concat kept.tests; values = kept.values }

-- the hits of a line's test after a history; a line without a test has none
abbrev pub line_test_hits : Start → Option TriggerContents → List ℕ → History → List ℕ
line_test_hits start None opened history = opened
line_test_hits start (Some t) opened history = test_hits start t opened history

-- whether the test of a line holds at the last frame; a line without a test always holds
abbrev pub line_truth : Start → Option TriggerContents → List ℕ → History → Bool
line_truth start None opened history = true
line_truth start (Some t) opened history = test_truth start t opened history

-- a line after a history: its test and its macros' values are stepped at every frame
abbrev pub line_after : Start → History → LineContents × LineKept → LineKept
line_after start history pair = record {
  test = line_test_hits start pair.0.test pair.1.test history;
  values = map (λ v. value_after start v.0 v.1 history) (zip (values_in_line pair.0) pair.1.values);
}

-- the shown line after a history: the first whose test is true at the last frame, else the last, which has none
abbrev pub shown_line : Start → ScriptContents → ℕ → List LineKept → History → ℕ
shown_line start script opened kept [] = opened
shown_line start script opened kept (image ∷ earlier) =
    first_true (map (λ pair. line_truth start pair.0.test pair.1.test (image ∷ earlier)) (zip script.lines kept))

-- each line of a display after a history, and the shown one, are what their own recursions over the history say
pub record IsByLines (start : Start) (script : ScriptContents) (opened : DisplayKept) : Type 0 where
  pub lines : HaveShapes (script_members script) opened.lines → (history : History)
      → map kept_line (display_after start script opened history).lines
      ≡ map (line_after start history) (zip script.lines (map kept_line opened.lines))
  pub shown : HaveShapes (script_members script) opened.lines → (history : History)
      → (display_after start script opened history).shown
      ≡ shown_line start script opened.shown (map kept_line opened.lines) history
