-- The presence after a history: docs/DEFINITIONS.md, "Presence over frames".
use Rattle.std.specs.Prelude.{ℕ, suc, Bool, true, false, ℤ, List, [], ◌∷◌, map, zip}
use Rattle.std.specs.List.{concat, flat_map}
use Rattle.ra_richpresence.specs.Contents.{ScriptContents}
use Rattle.ra_richpresence.specs.Lines.{line_text}
use Rattle.ra_memory.specs.Image.{History}
use Rattle.ra_memref.specs.Values.{Start}
use Rattle.ra_value.specs.Steps.{signed_greatest}
use Rattle.ra_progress.specs.Contents.{KeptPresence}
use Rattle.ra_member.specs.Folds.{after}
use Rattle.ra_member.specs.Members.{MemberContents, MemberKept, tests_hold, members_next, saved_hits, saved_numbers}
use Rattle.ra_member.specs.Members.{opened_members}
use Rattle.ra_meaning.specs.LineMembers.{script_members}

-- what is kept of a display between frames: the shown line, and what the tests and values of each line keep
pub record DisplayKept : Type 0 where
  pub shown : ℕ
  pub lines : List MemberKept

-- whether a line holds, by the truths of its tests, which are one or none: a line without a test always holds
abbrev pub line_holds : List Bool → Bool
line_holds [] = true
line_holds (truth ∷ _) = truth

-- whether each line holds at the last frame, from what was kept before it
abbrev pub lines_hold : Start → List MemberContents → History → List MemberKept → List Bool
lines_hold start lines history kept =
    map (λ m. line_holds (tests_hold start m.0.tests history m.1.tests)) (zip lines kept)

-- the place of the first that is true
abbrev pub first_true : List Bool → ℕ
first_true [] = 0
first_true (true ∷ bs) = 0
first_true (false ∷ bs) = suc (first_true bs)

-- a display after the last frame, from what was kept before it: all lines are stepped, and the first that holds is
-- shown
abbrev pub display_next : Start → ScriptContents → History → DisplayKept → DisplayKept
display_next start script history kept = record {
  shown = first_true (lines_hold start (script_members script) history kept.lines);
  lines = members_next start (script_members script) history kept.lines;
}

-- a display after a history, from what the opening keeps
abbrev pub display_after : Start → ScriptContents → DisplayKept → History → DisplayKept
display_after start script opened history = after (display_next start script) opened history

-- what an opening keeps for a display: hits and numbers of a progress file, cut by the lines of its script
abbrev pub opened_display : ScriptContents → KeptPresence → DisplayKept
opened_display script opened =
    record { shown = opened.shown; lines = opened_members (script_members script) opened.hits opened.numbers }

-- a display as a progress file keeps it: the shown line, and hits and numbers line by line
abbrev pub kept_display : DisplayKept → KeptPresence
kept_display kept = record {
  shown = kept.shown;
  hits = concat (map saved_hits kept.lines);
  numbers = concat (map saved_numbers kept.lines);
}

-- what is kept of the presence after a history
abbrev pub presence_after : Start → ScriptContents → KeptPresence → History → KeptPresence
presence_after start script opened history =
    kept_display (display_after start script (opened_display script opened) history)

-- the number of each value of a line
abbrev pub line_numbers : MemberKept → List ℤ
line_numbers kept = map (λ v. signed_greatest v.numbers) kept.values

-- the text of the shown line of a display
abbrev pub display_text : ScriptContents → DisplayKept → List ℕ
display_text script kept = line_text script kept.shown (flat_map line_numbers kept.lines)

-- the text of the shown line after a history
abbrev pub presence_text : Start → ScriptContents → KeptPresence → History → List ℕ
presence_text start script opened history =
    display_text script (display_after start script (opened_display script opened) history)
