-- What a review keeps of the lines so far: the step between the code and docs/DEFINITIONS.md, "Review of a set".
use Rattle.std.specs.Prelude.{◌≡◌, ℕ, suc, ◌+◌, ◌*◌, ◌≤◌, Bool, sum_by, true, false, List, [], ◌∷◌, ◌++◌, length, map}
use Rattle.std.specs.Prelude.{Option, Some, option_map}
use Rattle.std.specs.List.{flat_map}
use Rattle.ra_richpresence.specs.Cut.{lines_of}
use Rattle.ra_set.specs.Contents.{ItemContents, Unlocks, Ranks, item_contents}
use Rattle.ra_set.specs.Grammar.{Line}
use Rattle.ra_set.specs.Limits.{item_conditions}
use Rattle.ra_set.specs.ScriptLimits.{IsReadOf, read_conditions}
use Rattle.ra_richpresence.specs.declared.read.ReadScript.{ReadScript}
use Rattle.ra_value_format.specs.declared.format.Format.{Format}
use Rattle.ra_value_format.specs.declared.format.Format.TheVariants.{Value}
use Rattle.ra_review.specs.declared.entries.Entries.{Entries}
use Rattle.ra_review.specs.declared.firsts.Firsts.{Firsts}
use Rattle.ra_review.specs.FirstLines.{line_of}
use Rattle.ra_review.specs.declared.report.Report.{Report}
use Rattle.ra_review.specs.declared.reviewed.Reviewed.{Reviewed}
use Rattle.ra_review.specs.Reviews.{Said}
use Rattle.ra_review.specs.Scripts.{ScriptVerdict, IsScriptVerdict, script_refusals, script_notices, parts_in}
use Rattle.ra_review.specs.Lines.{Verdict, IsVerdict, row_of, first_with, Findings, then_more, item_findings}
use Rattle.ra_review.specs.Lines.{line_findings, FindsIn, front_lines, script_lines}

-- the lines stand one after the other, and are counted
pub record AreEntries (entries : Entries) (lines : List (List ℕ)) : Type 0 where
  pub text : entries.text.items ≡ flat_map (λ line. line) lines
  pub count : entries.count ≡ length lines

-- the format is the one of all names that no other format has
abbrev pub is_value : Format → Bool
is_value Value = true
is_value _ = false

-- the first line that is kept for the letter and the id of an item
abbrev pub first_by : Firsts → ItemContents → Option ℕ
first_by firsts (Unlocks id t) = line_of firsts.achievements id
first_by firsts (Ranks id format b) = line_of firsts.leaderboards id

-- what is kept is what was found in lines that have these items; each has few enough conditions
pub record Reports (report : Report) (rows : List Line) (found : Findings) : Type 0 where
  pub refusals : AreEntries report.refusals found.refusals
  pub notices : AreEntries report.notices found.notices
  pub items : map item_contents report.items.items ≡ found.items
  pub firsts : (x : ItemContents) → first_by report.firsts x ≡ first_with x 1 rows
  pub lines : report.lines ≡ length rows
  pub few : sum_by item_conditions found.items ≤ 178956970 * length rows

-- the same, but one line more is counted
pub record ReportsBefore (report : Report) (rows : List Line) (found : Findings) : Type 0 where
  pub refusals : AreEntries report.refusals found.refusals
  pub notices : AreEntries report.notices found.notices
  pub items : map item_contents report.items.items ≡ found.items
  pub firsts : (x : ItemContents) → first_by report.firsts x ≡ first_with x 1 rows
  pub lines : report.lines ≡ suc (length rows)
  pub few : sum_by item_conditions found.items ≤ 178956970 * length rows

-- the same, and the line of an accepted item is noted
pub record ReportsNoted (report : Report) (x : ItemContents) (rows : List Line) (found : Findings) : Type 0 where
  pub refusals : AreEntries report.refusals found.refusals
  pub notices : AreEntries report.notices found.notices
  pub items : map item_contents report.items.items ≡ found.items
  pub firsts : (y : ItemContents) → first_by report.firsts y ≡ first_with y 1 (rows ++ Some x ∷ [])
  pub lines : report.lines ≡ suc (length rows)
  pub few : sum_by item_conditions found.items ≤ 178956970 * length rows

-- an accepted item was added to what was found
abbrev pub AddsItem : List ℕ → ItemContents → List Line → Findings → Report → Type 0
AddsItem line x rows found report =
    Reports report (rows ++ Some x ∷ [])
    (then_more found (item_findings (suc (length rows)) line x (first_with x 1 rows)))

-- a line was judged, and what it gives was added
pub record AddsLine (line : List ℕ) (rows : List Line) (found : Findings) (report : Report) : Type 0 where
  pub verdict : Verdict
  pub is : IsVerdict line verdict
  pub reports : Reports report (rows ++ row_of verdict ∷ [])
      (then_more found (line_findings (suc (length rows)) rows line verdict))

-- the lines before the script were judged, and what they give was added; the script comes after them, where there is
-- one
pub record ReportsFront (file : List ℕ) (report : Report) (script : Option (List ℕ)) : Type 0 where
  pub rows : List Line
  pub found : Findings
  pub finds : FindsIn 1 [] (front_lines (lines_of file)) found
  pub reports : Reports report rows found
  pub many : length rows ≡ length (front_lines (lines_of file))
  pub behind : script_lines (lines_of file) ≡ option_map lines_of script

-- the script after the lines was judged, whose first line has this number, and what it gives was added
pub record ReviewsScript (number : ℕ) (text : List ℕ) (old new : Report) (read : Option ReadScript) : Type 0 where
  pub verdict : ScriptVerdict
  pub judged : IsScriptVerdict (Some (lines_of text)) verdict
  pub refusals : (entries : List (List ℕ)) → AreEntries old.refusals entries
      → AreEntries new.refusals (entries ++ script_refusals number (Some (lines_of text)) verdict)
  pub notices : (entries : List (List ℕ)) → AreEntries old.notices entries
      → AreEntries new.notices (entries ++ script_notices number (Some (lines_of text)) verdict)
  pub items : new.items ≡ old.items
  pub lines : new.lines ≡ old.lines
  pub read_is : IsReadOf (parts_in verdict) read
  pub few : read_conditions read ≤ length text

-- all lines of a file were judged: what is kept, what was read of its script, and how many lines the script has
pub record Judges (file : List ℕ) (report : Report) (read : Option ReadScript) (lines : ℕ) : Type 0 where
  pub front : Findings
  pub found : FindsIn 1 [] (front_lines (lines_of file)) front
  pub verdict : ScriptVerdict
  pub judged : IsScriptVerdict (script_lines (lines_of file)) verdict
  pub refusals : AreEntries report.refusals
      (front.refusals ++ script_refusals (suc (length (front_lines (lines_of file))))
      (script_lines (lines_of file)) verdict)
  pub notices : AreEntries report.notices
      (front.notices ++ script_notices (suc (length (front_lines (lines_of file))))
      (script_lines (lines_of file)) verdict)
  pub items : map item_contents report.items.items ≡ front.items
  pub read_is : IsReadOf (parts_in verdict) read
  pub count : report.lines + lines ≡ length (lines_of file)

-- what a review that was made says
abbrev pub said_by : Reviewed → Said
said_by r = record { text = r.text.items; refused = r.refused; limit = r.limit }
