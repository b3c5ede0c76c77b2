-- The lines of a file before its script, each judged by itself: docs/DEFINITIONS.md, "Review of a set".
use Rattle.std.specs.Prelude.{◌≡◌, ◌⊎◌, ℕ, suc, ◌==◌, ◌&&◌, ◌||◌, Bool, true, false, if◌then◌else◌, List, [], ◌∷◌, ◌++◌}
use Rattle.std.specs.Prelude.{map, Option, None, Some, codes, bytes_eq, is_some}
use Rattle.std.specs.List.{list_all}
use Rattle.ra_value_format.specs.Formats.{format_names, entry_of}
use Rattle.ra_richpresence.specs.Cut.{content_of}
use Rattle.ra_set.specs.Accepted.{repeats}
use Rattle.ra_set.specs.Alone.{is_script_line, ContainsAlone}
use Rattle.ra_set.specs.Contents.{ItemContents, Unlocks, Ranks}
use Rattle.ra_set.specs.Grammar.{Line}
use Rattle.ra_set.specs.Places.{IsFileOutside}
use Rattle.ra_set.specs.Refusals.{id_of}
use Rattle.ra_notices.specs.Notices.{item_notices}
use Rattle.ra_review.specs.Shown.{refusal, again, notice_line, format_line}

-- ---- the line P

-- a space, a tab or a carriage return
abbrev pub is_space : ℕ → Bool
is_space byte = (byte == 32) || (byte == 9) || (byte == 13)

-- `P` or `p` with nothing but spaces, tabs and carriage returns after: the script comes after the first such line
abbrev pub opens_script : List ℕ → Bool
opens_script [] = false
opens_script (byte ∷ line) = ((byte == 80) || (byte == 112)) && list_all is_space line

-- the lines up to the line P and it
abbrev pub front_lines : List (List ℕ) → List (List ℕ)
front_lines [] = []
front_lines (line ∷ lines) = if opens_script (content_of line) then line ∷ [] else line ∷ front_lines lines

-- the lines after the line P, where there is one
abbrev pub script_lines : List (List ℕ) → Option (List (List ℕ))
script_lines [] = None
script_lines (line ∷ lines) = if opens_script (content_of line) then Some lines else script_lines lines

-- ---- one line

-- a line is accepted and has an item, or none, or it is refused at a place, counted from 0
pub data Verdict : Type 0 where
  Accepts : Line → Verdict
  Refuses : (place : ℕ) → Verdict

-- a line is the one byte "P", or the file of the line alone, with its own end, is a set file or has its first bad place
abbrev pub IsVerdict : List ℕ → Verdict → Type 0
IsVerdict line (Accepts l) = ((is_script_line line ≡ true) × (l ≡ None))
    ⊎ ((is_script_line line ≡ false) × ContainsAlone line l)
IsVerdict line (Refuses place) = (is_script_line line ≡ false) × IsFileOutside line place

-- what an accepted line has
abbrev pub row_of : Verdict → Line
row_of (Accepts l) = l
row_of (Refuses place) = None

-- the number of the first of these lines that has an item with the letter and the id of this one; they begin with this
-- number
abbrev pub first_with : ItemContents → (number : ℕ) → List Line → Option ℕ
first_with x number [] = None
first_with x number (None ∷ rows) = first_with x (suc number) rows
first_with x number (Some y ∷ rows) = if repeats y x then Some number else first_with x (suc number) rows

-- ---- formats

-- what stands before the first space
abbrev pub before_space : List ℕ → List ℕ
before_space [] = []
before_space (byte ∷ text) = if byte == 32 then [] else byte ∷ before_space text

-- what follows the first space
abbrev pub behind_space : List ℕ → List ℕ
behind_space [] = []
behind_space (byte ∷ text) = if byte == 32 then text else behind_space text

-- the format name of a leaderboard's line: what stands between its second and its third space
abbrev pub format_text : List ℕ → List ℕ
format_text line = before_space (behind_space (behind_space line))

-- the name is that of a format
abbrev pub is_format_name : List ℕ → Bool
is_format_name name = bytes_eq (codes "VALUE") name || is_some (entry_of name format_names)

-- the notice on the format of an item's line, where its name is none
abbrev pub format_notices : List ℕ → ItemContents → List (List ℕ)
format_notices line (Unlocks id t) = []
format_notices line (Ranks id format b) =
    if is_format_name (format_text line) then [] else format_line id (format_text line) ∷ []

-- the lines of the notices on an item and on its line
abbrev pub item_lines : List ℕ → ItemContents → List (List ℕ)
item_lines line x = map (notice_line x) (item_notices x) ++ format_notices line x

-- ---- what lines give

-- what a review found: the lines of what is refused, those of notices, and the items that are kept
pub record Findings : Type 0 where
  pub refusals : List (List ℕ)
  pub notices : List (List ℕ)
  pub items : List ItemContents

-- nothing
abbrev pub nothing : Findings
nothing = record { refusals = []; notices = []; items = [] }

-- what was found, and what comes after it
abbrev pub then_more : Findings → Findings → Findings
then_more f g = record {
  refusals = f.refusals ++ g.refusals;
  notices = f.notices ++ g.notices;
  items = f.items ++ g.items;
}

-- a refusal alone
abbrev pub refused : List ℕ → Findings
refused text = record { refusals = text ∷ []; notices = []; items = [] }

-- what an accepted item gives, by the first line that has its letter and its id, if one does
abbrev pub item_findings : (number : ℕ) → List ℕ → ItemContents → Option ℕ → Findings
item_findings number line x (Some first) = refused (again number (id_of x) first)
item_findings number line x None = record { refusals = []; notices = item_lines line x; items = x ∷ [] }

-- what a line gives, by its verdict and by what the lines before it have
abbrev pub line_findings : (number : ℕ) → List Line → List ℕ → Verdict → Findings
line_findings number rows line (Accepts None) = nothing
line_findings number rows line (Accepts (Some x)) = item_findings number line x (first_with x 1 rows)
line_findings number rows line (Refuses place) = refused (refusal number place (content_of line))

-- what lines give that begin with this number, where the lines before them have these items
abbrev pub FindsIn : (number : ℕ) → List Line → List (List ℕ) → Findings → Type 0
FindsIn number rows [] found = found ≡ nothing
FindsIn number rows (line ∷ lines) found =
    (verdict : Verdict) × IsVerdict line verdict
    × (others : Findings) × FindsIn (suc number) (rows ++ row_of verdict ∷ []) lines others
    × (found ≡ then_more (line_findings number rows line verdict) others)
