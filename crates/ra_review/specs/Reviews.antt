-- The review of a file: docs/DEFINITIONS.md, "Review of a set".
use Rattle.std.specs.Prelude.{◌≡◌, ℕ, zero, suc, ◌<◌, ◌≤◌, List, [], ◌++◌, length, Option, None, Some, codes}
use Rattle.std.specs.List.{flat_map}
use Rattle.ra_richpresence.specs.Cut.{lines_of}
use Rattle.ra_richpresence.specs.Grammar.{ScriptParts}
use Rattle.ra_set.specs.Contents.{ItemContents}
use Rattle.ra_set.specs.Limits.{most_bytes, KeepsLimits, PassesLimit}
use Rattle.ra_set.specs.Words.{set_words}
use Rattle.ra_set.specs.declared.refused.Which.TheVariants.{Bytes}
use Rattle.ra_set.specs.declared.refused.SetRefused.{SetRefused}
use Rattle.ra_set.specs.declared.refused.SetRefused.TheVariants.{Limit}
use Rattle.ra_review.specs.Lines.{front_lines, script_lines, Findings, FindsIn}
use Rattle.ra_review.specs.Scripts.{ScriptVerdict, IsScriptVerdict, script_refusals, script_notices, parts_in}
use Rattle.ra_review.specs.Shown.{last_line}

-- the line that says why a set is refused
abbrev pub refused_line : SetRefused → List ℕ
refused_line why = codes "set refused: " ++ set_words why ++ codes "\n"

-- the line of a limit, where one is passed
abbrev pub limit_text : Option SetRefused → List ℕ
limit_text None = []
limit_text (Some why) = refused_line why

-- the first limit that a file without refusals passes, if it passes one
abbrev pub IsLimit : (refused : ℕ) → List ItemContents → Option ScriptParts → Option SetRefused → Type 0
IsLimit (suc n) items script why = why ≡ None
IsLimit zero items script None = KeepsLimits items script
IsLimit zero items script (Some why) = PassesLimit items script why

-- what a review says: its text, how many lines are refused, and the limit that is passed, if one is
pub record Said : Type 0 where
  pub text : List ℕ
  pub refused : ℕ
  pub limit : Option SetRefused

-- what a review says of a file that is no longer than a set may be
pub record IsReviewOf (file : List ℕ) (said : Said) : Type 0 where
  pub front : Findings
  pub found : FindsIn 1 [] (front_lines (lines_of file)) front
  pub verdict : ScriptVerdict
  pub judged : IsScriptVerdict (script_lines (lines_of file)) verdict
  pub refusals : List (List ℕ)
  pub all_refusals : refusals
      ≡ front.refusals ++ script_refusals (suc (length (front_lines (lines_of file))))
      (script_lines (lines_of file)) verdict
  pub notices : List (List ℕ)
  pub all_notices : notices
      ≡ front.notices ++ script_notices (suc (length (front_lines (lines_of file))))
      (script_lines (lines_of file)) verdict
  pub refused : said.refused ≡ length refusals
  pub limit : IsLimit said.refused front.items (parts_in verdict) said.limit
  pub text : said.text
      ≡ flat_map (λ line. line) refusals ++ flat_map (λ line. line) notices ++ limit_text said.limit
      ++ last_line (length (lines_of file)) (length refusals) (length notices)

-- what a review says of a file of this many bytes, which are too many
pub record SaysTooLong (bytes : ℕ) (said : Said) : Type 0 where
  pub refused : said.refused ≡ 0
  pub limit : said.limit ≡ Some (Limit Bytes bytes)
  pub text : said.text ≡ refused_line (Limit Bytes bytes)

-- what a review says of a file
pub record IsReview (file : List ℕ) (said : Said) : Type 0 where
  pub fits : length file ≤ most_bytes → IsReviewOf file said
  pub long : most_bytes < length file → SaysTooLong (length file) said
