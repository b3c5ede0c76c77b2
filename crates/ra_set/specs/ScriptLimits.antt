-- The limits of a script that was read: the step between the code and docs/DEFINITIONS.md, "Limits of a set".
use Rattle.std.specs.Prelude.{◌≡◌, ℕ, Option, None, Some, option_map, List, length, map, Result, Ok, Err}
use Rattle.ra_richpresence.specs.Contents.{LineContents, script_contents, values_in_line}
use Rattle.ra_richpresence.specs.Grammar.{ScriptParts}
use Rattle.ra_richpresence.specs.Texts.{IsScriptOf, first_over}
use Rattle.ra_richpresence.specs.declared.read.ReadScript.{ReadScript}
use Rattle.ra_set.specs.Limits.{most_macros, most_text, script_conditions}
use Rattle.ra_set.specs.declared.refused.Which.TheVariants.{Macros, Lookup}
use Rattle.ra_set.specs.declared.refused.SetRefused.{SetRefused}
use Rattle.ra_set.specs.declared.refused.SetRefused.TheVariants.{Limit}

-- what was read, if anything, is the script of these parts, with its first text that is too long
abbrev pub IsReadOf : Option ScriptParts → Option ReadScript → Type 0
IsReadOf None None = Unit {0}
IsReadOf (Some parts) (Some read) = IsScriptOf most_text parts read
IsReadOf None (Some read) = ⊥
IsReadOf (Some parts) None = ⊥

-- the conditions of a script that was read, if there is one
abbrev pub read_conditions : Option ReadScript → ℕ
read_conditions read = script_conditions (option_map (λ r. script_contents r.script) read)

-- how many macros each of these lines has
abbrev pub macros_of : List LineContents → List ℕ
macros_of lines = map (λ line. length (values_in_line line)) lines

-- the limit of macros or of texts that these lines and the first long text, if there is one, pass first, or none
abbrev pub ChecksScript : Result (Unit {0}) SetRefused → List LineContents → Option ℕ → Type 0
ChecksScript (Ok done) lines long = (first_over most_macros (macros_of lines) ≡ None) × (long ≡ None)
ChecksScript (Err (Limit Macros found)) lines long = first_over most_macros (macros_of lines) ≡ Some found
ChecksScript (Err (Limit Lookup found)) lines long =
    (first_over most_macros (macros_of lines) ≡ None) × (long ≡ Some found)
ChecksScript (Err _) lines long = ⊥
