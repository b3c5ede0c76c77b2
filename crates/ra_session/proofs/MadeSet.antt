-- The set of every workload is accepted.
use Rattle.std.proofs.Common.{◌≡◌, ◌∙◌, ℕ, List, [], ◌∷◌, ◌++◌, Some, map, refl, sym, ap, codes, append_assoc, inl, inr}
use Rattle.ra_set.specs.Contents.{ItemContents}
use Rattle.ra_set.specs.Grammar.{Line, ended_line, items_of, script_head, SetFile}
use Rattle.ra_set.specs.Accepted.{IsSet}
use Rattle.ra_richpresence.specs.Grammar.{ScriptParts, script_parts}
use Rattle.ra_set.specs.Runs.{many}
use Rattle.ra_trace.specs.Workload.{achievement_lines, made_set}
use Rattle.ra_session.proofs.MadeLines.{drawn_items, board_item, board_line, made_lines_spelled}
use Rattle.ra_session.proofs.MadeLimits.{made_contents, made_items_distinct, within_limits, made_set_length}
use Rattle.ra_session.proofs.MadeScript.{number_line, script_text, display_spelled}
use Rattle.ra_text.proofs.Spelled.{then-spelled, none-spelled, one-spelled}

-- the lines that have an item
abbrev item_lines : ℕ → List Line
item_lines number = map Some (drawn_items 256 1 number) ++ Some board_item ∷ []

-- the parts of the script: no lookup or format, and one line
abbrev parts : ScriptParts
parts = record { sections = []; lines = number_line ∷ [] }

parts_spelled : script_parts script_text parts
parts_spelled = then-spelled [] (codes "Display:" ∷ codes "@Number(0xX0000)" ∷ []) [] refl refl
    (then-spelled (codes "Display:" ∷ codes "@Number(0xX0000)" ∷ []) []
    (number_line ∷ []) refl display_spelled (then-spelled [] [] [] refl refl none-spelled))

-- lines with their ends, and behind them the line P
head_spelled : (front : List ℕ) (lines : List Line) → many ended_line front lines
    → script_head (front ++ codes "P\n") lines
head_spelled front lines h = then-spelled (front ++ codes "P") (codes "\n") lines
    (sym (append_assoc front (codes "P") (codes "\n")))
    (then-spelled front (codes "P") lines refl h
    (then-spelled (codes "P") [] tt refl (one-spelled 80 refl) none-spelled))
    (then-spelled (codes "\n") [] tt refl
    (then-spelled [] (codes "\n") tt refl (inr none-spelled) (one-spelled 10 refl)) none-spelled)

all_items : (items : List ItemContents) → items_of (map Some items ++ Some board_item ∷ []) ≡ items ++ board_item ∷ []
all_items [] = refl
all_items (item ∷ items) = ap (λ xs. item ∷ xs) (all_items items)

-- the front of the set, up to the line P, and its script
set_parts : (number : ℕ) → made_set number
    ≡ ((achievement_lines 256 1 number ++ board_line) ++ codes "P\n") ++ script_text
unfolding made_set
set_parts number = sym (append_assoc (achievement_lines 256 1 number ++ board_line)
    (codes "P\n") script_text
    ∙ append_assoc (achievement_lines 256 1 number) board_line (codes "P\n" ++ script_text))

file_spelled : (number : ℕ) → SetFile (made_set number) (made_contents number)
file_spelled number = record {
  contents = record { lines = item_lines number; script = Some parts };
  spelled = inl (then-spelled ((achievement_lines 256 1 number ++ board_line) ++ codes "P\n")
      script_text (item_lines number) (set_parts number)
      (head_spelled (achievement_lines 256 1 number ++ board_line) (item_lines number)
      (made_lines_spelled number))
      (then-spelled script_text [] parts refl parts_spelled none-spelled));
  items = sym (all_items (drawn_items 256 1 number));
  script = refl;
}

-- the set of a number is one that is accepted
pub made_set_is_accepted : (number : ℕ) → IsSet (made_set number) (made_contents number)
made_set_is_accepted number = record {
  size = made_set_length number;
  spelled = file_spelled number;
  ids = made_items_distinct number;
  limits = within_limits number;
  digest = refl;
  item_names = refl;
  script_name = refl;
}
