-- What a set may hold: docs/DEFINITIONS.md, "Limits of a set".
use Rattle.std.specs.Prelude.{◌≡◌, ℕ, ◌+◌, ◌<◌, ◌≤◌, Option, None, Some, option_map, List, [], ◌∷◌, length, sum_by, map}
use Rattle.std.specs.List.{AllByRecursion, flat_map}
use Rattle.ra_condition.specs.Contents.{TriggerContents, trigger_hits, PartContents, Legacy, Grouped}
use Rattle.ra_richpresence.specs.Contents.{LineContents, LookupContents, ScriptContents, values_in_line}
use Rattle.ra_richpresence.specs.Grammar.{ScriptParts, script_of}
use Rattle.ra_richpresence.specs.Texts.{first_over, kept_texts}
use Rattle.ra_set.specs.declared.refused.Which.{Which}
use Rattle.ra_set.specs.declared.refused.Which.TheVariants.{Bytes, Items, Conditions, Macros, Lookup}
use Rattle.ra_set.specs.declared.refused.SetRefused.{SetRefused}
use Rattle.ra_set.specs.declared.refused.SetRefused.TheVariants.{Limit}
use Rattle.ra_set.specs.Contents.{ItemContents, Unlocks, Ranks, SetContents}

-- ---- the limits

-- the most bytes of a file
abbrev pub most_bytes : ℕ
most_bytes = 4194304

-- the most items of a set
abbrev pub most_items : ℕ
most_items = 16384

-- the most conditions of a set
abbrev pub most_conditions : ℕ
most_conditions = 65536

-- the most macros of a display line
abbrev pub most_macros : ℕ
most_macros = 256

-- the most bytes of a lookup text
abbrev pub most_text : ℕ
most_text = 1024

-- the most that each limit allows
abbrev pub most_of : Which → ℕ
most_of Bytes = most_bytes
most_of Items = most_items
most_of Conditions = most_conditions
most_of Macros = most_macros
most_of Lookup = most_text

-- ---- what is counted

-- how many conditions a part has, or how many legacy terms
abbrev pub part_conditions : PartContents → ℕ
part_conditions (Legacy terms) = length terms
part_conditions (Grouped cs) = length cs

-- how many conditions a value has, its legacy terms counted too
abbrev pub value_conditions : List PartContents → ℕ
value_conditions parts = sum_by part_conditions parts

-- how many conditions a value has that may be missing
abbrev pub optional_value : Option (List PartContents) → ℕ
optional_value None = 0
optional_value (Some parts) = value_conditions parts

-- how many conditions an item has
abbrev pub item_conditions : ItemContents → ℕ
item_conditions (Unlocks id t) = trigger_hits t
item_conditions (Ranks id format b) =
    trigger_hits b.start + trigger_hits b.cancel + trigger_hits b.submit + value_conditions b.value
    + optional_value b.progress

-- how many conditions a trigger has that may be missing
abbrev pub optional_trigger : Option TriggerContents → ℕ
optional_trigger None = 0
optional_trigger (Some t) = trigger_hits t

-- how many conditions a line of a script has
abbrev pub line_conditions : LineContents → ℕ
line_conditions line = optional_trigger line.test + sum_by value_conditions (values_in_line line)

-- how many conditions a script has, if there is one
abbrev pub script_conditions : Option ScriptContents → ℕ
script_conditions None = 0
script_conditions (Some script) = sum_by line_conditions script.lines

-- how many conditions a set has
abbrev pub set_conditions : SetContents → ℕ
set_conditions set = sum_by item_conditions set.items + script_conditions set.script

-- how many bytes each text of a lookup has
abbrev pub text_lengths : LookupContents → List ℕ
text_lengths l = rest_length l.rest (map (λ k. length k.text) l.keys)
  where
    rest_length : Option (List ℕ) → List ℕ → List ℕ
    rest_length None lengths = lengths
    rest_length (Some text) lengths = length text ∷ lengths

-- each display line has few enough macros, and each lookup text few enough bytes
pub record ScriptFits (script : ScriptContents) : Type 0 where
  pub macros : AllByRecursion (λ line. length (values_in_line line) ≤ most_macros) script.lines
  pub texts : AllByRecursion (λ n. n ≤ most_text) (flat_map text_lengths script.lookups)

-- a script keeps its limits, if there is one
abbrev pub OptionalScriptFits : Option ScriptContents → Type 0
OptionalScriptFits None = Unit {0}
OptionalScriptFits (Some script) = ScriptFits script

-- the set is within the limits
pub record IsWithinLimits (set : SetContents) : Type 0 where
  pub items : length set.items ≤ most_items
  pub conditions : set_conditions set ≤ most_conditions
  pub script : OptionalScriptFits set.script

-- ---- the first limit that is passed

-- how many conditions items and the parts of a script have, if there is a script
abbrev pub all_conditions : List ItemContents → Option ScriptParts → ℕ
all_conditions items script = sum_by item_conditions items + script_conditions (option_map script_of script)

-- how many macros each display line of a script has, in text order
abbrev pub macro_counts : Option ScriptParts → List ℕ
macro_counts None = []
macro_counts (Some parts) = map (λ line. length (values_in_line line)) parts.lines

-- how many bytes each text has that a script keeps, in text order
abbrev pub kept_lengths : Option ScriptParts → List ℕ
kept_lengths None = []
kept_lengths (Some parts) = map length (kept_texts parts)

-- items and a script, if there is one, keep each limit
pub record KeepsLimits (held : List ItemContents) (script : Option ScriptParts) : Type 0 where
  pub items : length held ≤ most_items
  pub conditions : all_conditions held script ≤ most_conditions
  pub macros : first_over most_macros (macro_counts script) ≡ None
  pub texts : first_over most_text (kept_lengths script) ≡ None

-- the first limit that items and a script pass, with how much was found; of lines and of texts that of the first over
-- it
abbrev pub PassesLimit : List ItemContents → Option ScriptParts → SetRefused → Type 0
PassesLimit items script (Limit Items found) = (most_items < length items) × (found ≡ length items)
PassesLimit items script (Limit Conditions found) =
    (length items ≤ most_items) × (most_conditions < all_conditions items script)
    × (found ≡ all_conditions items script)
PassesLimit items script (Limit Macros found) =
    (length items ≤ most_items) × (all_conditions items script ≤ most_conditions)
    × (first_over most_macros (macro_counts script) ≡ Some found)
PassesLimit items script (Limit Lookup found) =
    (length items ≤ most_items) × (all_conditions items script ≤ most_conditions)
    × (first_over most_macros (macro_counts script) ≡ None)
    × (first_over most_text (kept_lengths script) ≡ Some found)
PassesLimit items script _ = ⊥
