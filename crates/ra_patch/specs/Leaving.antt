-- What stays of a document's lists, and what is left out: docs/DEFINITIONS.md, "What is left of a document".
use Rattle.std.specs.Prelude.{◌≡◌, ℕ, ◌==◌, Bool, true, false, Option, None, Some, option_map, unwrap_or, slice_get}
use Rattle.std.specs.Prelude.{List, [], ◌∷◌, ◌++◌, length, codes}
use Rattle.std.specs.List.{list_any}
use Rattle.serde_json.specs.Data.{Data}
use Rattle.ra_condition.specs.Grammar.{trigger}
use Rattle.ra_leaderboard.specs.Grammar.{board}
use Rattle.ra_richpresence.specs.Contents.{ScriptContents}
use Rattle.ra_richpresence.specs.Grammar.{script}
use Rattle.ra_richpresence.specs.Places as presence
use Rattle.ra_text.specs.Form.{Form}
use Rattle.ra_text.specs.Place.{IsOutside}
use Rattle.ra_patch.specs.declared.item_kind.ItemKind.{ItemKind}
use Rattle.ra_patch.specs.declared.item_kind.ItemKind.TheVariants.{Achievement, Leaderboard}
use Rattle.ra_patch.specs.declared.left_out.LeftCause.{LeftCause}
use Rattle.ra_patch.specs.declared.left_out.LeftCause.TheVariants as causes
use Rattle.ra_patch.specs.declared.left_out.LeftList.{LeftList}
use Rattle.ra_patch.specs.declared.left_out.LeftList.TheVariants as lists
use Rattle.ra_patch.specs.declared.left_out.LeftOut.{LeftOut}
use Rattle.ra_patch.specs.declared.refused.PatchField.TheVariants.{RichPresencePatch}
use Rattle.ra_patch.specs.declared.refused.PatchRefused.{PatchRefused}
use Rattle.ra_patch.specs.declared.refused.PatchRefused.TheVariants.{Field}
use Rattle.ra_patch.specs.Faults.{achievement_faults, board_faults, achievement_breaks, board_breaks, text_or_empty}
use Rattle.ra_patch.specs.Fields.{id_in}
use Rattle.ra_patch.specs.Lines.{achievement_line, board_line, id_text}

-- ---- an item

-- the list of the items of a kind
abbrev pub list_of : ItemKind → LeftList
list_of Achievement = lists.Achievements
list_of Leaderboard = lists.Leaderboards

-- what is wrong with an item by itself, the fields before the texts
abbrev pub item_faults : ItemKind → Data → List PatchRefused
item_faults Achievement d = achievement_faults 0 d ++ achievement_breaks 0 d
item_faults Leaderboard d = board_faults 0 d ++ board_breaks 0 d

-- the cause that a fault is: its field, or else a break
abbrev pub cause_of : PatchRefused → LeftCause
cause_of (Field list index field) = causes.Field field
cause_of _ = causes.Break

-- the cause that the first fault of an item is, if it has one
abbrev pub fault_of : ItemKind → Data → Option LeftCause
fault_of kind d = option_map cause_of (slice_get (item_faults kind d) 0)

-- the text of an item: the trigger of an achievement, the board of a leaderboard
abbrev pub item_text : ItemKind → Data → List ℕ
item_text Achievement d = text_or_empty (codes "MemAddr") d
item_text Leaderboard d = text_or_empty (codes "Mem") d

-- the first bad place of a text that is outside a grammar, or none where it spells something
abbrev pub IsPlace : {V : Type 0} → Form ℕ V → List ℕ → Option ℕ → Type 0
IsPlace {V} form text None = (v : V) × form text v
IsPlace form text (Some at) = IsOutside form text at

-- the same of the text of an item
abbrev pub IsItemPlace : ItemKind → List ℕ → Option ℕ → Type 0
IsItemPlace Achievement text at = IsPlace trigger text at
IsItemPlace Leaderboard text at = IsPlace board text at

-- why an item is left out, or none where it stays: its first fault; its text; its id, where it is taken by another
abbrev pub IsVerdict : ItemKind → (taken : Bool) → Data → Option LeftCause → Type 0
IsVerdict kind taken d None = (fault_of kind d ≡ None) × IsItemPlace kind (item_text kind d) None × (taken ≡ false)
IsVerdict kind taken d (Some (causes.Field field)) = fault_of kind d ≡ Some (causes.Field field)
IsVerdict kind taken d (Some causes.Break) = fault_of kind d ≡ Some causes.Break
IsVerdict kind taken d (Some (causes.Syntax at)) =
    (fault_of kind d ≡ None) × IsItemPlace kind (item_text kind d) (Some at)
IsVerdict kind taken d (Some causes.Again) =
    (fault_of kind d ≡ None) × IsItemPlace kind (item_text kind d) None × (taken ≡ true)

-- ---- a list

-- the id of an item that has one
abbrev pub id_of : Data → ℕ
id_of d = unwrap_or (id_in d) 0

-- one of the items that stay has this id
abbrev pub has_id : (stays : List Data) → (id : ℕ) → Bool
has_id stays id = list_any (λ d. id == id_of d) stays

-- what stays of an item
abbrev pub kept_item : Option LeftCause → Data → List Data
kept_item None d = d ∷ []
kept_item (Some cause) d = []

-- what is told of an item that is left out
abbrev pub item_row : ItemKind → (index : ℕ) → Data → Option LeftCause → List LeftOut
item_row kind index d None = []
item_row kind index d (Some cause) = record { list = list_of kind; index = index; id = id_in d; cause = cause } ∷ []

-- of these items, in order, these stay and these are left out: an item is judged by those before it that stay
pub data Leaves (kind : ItemKind) : (items stays : List Data) → (left_out : List LeftOut) → Type 0 where
  of_none : Leaves kind [] [] []
  of_more : (items stays : List Data) (left_out : List LeftOut) (d : Data) (cause : Option LeftCause)
      → Leaves kind items stays left_out → IsVerdict kind (has_id stays (id_of d)) d cause
      → Leaves kind (items ++ d ∷ []) (stays ++ kept_item cause d) (left_out ++ item_row kind (length items) d cause)

-- what stands before the text of an item on its line
abbrev pub before_text : ItemKind → Data → List ℕ
before_text Achievement d = codes "A " ++ id_text d ++ codes " "
before_text Leaderboard d =
    codes "L " ++ id_text d ++ codes " " ++ text_or_empty (codes "Format") d ++ codes " "

-- the line of an item of a kind
abbrev pub line_of : ItemKind → Data → List ℕ
line_of Achievement = achievement_line
line_of Leaderboard = board_line

-- ---- the presence string

-- the first bad place of a presence string that is no script, or none where it is one or empty
abbrev pub IsScriptPlace : List ℕ → Option ℕ → Type 0
IsScriptPlace [] None = Unit {0}
IsScriptPlace [] (Some at) = ⊥
IsScriptPlace (c ∷ cs) None = (s : ScriptContents) × script (c ∷ cs) s
IsScriptPlace (c ∷ cs) (Some at) = presence.IsOutside (c ∷ cs) at

-- why the presence string is left out, or none where it stays; where it has no text the field is wrong
abbrev pub IsScriptVerdict : Option (List ℕ) → Option LeftCause → Type 0
IsScriptVerdict None cause = cause ≡ Some (causes.Field RichPresencePatch)
IsScriptVerdict (Some text) None = IsScriptPlace text None
IsScriptVerdict (Some text) (Some (causes.Syntax at)) = IsScriptPlace text (Some at)
IsScriptVerdict (Some text) (Some _) = ⊥

-- what stays of the presence string, empty where it is left out
abbrev pub kept_script : Option (List ℕ) → Option LeftCause → List ℕ
kept_script text None = unwrap_or text []
kept_script text (Some cause) = []

-- what is told of a presence string that is left out
abbrev pub script_row : Option LeftCause → List LeftOut
script_row None = []
script_row (Some cause) = record { list = lists.Presence; index = 0; id = None; cause = cause } ∷ []
