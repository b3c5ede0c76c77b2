-- Whether a set with one item alone is accepted: docs/DEFINITIONS.md, "Calls from C".
use Rattle.std.specs.Prelude.{◌≡◌, ◌⊎◌, ℕ, ◌+◌, ◌-◌, ◌<◌, ◌≤◌, ◌==◌, ◌||◌, if◌then◌else◌, Option, None, Some, List, [], ◌∷◌}
use Rattle.std.specs.Prelude.{◌++◌, length, codes}
use Rattle.ra_set.specs.Accepted.{IsSet}
use Rattle.ra_set.specs.Contents.{SetContents}
use Rattle.ra_set.specs.Limits.{most_bytes}
use Rattle.ra_set.specs.Refusals.{Refuses}
use Rattle.ra_set.specs.declared.refused.SetRefused.{SetRefused}
use Rattle.ra_set.specs.declared.refused.SetRefused.TheVariants.{Syntax}
use Rattle.ra_judge.specs.Reasons.{reason_of, set_reason, syntax_reason}
use Rattle.ra_judge.specs.declared.judging.Kind.{Kind}
use Rattle.ra_judge.specs.declared.judging.Kind.TheVariants.{Achievement, Leaderboard, Presence}
use Rattle.ra_judge.specs.declared.refusal.Refusal.{Refusal}

-- the kind of a number, where it is one
abbrev pub kind_of : ℕ → Option Kind
kind_of n = if n == 1 then Some Achievement
    else (if n == 2 then Some Leaderboard else (if n == 3 then Some Presence else None))

-- what stands before the text of an item in a set file
abbrev pub head_of : Kind → List ℕ
head_of Achievement = codes "A 1 "
head_of Leaderboard = codes "L 1 VALUE "
head_of Presence = 80 ∷ 10 ∷ []

-- what follows it
abbrev pub tail_of : Kind → List ℕ
tail_of Achievement = 10 ∷ []
tail_of Leaderboard = 10 ∷ []
tail_of Presence = []

-- the set file of one item
abbrev pub file_of : Kind → List ℕ → List ℕ
file_of kind text = head_of kind ++ (text ++ tail_of kind)

-- the most bytes of the text of an item that is a set alone
abbrev pub most_for : Kind → ℕ
most_for Achievement = most_bytes - 5
most_for Leaderboard = most_bytes - 11
most_for Presence = most_bytes - 2

-- the place of the first line feed or carriage return of a text, counted on from a number
abbrev pub break_at : ℕ → List ℕ → Option ℕ
break_at at [] = None
break_at at (byte ∷ bytes) = if (byte == 10) || (byte == 13) then Some at else break_at (at + 1) bytes

-- where the text of an item would end its line; a script has lines
abbrev pub break_in : Kind → List ℕ → Option ℕ
break_in Achievement text = break_at 0 text
break_in Leaderboard text = break_at 0 text
break_in Presence text = None

-- the text does not end its line, and the set file of this item alone is a set
pub record IsAccepted (kind : Kind) (text : List ℕ) : Type 0 where
  pub whole : break_in kind text ≡ None
  pub set : SetContents
  pub is : IsSet (file_of kind text) set

-- why the set file of an item is refused, with the place counted from the start of the item's text
abbrev pub item_reason : Kind → List ℕ → SetRefused → Refusal
item_reason kind text (Syntax at) = syntax_reason text (at - length (head_of kind))
item_reason kind text why = set_reason (file_of kind text) why

-- the text is too long; or else it ends its line; or else the set file is refused
abbrev pub IsRefused : Kind → List ℕ → Refusal → Type 0
IsRefused kind text why =
    ((most_for kind < length text) × (why ≡ reason_of 3 0 0 (length text) (most_for kind)))
    ⊎ ((length text ≤ most_for kind)
    × (((at : ℕ) × (break_in kind text ≡ Some at) × (why ≡ syntax_reason text at))
    ⊎ ((break_in kind text ≡ None)
    × ((reason : SetRefused) × Refuses (file_of kind text) reason × (why ≡ item_reason kind text reason)))))

-- the item of a kind is accepted, where the number is one
abbrev pub AcceptsKind : Option Kind → List ℕ → Type 0
AcceptsKind None text = ⊥
AcceptsKind (Some kind) text = IsAccepted kind text

-- the item of a kind is refused, where the number is one
abbrev pub RefusesKind : Option Kind → List ℕ → Refusal → Type 0
RefusesKind None text why = ⊥
RefusesKind (Some kind) text why = IsRefused kind text why

-- an item of a kind is accepted, or refused for this reason
abbrev pub IsJudged : Kind → List ℕ → Option Refusal → Type 0
IsJudged kind text None = IsAccepted kind text
IsJudged kind text (Some why) = IsRefused kind text why
