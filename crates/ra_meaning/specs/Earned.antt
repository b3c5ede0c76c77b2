-- Which achievements are earned, beside what an opening keeps of them: docs/DEFINITIONS.md, "Earned achievements".
use Rattle.std.specs.Prelude.{◌≡◌, ◌||◌, Bool, true, false, List, [], ◌∷◌, map}
use Rattle.ra_set.specs.Contents.{SetContents}
use Rattle.ra_progress.specs.Contents.{KeptItem, OfAchievement, OfBoard, Opening}

-- which items of a set are earned, one answer for each: true for achievements alone
abbrev pub Earned : Type 0
Earned = List Bool

-- whether an item is earned, which a board never is
abbrev pub is_earned : KeptItem → Bool
is_earned (OfAchievement state measured hits earned) = earned
is_earned (OfBoard state hits numbers) = false

-- the same item, earned or not; a board stays as it is
abbrev pub item_with : Bool → KeptItem → KeptItem
item_with earned (OfAchievement state measured hits old) = OfAchievement state measured hits earned
item_with earned (OfBoard state hits numbers) = OfBoard state hits numbers

-- the achievements that an opening has earned
abbrev pub earned_in : Opening → Earned
earned_in o = map is_earned o.items

-- items of which exactly these are earned
abbrev pub items_with : Earned → List KeptItem → List KeptItem
items_with (earned ∷ more) (item ∷ items) = item_with earned item ∷ items_with more items
items_with _ _ = []

-- the opening of which exactly these achievements are earned
abbrev pub with_earned : Opening → Earned → Opening
with_earned o earned = record o { items = items_with earned o.items }

-- what is earned in the one or in the other
abbrev pub both_earned : Earned → Earned → Earned
both_earned (one ∷ earned) (other ∷ others) = (one || other) ∷ both_earned earned others
both_earned _ _ = []

-- nothing is earned
abbrev pub none_earned : SetContents → Earned
none_earned set = map (λ item. false) set.items

-- what is earned in the one is earned in the other
abbrev pub IsEarnedToo : (less more : Earned) → Type 0
IsEarnedToo less more = both_earned more less ≡ more

-- an achievement is earned where it is triggered, and a board is not
abbrev pub HoldsTriggered : Bool → KeptItem → Type 0
HoldsTriggered earned (OfAchievement state measured hits old) = state ≡ 4 → earned ≡ true
HoldsTriggered earned (OfBoard state hits numbers) = earned ≡ false

-- there is one answer for each item, and each triggered achievement is earned
abbrev pub HoldTriggered : Earned → List KeptItem → Type 0
HoldTriggered [] [] = Unit {0}
HoldTriggered (earned ∷ more) (item ∷ items) = HoldsTriggered earned item × HoldTriggered more items
HoldTriggered _ _ = ⊥
