-- What each row did to the hits of a condition, and the events that this makes: docs/DEFINITIONS.md, "Explanations".
use Rattle.std.specs.Prelude.{◌≡◌, ◌⊎◌, ℕ, ◌+◌, ◌<◌, min, List, [], ◌∷◌, length, map, slice_index}
use Rattle.ra_explain.specs.declared.explanation.Event.{Event}
use Rattle.ra_explain.specs.declared.hit_change.HitChange.{HitChange}
use Rattle.ra_explain.specs.declared.hit_change.HitChange.TheVariants.{Stays, Counts, Clears}
use Rattle.ra_explain.specs.Replays.{noted_one}

-- one hit more, up to the greatest number of 32 bits
abbrev pub one_more : (hits : ℕ) → ℕ
one_more hits = min (hits + 1) 4294967295

-- hits that a row leaves: those before it, one more, or 0
abbrev pub IsNext : (before after : ℕ) → Type 0
IsNext before after = (after ≡ before) ⊎ ((after ≡ one_more before) ⊎ (after ≡ 0))

-- the same of each condition
abbrev pub AreNext : (before after : List ℕ) → Type 0
AreNext before after = (k : ℕ) → k < length before → IsNext (slice_index before k) (slice_index after k)

-- a condition after some rows: the row that comes next, its hits, and its events so far
pub record ChangesSeen : Type 0 where
  pub row : ℕ
  pub hits : ℕ
  pub events : List Event

-- a condition before the first of its rows
abbrev pub unchanged : (since : ℕ) → ChangesSeen
unchanged since = record { row = since; hits = 0; events = [] }

-- one row more, which leaves these hits
abbrev pub with_row : ChangesSeen → (hits : ℕ) → ChangesSeen
with_row own hits = record { row = own.row + 1; hits = hits; events = noted_one own.row own.events own.hits hits }

-- the same of each condition
abbrev pub with_rows : List ChangesSeen → (hits : List ℕ) → List ChangesSeen
with_rows (own ∷ others) (h ∷ hits) = with_row own h ∷ with_rows others hits
with_rows _ _ = []

-- the hits that a change leaves
abbrev pub hits_by : HitChange → (before : ℕ) → ℕ
hits_by Stays before = before
hits_by Counts before = one_more before
hits_by Clears before = 0

-- a condition after some changes more
abbrev pub changed_by : ChangesSeen → List HitChange → ChangesSeen
changed_by own [] = own
changed_by own (change ∷ changes) = changed_by (with_row own (hits_by change own.hits)) changes

-- the events of each condition
abbrev pub events_of : List ChangesSeen → List (List Event)
events_of conditions = map (λ own. own.events) conditions
