-- The hits from one row on, and the events that they make: docs/DEFINITIONS.md, "Explanations".
use Rattle.std.specs.Prelude.{◌≡◌, ℕ, zero, suc, ◌+◌, ◌-◌, ◌<◌, ◌≤◌, ◌==◌, if◌then◌else◌, Bool, false, Option, None}
use Rattle.std.specs.Prelude.{Some, List, [], ◌∷◌, ◌++◌, length, map, replicate}
use Rattle.ra_condition.specs.Contents.{TriggerContents, trigger_hits}
use Rattle.ra_trigger.specs.Kept.{orders_of, pauses_of}
use Rattle.ra_trigger.specs.Steps.{Together, together}
use Rattle.ra_explain.specs.declared.explanation.Event.{Event}
use Rattle.ra_explain.specs.declared.explanation.Events.{Events}
use Rattle.ra_explain.specs.declared.orders.Orders.{Orders}
use Rattle.ra_explain.specs.declared.replay.Replay.{Replay}
use Rattle.ra_explain.specs.declared.replay.Said.{Said}
use Rattle.ra_explain.specs.Explains.{row_at}

-- the pass orders of a trigger's groups, and how many conditions of each group stand in pause chains
pub record AreOrders (t : TriggerContents) (orders : Orders) : Type 0 where
  pub order : orders.order.items ≡ orders_of t
  pub pauses : orders.pauses.items ≡ pauses_of t

-- a replay of a trigger, with room for its hits
pub record IsReplay (t : TriggerContents) (replay : Replay) : Type 0 where
  pub orders : AreOrders t replay.orders
  pub zeros : length replay.zeros.items ≡ trigger_hits t
  pub room : length replay.room.items ≡ trigger_hits t
  pub hits : length replay.trigger.hits ≡ trigger_hits t

-- a row of a replay: what is told of it, and the hits after it where it does not reset
pub record StepsRow (t : TriggerContents) (row : List Bool) (old new : Replay) (said : Said) : Type 0 where
  pub reset : said.reset ≡ (together t row [] old.trigger.hits).reset
  pub valid : said.valid ≡ (together t row [] old.trigger.hits).valid
  pub hits : said.reset ≡ false → new.trigger.hits ≡ (together t row [] old.trigger.hits).hits

-- what all groups say at a row together, from these hits; no left value counts for it
abbrev pub said_by : TriggerContents → List Bool → ℕ → List ℕ → Together
said_by t rows row hits = together t (row_at t rows row) [] hits

-- the hits after this many rows from one on, before which all were 0
abbrev pub hits_through : TriggerContents → List Bool → (since count : ℕ) → List ℕ
hits_through t rows since zero = replicate (trigger_hits t) 0
hits_through t rows since (suc count) = (said_by t rows (since + count) (hits_through t rows since count)).hits

-- the events of a condition, and that of one row more where its hits changed
abbrev pub noted_one : ℕ → List Event → (before after : ℕ) → List Event
noted_one row own before after = if after == before then own else own ++ record { row = row; hits = after } ∷ []

-- the events of each condition, and those of one row more, at which the hits went from these to those
abbrev pub noted : ℕ → List (List Event) → (before after : List ℕ) → List (List Event)
noted row (own ∷ events) (b ∷ before) (a ∷ after) =
    noted_one row own b a ∷ noted row events before after
noted row _ _ _ = []

-- the events of this many rows from one on
abbrev pub events_through : TriggerContents → List Bool → (since count : ℕ) → List (List Event)
events_through t rows since zero = replicate (trigger_hits t) []
events_through t rows since (suc count) =
    noted (since + count) (events_through t rows since count) (hits_through t rows since count)
    (hits_through t rows since (suc count))

-- a row on the way to the unlock: it does not reset, and is valid exactly where it is the last
pub record GoesOn (t : TriggerContents) (rows : List Bool) (since last count : ℕ) : Type 0 where
  pub reset : (said_by t rows (since + count) (hits_through t rows since count)).reset ≡ false
  pub valid : (said_by t rows (since + count) (hits_through t rows since count)).valid ≡ (since + count == last)

-- all rows before the place go on
abbrev pub AllGoOn : TriggerContents → List Bool → (since last place : ℕ) → Type 0
AllGoOn t rows since last place = (k : ℕ) → since + k < place → GoesOn t rows since last k

-- some row up to the last does not go on
abbrev pub Strays : TriggerContents → List Bool → (since last : ℕ) → Type 0
Strays t rows since last = (k : ℕ) × (since + k ≤ last) × (¬ GoesOn t rows since last k)

-- the events of conditions
abbrev pub contents_of : List Events → List (List Event)
contents_of events = map (λ own. own.list.items) events

-- the events of the rows up to the last, where all of them go on; none where one does not
abbrev pub IsTrace : TriggerContents → List Bool → (since last : ℕ) → Option (List (List Event)) → Type 0
IsTrace t rows since last (Some events) =
    AllGoOn t rows since last (last + 1) × (events ≡ events_through t rows since (last + 1 - since))
IsTrace t rows since last None = Strays t rows since last
