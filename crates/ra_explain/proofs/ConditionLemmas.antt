-- The conditions of a trigger after some rows from one on.
use Rattle.std.proofs.Common.{◌≡◌, ℕ, ◌+◌, ◌-◌, ◌<◌, ◌≤◌, Bool, List, length, map, replicate, suc, sym, ap, ◌∙◌, arith}
use Rattle.std.specs.List.{AllByRecursion}
use Rattle.ra_condition.specs.Contents.{TriggerContents, trigger_hits}
use Rattle.ra_explain.specs.HitChanges.{ChangesSeen, events_of, unchanged, with_rows}
use Rattle.ra_explain.specs.Replays.{noted, hits_through, events_through}
use Rattle.ra_explain.proofs.NoteLemmas.{columns, columns_events, columns_first, columns_hits, columns_more}
use Rattle.ra_explain.proofs.NoteLemmas.{columns_room, length_columns}
use Rattle.ra_explain.proofs.TraceLemmas.{many_events, many_hits}

-- the conditions at a row
abbrev pub conditions_at : TriggerContents → List Bool → (since row : ℕ) → List ChangesSeen
conditions_at t rows since row =
    columns row (events_through t rows since (row - since)) (hits_through t rows since (row - since))

module _ (t : TriggerContents) (rows : List Bool) (since : ℕ) where
  as_many : (count : ℕ) → length (hits_through t rows since count) ≡ length (events_through t rows since count)
  as_many count = many_hits t rows since count ∙ sym (many_events t rows since count)

  pub many_conditions : (row : ℕ) → length (conditions_at t rows since row) ≡ trigger_hits t
  many_conditions row =
      let k = row - since in
      length_columns row (events_through t rows since k) (hits_through t rows since k) (as_many k)
      ∙ many_hits t rows since k

  pub hits_at : (row : ℕ) → map (λ (o : ChangesSeen). o.hits) (conditions_at t rows since row) ≡ hits_through t rows
      since (row - since)
  hits_at row =
      let k = row - since in columns_hits row (events_through t rows since k) (hits_through t rows since k) (as_many k)

  pub events_at : (row : ℕ) → events_of (conditions_at t rows since row) ≡ events_through t rows since (row - since)
  events_at row =
      let k = row - since in columns_events row (events_through t rows since k) (hits_through t rows since k)
      (as_many k)

  pub room_before : (row bound : ℕ) → row < bound → AllByRecursion (λ (o : ChangesSeen). o.row < bound)
      (conditions_at t rows since row)
  room_before row bound below =
      let k = row - since in columns_room row bound (events_through t rows since k) (hits_through t rows since k) below

  -- before the first row
  pub first_conditions : replicate (trigger_hits t) (unchanged since) ≡ conditions_at t rows since since
  first_conditions =
      let none : 0 ≡ since - since = omega arith in
      columns_first since (trigger_hits t)
      ∙ ap (λ n. columns since (events_through t rows since n) (hits_through t rows since n)) none

  -- one row more
  pub next_conditions : (row : ℕ) → since ≤ row → with_rows (conditions_at t rows since row)
      (hits_through t rows since (suc (row - since))) ≡ conditions_at t rows since (row + 1)
  next_conditions row from =
      let k = row - since in
      let events = events_through t rows since k in
      let before = hits_through t rows since k in
      let after = hits_through t rows since (suc k) in
      let place : row ≡ since + k = omega (arith, from) in
      let next : suc k ≡ row + 1 - since = omega (arith, from) in
      columns_more row events before after (as_many k)
      (many_hits t rows since (suc k) ∙ sym (many_events t rows since k))
      ∙ ap (λ n. columns (row + 1) (noted n events before after) after) place
      ∙ ap (λ n. columns (row + 1) (events_through t rows since n) (hits_through t rows since n)) next
