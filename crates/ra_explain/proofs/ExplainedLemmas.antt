-- The explanation of rows explains each history that has these rows, and no other does.
use Rattle.std.proofs.Common.{◌≡◌, ℕ, suc, ◌+◌, ◌-◌, ◌*◌, ◌≤◌, Bool, true, false, not, ◌&&◌, List, [], ◌∷◌, length}
use Rattle.std.proofs.Common.{reverse, refl, sym, ap, ap₂, subst, ◌∙◌, arith}
use Rattle.std.specs.List.{flat_map}
use Rattle.std.proofs.lemmas.Bool.{false≢true}
use Rattle.std.proofs.lemmas.List.{length-map}
use Rattle.ra_condition.specs.Contents.{TriggerContents, groups_of, trigger_hits}
use Rattle.ra_memory.specs.Image.{History}
use Rattle.ra_trigger.specs.States.{is_triggered, is_waiting}
use Rattle.ra_explain.specs.Explains.{ExplanationContents, Explains, row_at, said_from, said_before}
use Rattle.ra_explain.specs.Recorders.{KeptRows, StandsFor, kept_after, rows_in_order}
use Rattle.ra_explain.specs.Replays.{events_through}
use Rattle.ra_explain.specs.Beginnings.{StandsAtUnlock, UnlocksLast, ExplainsRows, begins_by, replayed}
use Rattle.ra_explain.specs.Unlocks.{rows_along, after_clear, waits_before, IsExplanation, ExplainsHistory}
use Rattle.ra_explain.proofs.BeginningLemmas.{begins_within}
use Rattle.ra_trigger.proofs.GroupsLemmas.{length-hits_along}
use Rattle.ra_explain.proofs.HistoryLemmas.{length_behind, length_along, begins_along, waits_along, triggered_before}
use Rattle.ra_explain.proofs.HistoryLemmas.{triggered_after}
use Rattle.ra_explain.proofs.TraceLemmas.{are_traced}

both : (a b : Bool) → (not a && b) ≡ true → (a ≡ false) × (b ≡ true)
both true b is = absurd (false≢true is)
both false b is = (refl, is)

module _ (t : TriggerContents) (kept : KeptRows) (at : StandsAtUnlock t kept) where
  rows_of : (history : History) → StandsFor t kept history → rows_in_order kept ≡ rows_along t history
  rows_of history stands = ap (λ rs. flat_map (λ row. row) (reverse rs)) stands.rows

  count_of : (history : History) → StandsFor t kept history → length kept.rows ≡ length history
  count_of history stands = ap length stands.rows ∙ length_behind t history

  -- there is a row
  pub some_rows : length kept.rows ≡ length at.earlier + 1
  some_rows = let long = count_of (at.image ∷ at.earlier) at.stands in
      let one : suc (length at.earlier) ≡ length at.earlier + 1 = omega arith in long ∙ one

  pub long_rows : (last : ℕ) → last + 1 ≡ length kept.rows → length (rows_in_order kept) ≡ (last + 1) * trigger_hits t
  long_rows last is =
      ap length (rows_of (at.image ∷ at.earlier) at.stands) ∙ length_along t (at.image ∷ at.earlier)
      ∙ ap (λ n. n * trigger_hits t) (sym (is ∙ count_of (at.image ∷ at.earlier) at.stands))

  pub unlocks_last : (last : ℕ) → last + 1 ≡ length kept.rows → UnlocksLast t (rows_in_order kept) last
  unlocks_last last is =
      let here : last ≡ length at.earlier = omega (arith, is, some_rows) in
      let rows = rows_of (at.image ∷ at.earlier) at.stands in
      let states = both (is_triggered (kept_after t at.earlier).state)
      (is_triggered (kept_after t (at.image ∷ at.earlier)).state) at.unlocks in
      record {
        before = ap₂ (λ rs n. is_triggered (replayed t rs n).state) rows here
            ∙ triggered_before t at.image at.earlier ∙ states.0;
        after = ap₂ (λ rs n. is_triggered (replayed t rs (suc n)).state) rows here
            ∙ triggered_after t at.image at.earlier ∙ states.1;
      }

  pub explains_each : (rows : List Bool) (last : ℕ) (e : ExplanationContents) → rows
      ≡ rows_in_order kept → last + 1 ≡ length kept.rows → ExplainsRows t rows last e
      → (history : History) → StandsFor t kept history → ExplainsHistory t history e
  explains_each rows last e are is x [] stands = absurd (omega (arith, count_of [] stands, is))
  explains_each rows last e are is x (image ∷ earlier) stands =
      let same : rows ≡ rows_along t (image ∷ earlier) = are ∙ rows_of (image ∷ earlier) stands in
      let here : last ≡ length earlier = omega (arith, is, count_of (image ∷ earlier) stands) in
      let within : e.since ≤ length earlier = let w = begins_within t rows last in omega (arith, w, here, x.since) in
      record {
        explains = subst (λ rs. Explains t rs e) same x.explains;
        last = x.last_too ∙ here;
        since = x.since ∙ ap₂ (begins_by t) same here ∙ begins_along t image earlier;
        waited = x.waited ∙ ap (λ rs. is_waiting (replayed t rs e.since).state) same
            ∙ waits_along t image earlier e.since within;
      }

-- there is one explanation of a history alone
module _ (t : TriggerContents) (image : List ℕ) (earlier : History) where
  abbrev all : List Bool
  all = rows_along t (image ∷ earlier)

  within : (e : ExplanationContents) → IsExplanation t image earlier e → e.since ≤ e.last
  within e is = let w = begins_within t all (length earlier) in
      omega (arith, w, is.since, is.last, begins_along t image earlier)

  many : (e : ExplanationContents) → IsExplanation t image earlier e → length e.events ≡ trigger_hits t
  many e is =
      sym (length-map e.events (λ own. said_from 0 own e.since))
      ∙ ap length (is.explains.counts e.since (omega arith) (within e is))
      ∙ length-hits_along (groups_of t) (row_at t all e.since) [] (said_before e e.since)

  traced : (e : ExplanationContents) → IsExplanation t image earlier e → e.events
      ≡ events_through t all (after_clear t earlier) (length earlier + 1 - after_clear t earlier)
  traced e is =
      are_traced t all e (within e is) (many e is) is.explains
      ∙ (λ i. events_through t all (is.since i) (is.last i + 1 - is.since i))

  pub one_explanation : (e e' : ExplanationContents) → IsExplanation t image earlier e
      → IsExplanation t image earlier e' → e ≡ e'
  one_explanation e e' is is' = λ i. record {
    last = (is.last ∙ sym is'.last) i;
    since = (is.since ∙ sym is'.since) i;
    waited = (is.waited ∙ ap (λ n. waits_before t earlier n) (is.since ∙ sym is'.since) ∙ sym is'.waited) i;
    events = (traced e is ∙ sym (traced e' is')) i;
  }
