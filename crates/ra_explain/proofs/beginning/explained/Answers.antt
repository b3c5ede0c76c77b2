use Rattle.std.proofs.Common.{arith, ◌≡◌, ◌⊎◌, ◌+◌, ◌-◌, ◌<◌, ◌≤◌, false, Option, None, Some, option_map, length, refl}
use Rattle.std.proofs.Common.{inl, inr, ap, sym, subst, ◌∙◌}
use Rattle.std.specs.Global.{Vec}
use Rattle.ra_condition.specs.Contents.{trigger_contents, trigger_hits}
use Rattle.ra_trigger.specs.States.{is_waiting}
use Rattle.ra_explain.specs.Beginnings.{replayed}
use Rattle.ra_explain.specs.Explains.{ExplanationContents}
use Rattle.ra_explain.specs.HitChanges.{ChangesSeen, events_of}
use Rattle.ra_explain.specs.OrderedRows.{joined}
use Rattle.ra_explain.specs.Replays.{AllGoOn, IsTrace}
use Rattle.ra_explain.proofs.BeginningLemmas.{begins_within, rows_go_on, waited_before}
use Rattle.ra_explain.proofs.TraceLemmas.{many_events, explained}
use Rattle.ra_explain.proofs.beginning.explained.Goals as goal

pub trace-requires-clause-since : goal.trace-requires-clause-since
trace-requires-clause-since c =
    let within = begins_within (trigger_contents c.args.text.now) (joined c.args.rows.now) c.args.last in
    omega (arith, within, c.in_ok-since.ensures.since)

pub unreachable-requires : goal.unreachable-requires
unreachable-requires c =
    let t = trigger_contents c.args.text.now in
    let rows = joined c.args.rows.now in
    let last = c.args.last in
    let since = c.in_ok-since.field-0.since in
    let stray : IsTrace t rows since last None =
    subst (λ (o : Option (Vec ChangesSeen)). IsTrace t rows since last
    (option_map (λ v. events_of v.items) o)) c.in_default.is c.in_ok-changes.ensures in
    let good : AllGoOn t rows since last (last + 1) = subst (λ n. AllGoOn t rows n last (last + 1))
    (sym c.in_ok-since.ensures.since) (rows_go_on t rows last c.requires.unlock) in
    stray.2 (good stray.0 (omega (arith, stray.1)))

pub returns : goal.returns
returns c =
    let t = trigger_contents c.args.text.now in
    let rows = joined c.args.rows.now in
    let last = c.args.last in
    let since = c.in_ok-since.field-0.since in
    let waited = c.in_ok-since.field-0.waited in
    let begins = c.in_ok-since.ensures in
    let traced : IsTrace t rows since last (Some (events_of c.in-Some.changes.items)) =
    subst (λ (o : Option (Vec ChangesSeen)). IsTrace t rows since last
    (option_map (λ v. events_of v.items) o)) c.in-Some.is c.in_ok-changes.ensures in
    let many : length (events_of c.in-Some.changes.items) ≡ trigger_hits t =
    ap length traced.1 ∙ many_events t rows since (last + 1 - since) in
    let upto : since ≤ last = let within = begins_within t rows last in omega (arith, within, begins.since) in
    let wait : (waited ≡ false) ⊎ (since < last) = elim (waited_before t rows last c.requires.unlock
    waited (begins.waited ∙ ap (λ n. is_waiting (replayed t rows n).state) begins.since)) [
      | inl none ↦ inl none
      | inr earlier ↦ inr (subst (λ n. n < last) (sym begins.since) earlier)
    ] in
    let e : ExplanationContents = record
    { last = last; since = since; waited = waited; events = events_of c.in-Some.changes.items } in
    record {
      explains = explained t rows e upto many traced.0 traced.1 wait;
      last_too = refl;
      since = begins.since;
      waited = begins.waited;
      many = many;
    }
