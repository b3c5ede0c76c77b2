use Rattle.std.proofs.Common.{◌≡◌, ◌⊎◌, ◌+◌, ◌-◌, ◌*◌, ◌<◌, ◌↔◌, true, false, Option, None, Some, option_map, length}
use Rattle.std.proofs.Common.{inl, inr, ap, sym, subst, ◌∙◌, arith}
use Rattle.std.specs.Global.{Vec}
use Rattle.std.proofs.lemmas.Bool.{false≢true}
use Rattle.std.proofs.lemmas.List.{length-map}
use Rattle.std.proofs.lemmas.Result.{IfOk-weaker}
use Rattle.ra_condition.specs.Contents.{trigger_contents, trigger_hits}
use Rattle.ra_explain.specs.declared.explanation.Events.{Events}
use Rattle.ra_explain.specs.Explains.{Explains, UnlockFollows, explanation_contents}
use Rattle.ra_explain.specs.HitChanges.{ChangesSeen, events_of}
use Rattle.ra_explain.specs.OrderedRows.{AreRows, joined}
use Rattle.ra_explain.specs.Replays.{IsTrace, contents_of}
use Rattle.ra_explain.proofs.FollowLemmas.{unlock_follows}
use Rattle.ra_explain.proofs.OrderLemmas.{are_rows, rows_all}
use Rattle.ra_explain.proofs.TraceLemmas.{many_events, explained, are_traced, never_strays}
use Rattle.ra_explain.proofs.checking.verify.Goals as goal
use Rattle.ra_explain.proofs.checking.verify.Goals.{else-explanation-via-then-explanation+else-explanation-2}
use Rattle.ra_explain.proofs.checking.verify.Goals.{else-explanation-via-else-explanation}

pub trace-requires-clause-rows : goal.trace-requires-clause-rows
trace-requires-clause-rows c =
    let t = trigger_contents c.args.text.now in
    let e = c.args.explanation.now in
    let width : c.len.result ≡ trigger_hits t = omega (arith, c.len.ensures, e.events.ok.0, c.requires.events) in
    subst (AreRows t e.last) (sym c.in_ok-rows.ensures) (are_rows t e.last c.len.result
    c.args.rows.now width (c.requires.rows ∙ ap (λ n. (e.last + 1) * n) (sym width)))

pub same_events-requires : goal.same_events-requires
same_events-requires c =
    let t = trigger_contents c.args.text.now in
    let e = c.args.explanation.now in
    let rows = joined c.in_ok-rows.rows in
    let traced : IsTrace t rows e.since e.last (Some (events_of c.in-Some.changes.items)) =
    subst (λ (o : Option (Vec ChangesSeen)). IsTrace t rows e.since e.last
    (option_map (λ v. events_of v.items) o)) c.in-Some.is c.in_ok-changes.ensures in
    ap length c.deref.ensures.value ∙ sym (length-map c.in-Some.changes.items
    (λ (o : ChangesSeen). o.events)) ∙ ap length traced.1 ∙ many_events t rows e.since
    (e.last + 1 - e.since) ∙ sym c.requires.events ∙ sym (ap length c.deref-in-Some.ensures.value)

pub returns-in-Some-clause-exact : goal.returns-in-Some-clause-exact
returns-in-Some-clause-exact c =
    let t = trigger_contents c.args.text.now in
    let rows = c.args.rows.now in
    let e = c.args.explanation.now in
    let width : c.len.result ≡ trigger_hits t = omega (arith, c.len.ensures, e.events.ok.0, c.requires.events) in
    let all : joined c.in_ok-rows.rows ≡ rows = ap joined c.in_ok-rows.ensures ∙ rows_all
    c.len.result (e.last + 1) rows (c.requires.rows ∙ ap (λ n. (e.last + 1) * n) (sym width)) in
    let traced : IsTrace t rows e.since e.last (Some (events_of c.in-Some.changes.items)) =
    subst (λ rs. IsTrace t rs e.since e.last (Some (events_of c.in-Some.changes.items))) all
    (subst (λ (o : Option (Vec ChangesSeen)). IsTrace t (joined c.in_ok-rows.rows) e.since e.last
    (option_map (λ v. events_of v.items) o)) c.in-Some.is c.in_ok-changes.ensures) in
    let many : length (contents_of e.events.items) ≡ trigger_hits t =
    length-map e.events.items (λ (o : Events). o.list.items) ∙ c.requires.events in
    let waited : (e.waited ≡ false) ⊎ (e.since < e.last) = elim c.else-explanation.branch [
      | else-explanation-via-then-explanation+else-explanation-2 w ↦
          inr (omega (arith, w.if-explanation-2.false, c.requires.since))
      | else-explanation-via-else-explanation w ↦ inl w.if-explanation.false
    ] in
    IfOk-weaker c.same_events.result (λ yes. (yes ≡ true) ↔ (events_of c.deref.result.now
    ≡ contents_of c.deref-in-Some.result.now))
    (λ yes. (yes ≡ true) ↔ Explains t rows (explanation_contents e))
    (λ yes same. (
      λ is. explained t rows (explanation_contents e) c.requires.since many traced.0
          (sym (ap contents_of c.deref-in-Some.ensures.value) ∙ sym (same.0 is)
          ∙ ap events_of c.deref.ensures.value ∙ traced.1) waited,
      λ x. same.1 (ap events_of c.deref.ensures.value ∙ traced.1 ∙ sym (are_traced t rows
          (explanation_contents e) c.requires.since many x)
          ∙ sym (ap contents_of c.deref-in-Some.ensures.value)),
    )) c.same_events.ensures

pub returns-in-Some-clause-unlocks : goal.returns-in-Some-clause-unlocks
returns-in-Some-clause-unlocks c =
    let t = trigger_contents c.args.text.now in
    let rows = c.args.rows.now in
    let e = explanation_contents c.args.explanation.now in
    IfOk-weaker c.same_events.result (λ yes. (yes ≡ true) ↔ Explains t rows e) (λ yes. yes ≡ true
    → UnlockFollows t rows e)
    (λ yes exact is. unlock_follows t rows e (exact.0 is)) (returns-in-Some-clause-exact c)

pub returns-clause-exact : goal.returns-clause-exact
returns-clause-exact c =
    let t = trigger_contents c.args.text.now in
    let rows = c.args.rows.now in
    let e = c.args.explanation.now in
    let width : c.len.result ≡ trigger_hits t = omega (arith, c.len.ensures, e.events.ok.0, c.requires.events) in
    let all : joined c.in_ok-rows.rows ≡ rows = ap joined c.in_ok-rows.ensures ∙ rows_all
    c.len.result (e.last + 1) rows (c.requires.rows ∙ ap (λ n. (e.last + 1) * n) (sym width)) in
    let stray : IsTrace t rows e.since e.last None =
    subst (λ rs. IsTrace t rs e.since e.last None) all
    (subst (λ (o : Option (Vec ChangesSeen)). IsTrace t (joined c.in_ok-rows.rows) e.since e.last
    (option_map (λ v. events_of v.items) o)) c.in-None.is c.in_ok-changes.ensures) in
    let many : length (contents_of e.events.items) ≡ trigger_hits t =
    length-map e.events.items (λ (o : Events). o.list.items) ∙ c.requires.events in (
      λ bad. absurd (false≢true bad),
      λ x. absurd (never_strays t rows (explanation_contents e) c.requires.since many x stray),
    )
