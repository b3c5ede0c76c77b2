use Rattle.std.proofs.Common.{◌≡◌, [], true, get_or, ap, sym, ◌∙◌, arith}
use Rattle.std.proofs.lemmas.Bool.{false≢true}
use Rattle.ra_explain.specs.declared.explanation.Events.{Events}
use Rattle.ra_explain.proofs.NoteLemmas.{changes_at, column_at}
use Rattle.ra_explain.proofs.checking.same_events.Goals as goal

pub returns-then-not-same_list : goal.returns-then-not-same_list
returns-then-not-same_list c = (
  λ e. absurd (false≢true e),
  λ same.
      let k = c.loop-place.place in
      let mine = changes_at c.args.changes.now k c.index-changes-place.result c.loop-place-test.true
      c.index-changes-place.is in
      let other = column_at c.args.events.now k c.index-events-place.result
      (omega (arith, c.loop-place-test.true, c.requires)) c.index-events-place.is in
      let equal : c.index-changes-place.result.events ≡ c.index-events-place.result.list.items =
      sym mine ∙ ap (λ xs. get_or xs k []) same ∙ other in
      let first = c.deref.ensures.value ∙ c.in_ok-list.ensures in
      let found : c.same_list.result ≡ true = c.same_list.ensures.1 (first ∙ equal ∙ ap (λ (o
      : Events). o.list.items) c.index-events-place.is ∙ sym c.deref-in-loop-place.ensures.value) in
      absurd (false≢true (sym c.if-not-same_list.true ∙ found)),
)
