use Rattle.std.proofs.Common.{◌≡◌, ◌-◌, Some, IfSome, IfNone, get_or, slice_get, subst, sym, ap, ◌∙◌, arith}
use Rattle.std.specs.List.{Contains}
use Rattle.std.proofs.lemmas.Bool.{false≢true}
use Rattle.std.proofs.lemmas.Option.{slice_get-get_or}
use Rattle.std.proofs.lemmas.List.{get_or_default, get_or_past}
use Rattle.ra_truths.specs.contracts.comparison.ComparisonPartialEq.TheImpl.{ghosts}
use Rattle.ra_truths.proofs.FoundLemmas.{first_at, found_there, not_there}
use Rattle.ra_truths.proofs.SameComparison.{itself, same}
use Rattle.ra_truths.proofs.comparisons.Comparisons.find.Goals.{then-left-len+else-first-eq0+else-eq, else-left-len}
use Rattle.ra_truths.proofs.comparisons.Comparisons.find.Goals as goal

pub index-requires : goal.index-requires
index-requires c =
    let s = c.self.inside in
    let there = first_at s.list.items s.firsts.items _ c.self.invariant.found c.args.comparison.left
    c.index-first.result.now c.index-first.ensures
    (omega (arith, c.if-left-len.true, c.len.ensures, s.firsts.ok.0)) c.if-first-eq0.false in
    omega (arith, there.1, s.list.ok.0)

pub returns-then-eq-clause-found : goal.returns-then-eq-clause-found
returns-then-eq-clause-found c =
    let s = c.self.inside in
    let there = first_at s.list.items s.firsts.items _ c.self.invariant.found c.args.comparison.left
    c.index-first.result.now c.index-first.ensures
    (omega (arith, c.if-left-len.true, c.len.ensures, s.firsts.ok.0)) c.if-first-eq0.false in
    subst (λ list. slice_get list (c.index-first.result.now - 1) ≡ Some c.args.comparison) c.self.view_is
    (slice_get-get_or s.list.items (c.index-first.result.now - 1) c.index.result.now there.1
    ∙ ap (λ d. Some d) (sym c.index.ensures ∙ same _ _ (sym c.eq.ensures ∙ c.if-eq.true)))

pub returns-clause-found : goal.returns-clause-found
returns-clause-found c =
    let s = c.self.inside in
    subst (λ list. IfSome c.copied.result (λ number. slice_get list number ≡ Some c.args.comparison)) c.self.view_is
    (found_there s.list.items s.firsts.items _ c.self.invariant.found c.args.comparison c.copied.result
    (c.copied.ensures ∙ c.get.ensures.value))

pub returns-clause-absent : goal.returns-clause-absent
returns-clause-absent c =
    let s = c.self.inside in
    subst (λ list. IfNone c.copied.result (Contains list c.args.comparison → ⊥)) c.self.view_is
    (not_there s.list.items s.firsts.items _ c.self.invariant.found c.args.comparison
    (λ k below first is. elim c.if-left-len.branch [
      | then-left-len+else-first-eq0+else-eq w ↦
          let there = first_at s.list.items s.firsts.items _ c.self.invariant.found c.args.comparison.left
          w.index-first.result.now w.index-first.ensures
          (omega (arith, w.if-left-len.true, c.len.ensures, s.firsts.ok.0)) w.if-first-eq0.false in
          let at : w.index-first.result.now - 1 ≡ k = omega (arith, there.0, first) in
          let here = w.index.ensures ∙ ap (λ n. get_or s.list.items n w.index.result.now) at
          ∙ get_or_default s.list.items k _ _ below ∙ is in
          absurd (false≢true (sym w.if-eq.false ∙ w.eq.ensures
          ∙ ap (λ d. ghosts.eq d c.args.comparison) here ∙ itself c.args.comparison))
      | else-left-len w ↦
          let past = get_or_past s.firsts.items c.args.comparison.left 0
          (omega (arith, w.if-left-len.false, c.len.ensures, s.firsts.ok.0)) in
          absurd (omega (arith, past, first))
    ])
    c.copied.result (c.copied.ensures ∙ c.get.ensures.value))
