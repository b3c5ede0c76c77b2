use Rattle.std.proofs.Common.{◌≡◌, ◌≢◌, ◌⊎◌, inl, inr, ◌<◌, ◌^◌, [], ◌∷◌, Bool, Some, ◌≤◌, true, false, get_or}
use Rattle.std.proofs.Common.{length, length-append, subst, sym, ap, ◌∙◌, arith, refl}
use Rattle.std.specs.List.{Contains}
use Rattle.std.specs.HashMap.{get}
use Rattle.std.proofs.lemmas.Grind.{common_steps}
use Rattle.std.proofs.lemmas.List.{get_or_default}
use Rattle.std.proofs.lemmas.List.Elements.{Contains-get_or}
use Rattle.ra_operand.specs.declared.op.Op.TheVariants.{Bare}
use Rattle.ra_truths.specs.declared.comparison.Comparison.{Comparison}
use Rattle.ra_truths.specs.contracts.comparison.ComparisonPartialEq.TheImpl.{ghosts}
use Rattle.ra_truths.specs.Comparisons.{AreDistinct}
use Rattle.ra_truths.proofs.ComparisonLemmas.{distinct_more}
use Rattle.ra_truths.proofs.FoundLemmas.{found_first, found_other}
use Rattle.ra_truths.proofs.SameComparison.{same}
use Rattle.ra_truths.proofs.comparisons.Comparisons.add.Goals.{else-left-len-via-then-left-len+else-index-eq0}
use Rattle.ra_truths.proofs.comparisons.Comparisons.add.Goals.{else-left-len-via-else-left-len}
use Rattle.ra_truths.proofs.comparisons.Comparisons.add.Goals as goal

pub invariant_of-self-then-index-eq0 : goal.invariant_of-self-then-index-eq0
invariant_of-self-then-index-eq0 c =
    let s = c.self.inside in
    let d = c.args.comparison in
    let items = c.in_ok-push.ensures.items in
    let absent = subst (λ list. Contains list d → ⊥) (sym c.self.view_is) c.requires.absent in
    let room : length s.list.items < 2 ^ 30 =
    subst (λ list. length list < 2 ^ 30) (sym c.self.view_is) c.requires.room in
    let number : c.len-number.result ≡ length s.list.items = omega (arith, c.len-number.ensures, s.list.ok.0) in
    let within : d.left < length s.firsts.items = omega (arith, c.if-left-len.true, c.len.ensures, s.firsts.ok.0) in
    let none = get_or_default s.firsts.items d.left 0 c.index.result.now within
    ∙ sym c.index.ensures ∙ c.if-index-eq0.true in
    record {
      distinct = subst AreDistinct (sym items) (distinct_more s.list.items d c.self.invariant.distinct absent);
      few = omega (arith, ap length items, length-append s.list.items (d ∷ []), room);
      found = rw (items, number)
          (found_first s.list.items s.firsts.items (get ghosts.eq s.others) c.self.invariant.found d within none);
    }

pub invariant_of-self-in-Ok : goal.invariant_of-self-in-Ok
invariant_of-self-in-Ok c =
    let s = c.self.inside in
    let d = c.args.comparison in
    let items = c.in_ok-push.ensures.items in
    let absent = subst (λ list. Contains list d → ⊥) (sym c.self.view_is) c.requires.absent in
    let room : length s.list.items < 2 ^ 30 =
    subst (λ list. length list < 2 ^ 30) (sym c.self.view_is) c.requires.room in
    let number : c.len-number.result ≡ length s.list.items = omega (arith, c.len-number.ensures, s.list.ok.0) in
    let updates = c.in-Ok.ensures.updates in
    let some : d.left < length s.firsts.items → get_or s.firsts.items d.left 0 ≢ 0 =
    λ within none. elim c.else-left-len.branch [
      | else-left-len-via-then-left-len+else-index-eq0 w ↦
          w.if-index-eq0.false (w.index.ensures
          ∙ get_or_default s.firsts.items d.left w.index.result.now 0 within ∙ none)
      | else-left-len-via-else-left-len w ↦
          absurd (omega (arith, within, w.if-left-len.false, c.len.ensures, s.firsts.ok.0))
    ] in
    record {
      distinct = subst AreDistinct (sym items) (distinct_more s.list.items d c.self.invariant.distinct absent);
      few = omega (arith, ap length items, length-append s.list.items (d ∷ []), room);
      found = rw items (found_other s.list.items s.firsts.items (get ghosts.eq s.others) c.self.invariant.found d
          (get ghosts.eq c.insert.new.self) some (updates.1 ∙ ap (λ n. Some n) number)
          (λ k below is. absent (subst (Contains s.list.items) is
          (Contains-get_or s.list.items k (record { op = Bare; left = 0; right = 0 }) below)))
          (λ q. either q (ghosts.eq d q) refl (updates.2 q)));
    }
  where
    either : (q : Comparison) (b : Bool) → ghosts.eq c.args.comparison q ≡ b
        → (ghosts.eq c.args.comparison q ≡ false
        → get ghosts.eq c.insert.new.self q ≡ get ghosts.eq c.self.inside.others q)
        → (q ≡ c.args.comparison) ⊎ (get ghosts.eq c.insert.new.self q ≡ get ghosts.eq c.self.inside.others q)
    either q true is stays = inl (sym (same c.args.comparison q is))
    either q false is stays = inr (stays is)

pub invariant_of-self-in-Err : goal.invariant_of-self-in-Err
invariant_of-self-in-Err c =
    let s = c.self.inside in
    let pushed = c.in_ok-push.ensures.items in
    let items : c.pop.new.self.items ≡ s.list.items =
    grind (arith, common_steps, c.pop.ensures.rest, pushed, length-append s.list.items (c.args.comparison ∷ [])) in
    record {
      distinct = subst AreDistinct (sym items) c.self.invariant.distinct;
      few = subst (λ list. length list ≤ 2 ^ 30) (sym items) c.self.invariant.few;
      found = rw (items, c.in-Err.ensures.err) c.self.invariant.found;
    }

pub returns-in-Ok-clause-distinct : goal.returns-in-Ok-clause-distinct
returns-in-Ok-clause-distinct c =
    let s = c.self.inside in
    let absent = subst (λ list. Contains list c.args.comparison → ⊥) (sym c.self.view_is) c.requires.absent in
    subst AreDistinct (sym c.in_ok-push.ensures.items)
    (distinct_more s.list.items c.args.comparison c.self.invariant.distinct absent)
