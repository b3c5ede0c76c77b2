use Rattle.std.proofs.Common.{arith, ◌≡◌, ◌<◌, ◌-◌, ◌++◌, ℕ, List, [], ◌∷◌, length, map, slice_index, sym, ap, subst}
use Rattle.std.proofs.Common.{◌∙◌}
use Rattle.std.specs.List.{AllByRecursion}
use Rattle.ra_explain.specs.RowLists.{behind_each, row_at, rows_from}
use Rattle.ra_explain.proofs.IndexLemmas.{all_more, one_back, none_back}
use Rattle.ra_explain.proofs.indices.indices_from.Goals as goal

pub loop-at-preserved : goal.loop-at-preserved
loop-at-preserved c =
    let links = c.args.links.now in
    let at = c.loop-at.at in
    let old = c.loop-at.indices.items in
    let some : 0 < at = omega (arith, c.loop-at-test.true) in
    let below : at - 1 < length links = omega (arith, some, c.loop-at.invariant.there) in
    let pushed : c.push.new.self.items ≡ old ++ (at - 1) ∷ [] = c.in_ok-push.ensures.items in
    let named = c.requires.earlier (at - 1) below in
    record {
      there = omega (arith, named, below);
      within = subst (λ (xs : List ℕ). AllByRecursion (λ k. k < length links) xs) (sym pushed)
          (all_more (λ k. k < length links) old (at - 1) c.loop-at.invariant.within below);
      rows = λ width truths. ap (λ xs. map (row_at width truths) xs ++ rows_from (behind_each width
          truths links) (slice_index links (at - 1))) pushed ∙ one_back width truths links old at
          c.requires.earlier some c.loop-at.invariant.there ∙ c.loop-at.invariant.rows width truths;
    }

pub returns : goal.returns
returns c =
    let none : c.loop-at.at ≡ 0 = omega (arith, c.loop-at-test.false) in
    record {
      within = c.loop-at.invariant.within;
      rows = λ width truths. none_back width truths c.args.links.now c.loop-at.indices.items
          c.loop-at.at none ∙ c.loop-at.invariant.rows width truths;
    }
