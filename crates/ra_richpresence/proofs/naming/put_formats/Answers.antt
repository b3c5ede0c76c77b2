use Rattle.std.proofs.Common.{◌≡◌, ◌∙◌, ◌+◌, ◌-◌, ◌<◌, [], ◌∷◌, length, map, drop, sym, ap, arith, subst}
use Rattle.std.specs.List.{each_same}
use Rattle.std.proofs.lemmas.List.{drop_more}
use Rattle.ra_richpresence.specs.Meanings.{FindsNames}
use Rattle.ra_richpresence.specs.Parts.{format_contents}
use Rattle.ra_richpresence.proofs.NameMaps.{formats-next}
use Rattle.ra_richpresence.proofs.naming.put_formats.Goals as goal

pub loop-at-preserved : goal.loop-at-preserved
loop-at-preserved c =
    let formats = c.args.formats.now in
    let at = c.loop-at.at in
    let item = c.index-formats-at.result in
    let less : at - 1 < length formats = omega (arith, c.loop-at.invariant.within, c.loop-at-test.true) in
    let next : at - 1 + 1 ≡ at = omega (arith, c.loop-at-test.true) in
    let key : c.in_ok-name.name.items ≡ item.0.items =
    each_same item.0.items c.in_ok-name.name.items c.in_ok-name.ensures.cases.0 in
    let parts = drop_more formats (at - 1) item less ∙ ap (λ i. i ∷ drop (at - 1 + 1) formats)
    (sym c.index-formats-at.is) ∙ ap (λ n. item ∷ drop n formats) next in
    record {
      within = omega (arith, less);
      finds = subst (λ fs. FindsNames [] 0 fs c.insert.new.self)
          (ap (λ items. (items, item.1) ∷ map format_contents (drop at formats)) key
          ∙ sym (ap (map format_contents) parts))
          (formats-next c.loop-at.names c.insert.new.self c.in_ok-name.name item.1
          (map format_contents (drop at formats)) c.in_ok-insert.ensures.updates.0
          c.loop-at.invariant.finds);
    }
