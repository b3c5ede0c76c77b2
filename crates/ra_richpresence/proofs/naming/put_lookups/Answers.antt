use Rattle.std.proofs.Common.{◌≡◌, ◌∙◌, suc, ◌+◌, ◌-◌, ◌<◌, ◌∷◌, length, map, drop, get_or, sym, ap, arith, subst}
use Rattle.std.specs.List.{each_same}
use Rattle.std.proofs.lemmas.List.{drop_more}
use Rattle.ra_richpresence.specs.Meanings.{FindsNames}
use Rattle.ra_richpresence.specs.Parts.{lookup_contents}
use Rattle.ra_richpresence.proofs.NameMaps.{lookups-next}
use Rattle.ra_richpresence.proofs.naming.put_lookups.Goals as goal

pub loop-at-preserved : goal.loop-at-preserved
loop-at-preserved c =
    let lookups = c.args.lookups.now in
    let at = c.loop-at.at in
    let item = get_or lookups (at - 1) c.index-lookups-at.result in
    let less : at - 1 < length lookups = omega (arith, c.loop-at.invariant.within, c.loop-at-test.true) in
    let next : at - 1 + 1 ≡ at = omega (arith, c.loop-at-test.true) in
    let after : at ≡ suc (at - 1) = omega (arith, c.loop-at-test.true) in
    let key : c.in_ok-name.name.items ≡ item.name.items =
    each_same item.name.items c.in_ok-name.name.items c.in_ok-name.ensures.cases.0 in
    let parts = drop_more lookups (at - 1) c.index-lookups-at.result less ∙ ap (λ n. item ∷ drop n lookups) next in
    record {
      within = omega (arith, less);
      finds = λ formats before. subst (λ ls. FindsNames ls (at - 1) formats c.insert.new.self)
          (sym (ap (map lookup_contents) parts))
          (lookups-next c.loop-at.names c.insert.new.self c.in_ok-name.name (at - 1)
          (lookup_contents item)
          (map lookup_contents (drop at lookups)) formats key c.in_ok-insert.ensures.updates.0
          (subst (λ n. FindsNames (map lookup_contents (drop at lookups)) n formats c.loop-at.names)
          after (c.loop-at.invariant.finds formats before)));
    }
