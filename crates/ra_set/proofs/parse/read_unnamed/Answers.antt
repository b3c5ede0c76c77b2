use Rattle.std.proofs.Common.{◌∙◌, ap, arith, map, refl}
use Rattle.ra_set.specs.Contents.{item_contents}
use Rattle.ra_set.specs.Names.{zero_name}
use Rattle.ra_set.proofs.AnswerLemmas.{few-conditions, read-spelled, seen-set}
use Rattle.ra_set.proofs.NamedSets.{zeros-named}
use Rattle.ra_set.proofs.parse.read_unnamed.Goals as goal

pub check_limits-requires : goal.check_limits-requires
check_limits-requires c =
    let few = few-conditions c.args.bytes.now c.in_ok-read.read c.in_ok-read.ensures.ok
    c.deref.result.now c.deref.ensures.value _ c.as_ref.ensures.value in
    omega (arith, few)

pub returns-clause-ok : goal.returns-clause-ok
returns-clause-ok c =
    seen-set c.args.bytes.now c.in_ok-read.read c.in_ok-read.ensures.ok c.deref.result.now c.deref.ensures.value _
    c.as_ref.ensures.value c.in_ok-check_limits.ensures.ok _ c.script_alone-script.ensures _ _ _
    (record { digest_is = refl; items_are = refl; script_is = refl })

pub returns-clause-structure : goal.returns-clause-structure
returns-clause-structure c =
    read-spelled c.args.bytes.now c.in_ok-read.read c.in_ok-read.ensures.ok _ _ _ c.in_ok-read.ensures.structure
    _ c.script_alone-script.ensures

pub returns-clause-zeros : goal.returns-clause-zeros
returns-clause-zeros c = record {
  digest = refl;
  items = c.in_ok-item_names.ensures
      ∙ ap (λ items. map (λ item. zero_name) (map item_contents items)) c.deref-2.ensures.value;
  script = c.zeros_beside-script_name.ensures;
}

pub returns-clause-named : goal.returns-clause-named
returns-clause-named c = zeros-named _ (returns-clause-zeros c)
