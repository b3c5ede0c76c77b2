use Rattle.std.proofs.Common.{◌∙◌, length, subst, sym, arith, ap}
use Rattle.std.proofs.lemmas.List.{length-map}
use Rattle.ra_indirect.specs.Pools.{tracked_of}
use Rattle.ra_memref.specs.Names.{tracked_name}
use Rattle.ra_memref.proofs.LaidLemmas.{tracked_all}
use Rattle.ra_memref.proofs.Passed.{tracked_count}
use Rattle.ra_memref.proofs.PutNames.{ArePut, mask_names, mask_within, mask_put, no_mask_put, put_all}
use Rattle.ra_memref.proofs.names.put_masks.Goals.{in-Some, in_default}
use Rattle.ra_memref.proofs.names.put_masks.Goals as goal

pub bounds-priors-slots : goal.bounds-priors-slots
bounds-priors-slots c =
    let below = mask_within c.args.nodes.now c.requires.pool c.args.slots.now c.requires.slots c.args.names.now
    c.requires.names c.loop-number.number c.loop-number-test.true c.in-Some.tracked
    (sym c.mask_of.ensures ∙ c.in-Some.is) in
    omega (arith, below, c.loop-number.auto.priors, c.requires.long)

pub loop-number-preserved : goal.loop-number-preserved
loop-number-preserved c =
    let nodes = c.args.nodes.now in
    let number = c.loop-number.number in
    elim c.match-mask_of.branch [
      | in-Some w ↦ rw (w.priors-is, w.mask_name.ensures)
          (mask_put nodes c.requires.pool c.args.slots.now c.requires.slots c.args.names.now c.requires.names number
          c.loop-number-test.true w.in-Some.tracked (sym c.mask_of.ensures ∙ w.in-Some.is) c.loop-number.priors
          (c.loop-number.auto.priors ∙ c.requires.long) c.loop-number.invariant)
      | in_default w ↦ rw w.priors-is
          (subst (λ j. ArePut (mask_names nodes) j c.loop-number.priors)
          (sym (no_mask_put nodes c.requires.pool c.args.slots.now c.requires.slots c.args.names.now c.requires.names
          number c.loop-number-test.true (sym c.mask_of.ensures ∙ w.in_default.is))) c.loop-number.invariant)
    ]

pub returns : goal.returns
returns c =
    let nodes = c.args.nodes.now in
    put_all (mask_names nodes) c.loop-number.priors (tracked_count nodes c.loop-number.number)
    (omega (arith, c.loop-number.auto.priors, c.requires.long, length-map (tracked_of nodes) tracked_name))
    (ap (tracked_count nodes) (omega arith) ∙ ap length (tracked_all nodes)
    ∙ sym (length-map (tracked_of nodes) tracked_name))
    c.loop-number.invariant
