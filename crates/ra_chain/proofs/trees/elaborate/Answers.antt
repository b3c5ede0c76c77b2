use Rattle.std.proofs.Common.{ap, length, not, refl, arith}
use Rattle.std.proofs.lemmas.List.Filters.{length-filter_both}
use Rattle.std.proofs.lemmas.List.FromFn.{length-range_with_len}
use Rattle.ra_condition.specs.Chains.{in_pause_chain, places}
use Rattle.ra_chain.proofs.trees.elaborate.Goals as goal

pub overflow_cast-pauses : goal.overflow_cast-pauses
overflow_cast-pauses c =
    let cs = c.deref.result.now in
    let both = length-filter_both (in_pause_chain cs) (λ j. not (in_pause_chain cs j)) (λ j. refl) (places cs) in
    omega (
      arith,
      c.in_ok-order.ensures.pauses,
      both,
      length-range_with_len 0
          (length cs),
      c.requires.few,
      ap length c.deref.ensures.value,
    )
