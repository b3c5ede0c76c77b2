use Rattle.std.proofs.Common.{◌≡◌, List, Bool, false, length, map, get_or, ap, subst, ◌∙◌, arith}
use Rattle.std.proofs.lemmas.List.FromFn.{get_or-map-range_with_len, length-map-range_with_len}
use Rattle.ra_condition.specs.declared.condition.Condition.{Condition}
use Rattle.ra_condition.specs.Contents.{group_contents}
use Rattle.ra_condition.specs.Chains.{in_pause_chain, places}
use Rattle.ra_account.specs.Alone.{AreCalm, StandAlone}
use Rattle.ra_account.proofs.group_account.GroupAccount.new.Goals as goal

pub returns-clause-fits : goal.returns-clause-fits
returns-clause-fits c =
    let cs = group_contents c.args.group.now in
    let count : c.len-count.result ≡ length cs = omega (arith, c.len-count.ensures, c.args.group.now.conditions.ok.0) in
    let pausing : c.in_ok-pausing.pausing.items ≡ map (in_pause_chain cs) (places cs) =
    c.in_ok-pausing.ensures
    ∙ ap (λ (xs : List Condition). map (in_pause_chain xs) (places xs)) c.deref.ensures.value in
    record {
      few = c.requires.few;
      many = omega (arith, c.in_ok-conditions.ensures.many, count);
      wants = omega (arith, c.in_ok-vec.ensures.len, c.in_ok-vec.field-0.ok.0, count);
      pausings = ap length pausing ∙ length-map-range_with_len (in_pause_chain cs) 0 (length cs);
      pausing = λ j below. ap (λ (xs : List Bool). get_or xs j false) pausing ∙
          get_or-map-range_with_len (in_pause_chain cs) 0 (length cs) j j false below (omega arith);
      alone = λ yes. subst StandAlone c.deref-2.ensures.value (c.are_alone-alone.ensures yes);
      calm = λ yes. subst AreCalm c.deref-3.ensures.value (c.are_calm-calm.ensures yes);
      room = omega (arith, c.in_ok-vec-2.ensures.len, c.in_ok-vec-2.field-0.ok.0, count);
      seen = omega (arith, c.in_ok-vec-3.ensures.len, c.in_ok-vec-3.field-0.ok.0, count);
      wanted = λ yes. absurd (cc);
    }
