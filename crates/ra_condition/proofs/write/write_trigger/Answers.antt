use Rattle.std.proofs.Common.{◌≡◌, ◌∷◌, ◌++◌, string_bytes, arith}
use Rattle.ra_condition.specs.Canonical.{group_text}
use Rattle.ra_condition.specs.Contents.{group_contents}
use Rattle.ra_condition.proofs.Written.{all-written}
use Rattle.ra_condition.proofs.write.write_trigger.Goals as goal

pub returns : goal.returns
returns c =
    let core : string_bytes c.write_conditions.new.text
    ≡ string_bytes c.args.text.now ++ group_text (group_contents c.args.trigger.now.core) =
    cc (c.in_ok-write_conditions.ensures, c.deref.ensures.value) in
    all-written group_contents (λ alt. 83 ∷ group_text alt) c.args.trigger.now.alts.items
    c.loop-alt.alt-index _ _ _ _ (omega arith) core c.loop-alt.invariant
