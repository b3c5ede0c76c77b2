use Rattle.std.proofs.Common.{◌≡◌, ◌∙◌, ◌∷◌, ◌++◌, map, string_bytes, sym, ap, arith}
use Rattle.ra_condition.specs.Canonical.{part_text, value_text}
use Rattle.ra_condition.specs.Contents.{part_contents}
use Rattle.ra_condition.proofs.Written.{all-written}
use Rattle.ra_condition.proofs.write.write_value.Goals as goal

pub returns : goal.returns
returns c =
    let parts : c.args.value.now.parts.items ≡ c.in-Some.first.now ∷ c.in-Some.others.now =
    cc (c.deref.ensures.value, c.in-Some.ensures.cases.0) in
    all-written part_contents (λ y. 36 ∷ part_text y) c.in-Some.others.now c.loop-other.other-index
    (string_bytes c.args.text.now) (part_text (part_contents c.in-Some.first.now))
    (string_bytes c.write_part.new.text) (string_bytes c.loop-other.text)
    (omega arith) c.in_ok-write_part.ensures c.loop-other.invariant
    ∙ ap (λ parts. string_bytes c.args.text.now ++ value_text (map part_contents parts)) (sym parts)
