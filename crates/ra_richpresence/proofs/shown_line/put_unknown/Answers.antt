use Rattle.std.proofs.Common.{◌∙◌, ◌++◌, ap, append_assoc, codes}
use Rattle.ra_richpresence.proofs.shown_line.put_unknown.Goals as goal

pub returns : goal.returns
returns c =
    c.in_ok-extend_from_slice-2.ensures.items ∙ ap (λ t. t ++ c.args.name.now) c.in_ok-extend_from_slice.ensures.items
    ∙ append_assoc c.args.out.now.items (codes "[Unknown macro]") c.args.name.now
