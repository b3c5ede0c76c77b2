use Rattle.std.proofs.Common.{◌∙◌, ◌||◌, not, ap, is_some, sym}
use Rattle.ra_value_format.specs.Formats.{entry_of, format_names}
use Rattle.ra_review.specs.Reporting.{is_value}
use Rattle.ra_review.proofs.FormatLemmas.{known_name}
use Rattle.ra_review.proofs.formats.is_format_name.Goals as goal

pub returns-else-is_text : goal.returns-else-is_text
returns-else-is_text c =
    ap not (c.is_value.ensures ∙ ap is_value c.of_name.ensures) ∙ sym (known_name c.args.name.now)
    ∙ ap (λ b. b || is_some (entry_of c.args.name.now format_names)) c.if-is_text.ensures
