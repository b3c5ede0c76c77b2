use Rattle.std.proofs.Common.{◌≡◌, ◌∙◌, ap, length, rules}
use Rattle.ra_set.specs.Contents.{set_contents}
use Rattle.ra_session.specs.Expected.{normal_line}
use Rattle.ra_session.proofs.normalizing.document_of.Goals as goal

pub returns-clause-line : goal.returns-clause-line
returns-clause-line c =
    let same : c.len.result ≡ length c.in_ok-text.text.items = search rules in
    c.in_ok-line.ensures ∙ ap (normal_line (set_contents c.args.set.now)) same
