use Rattle.std.proofs.Common.{◌∙◌, ◌∷◌, [], map, refl, ap, arith}
use Rattle.std.proofs.lemmas.List.{map-append}
use Rattle.ra_set.specs.Contents.{item_contents}
use Rattle.ra_review.proofs.ReportLemmas.{adds_kept}
use Rattle.ra_review.proofs.report.Report.keep_item.Goals as goal

pub returns : goal.returns
returns c = λ rows found none h.
    adds_kept c.args.self.now _ c.args.line.now (item_contents c.args.item) rows found
    (omega (arith, c.requires.few)) none c.in_ok-put_notices.ensures
    (ap (map item_contents) c.in_ok-push.ensures.items
    ∙ map-append item_contents c.args.self.now.items.items (c.args.item ∷ [])) refl refl refl h
