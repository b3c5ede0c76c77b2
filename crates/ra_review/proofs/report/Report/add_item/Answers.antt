use Rattle.std.proofs.Common.{◌≡◌, ◌∙◌, Option, ℕ, refl, sym}
use Rattle.ra_set.specs.Contents.{item_contents}
use Rattle.ra_review.specs.declared.firsts.Firsts.{Firsts}
use Rattle.ra_review.specs.declared.report.Report.{Report}
use Rattle.ra_review.proofs.ReportLemmas.{adds_again, noted, on_ok}
use Rattle.ra_review.proofs.report.Report.add_item.Goals as goal

-- a report with other first lines
abbrev with_firsts : Report → Firsts → Report
with_firsts report firsts = record report { firsts = firsts }

pub returns-in-Some : goal.returns-in-Some
returns-in-Some c =
    let old = c.args.self.now in
    let x = item_contents c.args.item in
    on_ok c.repeat.result _ _
    (λ more rows found h. adds_again (with_firsts old c.note.new.self) _ c.args.line.now x rows
    found old.lines c.id.result c.in-Some.first
    refl c.id.ensures (sym (h.firsts x) ∙ sym c.in_ok-first.ensures.first ∙ c.in-Some.is) more refl refl refl refl
    (noted old (with_firsts old c.note.new.self) x rows found c.in_ok-first.field-0
    c.in_ok-first.ensures.first c.in_ok-first.ensures.noted refl refl refl refl h))
    c.repeat.ensures

pub returns-in-None : goal.returns-in-None
returns-in-None c =
    let old = c.args.self.now in
    let x = item_contents c.args.item in
    on_ok c.keep_item.result _ _
    (λ adds rows found h. adds rows found (sym (h.firsts x) ∙ sym c.in_ok-first.ensures.first ∙ c.in-None.is)
    (noted old (with_firsts old c.note.new.self) x rows found c.in_ok-first.field-0
    c.in_ok-first.ensures.first c.in_ok-first.ensures.noted refl refl refl refl h))
    c.keep_item.ensures
