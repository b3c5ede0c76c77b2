use Rattle.std.proofs.Common.{◌∙◌, None, Some, bytes_eq, codes, inl, inr, option_map, refl, ap, subst, sym}
use Rattle.ra_set.specs.Alone.{ContainsAlone}
use Rattle.ra_set.specs.Places.{IsFileOutside}
use Rattle.ra_set.specs.Contents.{item_contents}
use Rattle.ra_review.specs.Lines.{Accepts}
use Rattle.ra_review.proofs.ReportLemmas.{adds_none, counted, on_ok, refuses_line}
use Rattle.ra_review.proofs.report.Report.add_line.Goals as goal

pub returns-then-is_text : goal.returns-then-is_text
returns-then-is_text c = λ rows found h.
    let letter = ap (bytes_eq (codes "P")) (sym c.requires.content) ∙ sym c.if-is_text.ensures in
    record {
      verdict = Accepts None;
      is = inl (letter, refl);
      reports = adds_none _ rows found
          (counted c.args.self.now _ rows found refl refl refl refl c.in_ok-self.ensures h);
    }

pub returns-in-Ok-None : goal.returns-in-Ok-None
returns-in-Ok-None c = λ rows found h.
    let other = ap (bytes_eq (codes "P")) (sym c.requires.content) ∙ sym c.if-is_text.ensures in
    record {
      verdict = Accepts None;
      is = inr (
        other,
        subst (λ o. ContainsAlone c.args.line.now (option_map item_contents o))
            c.in-Ok-None.field-0-is c.in-Ok-None.ensures.ok,
      );
      reports = adds_none _ rows found
          (counted c.args.self.now _ rows found refl refl refl refl c.in_ok-self.ensures h);
    }

pub returns-in-Ok-Some : goal.returns-in-Ok-Some
returns-in-Ok-Some c =
    let other = ap (bytes_eq (codes "P")) (sym c.requires.content) ∙ sym c.if-is_text.ensures in
    on_ok c.add_item.result _ _
    (λ adds rows found h. record {
      verdict = Accepts (Some (item_contents c.in-Ok-Some.item));
      is = inr (
        other,
        subst (λ o. ContainsAlone c.args.line.now (option_map item_contents o))
            c.in-Ok-Some.field-0-is c.in-Ok-Some.ensures.ok,
      );
      reports = adds rows found (counted c.args.self.now _ rows found refl refl refl refl c.in_ok-self.ensures h);
    })
    c.add_item.ensures

pub returns-in-Err-Syntax : goal.returns-in-Err-Syntax
returns-in-Err-Syntax c =
    let other = ap (bytes_eq (codes "P")) (sym c.requires.content) ∙ sym c.if-is_text.ensures in
    on_ok c.refuse.result _ _
    (λ more rows found h. refuses_line (record c.args.self.now { lines = c.in_ok-self.field-0 }) _
    rows found c.in_ok-self.field-0 _ c.args.line.now c.args.content.now refl c.requires.content
    more refl refl refl refl
    other (subst (IsFileOutside c.args.line.now) (sym c.in-Err-Syntax.at-is)
    (rw c.in-Err-Syntax.field-0-is at c.in-Err-Syntax.ensures.err))
    (counted c.args.self.now _ rows found refl refl refl refl c.in_ok-self.ensures h))
    c.refuse.ensures
