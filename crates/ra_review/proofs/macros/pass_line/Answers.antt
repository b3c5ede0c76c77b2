use Rattle.std.proofs.Common.{◌∙◌, ◌==◌, length, refl, sym, ap, arith}
use Rattle.std.proofs.lemmas.List.{length-map}
use Rattle.ra_richpresence.specs.Contents.{line_contents, script_contents}
use Rattle.ra_review.proofs.MacroLemmas.{not_false, passes_over, passes_past, passes_shown}
use Rattle.ra_review.proofs.macros.pass_line.Goals as goal

pub returns-then-is_empty : goal.returns-then-is_empty
returns-then-is_empty c =
    passes_over (script_contents c.args.script.now) c.args.number c.args.content.now c.args.passed
    c.args.notices.now (not_false c.args.passed.shown c.if-not-passed.false)
    (ap (λ t. length t == 0) (sym c.left_of-left.ensures) ∙ sym c.if-is_empty.ensures)

pub returns-then-passed-len : goal.returns-then-passed-len
returns-then-passed-len c =
    passes_past (script_contents c.args.script.now) c.args.number c.args.content.now c.args.passed c.args.notices.now
    (omega (arith, length-map c.args.script.now.lines.items line_contents))

pub returns : goal.returns
returns c =
    passes_shown (script_contents c.args.script.now) c.args.number c.args.content.now c.args.passed
    _ c.args.notices.now c.put_line.new.notices
    (not_false c.args.passed.shown c.if-not-passed.false)
    (ap (λ t. length t == 0) (sym c.left_of-left.ensures) ∙ sym c.if-is_empty.ensures)
    (omega (arith, length-map c.args.script.now.lines.items line_contents)) refl refl c.in_ok-put_line.ensures
