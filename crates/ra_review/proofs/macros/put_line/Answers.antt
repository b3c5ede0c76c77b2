use Rattle.std.proofs.Common.{◌∙◌, ◌++◌, map, sym, ap, subst}
use Rattle.std.specs.List.{flat_map}
use Rattle.ra_richpresence.specs.Contents.{piece_contents, script_contents}
use Rattle.ra_richpresence.specs.Meanings.{meanings_in}
use Rattle.ra_richpresence.proofs.MeantTexts.{meanings-of_line}
use Rattle.ra_review.specs.Reporting.{AreEntries}
use Rattle.ra_review.specs.Scripts.{piece_notices}
use Rattle.ra_review.proofs.MacroLemmas.{line_is_at}
use Rattle.ra_review.proofs.macros.put_line.Goals as goal

pub put_pieces-requires : goal.put_pieces-requires
put_pieces-requires c =
    let script = script_contents c.args.script.now in
    c.deref-2.ensures.value ∙ meanings-of_line c.args.script.now c.args.line
    c.index-shown.result.now c.index-meanings.result.now c.requires c.index-shown.ensures
    c.index-meanings.ensures
    ∙ ap (λ ps. meanings_in script.lookups script.formats (map piece_contents ps)) (sym c.deref.ensures.value)

pub returns : goal.returns
returns c = λ entries are.
    let script = script_contents c.args.script.now in
    subst (λ ns. AreEntries c.put_pieces.new.notices (entries ++ ns))
    (ap (λ ps. flat_map (piece_notices script c.args.number) (map piece_contents ps)) c.deref.ensures.value
    ∙ line_is_at c.args.script.now c.args.number c.args.line c.index-shown.result.now c.requires c.index-shown.ensures)
    (c.in_ok-put_pieces.ensures entries are)
